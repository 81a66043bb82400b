-- Deliveries one after another.
use Rattle.std.proofs.Common.{◌≡◌, ℕ, List, [], ◌∷◌, ◌++◌, Some, refl, sym, ap, ◌∙◌, subst, append_assoc, append-nil}
use Rattle.cluster_mail.specs.Mail.{next_of}
use Rattle.scenario_text.specs.declared.line.Line.{Line}
use Rattle.cluster_core.specs.Cluster.{Cluster}
use Rattle.cluster_core.specs.Delivery.{Step, AreSteps, Delivers, steps_lines}

pub steps_push : (c : Cluster) (ss : List Step) (mid : Cluster) (k : ℕ) (new : Cluster) (ls : List Line) → AreSteps c ss mid → next_of 1 mid.sent ≡ Some k → Delivers mid k new ls
    → AreSteps c (ss ++ record { number = k; after = new; said = ls } ∷ []) new
steps_push c [] mid k new ls are next does = (subst (λ (x : Cluster). next_of 1 x.sent ≡ Some k) are next, subst (λ (x : Cluster). Delivers x k new ls) are does, refl)
steps_push c (s ∷ ss) mid k new ls are next does = (are.0, are.1, steps_push s.after ss mid k new ls are.2 next does)

pub lines_push : (ss : List Step) (s : Step) → steps_lines (ss ++ s ∷ []) ≡ steps_lines ss ++ s.said
lines_push [] s = append-nil s.said
lines_push (x ∷ ss) s = ap (λ l. x.said ++ l) (lines_push ss s) ∙ sym (append_assoc x.said (steps_lines ss) s.said)
