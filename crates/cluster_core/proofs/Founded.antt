-- Targets are formatted one after another.
use Rattle.std.proofs.Common.{◌≡◌, ℕ, ◌+◌, length, List, [], ◌∷◌, ◌++◌, refl, sym, ap, ◌∙◌, subst, append_assoc, append-nil, arith}
use Rattle.cluster_core.specs.Cluster.{Cluster, target_at}
use Rattle.cluster_core.specs.Founding.{FoundsAt, AreFounded, foundings_lines, founding_lines}

pub founded_push : (i j : ℕ) (c : Cluster) (ds : List Cluster) (mid new : Cluster) → AreFounded i c ds mid → i + length ds ≡ j → FoundsAt mid j new → AreFounded i c (ds ++ new ∷ []) new
founded_push i j c [] mid new are at does =
    let here : j ≡ i = omega (arith, at) in
    (subst (λ (x : Cluster). FoundsAt x i new) are (subst (λ (n : ℕ). FoundsAt mid n new) here does), refl)
founded_push i j c (d ∷ ds) mid new are at does = (are.0, founded_push (i + 1) j d ds mid new are.1 (omega (arith, at)) does)

pub founding_push : (i j : ℕ) (ds : List Cluster) (new : Cluster) → i + length ds ≡ j → foundings_lines i (ds ++ new ∷ []) ≡ foundings_lines i ds ++ founding_lines j (target_at new.targets j)
founding_push i j [] new at =
    append-nil (founding_lines i (target_at new.targets i)) ∙ ap (λ (n : ℕ). founding_lines n (target_at new.targets n)) (omega (arith, at))
founding_push i j (d ∷ ds) new at =
    ap (λ l. founding_lines i (target_at d.targets i) ++ l) (founding_push (i + 1) j ds new (omega (arith, at)))
    ∙ sym (append_assoc (founding_lines i (target_at d.targets i)) (foundings_lines (i + 1) ds) (founding_lines j (target_at new.targets j)))
