use Rattle.std.proofs.Common.{◌≡◌, ◌++◌, ◌∷◌, [], List, ℕ, ap, sym, subst, ◌∙◌}
use Rattle.llog_store.specs.Kept.{joined, Fills}
use Rattle.llog_store.proofs.Filling.{pushed_text, pushed_fills}
use Rattle.llog_store.proofs.chunks.ready.Goals as goal

pub returns-clause-text : goal.returns-clause-text
returns-clause-text c =
    let is : c.push.new.self.items ≡ c.args.chunks.now.items ++ [] ∷ [] = c.in_ok-push.ensures.items ∙ ap (λ (x : List ℕ). c.args.chunks.now.items ++ x ∷ []) c.in_ok-new.ensures in
    ap joined is ∙ pushed_text c.args.chunks.now.items

pub returns-clause-fills : goal.returns-clause-fills
returns-clause-fills c = λ len f.
    let is : c.push.new.self.items ≡ c.args.chunks.now.items ++ [] ∷ [] = c.in_ok-push.ensures.items ∙ ap (λ (x : List ℕ). c.args.chunks.now.items ++ x ∷ []) c.in_ok-new.ensures in
    subst (λ (cs : List (List ℕ)). Fills len cs) (sym is) (pushed_fills len c.args.chunks.now.items f)
