use Rattle.std.proofs.Common.{◌≡◌, ◌∷◌, [], List, ℕ, refl, sym, subst, ◌∙◌, ap}
use Rattle.llog_store.specs.Numbers.{zeros}
use Rattle.llog_store.specs.Log.{header_text}
use Rattle.llog_store.specs.Kept.{joined, Fills}
use Rattle.llog_store.proofs.Words.{length-zeros}
use Rattle.llog_store.proofs.Whole.{length-header}
use Rattle.llog_store.proofs.Filling.{one_chunk}
use Rattle.llog_store.proofs.chunks.Chunks.new.Goals as goal

pub invariant_of-result : goal.invariant_of-result
invariant_of-result c =
    let is : c.push.new.self.items ≡ header_text 1 0 (zeros 32000) ∷ [] = c.in_ok-push.ensures.items ∙ rw (c.new-chunks.ensures.items, c.add_header.ensures) refl in
    subst (λ (cs : List (List ℕ)). Fills 32768 cs) (sym is) (one_chunk (header_text 1 0 (zeros 32000)) (length-header 1 0 (zeros 32000) (length-zeros 32000))).1

pub returns : goal.returns
returns c =
    let is : c.push.new.self.items ≡ header_text 1 0 (zeros 32000) ∷ [] = c.in_ok-push.ensures.items ∙ rw (c.new-chunks.ensures.items, c.add_header.ensures) refl in
    ap joined is ∙ (one_chunk (header_text 1 0 (zeros 32000)) (length-header 1 0 (zeros 32000) (length-zeros 32000))).0
