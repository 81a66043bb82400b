use Rattle.std.proofs.Common.{◌≡◌, ◌++◌, ◌≤◌, ℕ, zero, suc, ◌∷◌, take, replicate, refl, ap, ◌∙◌, arith}
use Rattle.byte_grammar.specs.Numbers.{zeros}
use Rattle.object_store.specs.ImageText.{padded_text}
use Rattle.object_store.proofs.Laid.{joined}
use Rattle.object_store.proofs.copying.copy_padded.Goals as goal

front_same : (o k n : ℕ) → n ≤ k → take n (replicate k o) ≡ replicate n o
front_same o k zero few = refl
front_same o zero (suc n) few = absurd (omega (arith, few))
front_same o (suc k) (suc n) few = ap (λ l. o ∷ l) (front_same o k n (omega (arith, few)))

pub returns : goal.returns
unfolding padded_text zeros
returns c =
    let o : ℕ = 0 in
    let pad = front_same o 8 c.padding_of.result (omega (arith, c.padding_of.ensures.below)) ∙ ap (λ n. replicate n o) c.padding_of.ensures.value in
    joined _ _ (padded_text c.args.bytes.now) _ _ _ _ _ _ _ c.copy_bytes-first.ensures c.copy_bytes-second.ensures c.saturating_sub.ensures (ap (λ l. c.args.bytes.now ++ l) pad)
