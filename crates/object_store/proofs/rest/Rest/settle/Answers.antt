use Rattle.std.proofs.Common.{◌≡◌, ℕ, ◌-◌, ◌≤◌, drop, length, refl, sym, ap, ◌∙◌, arith}
use Rattle.object_store.specs.declared.rest.Rest.{Rest}
use Rattle.object_store.specs.Pieces.{part_text, behind_text, left_text}
use Rattle.object_store.proofs.Laid.{drop_over}
use Rattle.object_store.proofs.rest.Rest.settle.Goals as goal

past : (r new : Rest) (size place : ℕ) → size ≡ length (part_text r.part) → size ≤ r.skip → place ≡ r.skip - size → left_text new ≡ drop place (behind_text r) → left_text new ≡ left_text r
unfolding left_text
past r new size place is over at there = there ∙ ap (λ n. drop n (behind_text r)) at ∙ ap (λ n. drop (r.skip - n) (behind_text r)) is ∙ sym (drop_over r.skip (part_text r.part) (behind_text r) (omega (arith, is, over)))

pub returns-then-not-go_on-clause-text : goal.returns-then-not-go_on-clause-text
returns-then-not-go_on-clause-text c =
    past c.loop-self.self c.go_on.new.self c.size-in-loop-self.result _ c.size-in-loop-self.ensures.value (omega (arith, c.loop-self-test.true, c.size.ensures.value, c.size-in-loop-self.ensures.value)) refl c.go_on.ensures.text
    ∙ c.loop-self.invariant.text

pub loop-self-preserved : goal.loop-self-preserved
loop-self-preserved c = record {
  text = past c.loop-self.self c.go_on.new.self c.size-in-loop-self.result _ c.size-in-loop-self.ensures.value (omega (arith, c.loop-self-test.true, c.size.ensures.value, c.size-in-loop-self.ensures.value)) refl c.go_on.ensures.text
      ∙ c.loop-self.invariant.text;
  fits = c.go_on.ensures.fits;
}
