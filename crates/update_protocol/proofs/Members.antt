-- A target of the parts is a member of their set.
use Rattle.fid_space.specs.Targets.{is_member, joined}
use Rattle.out_update.specs.declared.update.Update.{Update}
use Rattle.std.proofs.Common.{List, [], ap, arith, inl, inr, max, sym, true, true≢false, ℕ, ◌<◌, ◌^◌, ◌∙◌, ◌∷◌, ◌≡◌, ◌⊎◌}
use Rattle.std.proofs.lemmas.Bool.{eq-eqb, eqb-true}
use Rattle.std.proofs.lemmas.Bool.Decides.{eqb_tells}
use Rattle.std.proofs.lemmas.Nat.Bits.{bit_at-lt, bit_at-pow_same, bit_at_or}
use Rattle.std.specs.Int.{bit_at}
use Rattle.std.specs.Prelude.{◌||◌}
use Rattle.update_record.specs.Spelling.{has_target, targets_from}

one_of_first : (a b : ℕ) → b < 2 → a ≡ 1 → max a b ≡ 1
one_of_first a b small h = omega (arith, h)

one_of_second : (a b : ℕ) → a < 2 → b ≡ 1 → max a b ≡ 1
one_of_second a b small h = omega (arith, h)

joined_all : (s k t : ℕ) → (is_member s t ≡ true) ⊎ (t ≡ k) → is_member (joined s k) t ≡ true
joined_all s k t (inl h) =
    eq-eqb (bit_at (joined s k) t) 1 (bit_at_or s (2 ^ k) t ∙ one_of_first (bit_at s t) (bit_at (2 ^ k) t) (bit_at-lt (2 ^ k) t) (eqb-true (bit_at s t) 1 h))
joined_all s k t (inr e) =
    eq-eqb (bit_at (joined s k) t) 1 (bit_at_or s (2 ^ k) t ∙ one_of_second (bit_at s t) (bit_at (2 ^ k) t) (bit_at-lt s t) (ap (λ i. bit_at (2 ^ k) i) e ∙ bit_at-pow_same k))

pub member_of_parts : (parts : List (ℕ × List Update)) (set t : ℕ) → (is_member set t ≡ true) ⊎ (has_target t parts ≡ true) → is_member (targets_from set parts) t ≡ true
member_of_parts [] set t (inl h) = h
member_of_parts [] set t (inr h) = absurd (true≢false (sym h))
member_of_parts (part ∷ parts) set t (inl h) = member_of_parts parts (joined set part.0) t (inl (joined_all set part.0 t (inl h)))
member_of_parts (part ∷ parts) set t (inr h) = elim (eqb_tells part.0 t) [
  | inl q ↦ member_of_parts parts (joined set part.0) t (inl (joined_all set part.0 t (inr (sym q.1))))
  | inr q ↦ member_of_parts parts (joined set part.0) t (inr (sym (ap (λ b. b || has_target t parts) q.0) ∙ h))
]
