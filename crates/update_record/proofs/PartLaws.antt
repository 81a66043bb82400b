-- What the parts of a record that fits are.
use Rattle.std.proofs.Common.{◌≡◌, ℕ, ◌+◌, ◌≤◌, ◌<◌, Bool, true, false, ◌==◌, ◌||◌, ◌⊎◌, if◌then◌else◌, not, List, [], ◌∷◌, length, Option, Some, None, IfSome, refl, sym, ap, ◌∙◌, arith, length-append, inl, inr}
use Rattle.std.specs.Prelude.{nat_le}
use Rattle.std.specs.List.{AllByRecursion}
use Rattle.std.proofs.lemmas.Bool.{eqb-true, eq-eqb, le-leb}
use Rattle.std.proofs.lemmas.Nat.Bits.{bit_at-zero}
use Rattle.std.proofs.lemmas.List.Concat.{flat_map-cons}
use Rattle.fid_space.specs.Targets.{is_member, joined}
use Rattle.fid_space.proofs.Members.{member_joined}
use Rattle.out_update.specs.declared.update.Update.{Update}
use Rattle.out_update.specs.Types.{is_read}
use Rattle.out_update.specs.Spelling.{FitsUpdateOf, FitsRequest}
use Rattle.update_record.specs.Spelling.{part_text, parts_text, has_target, part_for, targets_from, FitsParts}
use Rattle.update_record.proofs.Records.{or_cases}
use Rattle.update_record.proofs.RecordValues.{length-part}

pub targets_low : (b least : ℕ) (parts : List (ℕ × List Update)) → FitsParts b least parts → AllByRecursion (λ part. part.0 < 16) parts
unfolding FitsParts
targets_low b least [] h = tt
targets_low b least (part ∷ parts) h = (omega (arith, h.0.target), targets_low b (part.0 + 1) parts h.1)

-- ---- the set of the targets

same_test : (a b : Bool) → (a ≡ true → b ≡ true) → (b ≡ true → a ≡ true) → a ≡ b
same_test true b h k = sym (h refl)
same_test false true h k = k refl
same_test false false h k = refl

or_first : (a b : Bool) → a ≡ true → (a || b) ≡ true
or_first true b h = refl
or_first false b h = absurd cc

or_second : (a b : Bool) → b ≡ true → (a || b) ≡ true
or_second true b h = refl
or_second false b h = h

or_assoc : (a b c : Bool) → ((a || b) || c) ≡ (a || (b || c))
or_assoc true b c = refl
or_assoc false b c = refl

one_more : (set k t : ℕ) → is_member (joined set k) t ≡ (is_member set t || (k == t))
one_more set k t =
    let m = member_joined set t k in
    same_test (is_member (joined set k) t) (is_member set t || (k == t))
    (λ h. elim (m.0 h) as (λ _. (is_member set t || (k == t)) ≡ true) [
      | inl x ↦ or_first (is_member set t) (k == t) x
      | inr e ↦ or_second (is_member set t) (k == t) (eq-eqb k t (sym e))
    ])
    (λ h. m.1 (elim (or_cases (is_member set t) (k == t) h) as (λ _. (is_member set t ≡ true) ⊎ (t ≡ k)) [
      | inl x ↦ inl x
      | inr e ↦ inr (sym (eqb-true k t e))
    ]))

members_from : (t set : ℕ) (parts : List (ℕ × List Update)) → is_member (targets_from set parts) t ≡ (is_member set t || has_target t parts)
members_from t set [] = or_none (is_member set t)
  where
    or_none : (a : Bool) → a ≡ (a || false)
    or_none true = refl
    or_none false = refl
members_from t set (part ∷ parts) =
    members_from t (joined set part.0) parts ∙ ap (λ (a : Bool). a || has_target t parts) (one_more set part.0 t) ∙ or_assoc (is_member set t) (part.0 == t) (has_target t parts)

pub members_are : (t : ℕ) (parts : List (ℕ × List Update)) → is_member (targets_from 0 parts) t ≡ has_target t parts
members_are t parts = members_from t 0 parts ∙ ap (λ (n : ℕ). (n == 1) || has_target t parts) (bit_at-zero t)

-- ---- the request of a part is one by itself

written : (r : Bool) (n b : ℕ) → not r ≡ true → n ≡ b → 1 ≤ b → (if r then n == 0 else nat_le 1 n) ≡ true
written true n b h e le = absurd cc
written false n b h e le = le-leb 1 n (omega arith)

unowned : (b : ℕ) (us : List Update) → 1 ≤ b → AllByRecursion (FitsUpdateOf (Some b)) us → AllByRecursion (FitsUpdateOf None) us
unowned b [] le h = tt
unowned b (u ∷ us) le h = (
  record {
    stands = refl;
    batch = h.0.batch;
    batch_set = written (is_read u.kind) u.batch b h.0.stands (eqb-true u.batch b h.0.batch_set) le;
    fid = h.0.fid;
    params = h.0.params;
  },
  unowned b us le h.1,
)

pub requests_fit : (b least : ℕ) (parts : List (ℕ × List Update)) → 1 ≤ b → FitsParts b least parts → length (parts_text parts) ≤ 24576 → AllByRecursion (λ part. FitsRequest part.1) parts
unfolding FitsParts parts_text
requests_fit b least [] le h size = tt
requests_fit b least (part ∷ parts) le h size =
    let len = ap length (flat_map-cons part_text part parts) ∙ length-append (part_text part) (parts_text parts) in
    let one = length-part part in
    (record { count = h.0.count; each = unowned b part.1 le h.0.each; size = omega arith }, requests_fit b (part.0 + 1) parts le h.1 (omega arith))

part_by : (b : Bool) (us : List Update) (o : Option (List Update)) → FitsRequest us → IfSome o FitsRequest → IfSome (if b then Some us else o) FitsRequest
part_by true us o h k = h
part_by false us o h k = k

pub part_fits : (t : ℕ) (parts : List (ℕ × List Update)) → AllByRecursion (λ part. FitsRequest part.1) parts → IfSome (part_for t parts) FitsRequest
part_fits t [] h = tt
part_fits t (part ∷ parts) h = part_by (part.0 == t) part.1 (part_for t parts) h.0 (part_fits t parts h.1)
