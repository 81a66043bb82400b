-- The parts of an operation, target by target.
use Rattle.std.proofs.Common.{◌≡◌, ◌≢◌, ◌<◌, ◌≤◌, ◌+◌, ◌*◌, ◌==◌, ◌||◌, ◌⊎◌, inl, inr, ⊎_elim, ℕ, zero, suc, Bool, true, false, true≢false, nat_lt, if◌then◌else◌, length, Option, Some, None, List, [], ◌∷◌, refl, sym, ap, ◌∙◌, subst, arith, length-append}
use Rattle.std.proofs.lemmas.Bool.Decides.{eqb_tells, nat_tests}
use Rattle.std.specs.List.{AllByRecursion, flat_map}
use Rattle.fid_space.specs.Places.{place_of}
use Rattle.fid_space.specs.Targets.{is_member, joined}
use Rattle.fid_space.proofs.Members.{member_none, member_joined_test, same_members}
use Rattle.byte_grammar.specs.Numbers.{word, zeros}
use Rattle.tree_model.specs.declared.op.Op.{Op}
use Rattle.tree_model.specs.Keys.{Laid}
use Rattle.tree_model.specs.Striped.{on}
use Rattle.out_update.specs.declared.update.Update.{Update}
use Rattle.out_update.specs.Spelling.{FitsUpdateOf, update_text, updates_text}
use Rattle.update_record.specs.declared.operation.Record.{Record}
use Rattle.update_record.specs.Spelling.{FitsParts, has_target, part_for, targets_from, part_text, parts_text, record_text}
use Rattle.tree_sound.proofs.Basics.{by_bool, which}
use Rattle.tree_shares.specs.Updates.{updates, placed_one, placed, placed_updates, updates_at}
use Rattle.tree_shares.specs.Parts.{parts_from, parts}
use Rattle.tree_shares.specs.PartLaws.{PartsAreOfTargets, PartsAreOn, HomeTakesPart, PartsFit, RecordsAreShort}
use Rattle.tree_shares.proofs.Sets.{home_on, on_below}
use Rattle.tree_shares.proofs.Spelling.{updates_are_spelled}
use Rattle.tree_shares.proofs.Sizes.{updates_are_few}

-- ---- who has a part, and which

module _ (set : ℕ) (ps : List (ℕ × Update)) where
  abbrev Rest : ℕ → ℕ → List (ℕ × List Update)
  Rest n t = parts_from n t set ps

  abbrev First : ℕ → ℕ → Bool → List (ℕ × List Update)
  First n t b = if b then (t, updates_at t ps) ∷ Rest n (t + 1) else Rest n (t + 1)

  apart_test : (t k : ℕ) → t ≢ k → (t == k) ≡ false
  apart_test t k ne = elim (eqb_tells t k) [
    | inl e ↦ absurd (ne e.1)
    | inr e ↦ e.0
  ]

  same_test : (t : ℕ) → (t == t) ≡ true
  same_test t = elim (eqb_tells t t) [
    | inl e ↦ e.0
    | inr e ↦ absurd (e.1 refl)
  ]

  -- another target than the first
  has_later : (n t k : ℕ) (b : Bool) → t ≢ k → has_target k (First n t b) ≡ has_target k (Rest n (t + 1))
  has_later n t k true ne = ap (λ b. b || has_target k (Rest n (t + 1))) (apart_test t k ne)
  has_later n t k false ne = refl

  for_later : (n t k : ℕ) (b : Bool) → t ≢ k → part_for k (First n t b) ≡ part_for k (Rest n (t + 1))
  for_later n t k true ne = ap (λ b. if b then Some (updates_at t ps) else part_for k (Rest n (t + 1))) (apart_test t k ne)
  for_later n t k false ne = refl

  -- none before the first, and none behind the last
  outside : (n t k : ℕ) → (k < t) ⊎ (t + n ≤ k) → (has_target k (Rest n t) ≡ false) × (part_for k (Rest n t) ≡ None)
  outside zero t k h = (refl, refl)
  outside (suc n) t k h =
      let ne : t ≢ k = far h in
      let rest = outside n (t + 1) k (next h) in
      (has_later n t k (is_member set t) ne ∙ rest.0, for_later n t k (is_member set t) ne ∙ rest.1)
    where
      far : (k < t) ⊎ (t + suc n ≤ k) → t ≢ k
      far (inl a) e = absurd (omega (arith, a, e))
      far (inr a) e = absurd (omega (arith, a, e))

      next : (k < t) ⊎ (t + suc n ≤ k) → (k < t + 1) ⊎ (t + 1 + n ≤ k)
      next (inl a) = inl (omega (arith, a))
      next (inr a) = inr (omega (arith, a))

  inside : (n t k : ℕ) → t ≤ k → k < t + n → (has_target k (Rest n t) ≡ is_member set k) × (part_for k (Rest n t) ≡ (if is_member set k then Some (updates_at k ps) else None))
  inside zero t k low high = absurd (omega (arith, low, high))
  inside (suc n) t k low high = elim (eqb_tells t k) [
    | inl e ↦ here e.1
    | inr e ↦ let ne = e.1 in
        let rest = inside n (t + 1) k (omega (arith, low, ne)) (omega (arith, high)) in
        (has_later n t k (is_member set t) ne ∙ rest.0, for_later n t k (is_member set t) ne ∙ rest.1)
  ]
    where
      first : (b : Bool) → (has_target t (First n t b) ≡ b) × (part_for t (First n t b) ≡ (if b then Some (updates_at t ps) else None))
      first true = (ap (λ b. b || has_target t (Rest n (t + 1))) (same_test t), ap (λ b. if b then Some (updates_at t ps) else part_for t (Rest n (t + 1))) (same_test t))
      first false = outside n (t + 1) t (inl (omega arith))

      here : t ≡ k → (has_target k (Rest (suc n) t) ≡ is_member set k) × (part_for k (Rest (suc n) t) ≡ (if is_member set k then Some (updates_at k ps) else None))
      here e = subst (λ k. (has_target k (Rest (suc n) t) ≡ is_member set k) × (part_for k (Rest (suc n) t) ≡ (if is_member set k then Some (updates_at k ps) else None))) e (first (is_member set t))

pub parts_of_targets : PartsAreOfTargets
unfolding parts
parts_of_targets targets batch l op target some = by_bool (nat_lt target targets)
    (λ h. inside set ps targets 0 target (omega arith) (low h))
    (λ h.
    let rest = outside set ps targets 0 target (inr (high h)) in
    let none : is_member set target ≡ false = ⊎_elim (λ (m : is_member set target ≡ true). let low = on_below targets some l op target m in let far = high h in absurd (omega (arith, low, far))) (λ e. e) (which (is_member set target)) in
    (rest.0 ∙ sym none, rest.1 ∙ sym (ap (λ b. if b then Some (updates_at target ps) else None) none)))
  where
    set : ℕ
    set = on targets l op

    ps : List (ℕ × Update)
    ps = placed_updates targets batch l op

    low : nat_lt target targets ≡ true → target < 0 + targets
    low h = grind (arith, nat_tests)

    high : nat_lt target targets ≡ false → 0 + targets ≤ target
    high h = grind (arith, nat_tests)

-- ---- as a set

or_assoc : (a b c : Bool) → ((a || b) || c) ≡ (a || (b || c))
or_assoc true b c = refl
or_assoc false b c = refl

turned : (a b : ℕ) → (a == b) ≡ (b == a)
turned a b = elim (eqb_tells a b) [
  | inl e ↦ e.0 ∙ sym (ap (λ (n : ℕ). b == n) e.1 ∙ same_one b)
  | inr e ↦ elim (eqb_tells b a) [
    | inl f ↦ absurd (e.1 (sym f.1))
    | inr f ↦ e.0 ∙ sym f.0
  ]
]
  where
    same_one : (n : ℕ) → (n == n) ≡ true
    same_one n = elim (eqb_tells n n) [
      | inl e ↦ e.0
      | inr e ↦ absurd (e.1 refl)
    ]

members_of_parts : (set : ℕ) (parts : List (ℕ × List Update)) (t : ℕ) → is_member (targets_from set parts) t ≡ (is_member set t || has_target t parts)
members_of_parts set [] t = or_none (is_member set t)
  where
    or_none : (a : Bool) → a ≡ (a || false)
    or_none true = refl
    or_none false = refl
members_of_parts set (part ∷ parts) t =
    members_of_parts (joined set part.0) parts t
    ∙ ap (λ b. b || has_target t parts) (member_joined_test set part.0 t ∙ ap (λ b. is_member set t || b) (turned t part.0))
    ∙ or_assoc (is_member set t) (part.0 == t) (has_target t parts)

pub parts_are_on : PartsAreOn
parts_are_on targets batch l op some = (
  same_members (targets_from 0 (parts targets batch l op)) (on targets l op)
      (λ t. members_of_parts 0 (parts targets batch l op) t ∙ ap (λ b. b || has_target t (parts targets batch l op)) (member_none t) ∙ (parts_of_targets targets batch l op t some).0),
  λ t m. on_below targets some l op t m,
)

pub home_takes_part : HomeTakesPart
home_takes_part targets batch l op home some e = (parts_of_targets targets batch l op home some).0 ∙ home_on targets l op home e

-- ---- what a record may have

abbrev texts : List (ℕ × Update) → ℕ
texts [] = 0
texts (p ∷ ps) = length (update_text p.1) + texts ps

-- the texts of so many targets from one on
abbrev sum_from : ℕ → ℕ → List (ℕ × Update) → ℕ
sum_from zero t ps = 0
sum_from (suc n) t ps = length (updates_text (updates_at t ps)) + sum_from n (t + 1) ps

one_more_text : (u : Update) (us : List Update) → length (updates_text (u ∷ us)) ≡ length (update_text u) + length (updates_text us)
unfolding updates_text
one_more_text u us = length-append (update_text u) (flat_map update_text us)

no_text : length (updates_text []) ≡ 0
unfolding updates_text
no_text = refl

sum_none : (n t : ℕ) → sum_from n t [] ≡ 0
sum_none zero t = refl
sum_none (suc n) t = let a = no_text in let b = sum_none n (t + 1) in omega (arith, a, b)

-- an update of an earlier target counts nothing
sum_later : (n t : ℕ) (p : ℕ × Update) (ps : List (ℕ × Update)) → p.0 < t → sum_from n t (p ∷ ps) ≡ sum_from n t ps
sum_later zero t p ps h = refl
sum_later (suc n) t p ps h =
    let rest = sum_later n (t + 1) p ps (omega (arith, h)) in
    let same : length (updates_text (updates_at t (p ∷ ps))) ≡ length (updates_text (updates_at t ps)) = by_test (p.0 == t) refl in
    omega (arith, rest, same)
  where
    by_test : (b : Bool) → (p.0 == t) ≡ b → length (updates_text (if b then p.1 ∷ updates_at t ps else updates_at t ps)) ≡ length (updates_text (updates_at t ps))
    by_test false e = refl
    by_test true e = elim (eqb_tells p.0 t) [
      | inl k ↦ let is = k.1 in absurd (omega (arith, is, h))
      | inr k ↦ absurd (true≢false (sym e ∙ k.0))
    ]

sum_more : (n t : ℕ) (p : ℕ × Update) (ps : List (ℕ × Update)) → sum_from n t (p ∷ ps) ≤ length (update_text p.1) + sum_from n t ps
sum_more zero t p ps = omega arith
sum_more (suc n) t p ps = elim (eqb_tells p.0 t) [
  | inl e ↦ let is = e.1 in
      let rest = sum_later n (t + 1) p ps (omega (arith, is)) in
      let here : length (updates_text (updates_at t (p ∷ ps))) ≡ length (update_text p.1) + length (updates_text (updates_at t ps)) =
      ap (λ b. length (updates_text (if b then p.1 ∷ updates_at t ps else updates_at t ps))) e.0 ∙ one_more_text p.1 (updates_at t ps) in
      omega (arith, rest, here)
  | inr e ↦ let rest = sum_more n (t + 1) p ps in
      let here : length (updates_text (updates_at t (p ∷ ps))) ≡ length (updates_text (updates_at t ps)) = ap (λ b. length (updates_text (if b then p.1 ∷ updates_at t ps else updates_at t ps))) e.0 in
      omega (arith, rest, here)
]

sum_all : (n t : ℕ) (ps : List (ℕ × Update)) → sum_from n t ps ≤ texts ps
sum_all n t [] = let e = sum_none n t in omega (arith, e)
sum_all n t (p ∷ ps) = let a = sum_more n t p ps in let b = sum_all n t ps in omega (arith, a, b)

texts_placed : (targets : ℕ) (us : List Update) → texts (placed targets us) ≤ length (updates_text us)
texts_placed targets [] = omega arith
texts_placed targets (u ∷ us) = by_place (place_of targets u.fid) (texts_placed targets us)
  where
    by_place : (o : Option ℕ) → texts (placed targets us) ≤ length (updates_text us) → texts (placed_one o u (placed targets us)) ≤ length (updates_text (u ∷ us))
    by_place None b = let a = one_more_text u us in omega (arith, a, b)
    by_place (Some t) b = let a = one_more_text u us in omega (arith, a, b)

part_length : (part : ℕ × List Update) → length (part_text part) ≡ 16 + length (updates_text part.1)
unfolding word zeros
part_length part = omega arith

parts_length : (part : ℕ × List Update) (more : List (ℕ × List Update)) → length (parts_text (part ∷ more)) ≡ 16 + length (updates_text part.1) + length (parts_text more)
unfolding parts_text
parts_length part more = let a = length-append (part_text part) (flat_map part_text more) in let b = part_length part in omega (arith, a, b)

no_parts : length (parts_text []) ≡ 0
unfolding parts_text
no_parts = refl

-- the parts of so many targets, and their bytes
from_short : (n t set : ℕ) (ps : List (ℕ × Update)) → (length (parts_from n t set ps) ≤ n) × (length (parts_text (parts_from n t set ps)) ≤ 16 * n + sum_from n t ps)
from_short zero t set ps = (omega arith, let e = no_parts in omega (arith, e))
from_short (suc n) t set ps = by_test (is_member set t) (from_short n (t + 1) set ps)
  where
    by_test : (b : Bool) → (length (parts_from n (t + 1) set ps) ≤ n) × (length (parts_text (parts_from n (t + 1) set ps)) ≤ 16 * n + sum_from n (t + 1) ps)
        → (length (First set ps n t b) ≤ suc n) × (length (parts_text (First set ps n t b)) ≤ 16 * suc n + sum_from (suc n) t ps)
    by_test true rest =
        let few = rest.0 in
        let short = rest.1 in
        let e = parts_length (t, updates_at t ps) (parts_from n (t + 1) set ps) in
        (omega (arith, few), omega (arith, short, e))
    by_test false rest =
        let few = rest.0 in
        let short = rest.1 in
        (omega (arith, few), omega (arith, short))

placed_count : (targets : ℕ) (us : List Update) → length (placed targets us) ≤ length us
placed_count targets [] = omega arith
placed_count targets (u ∷ us) = by_place (place_of targets u.fid) (placed_count targets us)
  where
    by_place : (o : Option ℕ) → length (placed targets us) ≤ length us → length (placed_one o u (placed targets us)) ≤ suc (length us)
    by_place None b = omega (arith, b)
    by_place (Some t) b = omega (arith, b)

at_count : (t : ℕ) (ps : List (ℕ × Update)) → length (updates_at t ps) ≤ length ps
at_count t [] = omega arith
at_count t (p ∷ ps) = by_test (p.0 == t) (at_count t ps)
  where
    by_test : (b : Bool) → length (updates_at t ps) ≤ length ps → length (if b then p.1 ∷ updates_at t ps else updates_at t ps) ≤ suc (length ps)
    by_test true h = omega (arith, h)
    by_test false h = omega (arith, h)

placed_fit : (targets : ℕ) (P : Update → Type 0) (us : List Update) → AllByRecursion P us → AllByRecursion (λ p. P p.1) (placed targets us)
placed_fit targets P [] h = tt
placed_fit targets P (u ∷ us) h = by_place (place_of targets u.fid) (placed_fit targets P us h.1)
  where
    by_place : (o : Option ℕ) → AllByRecursion (λ p. P p.1) (placed targets us) → AllByRecursion (λ p. P p.1) (placed_one o u (placed targets us))
    by_place None rest = rest
    by_place (Some t) rest = (h.0, rest)

at_fit : (t : ℕ) (P : Update → Type 0) (ps : List (ℕ × Update)) → AllByRecursion (λ p. P p.1) ps → AllByRecursion P (updates_at t ps)
at_fit t P [] h = tt
at_fit t P (p ∷ ps) h = by_test (p.0 == t) (at_fit t P ps h.1)
  where
    by_test : (b : Bool) → AllByRecursion P (updates_at t ps) → AllByRecursion P (if b then p.1 ∷ updates_at t ps else updates_at t ps)
    by_test true rest = (h.0, rest)
    by_test false rest = rest

from_fit : (batch n t set : ℕ) (ps : List (ℕ × Update)) (least : ℕ) → least ≤ t → t + n ≤ 16 → length ps ≤ 128 → AllByRecursion (λ p. FitsUpdateOf (Some batch) p.1) ps → FitsParts batch least (parts_from n t set ps)
unfolding FitsParts
from_fit batch zero t set ps least rises low few each = tt
from_fit batch (suc n) t set ps least rises low few each =
    by_test (is_member set t) (from_fit batch n (t + 1) set ps (t + 1) (omega arith) (omega (arith, low)) few each) (from_fit batch n (t + 1) set ps least (omega (arith, rises)) (omega (arith, low)) few each)
  where
    by_test : (b : Bool) → FitsParts batch (t + 1) (parts_from n (t + 1) set ps) → FitsParts batch least (parts_from n (t + 1) set ps) → FitsParts batch least (First set ps n t b)
    by_test true rest other = (record { rises = rises; target = omega (arith, low); count = let a = at_count t ps in omega (arith, a, few); each = at_fit t (FitsUpdateOf (Some batch)) ps each }, rest)
    by_test false rest other = other

pub parts_fit : PartsFit
unfolding parts
parts_fit targets most batch l op some few bound small sound is =
    let us = updates targets batch l op in
    let each = updates_are_spelled targets most batch l op some few bound small sound is in
    let count = (updates_are_few targets most batch l op some few bound small sound is).0 in
    let fewer = placed_count targets us in (
      from_fit batch targets 0 (on targets l op) (placed targets us) 0 (omega arith) (omega (arith, few)) (omega (arith, count, fewer)) (placed_fit targets (FitsUpdateOf (Some batch)) us each),
      (from_short targets 0 (on targets l op) (placed targets us)).0,
    )

record_length : (r : Record) → length (record_text r) ≡ 48 + length (parts_text r.parts)
unfolding word zeros
record_length r = omega arith

short_parts : (targets most batch : ℕ) (l : Laid) (op : Op) → targets ≤ 16 → length (updates_text (updates targets batch l op)) ≤ 21680 → length (parts_text (parts targets batch l op)) ≤ 21936
unfolding parts
short_parts targets most batch l op few short =
    let us = updates targets batch l op in
    let a = (from_short targets 0 (on targets l op) (placed targets us)).1 in
    let b = sum_all targets 0 (placed targets us) in
    let c = texts_placed targets us in
    omega (arith, a, b, c, few, short)

pub records_short : RecordsAreShort
records_short targets most batch l op r some few bound small sound is e =
    let short = (updates_are_few targets most batch l op some few bound small sound is).1 in
    let a = short_parts targets most batch l op few short in
    let b = record_length r in
    let same : length (parts_text r.parts) ≡ length (parts_text (parts targets batch l op)) = ap (λ ps. length (parts_text ps)) e in
    omega (arith, a, b, same)
