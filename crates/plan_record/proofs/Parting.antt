-- The parts of a decision: what they have, and how long they are.
use Rattle.std.proofs.Common.{◌≡◌, ◌≤◌, ◌<◌, ◌+◌, ◌*◌, ◌/◌, ◌-◌, ◌==◌, ◌||◌, nat_lt, ℕ, zero, suc, Bool, true, false, if◌then◌else◌, Option, Some, None, List, [], ◌∷◌, ◌++◌, length, inl, inr, refl, sym, ap, ◌∙◌, subst, arith, length-append}
use Rattle.std.proofs.lemmas.Bool.{eq-eqb, eqb-true, eqb-false}
use Rattle.std.proofs.lemmas.Bool.Decides.{nat_tests, eqb_tells}
use Rattle.std.specs.List.{AllByRecursion, flat_map}
use Rattle.byte_grammar.specs.Numbers.{word, zeros}
use Rattle.fid_space.specs.declared.fid.Fid.{Fid}
use Rattle.fid_space.specs.Places.{place_of, in_range, base_of}
use Rattle.out_update.specs.declared.update.Update.{Update}
use Rattle.out_update.specs.Spelling.{updates_text}
use Rattle.update_record.specs.Spelling.{FitsParts, has_target, part_text, parts_text}
use Rattle.plan_base.specs.Updates.{Placed}
use Rattle.plan_base.specs.Planners.{parts_from, part_for, has_part, is_home}
use Rattle.plan_record.proofs.Fitting.{Fits, Spells, AllSpell, count_of, texts_of, texts_app}

-- ---- the updates of one target

part_spells : (batch t : ℕ) (placed : List Placed) → AllSpell batch placed → AllByRecursion (Spells batch) (part_for t placed)
part_spells batch t [] h = tt
part_spells batch t (p ∷ ps) h = by_test (p.0 == t) (part_spells batch t ps h.1)
  where
    joined : (us vs : List Update) → AllByRecursion (Spells batch) us → AllByRecursion (Spells batch) vs → AllByRecursion (Spells batch) (us ++ vs)
    joined [] vs a b = b
    joined (u ∷ us) vs a b = (a.0, joined us vs a.1 b)

    by_test : (b : Bool) → AllByRecursion (Spells batch) (part_for t ps) → AllByRecursion (Spells batch) (if b then p.1 ++ part_for t ps else part_for t ps)
    by_test true rest = joined p.1 (part_for t ps) h.0 rest
    by_test false rest = rest

part_count : (t : ℕ) (placed : List Placed) → length (part_for t placed) ≤ count_of placed
part_count t [] = omega arith
part_count t (p ∷ ps) = by_test (p.0 == t) (part_count t ps)
  where
    by_test : (b : Bool) → length (part_for t ps) ≤ count_of ps → length (if b then p.1 ++ part_for t ps else part_for t ps) ≤ length p.1 + count_of ps
    by_test true h = let a = length-append p.1 (part_for t ps) in omega (arith, a, h)
    by_test false h = omega (arith, h)

-- ---- the parts

parts_fit : (batch : ℕ) (home : Option ℕ) (placed : List Placed) (least i n : ℕ) → AllSpell batch placed → count_of placed ≤ 128 → least ≤ i → i + n ≤ 16 → FitsParts batch least (parts_from home placed i n)
unfolding FitsParts parts_from
parts_fit batch home placed least i zero each few low high = tt
parts_fit batch home placed least i (suc n) each few low high =
    by_test (is_home home i || has_part i placed) (parts_fit batch home placed (i + 1) (suc i) n each few (omega arith) (omega (arith, high))) (parts_fit batch home placed least (suc i) n each few (omega (arith, low)) (omega (arith, high)))
  where
    by_test : (t : Bool) → FitsParts batch (i + 1) (parts_from home placed (suc i) n) → FitsParts batch least (parts_from home placed (suc i) n)
        → FitsParts batch least (if t then (i, part_for i placed) ∷ parts_from home placed (suc i) n else parts_from home placed (suc i) n)
    by_test true rest other = (record { rises = low; target = omega (arith, high); count = let a = part_count i placed in omega (arith, a, few); each = part_spells batch i placed each }, rest)
    by_test false rest other = other

parts_few : (home : Option ℕ) (placed : List Placed) (i n : ℕ) → length (parts_from home placed i n) ≤ n
unfolding parts_from
parts_few home placed i zero = omega arith
parts_few home placed i (suc n) = by_test (is_home home i || has_part i placed) (parts_few home placed (suc i) n)
  where
    by_test : (t : Bool) → length (parts_from home placed (suc i) n) ≤ n → length (if t then (i, part_for i placed) ∷ parts_from home placed (suc i) n else parts_from home placed (suc i) n) ≤ suc n
    by_test true h = omega (arith, h)
    by_test false h = omega (arith, h)

-- ---- their texts

-- the texts of so many targets from one on
abbrev sum_from : ℕ → ℕ → List Placed → ℕ
sum_from i zero placed = 0
sum_from i (suc n) placed = length (updates_text (part_for i placed)) + sum_from (suc i) n placed

no_text : length (updates_text []) ≡ 0
unfolding updates_text
no_text = refl

sum_none : (i n : ℕ) → sum_from i n [] ≡ 0
sum_none i zero = refl
sum_none i (suc n) = let a = no_text in let b = sum_none (suc i) n in omega (arith, a, b)

-- updates of an earlier target count nothing
sum_later : (i n : ℕ) (p : Placed) (ps : List Placed) → p.0 < i → sum_from i n (p ∷ ps) ≡ sum_from i n ps
sum_later i zero p ps h = refl
sum_later i (suc n) p ps h =
    let rest = sum_later (suc i) n p ps (omega (arith, h)) in
    let same : length (updates_text (part_for i (p ∷ ps))) ≡ length (updates_text (part_for i ps)) = by_test (p.0 == i) refl in
    omega (arith, rest, same)
  where
    by_test : (b : Bool) → (p.0 == i) ≡ b → length (updates_text (if b then p.1 ++ part_for i ps else part_for i ps)) ≡ length (updates_text (part_for i ps))
    by_test false e = refl
    by_test true e = let is : p.0 ≡ i = eqb-true p.0 i e in absurd (omega (arith, is, h))

sum_more : (i n : ℕ) (p : Placed) (ps : List Placed) → sum_from i n (p ∷ ps) ≤ length (updates_text p.1) + sum_from i n ps
sum_more i zero p ps = omega arith
sum_more i (suc n) p ps = elim (eqb_tells p.0 i) [
  | inl e ↦ let is = e.1 in
      let rest = sum_later (suc i) n p ps (omega (arith, is)) in
      let here : length (updates_text (part_for i (p ∷ ps))) ≡ length (updates_text p.1) + length (updates_text (part_for i ps)) =
      ap (λ b. length (updates_text (if b then p.1 ++ part_for i ps else part_for i ps))) e.0 ∙ texts_app p.1 (part_for i ps) in
      omega (arith, rest, here)
  | inr e ↦ let rest = sum_more (suc i) n p ps in
      let here : length (updates_text (part_for i (p ∷ ps))) ≡ length (updates_text (part_for i ps)) = ap (λ b. length (updates_text (if b then p.1 ++ part_for i ps else part_for i ps))) e.0 in
      omega (arith, rest, here)
]

sum_all : (i n : ℕ) (placed : List Placed) → sum_from i n placed ≤ texts_of placed
sum_all i n [] = let e = sum_none i n in omega (arith, e)
sum_all i n (p ∷ ps) = let a = sum_more i n p ps in let b = sum_all i n ps in omega (arith, a, b)

part_length : (part : ℕ × List Update) → length (part_text part) ≡ 16 + length (updates_text part.1)
unfolding word zeros
part_length part = omega arith

parts_length : (part : ℕ × List Update) (more : List (ℕ × List Update)) → length (parts_text (part ∷ more)) ≡ 16 + length (updates_text part.1) + length (parts_text more)
unfolding parts_text
parts_length part more = let a = length-append (part_text part) (flat_map part_text more) in let b = part_length part in omega (arith, a, b)

no_parts : length (parts_text []) ≡ 0
unfolding parts_text
no_parts = refl

parts_short : (home : Option ℕ) (placed : List Placed) (i n : ℕ) → length (parts_text (parts_from home placed i n)) ≤ 16 * n + sum_from i n placed
unfolding parts_from
parts_short home placed i zero = let e = no_parts in omega (arith, e)
parts_short home placed i (suc n) = by_test (is_home home i || has_part i placed) (parts_short home placed (suc i) n)
  where
    by_test : (t : Bool) → length (parts_text (parts_from home placed (suc i) n)) ≤ 16 * n + sum_from (suc i) n placed
        → length (parts_text (if t then (i, part_for i placed) ∷ parts_from home placed (suc i) n else parts_from home placed (suc i) n)) ≤ 16 * suc n + sum_from i (suc n) placed
    by_test true h = let e = parts_length (i, part_for i placed) (parts_from home placed (suc i) n) in omega (arith, h, e)
    by_test false h = omega (arith, h)

-- ---- the home

pub record Stands (h : ℕ) (parts : List (ℕ × List Update)) : Type 0 where
  pub has : has_target h parts ≡ true
  pub some : 1 ≤ length parts

or_true : (b : Bool) → (b || true) ≡ true
or_true true = refl
or_true false = refl

home_in : (h : ℕ) (placed : List Placed) (i n : ℕ) → i ≤ h → h < i + n → Stands h (parts_from (Some h) placed i n)
unfolding parts_from
home_in h placed i zero a b = absurd (omega (arith, a, b))
home_in h placed i (suc n) a b = by_test (h == i) refl (λ low. home_in h placed (suc i) n low (omega (arith, b)))
  where
    by_place : (t : Bool) → Stands h (parts_from (Some h) placed (suc i) n)
        → Stands h (if t then (i, part_for i placed) ∷ parts_from (Some h) placed (suc i) n else parts_from (Some h) placed (suc i) n)
    by_place true r = record { has = ap (λ b. (i == h) || b) r.has ∙ or_true (i == h); some = omega arith }
    by_place false r = r

    by_test : (t : Bool) → (h == i) ≡ t → (suc i ≤ h → Stands h (parts_from (Some h) placed (suc i) n)) → Stands h (if (h == i) || has_part i placed then (i, part_for i placed) ∷ parts_from (Some h) placed (suc i) n else parts_from (Some h) placed (suc i) n)
    by_test true e on =
        let is : h ≡ i = eqb-true h i e in
        subst (λ t. Stands h (if t || has_part i placed then (i, part_for i placed) ∷ parts_from (Some h) placed (suc i) n else parts_from (Some h) placed (suc i) n)) (sym e)
        (record { has = ap (λ b. b || has_target h (parts_from (Some h) placed (suc i) n)) (eq-eqb i h (sym is)); some = omega arith })
    by_test false e on =
        let other = eqb-false h i e in
        by_place ((h == i) || has_part i placed) (on (further other))
      where
        further : (h ≡ i → ⊥) → suc i ≤ h
        further ne = by_less (nat_lt i h) refl
          where
            by_less : (t : Bool) → nat_lt i h ≡ t → suc i ≤ h
            by_less true k = grind (arith, nat_tests)
            by_less false k = absurd (ne (grind (arith, nat_tests)))

some_is : (a b : ℕ) → Some a ≡ Some b → a ≡ b
some_is a b h = cc

none_some : (a : ℕ) → ◌≡◌ {A = Option ℕ} None (Some a) → ⊥
none_some a h = absurd (cc)

range_below : (targets seq : ℕ) → seq < 0x200000400 + targets * 0x100000 → 1 ≤ targets → (seq - 0x200000400) / 0x100000 < targets
range_below targets seq h some = omega (arith, h, some)

pub place_below : (targets : ℕ) (f : Fid) (t : ℕ) → 1 ≤ targets → place_of targets f ≡ Some t → t < targets
place_below targets f t some h = by_root (f.seq == 0x200000007) h
  where
    within : in_range targets f ≡ true → f.seq < 0x200000400 + targets * 0x100000
    within e = grind (arith, nat_tests)

    by_range : (b : Bool) → in_range targets f ≡ b → (if b then Some ((f.seq - base_of 0) / 0x100000) else None) ≡ Some t → t < targets
    by_range true e k = subst (λ t. t < targets) (some_is ((f.seq - base_of 0) / 0x100000) t k) (range_below targets f.seq (within e) some)
    by_range false e k = absurd (none_some t k)

    by_root : (b : Bool) → (if b then Some 0 else (if in_range targets f then Some ((f.seq - base_of 0) / 0x100000) else None)) ≡ Some t → t < targets
    by_root true k = let e : 0 ≡ t = some_is 0 t k in omega (arith, e, some)
    by_root false k = by_range (in_range targets f) refl k

-- ---- all of them

-- what the parts of a decision need
pub record Parts (batch : ℕ) (home : Option ℕ) (parts : List (ℕ × List Update)) : Type 0 where
  pub few : length parts ≤ 16
  pub each : FitsParts batch 0 parts
  pub short : length (parts_text parts) ≤ 21936

pub parts_recorded : (targets batch : ℕ) (home : Option ℕ) (placed : List Placed) → targets ≤ 16 → Fits batch 128 21680 placed → Parts batch home (parts_from home placed 0 targets)
parts_recorded targets batch home placed few fits =
    let count = parts_few home placed 0 targets in
    let updates = fits.few in
    let short = parts_short home placed 0 targets in
    let sum = sum_all 0 targets placed in
    let texts = fits.short in
    record {
      few = omega (arith, count, few);
      each = parts_fit batch home placed 0 0 targets fits.each updates (omega arith) (omega (arith, few));
      short = omega (arith, short, sum, texts, few);
    }

pub home_stands : (targets : ℕ) (f : Fid) (home : ℕ) (placed : List Placed) → 1 ≤ targets → place_of targets f ≡ Some home → Stands home (parts_from (place_of targets f) placed 0 targets)
home_stands targets f home placed some is =
    let below = place_below targets f home some is in
    subst (λ h. Stands home (parts_from h placed 0 targets)) (sym is) (home_in home placed 0 targets (omega arith) (omega (arith, below)))
