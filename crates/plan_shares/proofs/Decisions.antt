-- The parts of every decision.
use Rattle.std.proofs.Common.{◌≡◌, ◌≤◌, ◌<◌, ◌+◌, ◌==◌, ◌||◌, nat_lt, ℕ, zero, suc, Bool, true, false, if◌then◌else◌, Option, Some, None, List, [], ◌∷◌, length, refl, sym, ap, ◌∙◌, subst, arith}
use Rattle.std.proofs.lemmas.Bool.{eq-eqb, eqb-true, eqb-false}
use Rattle.std.proofs.lemmas.Bool.Decides.{nat_tests}
use Rattle.out_update.specs.declared.update.Update.{Update}
use Rattle.tree_model.specs.Participants.{home_of, first_fid}
use Rattle.tree_model.specs.declared.op.Op.{Op}
use Rattle.tree_shares.proofs.Sets.{place_below}
use Rattle.update_record.specs.Spelling.{has_target}
use Rattle.plan_base.specs.Updates.{Placed}
use Rattle.plan_base.specs.Planners.{parts_from, part_for, has_part, is_home}
use Rattle.plan_shares.specs.Decisions.{Rise, PartsRise, HomesTakePart, OnItsParts}

rising : (home : Option ℕ) (placed : List Placed) (least i n : ℕ) → least ≤ i → i + n ≤ 16 → Rise least (parts_from home placed i n) × (length (parts_from home placed i n) ≤ n)
unfolding parts_from
rising home placed least i zero a b = (tt, omega arith)
rising home placed least i (suc n) a b =
    by_test (is_home home i || has_part i placed) (rising home placed (i + 1) (suc i) n (omega arith) (omega (arith, b))) (rising home placed least (suc i) n (omega (arith, a)) (omega (arith, b)))
  where
    by_test : (t : Bool)
        → Rise (i + 1) (parts_from home placed (suc i) n) × (length (parts_from home placed (suc i) n) ≤ n)
        → Rise least (parts_from home placed (suc i) n) × (length (parts_from home placed (suc i) n) ≤ n)
        → Rise least (if t then (i, part_for i placed) ∷ parts_from home placed (suc i) n else parts_from home placed (suc i) n)
        × (length (if t then (i, part_for i placed) ∷ parts_from home placed (suc i) n else parts_from home placed (suc i) n) ≤ suc n)
    by_test true r s = ((a, omega (arith, b), r.0), let k = r.1 in omega (arith, k))
    by_test false r s = (s.0, let k = s.1 in omega (arith, k))

pub parts_rise : PartsRise
parts_rise targets op o few = rising (home_of targets op) o.placed 0 0 targets (omega arith) (omega (arith, few))

record Stands (h : ℕ) (parts : List (ℕ × List Update)) : Type 0 where
  has : has_target h parts ≡ true
  some : 1 ≤ length parts

or_true : (b : Bool) → (b || true) ≡ true
or_true true = refl
or_true false = refl

home_in : (h : ℕ) (placed : List Placed) (i n : ℕ) → i ≤ h → h < i + n → Stands h (parts_from (Some h) placed i n)
unfolding parts_from
home_in h placed i zero a b = absurd (omega (arith, a, b))
home_in h placed i (suc n) a b = by_test (h == i) refl (λ low. home_in h placed (suc i) n low (omega (arith, b)))
  where
    by_place : (t : Bool) → Stands h (parts_from (Some h) placed (suc i) n)
        → Stands h (if t then (i, part_for i placed) ∷ parts_from (Some h) placed (suc i) n else parts_from (Some h) placed (suc i) n)
    by_place true r = record { has = ap (λ b. (i == h) || b) r.has ∙ or_true (i == h); some = omega arith }
    by_place false r = r

    by_test : (t : Bool) → (h == i) ≡ t → (suc i ≤ h → Stands h (parts_from (Some h) placed (suc i) n)) → Stands h (if (h == i) || has_part i placed then (i, part_for i placed) ∷ parts_from (Some h) placed (suc i) n else parts_from (Some h) placed (suc i) n)
    by_test true e on =
        let is : h ≡ i = eqb-true h i e in
        subst (λ t. Stands h (if t || has_part i placed then (i, part_for i placed) ∷ parts_from (Some h) placed (suc i) n else parts_from (Some h) placed (suc i) n)) (sym e)
        (record { has = ap (λ b. b || has_target h (parts_from (Some h) placed (suc i) n)) (eq-eqb i h (sym is)); some = omega arith })
    by_test false e on =
        let other = eqb-false h i e in
        by_place ((h == i) || has_part i placed) (on (further other))
      where
        further : (h ≡ i → ⊥) → suc i ≤ h
        further ne = by_less (nat_lt i h) refl
          where
            by_less : (t : Bool) → nat_lt i h ≡ t → suc i ≤ h
            by_less true k = grind (arith, nat_tests)
            by_less false k = absurd (ne (grind (arith, nat_tests)))

pub homes_take_part : HomesTakePart
homes_take_part targets op o home some is =
    let below : home < targets = place_below targets (first_fid op) home some is in
    subst (λ h. (has_target home (parts_from h o.placed 0 targets) ≡ true) × (1 ≤ length (parts_from h o.placed 0 targets))) (sym is)
    (let s = home_in home o.placed 0 targets (omega arith) (omega (arith, below)) in (s.has, s.some))

pub on_its_parts : OnItsParts
on_its_parts targets op o = refl
