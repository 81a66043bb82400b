-- One target further.
use Rattle.std.proofs.Common.{◌≡◌, ◌||◌, ℕ, zero, suc, Bool, true, false, if◌then◌else◌, Option, List, [], ◌∷◌, ◌++◌, refl, sym, ap, ◌∙◌}
use Rattle.fid_space.specs.Targets.{joined}
use Rattle.out_update.specs.declared.update.Update.{Update}
use Rattle.plan_base.specs.Updates.{Placed}
use Rattle.plan_base.specs.Planners.{part_for, has_part, is_home, parts_from}
use Rattle.update_record.specs.Spelling.{targets_from}

pub parts_on : (home : Option ℕ) (placed : List Placed) (i j n k : ℕ) → n ≡ suc k → j ≡ suc i → (is_home home i || has_part i placed) ≡ true
    → parts_from home placed i n ≡ (i, part_for i placed) ∷ parts_from home placed j k
unfolding parts_from
parts_on home placed i j n k e f h =
    ap (λ m. parts_from home placed i m) e ∙ ap (λ b. if b then (i, part_for i placed) ∷ parts_from home placed (suc i) k else parts_from home placed (suc i) k) h
    ∙ ap (λ m. (i, part_for i placed) ∷ parts_from home placed m k) (sym f)

pub parts_off : (home : Option ℕ) (placed : List Placed) (i j n k : ℕ) → n ≡ suc k → j ≡ suc i → (is_home home i || has_part i placed) ≡ false
    → parts_from home placed i n ≡ parts_from home placed j k
unfolding parts_from
parts_off home placed i j n k e f h =
    ap (λ m. parts_from home placed i m) e ∙ ap (λ b. if b then (i, part_for i placed) ∷ parts_from home placed (suc i) k else parts_from home placed (suc i) k) h
    ∙ ap (λ m. parts_from home placed m k) (sym f)

pub parts_end : (home : Option ℕ) (placed : List Placed) (i n : ℕ) → n ≡ 0 → parts_from home placed i n ≡ []
unfolding parts_from
parts_end home placed i n e = ap (λ m. parts_from home placed i m) e

pub targets_push : (set : ℕ) (ps : List (ℕ × List Update)) (p : ℕ × List Update) → targets_from set (ps ++ p ∷ []) ≡ joined (targets_from set ps) p.0
targets_push set [] p = refl
targets_push set (q ∷ ps) p = targets_push (joined set q.0) ps p
