-- Steps of a planner may be sent and recorded.
use Rattle.std.proofs.Common.{◌≡◌, ◌≤◌, ◌<◌, ◌+◌, ◌||◌, ℕ, zero, suc, Bool, true, false, if◌then◌else◌, All, List, [], ◌∷◌, Option, Result, Ok, Err, sym, subst, arith}
use Rattle.std.proofs.lemmas.List.Elements.{All-nil, All-cons}
use Rattle.tree_model.specs.declared.op.Op.{Op}
use Rattle.tree_model.specs.Participants.{home_of}
use Rattle.out_update.specs.declared.update.Update.{Update}
use Rattle.out_update.specs.declared.result.UpdateResult.{UpdateResult}
use Rattle.striped_dir.specs.declared.plan.Step.{Step}
use Rattle.striped_dir.specs.declared.plan.Step.TheVariants as steps
use Rattle.plan_base.specs.declared.outcome.Outcome.{Outcome}
use Rattle.plan_base.specs.declared.question.Stop.{Stop}
use Rattle.plan_base.specs.declared.question.Stop.TheVariants as stop
use Rattle.plan_base.specs.Heard.{IsHeard}
use Rattle.plan_base.specs.Updates.{Placed}
use Rattle.plan_base.specs.Planners.{Planning, IsAsked, is_home, has_part, part_for, parts_from, step_at, step_after, after_fact, reached}
use Rattle.plan_record.specs.Recorded.{DecisionsAreRecorded}
use Rattle.update_coordinator.specs.Planned.{FitsPlan, FitsStep}

-- ---- targets of the parts

AreBelow : List (ℕ × List Update) → Type 0
AreBelow parts = All (λ (part : ℕ × List Update). part.0 < 16) parts

by_part : (home : Option ℕ) (placed : List Placed) (t : ℕ) (b : Bool) (rest : List (ℕ × List Update)) → t < 16 → AreBelow rest → AreBelow (if b then (t, part_for t placed) ∷ rest else rest)
unfolding AreBelow
by_part home placed t true rest h more = All-cons (λ (part : ℕ × List Update). part.0 < 16) (t, part_for t placed) rest h more
by_part home placed t false rest h more = more

parts_below : (home : Option ℕ) (placed : List Placed) (t left : ℕ) → t + left ≤ 16 → AreBelow (parts_from home placed t left)
unfolding AreBelow parts_from
parts_below home placed t zero h = All-nil (λ (part : ℕ × List Update). part.0 < 16)
parts_below home placed t (suc left) h =
    by_part home placed t (is_home home t || has_part t placed) (parts_from home placed (suc t) left) (omega (arith, h)) (parts_below home placed (suc t) left (omega (arith, h)))

StepsBelow : Step → Type 0
StepsBelow (steps.Need n) = Unit {0}
StepsBelow (steps.Decided d) = AreBelow d.parts

at_below : (targets : ℕ) (op : Op) (x : Result Outcome Stop) → targets ≤ 16 → StepsBelow (step_at targets op x)
unfolding StepsBelow
at_below targets op (Ok o) h = parts_below (home_of targets op) o.placed 0 targets (omega (arith, h))
at_below targets op (Err (stop.Ask q)) h = tt
at_below targets op (Err (stop.Refused e)) h = parts_below (home_of targets op) [] 0 targets (omega (arith, h))
at_below targets op (Err stop.Memory) h = parts_below (home_of targets op) [] 0 targets (omega (arith, h))

-- ---- a step

by_step : DecisionsAreRecorded → (p : Planning) (r : Option UpdateResult) (s : Step) → FitsPlan p → IsHeard (after_fact p r).told → StepsBelow s → IsAsked s → step_after p r ≡ s → FitsStep p s
unfolding StepsBelow AreBelow
by_step law p r (steps.Need n) f told b a e = a
by_step law p r (steps.Decided d) f told b a e = (b, law p r d f.0 told e)

pub step_fits : DecisionsAreRecorded → (p : Planning) (r : Option UpdateResult) (s : Step) → FitsPlan p → IsHeard (after_fact p r).told → IsAsked s → s ≡ step_after p r → FitsStep p s
step_fits law p r s f told a e =
    by_step law p r s f told (subst StepsBelow (sym e) (at_below p.targets p.op (reached p.targets p.batch p.op (after_fact p r).told) f.0.few)) a (sym e)
