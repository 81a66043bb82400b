-- The step of a planner may be played.
use Rattle.std.proofs.Common.{◌≡◌, ℕ, All, List, [], ◌∷◌, Option, sym, arith}
use Rattle.std.proofs.lemmas.List.Elements.{All-from_recursion}
use Rattle.std.specs.List.{AllByRecursion}
use Rattle.out_update.specs.declared.update.Update.{Update}
use Rattle.out_update.specs.declared.result.UpdateResult.{UpdateResult}
use Rattle.out_update.specs.Spelling.{FitsUpdate, FitsRequest}
use Rattle.update_record.proofs.PartLaws.{requests_fit}
use Rattle.striped_dir.specs.declared.plan.Step.{Step}
use Rattle.striped_dir.specs.declared.plan.Step.TheVariants as steps
use Rattle.plan_base.specs.Heard.{IsHeard}
use Rattle.plan_base.specs.Planners.{Planning, IsAsked, step_after, after_fact}
use Rattle.plan_record.specs.Recorded.{DecisionsAreRecorded}
use Rattle.plan_tests.specs.Playing.{MayPlay, MayBePlayed, AreSpelled}

spelled_each : (parts : List (ℕ × List Update)) → AllByRecursion (λ (part : ℕ × List Update). FitsRequest part.1) parts → AllByRecursion (λ (part : ℕ × List Update). All FitsUpdate part.1) parts
spelled_each [] h = tt
spelled_each (part ∷ parts) h = (All-from_recursion FitsUpdate part.1 h.0.each, spelled_each parts h.1)

spelled : (parts : List (ℕ × List Update)) → AllByRecursion (λ (part : ℕ × List Update). FitsRequest part.1) parts → AreSpelled parts
spelled parts h = All-from_recursion (λ (part : ℕ × List Update). All FitsUpdate part.1) parts (spelled_each parts h)

by_step : DecisionsAreRecorded → (p : Planning) (r : Option UpdateResult) (s : Step) → MayPlay p → IsHeard (after_fact p r).told → IsAsked s → step_after p r ≡ s → MayBePlayed s
by_step law p r (steps.Need n) may told asked e = asked
by_step law p r (steps.Decided d) may told asked e =
    let is = law p r d may.1 told e in
    let size = is.size in
    spelled d.parts (requests_fit p.batch 0 d.parts may.0 is.each (omega (arith, size)))

pub step_fits : DecisionsAreRecorded → (p : Planning) (r : Option UpdateResult) (s : Step) → MayPlay p → IsHeard (after_fact p r).told → IsAsked s → s ≡ step_after p r → MayBePlayed s
step_fits law p r s may told asked e = by_step law p r s may told asked (sym e)
