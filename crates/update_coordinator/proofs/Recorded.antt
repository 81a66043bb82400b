-- The record of an accepted operation has a spelling.
use Rattle.std.proofs.Common.{◌≡◌, ◌<◌, ◌≤◌, ◌+◌, ◌^◌, ℕ, false, length, Option, Some, refl, sym, ap, subst, ◌∙◌, arith}
use Rattle.tree_model.specs.declared.op.Request.{Request}
use Rattle.tree_model.specs.Participants.{home_of}
use Rattle.byte_grammar.specs.Numbers.{word, zeros}
use Rattle.striped_dir.specs.declared.plan.Decision.{Decision}
use Rattle.out_update.specs.declared.result.UpdateResult.{UpdateResult}
use Rattle.plan_base.specs.Heard.{IsHeard}
use Rattle.plan_base.specs.Planners.{Planning, after_fact}
use Rattle.plan_record.specs.Recorded.{reads, MayPlan, IsRecorded}
use Rattle.update_coordinator.specs.Planned.{first_planning}
use Rattle.update_record.specs.declared.operation.Record.{Record}
use Rattle.update_record.specs.Spelling.{record_text, parts_text, FitsParts, FitsRecord}
use Rattle.update_coordinator.specs.Fitting.{IsRequest, IsPlanned}

pub planned_first : (targets master batch : ℕ) (p : Planning) (r : Request) → 1 ≤ targets → targets ≤ 16 → batch < 2 ^ 64 → IsRequest targets master r → p ≡ first_planning targets r.op batch → IsPlanned targets master batch p r
planned_first targets master batch p r some few below h e =
    subst (λ (q : Planning). IsPlanned targets master batch q r) (sym e)
    (record { request = h; targets_same = refl; op_same = refl; batch_next = refl; may_plan = record { some = some; few = few; wide = below; named = h.op }; heard = (tt, tt) })

pub planned_next : (targets master batch : ℕ) (p : Planning) (r : Request) (a : Option UpdateResult) → IsPlanned targets master batch p r → IsHeard (after_fact p a).told → IsPlanned targets master batch (after_fact p a) r
planned_next targets master batch p r a h told = record { request = h.request; targets_same = h.targets_same; op_same = h.op_same; batch_next = h.batch_next; may_plan = h.may_plan; heard = told }

pub fits_plan : (targets master batch : ℕ) (p : Planning) (r : Request) → IsPlanned targets master batch p r → MayPlan p.targets p.batch p.op × IsHeard p.told
fits_plan targets master batch p r h = (h.may_plan, h.heard)

text_size : (r : Record) → 48 + length (parts_text r.parts) ≤ 21984 → length (record_text r) ≤ 24576
unfolding word zeros
text_size r h = omega (arith, h)

pub recorded : (targets master batches epoch stamp : ℕ) (p : Planning) (r : Request) (d : Decision) → master < 16 → 1 ≤ epoch → epoch < 2 ^ 32 → batches + 1 < 2 ^ 64 → 1 ≤ stamp → stamp < 2 ^ 64
    → IsPlanned targets master (batches + 1) p r → IsRecorded p.targets p.batch p.op d → reads r.op ≡ false
    → FitsRecord (record { id = record { epoch = epoch; master = master; batch = batches + 1 }; stamp = stamp; number = r.number; client = r.client; reply = d.reply; parts = d.parts })
recorded targets master batches epoch stamp p r d m e1 e2 b s1 s2 planned made change =
    let home : home_of p.targets p.op ≡ Some master = ap (λ n. home_of n p.op) planned.targets_same ∙ (ap (λ o. home_of targets o) planned.op_same ∙ planned.request.home) in
    let is_change : reads p.op ≡ false = ap (λ o. reads o) planned.op_same ∙ change in
    record {
      epoch_set = e1;
      epoch = e2;
      master = omega (arith, m);
      number_set = planned.request.number_set;
      number = planned.request.number;
      batch_set = omega arith;
      batch = b;
      stamp_set = s1;
      stamp = s2;
      client = let c = planned.request.client in omega (arith, c);
      answer = made.answer is_change;
      some_part = made.some_part;
      few_parts = made.few_parts;
      each = subst (λ n. FitsParts n 0 d.parts) planned.batch_next made.each;
      master_in = made.home_in master home;
      size = text_size (record { id = record { epoch = epoch; master = master; batch = batches + 1 }; stamp = stamp; number = r.number; client = r.client; reply = d.reply; parts = d.parts }) made.size;
    }
