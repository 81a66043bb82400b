use Rattle.std.proofs.Common.{subst, ◌∙◌, ℕ, get_or}
use Rattle.llog_store.specs.declared.append.AppendFault.{AppendFault}
use Rattle.std.proofs.Common.{Err}
use Rattle.llog_store.specs.Kept.{append_fault, Refuses}
use Rattle.llog_store.proofs.Passing.{step_live, step_dead, step_full, step_end, not_long, none_index, payload_small}
use Rattle.llog_store.proofs.llog.pack_records.Goals as goal
use Rattle.llog_store.proofs.llog.pack_records.Goals.{then-has_live+in-Ok, else-has_live}

pub returns-in-Err-Full : goal.returns-in-Err-Full
returns-in-Err-Full c =
    let full = subst (λ (f : AppendFault). Refuses {X = ℕ} (append_fault c.loop-place.log c.payload_of.result.now) (Err f)) c.in-Err-Full.field-0-is c.in-Err-Full.ensures.refuses in
    step_full c.args.bytes.now c.args.places.now c.loop-place.place-index c.loop-place.log _ c.payload_of.result.now c.in-Err-Full.field-0-0 c.loop-place-test.true c.if-has_live.ensures c.payload_of.ensures c.loop-place.invariant.rest full

pub unreachable-requires : goal.unreachable-requires
unreachable-requires c =
    let long = subst (λ (f : AppendFault). Refuses {X = ℕ} (append_fault c.loop-place.log c.payload_of.result.now) (Err f)) c.in-Err-TooLong.field-0-is c.in-Err-TooLong.ensures.refuses in
    let within = c.requires.within c.loop-place.place-index (record { index = 0; at = 0; length = 0 }) c.loop-place-test.true in
    not_long c.loop-place.log c.payload_of.result.now c.in-Err-TooLong.field-0-0 (payload_small c.args.bytes.now (get_or c.args.places.now c.loop-place.place-index (record { index = 0; at = 0; length = 0 })) c.payload_of.result.now c.payload_of.ensures within.1) long

pub loop-place-preserved : goal.loop-place-preserved
loop-place-preserved c = elim c.if-has_live.branch [
  | then-has_live+in-Ok w ↦
      let is = w.log-is ∙ w.in-Ok.ensures.ok in
      rw is (record {
        rest = step_live c.args.bytes.now c.args.places.now c.loop-place.place-index c.loop-place.log _ w.payload_of.result.now c.loop-place-test.true w.if-has_live.ensures w.payload_of.ensures c.loop-place.invariant.rest;
        next = none_index c.loop-place.log w.payload_of.result.now w.in-Ok.field-0 w.in-Ok.ensures.refuses;
      })
  | else-has_live w ↦
      rw w.log-is (record {
        rest = step_dead c.args.bytes.now c.args.places.now c.loop-place.place-index c.loop-place.log _ c.loop-place-test.true w.if-has_live.ensures c.loop-place.invariant.rest;
        next = c.loop-place.invariant.next;
      })
]

pub returns : goal.returns
returns c = (step_end c.args.bytes.now c.args.places.now c.loop-place.place-index c.loop-place.log _ c.loop-place-test.false c.loop-place.invariant.rest, c.loop-place.invariant.next)
