use Rattle.std.proofs.Common.{◌≡◌, ◌≤◌, drop, map}
use Rattle.llog_store.specs.Log.{empty_log}
use Rattle.llog_store.specs.Kept.{seen}
use Rattle.llog_store.specs.Changes.{all_appended, live_payloads}
use Rattle.llog_store.proofs.llog.pack_records.Given as goal

abbrev pub invariant-loop-place : goal.invariant-loop-place
invariant-loop-place l = record {
  rest : all_appended l.log (live_payloads (map (seen l.bytes) (drop l.place-index l.places))) ≡ all_appended empty_log (live_payloads (map (seen l.bytes) l.places));
  next : l.log.next ≤ 256000;
}
