use Rattle.std.proofs.Common.{◌≡◌, drop}
use Rattle.llog_store.specs.Kept.{first_marked}
use Rattle.llog_store.proofs.walking.first_marked.Given as goal

abbrev pub invariant-loop-place : goal.invariant-loop-place
invariant-loop-place l = first_marked l.bytes (drop l.place-index l.places) ≡ first_marked l.bytes l.places
