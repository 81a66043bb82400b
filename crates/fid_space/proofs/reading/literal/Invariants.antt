use Rattle.std.proofs.Common.{◌≡◌, drop}
use Rattle.fid_space.specs.FidReading.{literal_at}
use Rattle.fid_space.proofs.reading.literal.Given as goal

abbrev pub invariant-loop-b : goal.invariant-loop-b
invariant-loop-b l = literal_at l.len (drop l.b-index l.bytes) l.rest ≡ literal_at l.len l.bytes l.fn.rest
