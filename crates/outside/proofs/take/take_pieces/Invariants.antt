use Rattle.std.proofs.Common.{◌≡◌, ◌<◌, ◌≤◌, ◌-◌, length}
use Rattle.std.specs.Io.KnownBytes.{Consumes}
use Rattle.std.specs.Option.{is_some}
use Rattle.outside.proofs.take.take_pieces.Given as goal

abbrev pub invariant-loop-bytes : goal.invariant-loop-bytes
invariant-loop-bytes g l =
    let left = g.I.Source.left in
    let faults = g.I.Source.source_faults in
    record {
      room : 0 < length l.buffer;
      limited : length l.bytes.items ≤ l.limit;
      taken : Consumes (left l.fn.input) (left l.input) l.bytes.items;
      tells : is_some (left l.input) ≡ is_some (left l.fn.input);
      later : faults l.fn.input ≤ faults l.input;
    }

abbrev pub decreases-loop-bytes : goal.decreases-loop-bytes
decreases-loop-bytes g l = l.initial.limit - length l.bytes.items
