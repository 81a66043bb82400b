use Rattle.std.proofs.Common.{◌≡◌, ◌++◌, drop}
use Rattle.decode_mode.specs.Records.{parts_lines}
use Rattle.decode_mode.proofs.records.print_parts.Given as goal

abbrev pub invariant-loop-part : goal.invariant-loop-part
invariant-loop-part l = l.out ++ parts_lines (drop l.part-index l.parts) ≡ l.fn.out ++ parts_lines l.parts
