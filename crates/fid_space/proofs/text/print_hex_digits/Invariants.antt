use Rattle.std.proofs.Common.{◌≡◌, ◌++◌, take}
use Rattle.std.specs.List.{flat_map}
use Rattle.fid_space.specs.HexText.{hex_byte}
use Rattle.fid_space.proofs.text.print_hex_digits.Given as goal

abbrev pub invariant-loop-b : goal.invariant-loop-b
invariant-loop-b l = l.out ≡ l.fn.out ++ flat_map hex_byte (take l.b-index l.bytes)
