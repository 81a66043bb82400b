use Rattle.std.proofs.Common.{◌≡◌, ◌++◌, map, take}
use Rattle.std.specs.List.{flat_map}
use Rattle.llog_store.specs.Kept.{seen}
use Rattle.llog_store.specs.DecodedText.{entry_line}
use Rattle.llog_store.proofs.printing.print_entries.Given as goal

abbrev pub invariant-loop-place : goal.invariant-loop-place
invariant-loop-place l = l.out ≡ l.fn.out ++ flat_map entry_line (map (seen l.bytes) (take l.place-index l.places))
