use Rattle.std.proofs.Common.{◌≡◌, ◌++◌, drop}
use Rattle.update_record.specs.Spelling.{parts_text}
use Rattle.update_record.proofs.encoding.put_parts.Given as goal

abbrev pub invariant-loop-part : goal.invariant-loop-part
invariant-loop-part l = l.out.items ++ parts_text (drop l.part-index l.parts) ≡ l.fn.out.items ++ parts_text l.parts
