use Rattle.op_laws.proofs.Joined.{each_has_part, parts_name, written_here, parts_make}
use Rattle.op_laws.proofs.parts_are_of_written_objects.Goals as goal

pub returns : goal.returns
returns c = record { each = each_has_part; names = parts_name; here = written_here; shares = parts_make }
