use Rattle.std.proofs.Common.{arith, Some, length}
use Rattle.update_record.specs.Positions.{parts_behind}
use Rattle.update_record.proofs.Reader.{inside_width}
use Rattle.update_record.proofs.position.read_request.Goals as goal

pub read-requires : goal.read-requires
read-requires c = record {
  width = inside_width (Some c.args.behind.batch) c.args.field c.args.len (parts_behind c.args.behind) c.args.request (length c.args.bytes.now) c.in_default.not-End c.requires.width;
  place = omega (arith, c.requires.place);
}
