use Rattle.target_disk.proofs.Lengthening.{lengthens_first, lengthens_next, never_full, never_full_behind}
use Rattle.target_disk.proofs.book.lengthen.Goals as goal

pub unreachable-requires : goal.unreachable-requires
unreachable-requires c = never_full c.args.blocks.now c.take.new.self c.take.result c.in_default-take.field-0 c.args.ends c.requires c.in_default-take.is c.take.ensures

pub returns-in_default : goal.returns-in_default
returns-in_default c = lengthens_first c.args.blocks.now c.take.new.self c.take.result c.in-Ok.block c.args.ends c.in_default.is c.in-Ok.is c.take.ensures

pub unreachable-requires-in_default-link_after : goal.unreachable-requires-in_default-link_after
unreachable-requires-in_default-link_after c = never_full_behind c.args.blocks.now c.link_after.new.self c.link_after.result c.in_default-link_after.field-0 c.in-Some.ends c.args.ends c.in-Some.is c.requires c.in_default-link_after.is c.link_after.ensures

pub returns : goal.returns
returns c = lengthens_next c.args.blocks.now c.link_after.new.self c.link_after.result c.in-Ok-link_after.block c.in-Some.ends c.args.ends c.in-Some.is c.in-Ok-link_after.is c.link_after.ensures
