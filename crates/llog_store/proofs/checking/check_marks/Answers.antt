use Rattle.std.proofs.Common.{ap, sym, ◌∙◌, length}
use Rattle.llog_store.specs.Kept.{listed}
use Rattle.llog_store.proofs.Marks.{length-bitmap}
use Rattle.llog_store.proofs.checking.check_marks.Goals as goal

pub first_other-requires : goal.first_other-requires
first_other-requires c = ap length c.as_slice.ensures.value ∙ ap length c.in_ok-found.ensures ∙ length-bitmap (listed c.args.header.bits.now c.args.places.now) ∙ sym c.requires
