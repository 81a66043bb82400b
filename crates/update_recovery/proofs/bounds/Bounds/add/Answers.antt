use Rattle.std.proofs.Common.{sym, ◌∙◌}
use Rattle.std.specs.BTreeSet.{contains}
use Rattle.update_record.specs.Values.{record_value}
use Rattle.update_recovery.specs.Live.{found_cmp}
use Rattle.update_recovery.proofs.Live.{adds_one}
use Rattle.update_recovery.proofs.bounds.Bounds.add.Goals as goal

pub returns-in-Ok : goal.returns-in-Ok
returns-in-Ok c = λ k.
    let b = c.args.self.now in
    adds_one b.epoch b.marks.items c.in_ok-new.field-0 k c.args.payload.now c.in_ok-entry.entry (record_value c.args.payload.now) (contains found_cmp c.args.found.now k) (contains found_cmp c.insert.new.self k)
    c.in_ok-entry.ensures.value (sym c.takes.ensures ∙ c.if-not-takes.false) c.in_ok-new.ensures.stamp c.in_ok-new.ensures.master c.in_ok-new.ensures.batch c.in_ok-new.ensures.text (c.in-Ok.ensures.updates.0 k)
