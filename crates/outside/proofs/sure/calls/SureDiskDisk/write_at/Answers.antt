use Rattle.std.proofs.Common.{arith, refl, ap, ◌∙◌, length}
use Rattle.outside.proofs.Parts.{length-put, put_changes, changes-settles}
use Rattle.outside.proofs.Mapped.{fits_whole}
use Rattle.outside.proofs.sure.calls.SureDiskDisk.write_at.Goals as goal

pub returns-clause-writes : goal.returns-clause-writes
returns-clause-writes c = λ honest.
    let old = c.args.self.now.content.items in
    let changes = put_changes old c.args.at c.args.from.now (omega (arith, c.requires, c.args.self.now.fits.size)) in
    rw c.overwrite.ensures (record { settled = changes-settles c.args.at _ old _ changes; content = changes; written = refl })

pub invariant_of-self : goal.invariant_of-self
invariant_of-self c =
    let old = c.args.self.now.content.items in
    record { fits = fits_whole _ (ap length c.overwrite.ensures ∙ length-put old c.args.at c.args.from.now (omega (arith, c.requires, c.args.self.now.fits.size)) ∙ c.args.self.now.fits.size) }
