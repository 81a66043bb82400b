use Rattle.std.proofs.Common.{◌≡◌, length, List, ℕ, ap, ◌∙◌, subst, sym, arith}
use Rattle.target_disk.specs.Open.{FailsToFormat}
use Rattle.target_disk.specs.declared.store.FormatFault.TheVariants as format_fault
use Rattle.dne_cli.specs.Disks.{Touches}
use Rattle.dne_cli.proofs.Images.{length-first}
use Rattle.dne_cli.proofs.Touching.{touches_refl}
use Rattle.dne_cli.proofs.target.format_disk.Goals as goal

pub format-requires : goal.format-requires
format-requires g c =
    let short : length c.args.image.now ≡ 8 = ap (λ (l : List ℕ). length l) c.requires ∙ length-first in
    omega (arith, short)

pub unreachable-requires : goal.unreachable-requires
unreachable-requires g c =
    let size = length c.args.image.now in
    let full : FailsToFormat g.D.Disk.shown c.args.disk size (format_fault.Full c.in-Err-Full.field-0-0 c.in-Err-Full.field-0-1) = subst (FailsToFormat g.D.Disk.shown c.args.disk size) c.in-Err-Full.field-0-is c.in-Err-Full.ensures.err in
    let short : length c.args.image.now ≡ 8 = ap (λ (l : List ℕ). length l) c.requires ∙ length-first in
    omega (arith, short, full.1)

pub returns-in-Err-Disk-clause-err : goal.returns-in-Err-Disk-clause-err
returns-in-Err-Disk-clause-err g c =
    let size = length c.args.image.now in
    let failed : FailsToFormat g.D.Disk.shown c.args.disk size (format_fault.Disk c.in-Err-Disk.disk) = subst (FailsToFormat g.D.Disk.shown c.args.disk size) c.in-Err-Disk.field-0-is c.in-Err-Disk.ensures.err in
    record { touches = record { stays = failed.0; later = failed.1 }; rose = failed.2 }

pub returns-in-Err-Memory-clause-err : goal.returns-in-Err-Memory-clause-err
returns-in-Err-Memory-clause-err g c =
    let size = length c.args.image.now in
    let same : FailsToFormat g.D.Disk.shown c.args.disk size (format_fault.Memory c.in-Err-Memory.disk) = subst (FailsToFormat g.D.Disk.shown c.args.disk size) c.in-Err-Memory.field-0-is c.in-Err-Memory.ensures.err in
    subst (λ d. Touches (g.D.Disk.shown c.args.disk) (g.D.Disk.shown d)) (sym same.0) (touches_refl (g.D.Disk.shown c.args.disk))
