use Rattle.std.proofs.Common.{◌<◌, sym, subst, arith}
use Rattle.target_state.specs.Image.{IsInRange}
use Rattle.target_state.proofs.Bounds.{read_bounded}
use Rattle.target_state.proofs.Spelling.{read_in_range}
use Rattle.target_state.proofs.state.State.read.Goals as goal

pub restored-requires-clause-bounded : goal.restored-requires-clause-bounded
restored-requires-clause-bounded c =
    let bytes = c.args.bytes.now in
    let image = c.in-Ok.image in
    let targets_low : c.args.cluster < 256 = omega (arith, c.targets-targets.type_inv, c.targets-targets.ensures) in
    let index_low : c.args.index < 256 = omega (arith, c.ranges.index.fits) in
    let written = c.a_state_was_written_so.ensures c.args.cluster c.args.index bytes image (λ i. omega (arith, c.type_inv.bytes i)) targets_low index_low c.in-Ok.ensures in
    read_bounded image bytes written.3 c.requires

pub restored-requires-clause-parts : goal.restored-requires-clause-parts
restored-requires-clause-parts c =
    let bytes = c.args.bytes.now in
    let image = c.in-Ok.image in
    let targets_low : c.args.cluster < 256 = omega (arith, c.targets-targets.type_inv, c.targets-targets.ensures) in
    let index_low : c.args.index < 256 = omega (arith, c.ranges.index.fits) in
    let written = c.a_state_was_written_so.ensures c.args.cluster c.args.index bytes image (λ i. omega (arith, c.type_inv.bytes i)) targets_low index_low c.in-Ok.ensures in
    (written.0.front.each, written.0.objects)

pub returns-in_ok-restored-in-Ok-clause-in_range : goal.returns-in_ok-restored-in-Ok-clause-in_range
returns-in_ok-restored-in-Ok-clause-in_range c =
    let bytes = c.args.bytes.now in
    let image = c.in-Ok.image in
    let targets_low : c.args.cluster < 256 = omega (arith, c.targets-targets.type_inv, c.targets-targets.ensures) in
    let index_low : c.args.index < 256 = omega (arith, c.ranges.index.fits) in
    let written = c.a_state_was_written_so.ensures c.args.cluster c.args.index bytes image (λ i. omega (arith, c.type_inv.bytes i)) targets_low index_low c.in-Ok.ensures in
    subst IsInRange (sym c.in_ok-restored-in-Ok.ensures) (read_in_range image written.0)
