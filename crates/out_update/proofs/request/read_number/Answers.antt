use Rattle.std.proofs.Common.{◌∙◌, sym, ap}
use Rattle.out_update.specs.Bodies.{may_be}
use Rattle.out_update.specs.Positions.{padded}
use Rattle.out_update.proofs.Reader.{body_refuses}
use Rattle.out_update.proofs.request.read_number.Goals as goal

pub returns-then-not-allows_number-clause-steps : goal.returns-then-not-allows_number-clause-steps
returns-then-not-allows_number-clause-steps c = λ owner next.
    let h = ap (may_be c.args.kind c.args.count c.args.field) (sym c.number_of-number.ensures) ∙ sym c.if-not-allows_number.ensures in
    body_refuses c.args.field c.args.kind c.args.count c.args.place (padded owner next c.args.len c.args.a) c.args.bytes.now h
