use Rattle.std.proofs.lemmas.Result.{err_from_is_err_and}
use Rattle.fid_space.specs.HexText.{hex_byte}
use Rattle.fid_space.proofs.Fronts.{front_items}
use Rattle.fid_space.proofs.text.print_hex_digits.Goals as goal

pub returns-in_err-append-clause-err : goal.returns-in_err-append-clause-err
returns-in_err-append-clause-err c =
    let p = err_from_is_err_and c.from_residual.result c.from_residual.ensures.1 in
    rw p.1 (front_items hex_byte c.args.bytes.now c.loop-b.b-index c.args.out.now c.loop-b.out c.append.new.self c.loop-b.invariant c.in_err-append.ensures.err)
