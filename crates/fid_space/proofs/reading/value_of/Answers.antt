use Rattle.std.proofs.Common.{arith}
use Rattle.std.proofs.lemmas.Int.Digits.{digits_value_more}
use Rattle.fid_space.proofs.Hex.{step_fits}
use Rattle.fid_space.proofs.reading.value_of.Goals as goal

pub overflow_mul-value : goal.overflow_mul-value
overflow_mul-value c =
    let both = step_fits c.loop-c.value 0 c.loop-c.c-index 16 c.loop-c.invariant.fits (omega arith) (omega (arith, c.loop-c-test.true, c.requires.few)) (omega arith) in
    omega (arith, both.1)

pub overflow_add-value : goal.overflow_add-value
overflow_add-value c =
    let both = step_fits c.loop-c.value c.from.result c.loop-c.c-index 16 c.loop-c.invariant.fits (omega (arith, c.digit_of-digit.ensures.small, c.from.ensures)) (omega (arith, c.loop-c-test.true, c.requires.few)) (omega arith) in
    omega (arith, both.1)

pub loop-c-preserved : goal.loop-c-preserved
loop-c-preserved c =
    let both = step_fits c.loop-c.value c.from.result c.loop-c.c-index 16 c.loop-c.invariant.fits (omega (arith, c.digit_of-digit.ensures.small, c.from.ensures)) (omega (arith, c.loop-c-test.true, c.requires.few)) (omega arith) in
    let more = digits_value_more 16 c.args.digits.now c.loop-c.c-index c.loop-c-test.true in
    record { value = omega (arith, more, c.loop-c.invariant.value, c.digit_of-digit.ensures.value, c.from.ensures); fits = both.0 }
