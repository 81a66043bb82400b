use Rattle.std.proofs.Common.{arith, ◌++◌, take, length-append, length-take}
use Rattle.std.proofs.KnownBytes.{Consumes-trans}
use Rattle.outside.proofs.take.take_pieces.Goals as goal

pub returns-then-count-limit-clause-took : goal.returns-then-count-limit-clause-took
returns-then-count-limit-clause-took g c =
    let had = c.loop-bytes.bytes.items in
    let piece = take c.in-Ok.count c.read.new.into in
    let size = length-take c.in-Ok.count c.read.new.into in
    let all = length-append had piece in
    (had ++ piece, Consumes-trans _ _ _ had piece c.loop-bytes.invariant.taken c.in-Ok.ensures.bytes.0, omega (arith, size, all, c.in-Ok.ensures.bound, c.loop-bytes.invariant.limited, c.if-count-limit.true))

pub returns-then-is_err-clause-took : goal.returns-then-is_err-clause-took
returns-then-is_err-clause-took g c =
    let had = c.loop-bytes.bytes.items in
    let piece = take c.in-Ok.count c.read.new.into in
    (had ++ piece, Consumes-trans _ _ _ had piece c.loop-bytes.invariant.taken c.in-Ok.ensures.bytes.0, tt)
