use Rattle.std.proofs.Common.{arith}
use Rattle.llog_store.specs.Numbers.{word}
use Rattle.llog_store.proofs.Words.{length-word}
use Rattle.llog_store.proofs.Keeping.{two_numbers}
use Rattle.llog_store.proofs.chunk.write_numbers.Goals as goal

pub returns : goal.returns
returns c = rw (c.write_number-2.ensures, c.write_number.ensures) (two_numbers c.args.bytes.now (word c.args.next) (word c.args.live) (length-word c.args.next) (omega (arith, c.requires)))
