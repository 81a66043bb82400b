use Rattle.std.proofs.Common.{sym, ◌∙◌, arith}
use Rattle.dne_cli.proofs.Reading.{item_short, item_cut, item_len_is, number_part}
use Rattle.dne_cli.proofs.image.item_len.Goals as goal

pub returns-then-bytes-lt-FIXED_LEN : goal.returns-then-bytes-lt-FIXED_LEN
returns-then-bytes-lt-FIXED_LEN c = record { is = sym (item_short c.args.bytes.now c.if-bytes-lt-FIXED_LEN.true); within = tt }

pub returns-then-bytes-len : goal.returns-then-bytes-len
returns-then-bytes-len c = record { is = sym (item_cut c.args.bytes.now c.read_u32.result (sym (c.read_u32.ensures ∙ number_part 12 c.args.bytes.now)) c.if-bytes-lt-FIXED_LEN.false c.if-bytes-len.true); within = tt }

pub returns : goal.returns
returns c = record { is = sym (item_len_is c.args.bytes.now c.read_u32.result (sym (c.read_u32.ensures ∙ number_part 12 c.args.bytes.now)) c.if-bytes-len.false); within = (omega arith, c.if-bytes-len.false) }
