use Rattle.std.proofs.Common.{arith, ap, subst}
use Rattle.byte_grammar.specs.Values.{Lacks}
use Rattle.byte_grammar.proofs.Whole.{built_same, never_short}
use Rattle.out_update.specs.Values.{front}
use Rattle.update_record.specs.Spelling.{FitsRecord, record_text}
use Rattle.update_record.specs.Reading.{whole_record}
use Rattle.update_record.specs.Values.{record_at, record_value}
use Rattle.update_record.proofs.Formats.{record_format}
use Rattle.update_record.proofs.decoder.RecordPositionPosition.build.Goals as goal

pub returns-in-Ok : goal.returns-in-Ok
returns-in-Ok c = built_same 24576 FitsRecord record_text whole_record record_value record_format c.args.bytes.now c.in-Ok.value (λ i. omega (arith, c.type_inv.bytes i)) c.requires (ap front c.in-Ok.ensures)

pub unreachable-requires : goal.unreachable-requires
unreachable-requires c =
    let lacks = subst (λ e. Lacks e (record_at c.args.bytes.now)) c.in-Err-Short.field-0-is c.in-Err-Short.ensures in
    never_short 24576 FitsRecord record_text whole_record record_value record_format c.args.bytes.now (λ i. omega (arith, c.type_inv.bytes i)) c.requires (ap front lacks)
