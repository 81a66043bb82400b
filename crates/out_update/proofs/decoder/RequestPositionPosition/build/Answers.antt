use Rattle.std.proofs.Common.{arith, ap, subst}
use Rattle.byte_grammar.specs.Values.{Lacks}
use Rattle.out_update.specs.Spelling.{FitsRequest, request_text}
use Rattle.out_update.specs.Reading.{request}
use Rattle.byte_grammar.proofs.Whole.{built_same, never_short}
use Rattle.out_update.specs.Values.{request_at, request_value, front}
use Rattle.out_update.proofs.Formats.{request_format}
use Rattle.out_update.proofs.decoder.RequestPositionPosition.build.Goals as goal

pub returns-in-Ok : goal.returns-in-Ok
returns-in-Ok c = built_same 24576 FitsRequest request_text request request_value request_format c.args.bytes.now c.in-Ok.value (λ i. omega (arith, c.type_inv.bytes i)) c.requires (ap front c.in-Ok.ensures)

pub unreachable-requires : goal.unreachable-requires
unreachable-requires c =
    let lacks = subst (λ e. Lacks e (request_at c.args.bytes.now)) c.in-Err-Short.field-0-is c.in-Err-Short.ensures in
    never_short 24576 FitsRequest request_text request request_value request_format c.args.bytes.now (λ i. omega (arith, c.type_inv.bytes i)) c.requires (ap front lacks)
