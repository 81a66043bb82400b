use Rattle.std.proofs.Common.{◌++◌, Err, subst}
use Rattle.byte_grammar.specs.Feeding.{Answers}
use Rattle.out_update.specs.Spelling.{spells}
use Rattle.out_update.specs.Decoding.{judge_request}
use Rattle.out_update.proofs.Reasons.{request_reason}
use Rattle.out_update.proofs.decoder.Decoder.feed.Goals as goal

pub fault_of-requires : goal.fault_of-requires
fault_of-requires c =
    let old = c.keep.new.self in
    let piece = c.args.piece.now in
    let told = subst (λ e. Answers spells (judge_request (old ++ piece)) old piece (Err e)) c.in-Err-Refused.field-0-is c.in-Err-Refused.ensures.exact in
    request_reason (old ++ piece) c.in-Err-Refused.refusal told
