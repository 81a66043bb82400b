use Rattle.std.proofs.Common.{take, drop, sym, subst, ◌∙◌, Result}
use Rattle.std.proofs.lemmas.List.{take-append-drop}
use Rattle.std.specs.declared.alloc.AllocError.{AllocError}
use Rattle.outside.specs.declared.status.Status.TheVariants.{Sink}
use Rattle.decode_mode.specs.declared.answer.Answer.{Answer}
use Rattle.decode_mode.specs.Saying.{Said}
use Rattle.decode_mode.proofs.answer.say.Goals as goal

pub returns-in-Err-put_all-clause-said : goal.returns-in-Err-put_all-clause-said
returns-in-Err-put_all-clause-said g c =
    let n = c.in-Err-put_all.ensures.front.0 in
    let text = c.bytes.result.now in
    let parts = sym c.bytes.ensures ∙ sym (take-append-drop n text) in
    (take n text, c.in-Err-put_all.ensures.front.1, subst (λ (a : Result Answer AllocError). Said a Sink (take n text)) (sym c.in-Ok.is) (drop n text, parts))
