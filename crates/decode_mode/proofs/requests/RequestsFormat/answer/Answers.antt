use Rattle.std.proofs.Common.{◌≡◌, ◌++◌, ◌-◌, List, ℕ, Ok, codes, length, take, refl, sym, subst}
use Rattle.std.proofs.lemmas.List.{length-drop}
use Rattle.byte_grammar.specs.declared.feeder.Fed.{Fed}
use Rattle.byte_grammar.specs.declared.verdict.Verdict.{Verdict}
use Rattle.byte_grammar.specs.declared.verdict.Verdict.TheVariants.{More}
use Rattle.out_update.specs.declared.update.Update.{Update}
use Rattle.out_update.specs.Spelling.{spells}
use Rattle.out_update.specs.Text.{decoded_text}
use Rattle.out_update.specs.Decoding.{judge_request, IsFault, Tells}
use Rattle.decode_mode.specs.Lines.{rest_line, place_line}
use Rattle.decode_mode.specs.Refusing.{RefusesBy}
use Rattle.decode_mode.specs.Requests.{ShowsRequest, RefusesRequest}
use Rattle.decode_mode.proofs.Verdicts.{shows_taken}
use Rattle.decode_mode.proofs.Written.{says_shown, says_refused, says_told}
use Rattle.decode_mode.proofs.requests.RequestsFormat.answer.Goals as goal

pub returns-in-Ok-Done : goal.returns-in-Ok-Done
returns-in-Ok-Done c =
    let bytes = c.args.bytes.now in
    let us = c.in-Ok-Done.value in
    let used = c.in-Ok-Done.used in
    let told = subst (λ (fed : Fed (List Update)). Tells spells (judge_request (c.new.result ++ bytes)) c.new.result bytes (Ok fed)) c.in-Ok-Done.field-0-is c.in-Ok-Done.ensures.exact in
    let spelled : spells us (take used bytes) = subst (λ (old : List ℕ). spells us (old ++ take used bytes)) c.new.ensures told.2 in
    let shows = subst (λ (n : ℕ). ShowsRequest bytes (decoded_text us ++ rest_line n)) (length-drop used bytes) (shows_taken spells decoded_text judge_request bytes us used spelled) in
    says_shown ShowsRequest RefusesRequest bytes (decoded_text us ++ rest_line (length bytes - used)) c.show.result shows c.show.ensures.text c.show.ensures.shown

pub returns-in-Ok-More : goal.returns-in-Ok-More
returns-in-Ok-More c =
    let bytes = c.args.bytes.now in
    let text = place_line (length bytes) (codes "Truncated") in
    let told = subst (λ (fed : Fed (List Update)). Tells spells (judge_request (c.new.result ++ bytes)) c.new.result bytes (Ok fed)) c.in-Ok-More.field-0-is c.in-Ok-More.ensures.exact in
    let more : judge_request bytes ≡ More = subst (λ (old : List ℕ). judge_request (old ++ bytes) ≡ More) c.new.ensures told in
    let refuses : RefusesRequest bytes text = subst (λ (v : Verdict). RefusesBy v (length bytes) text) (sym more) refl in
    says_refused ShowsRequest RefusesRequest bytes c.refusal.result (says_told RefusesRequest bytes text c.refusal.result refuses c.refusal.ensures.text) c.refusal.ensures.refused

pub returns : goal.returns
returns c =
    let bytes = c.args.bytes.now in
    let fault : IsFault c.in-Err.fault (judge_request bytes) = subst (λ (old : List ℕ). IsFault c.in-Err.fault (judge_request (old ++ bytes))) c.new.ensures c.in-Err.ensures.exact in
    says_refused ShowsRequest RefusesRequest bytes c.refuse.result (c.refuse.ensures.text (judge_request bytes) (length bytes) fault) c.refuse.ensures.refused
