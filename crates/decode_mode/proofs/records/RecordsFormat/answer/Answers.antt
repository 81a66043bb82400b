use Rattle.std.proofs.Common.{◌++◌, ◌-◌, ℕ, length, take, subst}
use Rattle.std.proofs.lemmas.List.{length-drop}
use Rattle.update_record.specs.Spelling.{spells_record}
use Rattle.update_record.specs.Decoding.{judge_record}
use Rattle.decode_mode.specs.Lines.{rest_line}
use Rattle.decode_mode.specs.Records.{ShowsRecord, RefusesRecord, record_lines}
use Rattle.decode_mode.proofs.Verdicts.{shows_taken}
use Rattle.decode_mode.proofs.Written.{says_shown}
use Rattle.decode_mode.proofs.records.RecordsFormat.answer.Goals as goal

pub returns-in-Ok : goal.returns-in-Ok
returns-in-Ok c =
    let bytes = c.args.bytes.now in
    let r = c.in-Ok.record in
    let used = c.in-Ok.used in
    let spelled : spells_record r (take used bytes) = c.in-Ok.ensures.2 in
    let shows = subst (λ (n : ℕ). ShowsRecord bytes (record_lines r ++ rest_line n)) (length-drop used bytes) (shows_taken spells_record record_lines judge_record bytes r used spelled) in
    says_shown ShowsRecord RefusesRecord bytes (record_lines r ++ rest_line (length bytes - used)) c.show.result shows c.show.ensures.text c.show.ensures.shown
