-- What is written of bytes that are to begin with an update record.
use Rattle.std.specs.Prelude.{ℕ, List, ◌++◌, length, codes}
use Rattle.std.specs.List.{flat_map}
use Rattle.std.specs.Fmt.{decimal}
use Rattle.outside.specs.declared.status.Status.{Status}
use Rattle.tree_model.specs.ReplyText.{reply_text}
use Rattle.out_update.specs.declared.update.Update.{Update}
use Rattle.out_update.specs.Text.{decoded_text}
use Rattle.update_record.specs.declared.operation.OpId.{OpId}
use Rattle.update_record.specs.declared.operation.Record.{Record}
use Rattle.update_record.specs.Spelling.{spells_record}
use Rattle.update_record.specs.Decoding.{judge_record}
use Rattle.decode_mode.specs.Refusing.{RefusesBy}
use Rattle.decode_mode.specs.Answering.{ShowsFront, Answers, HasOneAnswer}

-- epoch, master and batch
unfoldable pub id_text : OpId → List ℕ
id_text id = decimal id.epoch ++ (codes "." ++ (decimal id.master ++ (codes "." ++ decimal id.batch)))

-- a number behind its label
unfoldable pub labelled : List ℕ → ℕ → List ℕ
labelled label n = label ++ decimal n

unfoldable pub head_line : Record → List ℕ
head_line r =
    codes "record " ++ (id_text r.id ++ (labelled (codes " number ") r.number ++ (labelled (codes " client ") r.client
    ++ (labelled (codes " stamp ") r.stamp ++ (codes " reply " ++ (reply_text r.reply ++ codes "\n"))))))

-- a part's target, and the lines of its request
abbrev pub part_lines : ℕ × List Update → List ℕ
part_lines part = codes "part " ++ (decimal part.0 ++ (codes "\n" ++ decoded_text part.1))

unfoldable pub parts_lines : List (ℕ × List Update) → List ℕ
parts_lines parts = flat_map part_lines parts

abbrev pub record_lines : Record → List ℕ
record_lines r = head_line r ++ parts_lines r.parts

-- the record that a front of the bytes spells
abbrev pub ShowsRecord : List ℕ → List ℕ → Type 0
ShowsRecord bytes text = ShowsFront spells_record record_lines bytes text

abbrev pub RefusesRecord : List ℕ → List ℕ → Type 0
RefusesRecord bytes text = RefusesBy (judge_record bytes) (length bytes) text

abbrev pub AnswersRecord : Type 0 → Status → List ℕ → List ℕ → Type 0
AnswersRecord Ended result read written = Answers Ended ShowsRecord RefusesRecord result read written

abbrev pub OneAnswerPerRecord : Type 0
OneAnswerPerRecord = HasOneAnswer ShowsRecord RefusesRecord
