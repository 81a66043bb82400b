-- A state image that was written is read again.
use Rattle.std.proofs.Common.{◌≡◌, ℕ, ◌-◌, ◌^◌, ◌<◌, List, [], ◌++◌, length, Some, Ok, refl, sym, ap, ◌∙◌, arith}
use Rattle.std.specs.Int.{w32}
use Rattle.std.proofs.lemmas.List.{append-nil, drop_at}
use Rattle.byte_grammar.specs.Numbers.{zeros}
use Rattle.byte_grammar.specs.declared.verdict.Verdict.TheVariants as verdict
use Rattle.byte_grammar.proofs.Bytes.{wide32}
use Rattle.llog_store.specs.Log.{Log, IsLog, log_text, spells}
use Rattle.llog_store.specs.Reading.{log_at}
use Rattle.object_store.specs.Objects.{ObjectMap}
use Rattle.object_store.specs.ImageText.{image_text, FitsObjects}
use Rattle.object_store.specs.ImageReading.{field_at, most32, image_at}
use Rattle.object_store.proofs.ImageFields.{field_again, number_again, zeros_again}
use Rattle.update_record.specs.declared.operation.Record.{Record}
use Rattle.update_record.specs.Spelling.{record_text, FitsRecord, spells_record}
use Rattle.update_record.specs.Values.{record_value}
use Rattle.update_record.specs.Decoding.{judge_record}
use Rattle.state_image.specs.declared.image.Image.{Image}
use Rattle.state_image.specs.FrontText.{front_text}
use Rattle.state_image.specs.StateText.{log_part, state_text, AreOwn, FitsState}
use Rattle.state_image.specs.StateReading.{objects_in, own_log, log_in, image_in}
use Rattle.state_image.proofs.Again.{front_read}
use Rattle.state_image.proofs.Owning.{payloads_again}

field_whole : (len : ℕ) (text : List ℕ) → field_at len (length text) text ≡ Ok (text, [])
field_whole len text = ap (field_at len (length text)) (sym (append-nil text)) ∙ field_again len (length text) text [] refl

-- by what is proved of the spellings of objects, logs and records
module _
    (objects_read : (m : ObjectMap) (rest : List ℕ) → FitsObjects m → image_at (image_text m ++ rest) ≡ Ok (m, length (image_text m)))
    (log_read : (log : Log) (bytes : List ℕ) → spells log bytes → log_at bytes ≡ Ok log)
    (spelled : (r : Record) (a rest : List ℕ) → spells_record r a → judge_record (a ++ rest) ≡ verdict.Done (length a))
    (alone : (r : Record) → FitsRecord r → record_value (record_text r) ≡ Some r) where
  objects_again : (len : ℕ) (m : ObjectMap) (rest : List ℕ) → FitsObjects m → objects_in len (image_text m ++ rest) ≡ Ok (m, rest)
  unfolding objects_in
  objects_again len m rest fits = rw (objects_read m rest fits, drop_at (image_text m) rest (length (image_text m)) refl) refl

  own_again : (targets index : ℕ) (log : Log) → IsLog log → AreOwn targets index log → own_log targets index (log_text log) ≡ Ok log
  unfolding own_log
  own_again targets index log is own = rw (log_read log (log_text log) (is, refl), payloads_again spelled alone targets index log.entries log.next own) refl

  log_again : (targets index len : ℕ) (log : Log) → IsLog log → length (log_text log) < 2 ^ 32 → AreOwn targets index log → log_in targets index len (log_part log) ≡ Ok (log, [])
  unfolding log_in log_part
  log_again targets index len log is short own =
      let size = length (log_text log) in
      rw (
        number_again w32 wide32 0 most32 len size (zeros 4 ++ log_text log) (omega arith) (omega (arith, short)) short,
        zeros_again len 4 (log_text log),
        field_whole len (log_text log),
        own_again targets index log is own,
      ) refl

  pub state_again : (s : Image) → FitsState s → image_in s.front.cluster s.front.index (state_text s) ≡ Ok s
  unfolding image_in state_text
  state_again s fits =
      let r2 = log_part s.log in
      let r1 = image_text s.objects ++ r2 in
      let len = length (front_text s.front ++ r1) in
      rw (
        front_read len s.front r1 fits.front,
        objects_again len s.objects r2 fits.objects,
        log_again s.front.cluster s.front.index len s.log fits.log fits.short fits.payloads,
      ) refl
