-- What is written of bytes that are to be an update log.
use Rattle.std.specs.Prelude.{◌≡◌, ℕ, List, ◌++◌, Err}
use Rattle.outside.specs.declared.status.Status.{Status}
use Rattle.llog_store.specs.declared.fault.LlogFault.{LlogFault}
use Rattle.llog_store.specs.Log.{Log, spells}
use Rattle.llog_store.specs.Reading.{log_at}
use Rattle.llog_store.specs.DecodedText.{decoded_text, fault_text}
use Rattle.decode_mode.specs.Lines.{rest_line}
use Rattle.decode_mode.specs.Answering.{Answers, HasOneAnswer}

-- the log that the bytes spell: it takes all of them
abbrev pub ShowsLog : List ℕ → List ℕ → Type 0
ShowsLog bytes text = (log : Log) × spells log bytes × (text ≡ decoded_text log ++ rest_line 0)

-- the first field that can't stand, or the end inside a log
abbrev pub RefusesLog : List ℕ → List ℕ → Type 0
RefusesLog bytes text = (fault : LlogFault) × (log_at bytes ≡ Err fault) × (text ≡ fault_text fault)

abbrev pub AnswersLog : Type 0 → Status → List ℕ → List ℕ → Type 0
AnswersLog Ended result read written = Answers Ended ShowsLog RefusesLog result read written

abbrev pub OneAnswerPerLog : Type 0
OneAnswerPerLog = HasOneAnswer ShowsLog RefusesLog
