-- What the decoders answer to bytes.
use Rattle.std.specs.Prelude.{◌≡◌, ℕ, ◌≤◌, Bool, true, false, List, length, take, Result, Ok, Err}
use Rattle.byte_grammar.specs.declared.verdict.Reason.{Reason}
use Rattle.byte_grammar.specs.declared.verdict.Reason.TheVariants as reason
use Rattle.byte_grammar.specs.declared.verdict.Verdict.{Verdict}
use Rattle.byte_grammar.specs.declared.verdict.Verdict.TheVariants as verdict
use Rattle.byte_grammar.specs.Grammar.{judge}
use Rattle.update_record.specs.declared.fault.RecordFault.{RecordFault}
use Rattle.update_record.specs.declared.fault.RecordFault.TheVariants as fault
use Rattle.update_record.specs.Reading.{whole_record}

-- the verdict on the bytes of a record
abbrev pub judge_record : List ℕ → Verdict
judge_record bytes = judge 24576 whole_record 0 bytes

abbrev pub refused : ℕ → Reason → Verdict
refused p r = verdict.Refused (record { place = p; reason = r })

abbrev pub is_done : Verdict → Bool
is_done (verdict.Done end) = true
is_done _ = false

-- The fault is what the verdict on so many bytes says. Memory can run out only where the value is whole.
abbrev pub IsFault : RecordFault → ℕ → Verdict → Type 0
IsFault fault.Memory n v = is_done v ≡ true
IsFault (fault.BadMagic p) n v = v ≡ refused p reason.BadMagic
IsFault (fault.BadType p) n v = v ≡ refused p reason.BadType
IsFault (fault.BadCount p) n v = v ≡ refused p reason.BadCount
IsFault (fault.BadLength p) n v = v ≡ refused p reason.BadLength
IsFault (fault.BadPadding p) n v = v ≡ refused p reason.BadPadding
IsFault (fault.BadValue p) n v = v ≡ refused p reason.BadValue
IsFault (fault.TooLong p) n v = v ≡ refused p reason.TooLong
IsFault (fault.Truncated p) n v = (p ≡ n) × (v ≡ verdict.More)

-- The answer to bytes is the verdict on them: a value, and how many bytes spell it, or the fault.
abbrev pub Decodes : {V : Type 0} → (V → List ℕ → Type 0) → Verdict → List ℕ → Result (V × ℕ) RecordFault → Type 0
Decodes spells judged bytes (Ok (value, end)) = (judged ≡ verdict.Done end) × (end ≤ length bytes) × spells value (take end bytes)
Decodes spells judged bytes (Err e) = IsFault e (length bytes) judged
