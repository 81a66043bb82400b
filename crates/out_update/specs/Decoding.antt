-- What the decoders answer to a piece, and what they have then.
use Rattle.std.specs.Prelude.{◌≡◌, ℕ, ◌+◌, ◌≤◌, Bool, true, false, List, [], ◌++◌, length, take, Result, Ok, Err}
use Rattle.byte_grammar.specs.declared.verdict.Reason.{Reason}
use Rattle.byte_grammar.specs.declared.verdict.Reason.TheVariants as reason
use Rattle.byte_grammar.specs.declared.verdict.Verdict.{Verdict}
use Rattle.byte_grammar.specs.declared.verdict.Verdict.TheVariants as verdict
use Rattle.byte_grammar.specs.declared.feeder.Fed.{Fed}
use Rattle.byte_grammar.specs.declared.feeder.Fed.TheVariants as progress
use Rattle.byte_grammar.specs.Grammar.{judge}
use Rattle.out_update.specs.declared.fault.UpdateFault.{UpdateFault}
use Rattle.out_update.specs.declared.fault.UpdateFault.TheVariants as fault
use Rattle.out_update.specs.Reading.{request}
use Rattle.out_update.specs.Replies.{reply}

-- the verdict on the bytes of a request
abbrev pub judge_request : List ℕ → Verdict
judge_request bytes = judge 24576 request 0 bytes

-- and of a reply
abbrev pub judge_reply : List ℕ → Verdict
judge_reply bytes = judge 24576 reply 0 bytes

-- the reasons that the two formats know
abbrev pub is_update_reason : Reason → Bool
is_update_reason reason.BadIndex = false
is_update_reason reason.BadTail = false
is_update_reason reason.BadBitmap = false
is_update_reason _ = true

abbrev pub refused : ℕ → Reason → Verdict
refused p r = verdict.Refused (record { place = p; reason = r })

-- The fault is what the verdict says. Memory can run out under each.
abbrev pub IsFault : UpdateFault → Verdict → Type 0
IsFault fault.Memory v = Unit {0}
IsFault (fault.BadMagic p) v = v ≡ refused p reason.BadMagic
IsFault (fault.BadType p) v = v ≡ refused p reason.BadType
IsFault (fault.BadCount p) v = v ≡ refused p reason.BadCount
IsFault (fault.BadLength p) v = v ≡ refused p reason.BadLength
IsFault (fault.BadPadding p) v = v ≡ refused p reason.BadPadding
IsFault (fault.BadValue p) v = v ≡ refused p reason.BadValue
IsFault (fault.TooLong p) v = v ≡ refused p reason.TooLong

-- The answer to a piece behind old bytes is the verdict on all bytes of the value so far.
abbrev pub Tells : {V : Type 0} → (V → List ℕ → Type 0) → Verdict → List ℕ → List ℕ → Result (Fed V) UpdateFault → Type 0
Tells spells all old piece (Ok progress.More) = all ≡ verdict.More
Tells spells all old piece (Ok (progress.Done value used)) = (all ≡ verdict.Done (length old + used)) × (used ≤ length piece) × spells value (old ++ take used piece)
Tells spells all old piece (Err e) = IsFault e all

-- What the decoder has then: one more piece, none behind a value, the same where memory ran out, and after
-- a fault bytes with that fault.
abbrev pub Keeps : {V : Type 0} → (List ℕ → Verdict) → List ℕ → List ℕ → Result (Fed V) UpdateFault → List ℕ → Type 0
Keeps judged old piece (Ok progress.More) new = new ≡ old ++ piece
Keeps judged old piece (Ok (progress.Done value used)) new = new ≡ []
Keeps judged old piece (Err fault.Memory) new = new ≡ old
Keeps judged old piece (Err e) new = IsFault e (judged new)
