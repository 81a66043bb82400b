-- The refusal of bytes of which a verdict is known.
use Rattle.std.specs.Prelude.{◌≡◌, ℕ, List, codes}
use Rattle.byte_grammar.specs.declared.verdict.Reason.{Reason}
use Rattle.byte_grammar.specs.declared.verdict.Reason.TheVariants as reason
use Rattle.byte_grammar.specs.declared.verdict.Verdict.{Verdict}
use Rattle.byte_grammar.specs.declared.verdict.Verdict.TheVariants as verdict
use Rattle.decode_mode.specs.Lines.{place_line}

abbrev pub reason_word : Reason → List ℕ
reason_word reason.BadMagic = codes "BadMagic"
reason_word reason.BadType = codes "BadType"
reason_word reason.BadCount = codes "BadCount"
reason_word reason.BadLength = codes "BadLength"
reason_word reason.BadPadding = codes "BadPadding"
reason_word reason.BadValue = codes "BadValue"
reason_word reason.TooLong = codes "TooLong"
reason_word reason.BadIndex = codes "BadIndex"
reason_word reason.BadTail = codes "BadTail"
reason_word reason.BadBitmap = codes "BadBitmap"

-- The refusal of so many bytes, by the verdict on them: the first field that can't stand, or the end inside
-- a value.
abbrev pub RefusesBy : Verdict → ℕ → List ℕ → Type 0
RefusesBy verdict.More len text = text ≡ place_line len (codes "Truncated")
RefusesBy (verdict.Refused refusal) len text = text ≡ place_line refusal.place (reason_word refusal.reason)
RefusesBy (verdict.Done used) len text = ⊥
