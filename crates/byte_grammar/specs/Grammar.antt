-- How the bytes of a value are read: one field after another, from the left.
use Rattle.std.specs.Prelude.{◌≡◌, Bool, true, ℕ, ◌+◌, nat_lt, if◌then◌else◌, List, length, take, drop}
use Rattle.byte_grammar.specs.declared.verdict.Reason.{Reason}
use Rattle.byte_grammar.specs.declared.verdict.Reason.TheVariants.{TooLong}
use Rattle.byte_grammar.specs.declared.verdict.Refusal.{Refusal}
use Rattle.byte_grammar.specs.declared.verdict.Verdict.{Verdict}
use Rattle.byte_grammar.specs.declared.verdict.Verdict.TheVariants.{More, Done, Refused}

-- What may come next: nothing, a fault, or a field of so many bytes, which leads on by its place and
-- its bytes.
pub data Grammar : Type 0 where
  Ends : Grammar
  Refuses : (refusal : Refusal) → Grammar
  Field : (width : ℕ) (next : ℕ → List ℕ → Grammar) → Grammar

-- What bytes are that stand at a place. Each field is judged as soon as its bytes are there. One whose
-- end would pass the limit can't stand, and is judged before its bytes come.
unfoldable pub judge : ℕ → Grammar → ℕ → List ℕ → Verdict
judge limit Ends place bytes = Done place
judge limit (Refuses refusal) place bytes = Refused refusal
judge limit (Field width next) place bytes =
    if nat_lt limit (place + width) then Refused (record { place = place; reason = TooLong })
    else (if nat_lt (length bytes) width then More else judge limit (next place (take width bytes)) (place + width) (drop width bytes))

-- what has come is enough to tell
abbrev pub IsSettled : Verdict → Type 0
IsSettled More = ⊥
IsSettled (Done used) = Unit {0}
IsSettled (Refused refusal) = Unit {0}

-- each refusal in the grammar has one of these reasons
unfoldable pub Only : (Reason → Bool) → Grammar → Type 0
Only names Ends = Unit {0}
Only names (Refuses refusal) = names refusal.reason ≡ true
Only names (Field width next) = (place : ℕ) (bytes : List ℕ) → Only names (next place bytes)
