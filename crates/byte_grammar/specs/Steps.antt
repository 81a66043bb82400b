-- One step of a reader that stands somewhere in a grammar, and what a reader of pieces knows.
use Rattle.std.specs.Prelude.{◌≡◌, ℕ, ◌+◌, ◌<◌, ◌≤◌, List, [], ◌++◌, length, drop, Option, Some, None, Result, Ok, Err, IfSome}
use Rattle.byte_grammar.specs.declared.verdict.Refusal.{Refusal}
use Rattle.byte_grammar.specs.declared.verdict.Verdict.TheVariants.{More, Refused}
use Rattle.byte_grammar.specs.Grammar.{Grammar, judge}
use Rattle.byte_grammar.specs.Grammar.Grammar.{Ends, Refuses, Field}

-- the width of the next field
abbrev pub width_at : Grammar → Option ℕ
width_at Ends = None
width_at (Refuses refusal) = Some 0
width_at (Field width next) = Some width

-- what may come behind it
abbrev pub next_at : Grammar → ℕ → List ℕ → Grammar
next_at Ends place bytes = Ends
next_at (Refuses refusal) place bytes = Refuses refusal
next_at (Field width next) place bytes = next place bytes

-- a position that stands for the next grammar, or its fault
abbrev pub StepsTo : {P : Type 0} → (P → Grammar) → Result P Refusal → Grammar → Type 0
StepsTo grammar (Ok position) next = grammar position ≡ next
StepsTo grammar (Err refusal) next = next ≡ Refuses refusal

-- before any byte a field is to come
abbrev pub Begins : ℕ → Grammar → Type 0
Begins limit whole = judge limit whole 0 [] ≡ More

-- What a decoder that has these bytes of a value knows: up to a place they were read, and whatever
-- comes is judged on from there; before so many wanted bytes no field is complete; or they were refused.
pub record IsFed (limit : ℕ) (whole : Grammar) (now : Grammar) (place : ℕ) (bytes : List ℕ) (wanted : ℕ) (refused : Option Refusal) : Type 0 where
  pub in_bytes : place ≤ length bytes
  pub in_limit : length bytes ≤ limit
  pub going : refused ≡ None → (more : List ℕ) → judge limit whole 0 (bytes ++ more) ≡ judge limit now place (drop place bytes ++ more)
  pub unsettled : refused ≡ None → judge limit whole 0 bytes ≡ More
  pub stopped : IfSome refused (λ r. judge limit whole 0 bytes ≡ Refused r)
  pub waits : (more : List ℕ) → length bytes + length more < wanted → judge limit whole 0 (bytes ++ more) ≡ More
