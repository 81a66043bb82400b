-- What a decoder answers to a piece, and what it has then.
use Rattle.std.specs.Prelude.{◌≡◌, ℕ, ◌+◌, ◌≤◌, List, [], ◌++◌, length, take, Result, Ok, Err}
use Rattle.byte_grammar.specs.declared.verdict.Verdict.{Verdict}
use Rattle.byte_grammar.specs.declared.verdict.Verdict.TheVariants as verdict
use Rattle.byte_grammar.specs.declared.feeder.Fed.{Fed}
use Rattle.byte_grammar.specs.declared.feeder.Fed.TheVariants as fed
use Rattle.byte_grammar.specs.declared.feeder.FeedFault.{FeedFault}
use Rattle.byte_grammar.specs.declared.feeder.FeedFault.TheVariants as fault

-- The answer to a piece behind old bytes is the verdict on all bytes of the value so far, unless memory
-- ran out.
abbrev pub Answers : {V : Type 0} → (V → List ℕ → Type 0) → Verdict → List ℕ → List ℕ → Result (Fed V) FeedFault → Type 0
Answers spells all old piece (Ok fed.More) = all ≡ verdict.More
Answers spells all old piece (Ok (fed.Done value used)) = (all ≡ verdict.Done (length old + used)) × (used ≤ length piece) × spells value (old ++ take used piece)
Answers spells all old piece (Err fault.Memory) = Unit {0}
Answers spells all old piece (Err (fault.Refused refusal)) = all ≡ verdict.Refused refusal

-- The bytes that it has after the answer: one more piece, none behind a value, the same where memory ran
-- out, and after a fault bytes with that fault.
abbrev pub Leaves : {V : Type 0} → (List ℕ → Verdict) → List ℕ → List ℕ → Result (Fed V) FeedFault → List ℕ → Type 0
Leaves judged old piece (Ok fed.More) new = new ≡ old ++ piece
Leaves judged old piece (Ok (fed.Done value used)) new = new ≡ []
Leaves judged old piece (Err fault.Memory) new = new ≡ old
Leaves judged old piece (Err (fault.Refused refusal)) new = judged new ≡ verdict.Refused refusal
