-- A format: a spelling of each value that fits, a grammar that takes just these, and a way back.
use Rattle.std.specs.Prelude.{◌≡◌, ℕ, List, ◌++◌, length, Option, Some}
use Rattle.byte_grammar.specs.declared.verdict.Verdict.TheVariants.{Done}
use Rattle.byte_grammar.specs.Grammar.{Grammar, judge}
use Rattle.byte_grammar.specs.Numbers.{IsBytes}

pub record IsFormat {V : Type 0} (limit : ℕ) (Fits : V → Type 0) (text : V → List ℕ) (whole : Grammar) (value : List ℕ → Option V) : Type 0 where
  -- a spelling is taken, whatever follows
  pub again : (v : V) (rest : List ℕ) → Fits v → judge limit whole 0 (text v ++ rest) ≡ Done (length (text v))
  -- what is taken is a spelling
  pub takes : (xs : List ℕ) (e : ℕ) → IsBytes xs → judge limit whole 0 xs ≡ Done e → (v : V) × Fits v × (rest : List ℕ) × (xs ≡ text v ++ rest) × (e ≡ length (text v))
  -- its value is found
  pub back : (v : V) (rest : List ℕ) → Fits v → value (text v ++ rest) ≡ Some v
