-- Counts of faults, and what a call may answer by them.
use Rattle.std.specs.Prelude.{ℕ, ◌≡◌, ◌+◌, ◌-◌, ◌^◌, ◌≤◌, min, Result, OnErr, MatchResult}

-- the count after one more, which stops at the last value of its type
abbrev pub one_more : ℕ → ℕ
one_more count = min (count + 1) (2 ^ 64 - 1)

-- the count went up, or stands at the last value of its type
abbrev pub Rose : ℕ → ℕ → Type 0
Rose before now = one_more before ≤ now

-- a count never falls, and a failure comes only where it rose
pub record HasCause {T E : Type 0} (before now : ℕ) (result : Result T E) : Type 0 where
  pub later : before ≤ now
  pub failed : OnErr result (Rose before now)

-- a failure is counted once, and nothing else is
abbrev pub CountsFailure : {T E : Type 0} → ℕ → ℕ → Result T E → Type 0
CountsFailure before now result = MatchResult result (λ _. now ≡ before) (λ _. now ≡ one_more before)
