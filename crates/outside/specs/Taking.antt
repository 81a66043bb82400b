-- What is answered to a reading of all that a source has.
use Rattle.std.specs.Prelude.{◌≡◌, ◌<◌, ◌≤◌, ℕ, List, length, Result, Ok, Err, Vec}
use Rattle.std.specs.declared.alloc.Global.{Global}
use Rattle.outside.specs.declared.take.TakeFault.{TakeFault}
use Rattle.outside.specs.declared.take.TakeFault.TheVariants.{Memory, Source, TooMuch}

-- The bytes that were read: all of them, at most so many, or already more. Ended says that the source is
-- at its end.
abbrev pub Took : ℕ → Type 0 → Result (Vec ℕ Global) TakeFault → List ℕ → Type 0
Took limit Ended (Ok bytes) read = (bytes.items ≡ read) × Ended × (length read ≤ limit)
Took limit Ended (Err TooMuch) read = limit < length read
Took limit Ended (Err Memory) read = Unit {0}
Took limit Ended (Err Source) read = Unit {0}
