-- What a stop and a start do to the disk of a target.
use Rattle.std.specs.Prelude.{◌≡◌, ℕ, false, IsTrue}
use Rattle.outside.specs.Causes.{Rose}
use Rattle.outside.specs.Disk.{Shown, IsImage, settles}
use Rattle.target_turns.specs.Touching.{Touches}

-- What a disk says of the calls that were made on it: that it was stopped and started from one moment to another,
-- and that it was armed so while it showed this. Nothing but those calls says so.
pub record Calls : Type 1 where
  pub cycled : Shown → Shown → Type 0
  pub armed : ℕ → ℕ → Shown → Type 0

abbrev pub calls_of : (Shown → Shown → Type 0) → (ℕ → ℕ → Shown → Type 0) → Calls
calls_of cycled armed = record { cycled = cycled; armed = armed }

module _ (calls : Calls) where
  -- an honest one then works, and has one of its images, all of it settled
  pub record Cycled (old new : Shown) : Type 0 where
    pub touches : Touches old new
    pub image : IsTrue old.honest → IsImage old.settled new.content
    pub settled : IsTrue old.honest → new.settled ≡ settles new.content
    pub works : IsTrue old.honest → new.failed ≡ false
    pub cycled : calls.cycled old new

  -- it couldn't be stopped and started
  pub record StaysOff (old new : Shown) : Type 0 where
    pub touches : Touches old new
    pub rose : Rose old.faults new.faults
    pub content : IsTrue old.honest → new.content ≡ old.content
    pub settled : IsTrue old.honest → new.settled ≡ old.settled
    pub cycled : calls.cycled old new
