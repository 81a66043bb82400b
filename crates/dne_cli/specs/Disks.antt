-- What a line of the scenario does to the disk of its target.
use Rattle.std.specs.Prelude.{◌≡◌, ◌≤◌, ◌⊎◌, ◌||◌, ℕ, Bool, true, false, IsTrue, length, List, [], ◌∷◌, Some, None, Ok, Err, if◌then◌else◌}
use Rattle.std.specs.List.{AllByRecursion}
use Rattle.outside.specs.Causes.{Rose}
use Rattle.outside.specs.Disk.{Shown, Stays, IsImage, settles}
use Rattle.target_disk.specs.Tables.{Saved, is_open, opened}
use Rattle.target_disk.specs.Open.{Reopens}
use Rattle.target_disk.specs.Store.{IsSettled}
use Rattle.scenario_text.specs.Spelling.{Entry, Skip, Order}
use Rattle.scenario_text.specs.Machine.{Group, Among}
use Rattle.scenario_text.specs.declared.command.Command.TheVariants as commands
use Rattle.scenario_text.specs.declared.line.Line.{Line}
use Rattle.scenario_text.specs.declared.line.Line.TheVariants as lines
use Rattle.dne_cli.specs.Image.{image_of, numbers_in}

-- a call on a disk leaves it the same disk, and its count doesn't fall
pub record Touches (old new : Shown) : Type 0 where
  pub stays : Stays old new
  pub later : old.faults ≤ new.faults

-- a disk that a call failed on
pub record Faulted (old new : Shown) : Type 0 where
  pub touches : Touches old new
  pub rose : Rose old.faults new.faults

abbrev pub first_saved : Saved
first_saved = record { generation = 1; bytes = image_of [] }

-- a disk that was formatted
pub record Formatted (old new : Shown) : Type 0 where
  pub touches : Touches old new
  pub settled : IsTrue old.honest → IsSettled new first_saved

-- WHAT BYTES HOLD

-- they open as an image with these numbers
abbrev pub HoldsNumbers : ℕ → List ℕ → List ℕ → Type 0
HoldsNumbers transno numbers content =
    (s : Saved) × (opened content ≡ Some s) × (numbers_in s.bytes ≡ Ok numbers) × (transno ≡ length numbers)

-- the gate, as a number
abbrev pub gates_of : List ℕ → ℕ
gates_of content = if is_open content then 1 else 0

-- they don't open, and this is the gate
abbrev pub HoldsNothing : ℕ → List ℕ → Type 0
HoldsNothing gates content = (opened content ≡ None) × (gates ≡ gates_of content)

-- they open as what is no image from this place on
abbrev pub HoldsBadImage : ℕ → List ℕ → Type 0
HoldsBadImage place content = (s : Saved) × (opened content ≡ Some s) × (numbers_in s.bytes ≡ Err place)

-- EACH LINE

abbrev pub is_crash : Entry → Bool
is_crash (Order (commands.Crash target)) = true
is_crash _ = false

-- a target stopped, and no `crash` asked for it
abbrev pub IsFailure : Group → Type 0
IsFailure g = (is_crash g.entry ≡ false) × ((target : ℕ) × Among g.lines (lines.Down target))

-- a cluster is made: its target's disk is formatted, or that failed
abbrev pub MakesDisk : List Line → Shown → Shown → Type 0
MakesDisk [] old new = Formatted old new
MakesDisk (l ∷ ls) old new = Faulted old new

abbrev pub is_up : Line → Bool
is_up (lines.Up target transno numbers) = true
is_up _ = false

abbrev pub says_up : List Line → Bool
says_up [] = false
says_up (l ∷ ls) = is_up l || says_up ls

abbrev pub says_nothing : List Line → Bool
says_nothing [] = true
says_nothing (l ∷ ls) = false

-- the disk was formatted: the cluster was made with it, or a restart brought its target up
abbrev pub makes : Entry → List Line → Bool
makes (Order (commands.Cluster targets)) ls = says_nothing ls
makes (Order (commands.Restart target)) ls = says_up ls
makes _ ls = false

abbrev pub made_by : Bool → Group → Bool
made_by made g = made || makes g.entry g.lines

abbrev pub made_all : Bool → List Group → Bool
made_all made [] = made
made_all made (g ∷ gs) = made_all (made_by made g) gs

-- STOPS AND STARTS, AND EACH TURN

-- What a disk says of the calls that were made on it: that it was stopped and started from one moment to
-- another, and that it was armed so while it showed this. Nothing but those calls says so.
pub record Calls : Type 1 where
  pub cycled : Shown → Shown → Type 0
  pub armed : ℕ → ℕ → Shown → Type 0

abbrev pub calls_of : (Shown → Shown → Type 0) → (ℕ → ℕ → Shown → Type 0) → Calls
calls_of cycled armed = record { cycled = cycled; armed = armed }

module _ (calls : Calls) where
  -- the disk was stopped and started: an honest one then works, and has one of its images, all of it settled
  pub record Cycled (old mid : Shown) : Type 0 where
    pub touches : Touches old mid
    pub image : IsTrue old.honest → IsImage old.settled mid.content
    pub settled : IsTrue old.honest → mid.settled ≡ settles mid.content
    pub works : IsTrue old.honest → mid.failed ≡ false
    pub cycled : calls.cycled old mid

  -- it couldn't be stopped and started
  pub record StaysOff (old new : Shown) : Type 0 where
    pub faulted : Faulted old new
    pub content : IsTrue old.honest → new.content ≡ old.content
    pub settled : IsTrue old.honest → new.settled ≡ old.settled
    pub cycled : calls.cycled old new

  -- it was stopped and started, and then opened; what was read is what it holds then, where it tells that
  abbrev pub ReadsAfterStop : (List ℕ → Type 0) → Shown → Shown → Type 0
  ReadsAfterStop P old new = (mid : Shown) × Cycled old mid × Reopens mid new × (IsTrue mid.tells → P mid.content)

  -- it couldn't be stopped and started, or a call of opening it failed after that
  abbrev pub FailsToRead : Shown → Shown → Type 0
  FailsToRead old new = StaysOff old new ⊎ ((mid : Shown) × Cycled old mid × Reopens mid new × Rose mid.faults new.faults)

  -- it was stopped and started, and then formatted
  abbrev pub FormatsAfterStop : Shown → Shown → Type 0
  FormatsAfterStop old new = (mid : Shown) × Cycled old mid × Formatted mid new

  abbrev pub FailsToFormat : Shown → Shown → Type 0
  FailsToFormat old new = StaysOff old new ⊎ ((mid : Shown) × Cycled old mid × Faulted mid new)

  -- a restart, by the line that it says: a disk that was formatted is read, another is formatted
  abbrev pub RestartsDisk : Bool → Line → Shown → Shown → Type 0
  RestartsDisk made (lines.State target standing) old new = new ≡ old
  RestartsDisk true (lines.Up target transno numbers) old new = ReadsAfterStop (HoldsNumbers transno numbers) old new
  RestartsDisk false (lines.Up target transno numbers) old new = (transno ≡ 0) × (numbers ≡ []) × FormatsAfterStop old new
  RestartsDisk true (lines.Down target) old new = FailsToRead old new
  RestartsDisk false (lines.Down target) old new = FailsToFormat old new
  RestartsDisk made (lines.DamagedGates target gates) old new = ReadsAfterStop (HoldsNothing gates) old new
  RestartsDisk made (lines.DamagedImage target place) old new = ReadsAfterStop (HoldsBadImage place) old new
  RestartsDisk made _ old new = ⊥

  -- what stands on the line does this to the disk, which was formatted or not
  abbrev pub DoesToDisk : Bool → Entry → List Line → Shown → Shown → Type 0
  DoesToDisk made (Skip line) ls old new = new ≡ old
  DoesToDisk made (Order (commands.Cluster targets)) ls old new = MakesDisk ls old new
  DoesToDisk made (Order (commands.Send r)) ls old new = new ≡ old
  DoesToDisk made (Order commands.Settle) ls old new = new ≡ old
  DoesToDisk made (Order commands.Tree) ls old new = new ≡ old
  DoesToDisk made (Order commands.End) ls old new = Unit {0}
  DoesToDisk made (Order (commands.Commit target)) ls old new = Unit {0}
  DoesToDisk made (Order (commands.Crash target)) ls old new = new ≡ old
  DoesToDisk made (Order (commands.Restart target)) ls old new = AllByRecursion (λ l. RestartsDisk made l old new) ls
  DoesToDisk made (Order (commands.Fuse target after choice)) ls old new = calls.armed after choice old × (new ≡ old)
  -- The others aren't played.
  DoesToDisk made (Order _) ls old new = ⊥

  -- It is the same disk after each group, its count doesn't fall, and rises where a target stopped that no
  -- `crash` asked for.
  pub record DiskTurn (made : Bool) (g : Group) (old new : Shown) : Type 0 where
    pub touches : Touches old new
    pub cause : IsFailure g → Rose old.faults new.faults
    pub does : DoesToDisk made g.entry g.lines old new

  -- from one disk to another, by what each group does
  abbrev pub Moves : Bool → Shown → List Group → Shown → Type 0
  Moves made old [] new = new ≡ old
  Moves made old (g ∷ gs) new = (mid : Shown) × DiskTurn made g old mid × Moves (made_by made g) mid gs new
