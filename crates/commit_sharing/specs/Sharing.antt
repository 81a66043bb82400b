-- Which target has to commit before an operation is accepted.
use Rattle.std.specs.Prelude.{◌≡◌, ℕ, ◌==◌, false, if◌then◌else◌, List, [], ◌∷◌, ◌++◌, Option, Some, None}
use Rattle.std.specs.List.{AllByRecursion}
use Rattle.fid_space.specs.Targets.{covers}
use Rattle.commit_sharing.specs.declared.sharing.Seen.{Seen}

-- the writer, where it isn't on each of the targets
abbrev pub uncovered : Option (ℕ × ℕ) → ℕ → Option ℕ
uncovered None on = None
uncovered (Some w) on = if covers w.1 on then None else Some w.0

-- the writer of an object that was seen at the target, where it isn't on each of the targets
abbrev pub asked : Seen → ℕ → ℕ → Option ℕ
asked s on target = if s.target == target then uncovered s.writer on else None

abbrev pub or_else : Option ℕ → Option ℕ → Option ℕ
or_else None more = more
or_else (Some n) more = Some n

-- the first of them, by the objects seen
abbrev pub must_sync : List Seen → ℕ → ℕ → Option ℕ
must_sync [] on target = None
must_sync (s ∷ ss) on target = or_else (asked s on target) (must_sync ss on target)

-- an object was seen at the target whose last writer has this number and isn't on each of the targets
abbrev pub Asks : Seen → ℕ → ℕ → ℕ → Type 0
Asks s on target n = (w : ℕ) × (s.target ≡ target) × (s.writer ≡ Some (n, w)) × (covers w on ≡ false)

-- of no object that was seen
abbrev pub AskNone : List Seen → ℕ → ℕ → Type 0
AskNone reads on target = AllByRecursion (λ s. (n : ℕ) → Asks s on target n → ⊥) reads

-- a number is that of the first object seen that asks for a commit; none, where none asks
abbrev pub IsFirst : List Seen → ℕ → ℕ → Option ℕ → Type 0
IsFirst reads on target None = AskNone reads on target
IsFirst reads on target (Some n) =
    (before : List Seen) × (s : Seen) × (after : List Seen) × (reads ≡ before ++ s ∷ after) × AskNone before on target × Asks s on target n

abbrev pub SyncsAreFirst : Type 0
SyncsAreFirst = (reads : List Seen) (on target : ℕ) → IsFirst reads on target (must_sync reads on target)
