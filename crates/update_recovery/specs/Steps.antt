-- A step that is made at one target after another.
use Rattle.std.specs.Prelude.{◌≡◌, ◌⊎◌, ℕ, ◌+◌, ◌<◌, ◌≤◌, List, [], ◌∷◌, ◌++◌, length, slice_get, Some, Result, Err, ⊤}
use Rattle.update_recovery.specs.declared.halt.Halt.{Halt}
use Rattle.update_recovery.specs.declared.halt.Halt.TheVariants as halt

module _ {X : Type 0} where
  -- the targets below a place have made the step, each by its place, and the others are as they were
  pub record HasCome (Does : ℕ → X → X → Type 0) (place : ℕ) (old new : List X) : Type 0 where
    pub long : length new ≡ length old
    pub before : (k : ℕ) (o : X) → k < place → slice_get old k ≡ Some o → (n : X) × (slice_get new k ≡ Some n) × Does k o n
    pub after : (k : ℕ) → place ≤ k → slice_get new k ≡ slice_get old k

  -- all have made it
  abbrev pub AllCame : (ℕ → X → X → Type 0) → List X → List X → Type 0
  AllCame Does old new = HasCome Does (length old) old new

  -- those below a place have made it, it failed at the one there, and the others are as they were
  pub record HasStopped (Does Fails : ℕ → X → X → Type 0) (place : ℕ) (old new : List X) : Type 0 where
    pub long : length new ≡ length old
    pub low : place < length old
    pub before : (k : ℕ) (o : X) → k < place → slice_get old k ≡ Some o → (n : X) × (slice_get new k ≡ Some n) × Does k o n
    pub here : (o : X) → slice_get old place ≡ Some o → (n : X) × (slice_get new place ≡ Some n) × Fails place o n
    pub after : (k : ℕ) → place < k → slice_get new k ≡ slice_get old k

  -- each has made it, or is so far as it was
  pub record HasLost (Does Keeps : ℕ → X → X → Type 0) (old new : List X) : Type 0 where
    pub long : length new ≡ length old
    pub each : (k : ℕ) (o : X) → slice_get old k ≡ Some o → (n : X) × (slice_get new k ≡ Some n) × (Does k o n ⊎ Keeps k o n)

-- what is told of each, by its place, from one on
abbrev pub told_from : {X Y : Type 0} → (ℕ → X → List Y) → ℕ → List X → List Y
told_from tells place [] = []
told_from tells place (x ∷ xs) = tells place x ++ told_from tells (place + 1) xs

-- a target's numbers, if there are any
abbrev pub told : ℕ → List ℕ → List (ℕ × List ℕ)
told target [] = []
told target (n ∷ ns) = (target, n ∷ ns) ∷ []

-- where the disk of a target failed
abbrev pub WhereHalted : {T : Type 0} → Result T Halt → (ℕ → Type 0) → Type 0
WhereHalted (Err (halt.Disk place)) is = is place
WhereHalted _ is = ⊤

-- where memory was missing
abbrev pub WhereLost : {T : Type 0} → Result T Halt → Type 0 → Type 0
WhereLost (Err halt.Memory) is = is
WhereLost _ is = ⊤
