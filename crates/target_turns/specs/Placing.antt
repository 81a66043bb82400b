-- What contracts see of a target, whatever it does.
use Rattle.std.specs.Prelude.{◌≡◌, ℕ, true, false, [], Option, Some, None}
use Rattle.outside.specs.Disk.{Shown}
use Rattle.target_turns.specs.declared.target.Halted.{Halted}
use Rattle.target_turns.specs.declared.target.State.{State}
use Rattle.target_turns.specs.declared.target.State.TheVariants as state
use Rattle.target_turns.specs.Target.{Target, target_down, target_opened}
use Rattle.target_turns.specs.Seen.{served_of}

-- what stands where no target is
abbrev pub no_disk : Shown
no_disk = record { tells = false; honest = false; content = []; settled = []; failed = false; faults = 0; name = 0 }

abbrev pub target_as : {D : Type 0} → (D → Shown) → ℕ → ℕ → State D → Target
target_as shown targets index (state.Serving s) = served_of shown s
target_as shown targets index (state.Opened n) = target_opened targets index n.state (shown n.disk)
target_as shown targets index (state.Down h) = target_down targets index h.formatted (shown h.disk)

abbrev pub target_of : {D : Type 0} → (D → Shown) → ℕ → ℕ → Option (State D) → Target
target_of shown targets index None = target_down targets index false no_disk
target_of shown targets index (Some s) = target_as shown targets index s

-- it has its place in the cluster
abbrev pub IsPlacedAs : {D : Type 0} → ℕ → ℕ → State D → Type 0
IsPlacedAs targets index (state.Serving s) = (s.cluster ≡ targets) × (s.index ≡ index)
IsPlacedAs targets index (state.Opened n) = Unit {0}
IsPlacedAs targets index (state.Down h) = Unit {0}

abbrev pub IsPlaced : {D : Type 0} → ℕ → ℕ → Option (State D) → Type 0
IsPlaced targets index None = ⊥
IsPlaced targets index (Some s) = IsPlacedAs targets index s

-- what is left of one that stops
abbrev pub halted_of : {D : Type 0} → State D → Halted D
halted_of (state.Serving s) = record { disk = s.node.disk; formatted = true }
halted_of (state.Opened n) = record { disk = n.disk; formatted = true }
halted_of (state.Down h) = h
