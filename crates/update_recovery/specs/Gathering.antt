-- What a recovery begins with at a target.
use Rattle.std.specs.Prelude.{◌≡◌, ℕ, Bool, true, false, List, [], ◌∷◌, if◌then◌else◌, ◌==◌}
use Rattle.outside.specs.Disk.{Shown}
use Rattle.target_state.specs.Commit.{packed, committed, numbers_of, is_empty}
use Rattle.target_state.specs.Rules.{forgotten}
use Rattle.target_node.specs.Node.{NodeState}
use Rattle.update_recovery.specs.declared.standing.Standing.{Standing}
use Rattle.update_recovery.specs.declared.standing.Standing.TheVariants as standing
use Rattle.update_recovery.specs.Disks.{Commits, Breaks}

abbrev pub is_down : {D : Type 0} → Standing D → Bool
is_down (standing.Down d) = true
is_down _ = false

-- a target is committed
abbrev pub CommitsNode : {D : Type 0} → (D → Shown) → NodeState D → NodeState D → Type 0
CommitsNode shown o n = (n.state ≡ committed o.state) × Commits (shown o.disk) (shown n.disk) (packed o.state)

-- a call of its disk failed in that
abbrev pub BreaksNode : {D : Type 0} → (D → Shown) → NodeState D → NodeState D → Type 0
BreaksNode shown o n = Breaks (shown o.disk) (shown n.disk) (packed o.state)

-- one that was opened is committed unless it is idle
abbrev pub GathersOpened : {D : Type 0} → (D → Shown) → Bool → NodeState D → NodeState D → Type 0
GathersOpened shown true o n = n ≡ o
GathersOpened shown false o n = CommitsNode shown o n

abbrev pub BreaksOpened : {D : Type 0} → (D → Shown) → Bool → NodeState D → NodeState D → Type 0
BreaksOpened shown true o n = ⊥
BreaksOpened shown false o n = BreaksNode shown o n

-- One that served is committed, and so is one that was opened and has what waits to be committed, as an earlier
-- recovery left it. Another stays as it is.
abbrev pub Gathers : {D : Type 0} → (D → Shown) → ℕ → Standing D → Standing D → Type 0
Gathers shown place (standing.Serving o) (standing.Serving n) = CommitsNode shown o n
Gathers shown place (standing.Opened o) (standing.Opened n) = GathersOpened shown (is_empty o.state.waiting) o n
Gathers shown place (standing.Down o) (standing.Down n) = n ≡ o
Gathers shown place _ _ = ⊥

-- a call of its disk failed in that
abbrev pub BreaksGathering : {D : Type 0} → (D → Shown) → ℕ → Standing D → Standing D → Type 0
BreaksGathering shown place (standing.Serving o) (standing.Serving n) = BreaksNode shown o n
BreaksGathering shown place (standing.Opened o) (standing.Opened n) = BreaksOpened shown (is_empty o.state.waiting) o n
BreaksGathering shown place _ _ = ⊥

abbrev pub KeepsAll : {D : Type 0} → ℕ → Standing D → Standing D → Type 0
KeepsAll place o n = n ≡ o

-- the numbers that became stable at a target
abbrev pub stable_of : {D : Type 0} → ℕ → NodeState D → List (ℕ × List ℕ)
stable_of place n = (place, numbers_of n.state.waiting) ∷ []

-- what is told of a target: of one that was committed, the numbers that became stable
abbrev pub stable_at : {D : Type 0} → ℕ → Standing D → List (ℕ × List ℕ)
stable_at place (standing.Serving n) = stable_of place n
stable_at place (standing.Opened n) = if is_empty n.state.waiting then [] else stable_of place n
stable_at place (standing.Down d) = []

-- no one holds it, and no attempt has ended there
abbrev pub stops : {D : Type 0} → NodeState D → NodeState D
stops n = record { state = forgotten n.state; disk = n.disk }

-- the node of a target that isn't down, which has stopped to serve
abbrev pub nodes_in : {D : Type 0} → Standing D → List (NodeState D)
nodes_in (standing.Serving n) = stops n ∷ []
nodes_in (standing.Opened n) = stops n ∷ []
nodes_in (standing.Down d) = []

-- the target at a place is down, and another is opened
abbrev pub stopped_at : {D : Type 0} → ℕ → ℕ → NodeState D → List (Standing D)
stopped_at down place n = (if place == down then standing.Down n.disk else standing.Opened n) ∷ []
