-- How a target begins and ends: a cluster is made with it, it is stopped, and started again from its disk.
use Rattle.std.specs.Prelude.{◌≡◌, ◌⊎◌, ℕ, Bool, true, false, if◌then◌else◌, [], ◌∷◌}
use Rattle.outside.specs.Disk.{Shown}
use Rattle.target_disk.specs.Open.{Formats, StaysSettled}
use Rattle.target_state.specs.State.{first_state}
use Rattle.target_state.specs.Image.{state_text}
use Rattle.target_node.specs.declared.fault.NodeDown.TheVariants as unformatted
use Rattle.target_node.specs.declared.fault.NodeOpenFault.TheVariants as unopened
use Rattle.target_node.specs.Node.{FailsToFormat}
use Rattle.target_node.specs.Opening.{OpensAsNode, FailsToOpenNode}
use Rattle.update_coordinator.specs.Coordinating.{first_coordinating}
use Rattle.scenario_text.specs.declared.line.Line.{Line}
use Rattle.scenario_text.specs.declared.line.Line.TheVariants as lines
use Rattle.scenario_text.specs.declared.line.Standing.{Standing}
use Rattle.scenario_text.specs.declared.line.Standing.TheVariants as standing
use Rattle.target_turns.specs.Target.{Target, Turned, says, target_down, target_opened, target_up}
use Rattle.target_turns.specs.Disks.{Calls, Cycled, StaysOff}
use Rattle.target_turns.specs.Showing.{held_numbers, is_down}

-- ---- a cluster is made

-- one that serves after a formatting
abbrev pub founded : ℕ → ℕ → Shown → Target
founded targets index disk = target_up targets index (first_state targets index) (first_coordinating targets index 1) 0 disk

-- a disk was formatted as that of a target of so many, and it serves then, or the disk failed
abbrev pub FoundsAs : ℕ → ℕ → Shown → Target → Standing → Type 0
FoundsAs targets index disk new standing.Serving = (new ≡ founded targets index new.disk) × Formats disk new.disk (state_text (first_state targets index))
FoundsAs targets index disk new standing.Down = (new ≡ target_down targets index false new.disk) × FailsToFormat (λ d. d) disk (unformatted.Disk new.disk)
FoundsAs targets index disk new standing.Opened = ⊥

abbrev pub FoundsOn : ℕ → ℕ → Shown → Target → Type 0
FoundsOn targets index disk new = FoundsAs targets index disk new new.standing

abbrev pub Founds : Target → Target → Type 0
Founds old new = FoundsOn old.targets old.index old.disk new

-- ---- it is stopped

abbrev pub stopped : Target → Target
stopped t = target_down t.targets t.index t.formatted t.disk

abbrev pub crashes : Target → Turned
crashes t = if is_down t.standing then says t (lines.State t.index t.standing ∷ []) else says (stopped t) (lines.Down t.index ∷ [])

-- ---- it is started again

-- one that was opened says which requests its log holds
abbrev pub says_up : Target → Line
says_up t = lines.Up t.index t.node.transno (held_numbers t.node)

-- A disk that was started is opened, as that of a target of so many. By the line: what it becomes, and what was read.
abbrev pub Opens : ℕ → ℕ → Shown → Line → Target → Type 0
Opens targets index disk (lines.Up i transno numbers) new =
    (new ≡ target_opened targets index new.node new.disk) × (lines.Up i transno numbers ≡ says_up new) × OpensAsNode targets index disk new.disk new.node × StaysSettled disk new.disk
Opens targets index disk (lines.Down i) new =
    (new ≡ target_down targets index true new.disk) × (i ≡ index) × FailsToOpenNode (λ d. d) targets index disk (unopened.Disk new.disk)
Opens targets index disk (lines.DamagedGates i gates) new =
    (new ≡ target_down targets index true new.disk) × (i ≡ index) × FailsToOpenNode (λ d. d) targets index disk (unopened.Damaged new.disk gates)
Opens targets index disk (lines.DamagedImage i place) new =
    (new ≡ target_down targets index true new.disk) × (i ≡ index) × FailsToOpenNode (λ d. d) targets index disk (unopened.BadImage new.disk place)
Opens targets index disk _ new = ⊥

-- A disk that was started, and whose formatting had failed, is formatted again.
abbrev pub Reformats : ℕ → ℕ → Shown → Line → Target → Type 0
Reformats targets index disk (lines.Up i transno numbers) new =
    (new ≡ target_opened targets index (first_state targets index) new.disk) × (lines.Up i transno numbers ≡ says_up new) × Formats disk new.disk (state_text (first_state targets index))
Reformats targets index disk (lines.Down i) new =
    (new ≡ target_down targets index false new.disk) × (i ≡ index) × FailsToFormat (λ d. d) disk (unformatted.Disk new.disk)
Reformats targets index disk _ new = ⊥

abbrev pub Begins : Bool → ℕ → ℕ → Shown → Line → Target → Type 0
Begins true = Opens
Begins false = Reformats

module _ (calls : Calls) where
  -- its disk couldn't be stopped and started
  pub record IsOff (old : Target) (line : Line) (new : Target) : Type 0 where
    pub line_is : line ≡ lines.Down old.index
    pub after : new ≡ target_down old.targets old.index old.formatted new.disk
    pub disk : StaysOff calls old.disk new.disk

  -- its disk was stopped and started, and showed this then
  pub record Starts (old : Target) (line : Line) (new : Target) : Type 0 where
    pub disk : Shown
    pub cycled : Cycled calls old.disk disk
    pub begins : Begins old.formatted old.targets old.index disk line new

  -- one that isn't down stays as it is
  abbrev pub RestartsBy : Bool → Target → Line → Target → Type 0
  RestartsBy true old line new = IsOff old line new ⊎ Starts old line new
  RestartsBy false old line new = (new ≡ old) × (line ≡ lines.State old.index old.standing)

  abbrev pub Restarts : Target → Line → Target → Type 0
  Restarts old line new = RestartsBy (is_down old.standing) old line new
