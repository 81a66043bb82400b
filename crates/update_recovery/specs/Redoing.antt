-- What a recovery does again at a target.
use Rattle.std.specs.Prelude.{◌≡◌, ℕ, if◌then◌else◌, List, [], ◌∷◌, map, Option, Some, None}
use Rattle.std.specs.List.{flat_map}
use Rattle.outside.specs.Disk.{Shown}
use Rattle.out_update.specs.declared.update.Update.{Update}
use Rattle.update_record.specs.declared.operation.Record.{Record}
use Rattle.update_record.specs.Spelling.{part_for}
use Rattle.update_record.specs.Values.{record_value}
use Rattle.target_state.specs.State.{TargetState}
use Rattle.target_state.specs.Commit.{packed, committed}
use Rattle.target_state.specs.Rules.{after_redo}
use Rattle.target_node.specs.Node.{NodeState}
use Rattle.update_recovery.specs.declared.found.Found.{Found}
use Rattle.update_recovery.specs.Disks.{Commits, Breaks}
use Rattle.update_recovery.specs.Steps.{told}
use Rattle.update_recovery.specs.Union.{is_logged}

-- records are done again, one after another
abbrev pub all_redone : TargetState → List Record → TargetState
all_redone s [] = s
all_redone s (r ∷ rs) = all_redone (after_redo s r) rs

abbrev pub where_part : Record → Option (List Update) → List Record
where_part r None = []
where_part r (Some us) = r ∷ []

-- a record, where it names the target
abbrev pub naming : ℕ → Option Record → List Record
naming index None = []
naming index (Some r) = where_part r (part_for index r.parts)

-- one of the union, where it names the target and the log lacks it
abbrev pub lacking_of : ℕ → List ℕ → ℕ → TargetState → Found → List Record
lacking_of epoch marks index s k = if is_logged epoch marks k s then [] else naming index (record_value k.text.items)

-- those of the union that name the target and that its log lacks, in their order
abbrev pub lacking : ℕ → List ℕ → ℕ → TargetState → List Found → List Record
lacking epoch marks index s ks = flat_map (lacking_of epoch marks index s) ks

abbrev pub numbers_of : List Record → List ℕ
numbers_of rs = map (λ (r : Record). r.number) rs

-- what lacked nothing stays as it is; what was done again is committed
abbrev pub Redoes : {D : Type 0} → (D → Shown) → List Record → NodeState D → NodeState D → Type 0
Redoes shown [] old new = new ≡ old
Redoes shown (r ∷ rs) old new = (new.state ≡ committed (all_redone old.state (r ∷ rs))) × Commits (shown old.disk) (shown new.disk) (packed (all_redone old.state (r ∷ rs)))

-- at the target of a place
abbrev pub RedoesAt : {D : Type 0} → (D → Shown) → ℕ → List ℕ → List Found → ℕ → NodeState D → NodeState D → Type 0
RedoesAt shown epoch marks ks place old new = Redoes shown (lacking epoch marks place old.state ks) old new

-- a call of its disk failed in that
abbrev pub BreaksRedoing : {D : Type 0} → (D → Shown) → ℕ → List ℕ → List Found → ℕ → NodeState D → NodeState D → Type 0
BreaksRedoing shown epoch marks ks place old new = Breaks (shown old.disk) (shown new.disk) (packed (all_redone old.state (lacking epoch marks place old.state ks)))

-- its disk is as it was
abbrev pub KeepsDisk : {D : Type 0} → ℕ → NodeState D → NodeState D → Type 0
KeepsDisk place old new = new.disk ≡ old.disk

-- the numbers that are told of a target
abbrev pub redone_at : {D : Type 0} → ℕ → List ℕ → List Found → ℕ → NodeState D → List (ℕ × List ℕ)
redone_at epoch marks ks place n = told place (numbers_of (lacking epoch marks place n.state ks))
