-- What is done again at a target.
use Rattle.std.proofs.Common.{◌≡◌, ◌<◌, List, [], ◌∷◌, length, ap, ap₂, subst, ◌∙◌, arith}
use Rattle.outside.specs.Disk.{Shown}
use Rattle.update_record.specs.declared.operation.Record.{Record}
use Rattle.target_state.specs.State.{TargetState}
use Rattle.target_state.specs.Commit.{packed, committed}
use Rattle.target_node.specs.Node.{NodeState}
use Rattle.update_recovery.specs.Disks.{Commits}
use Rattle.update_recovery.specs.Redoing.{all_redone, numbers_of, Redoes}

pub redone_some : {D : Type 0} (shown : D → Shown) (rs : List Record) (old new : NodeState D) (mid : TargetState) (disk : D) → 0 < length (numbers_of rs) → mid ≡ all_redone old.state rs → disk ≡ old.disk
    → new.state ≡ committed mid → Commits (shown disk) (shown new.disk) (packed mid) → Redoes shown rs old new
redone_some shown [] old new mid disk low redone same state commits = absurd (omega (arith, low))
redone_some {D} shown (r ∷ rs) old new mid disk low redone same state commits =
    (state ∙ ap (λ (s : TargetState). committed s) redone, subst (λ (s : TargetState). Commits (shown old.disk) (shown new.disk) (packed s)) redone (subst (λ (d : D). Commits (shown d) (shown new.disk) (packed mid)) same commits))

pub redone_none : {D : Type 0} (shown : D → Shown) (rs : List Record) (old new : NodeState D) → length (numbers_of rs) ≡ 0 → new.state ≡ all_redone old.state rs → new.disk ≡ old.disk → Redoes shown rs old new
redone_none {D} shown [] old new none state disk = ap₂ (λ (s : TargetState) (d : D). record { state = s; disk = d }) state disk
redone_none shown (r ∷ rs) old new none state disk = absurd (omega (arith, none))
