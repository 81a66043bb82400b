use Rattle.std.proofs.Common.{◌≡◌, ◌++◌, take, false}
use Rattle.std.specs.List.{list_any}
use Rattle.update_recovery.specs.Steps.{HasCome, told_from}
use Rattle.update_recovery.specs.Gathering.{is_down, Gathers, stable_at}
use Rattle.update_recovery.proofs.gathering.gather_all.Given as goal

abbrev pub invariant-loop-place : goal.invariant-loop-place
invariant-loop-place g l =
    HasCome (Gathers g.D.Disk.shown) l.place l.fn.targets l.targets
    × (l.stable ≡ l.fn.stable ++ told_from stable_at 0 (take l.place l.fn.targets))
    × (list_any is_down l.fn.targets ≡ false → list_any is_down l.targets ≡ false)
