-- The target of a session, and how many requests it may have.
use Rattle.std.specs.Prelude.{◌+◌, ℕ, Bool, true, false, List, [], ◌∷◌, Option, Some, None}
use Rattle.outside.specs.Disk.{Shown}
use Rattle.dne_cli.specs.Kept.{Held, Ledger, stopped}
use Rattle.dne_cli.specs.Restart.{held_of}
use Rattle.dne_cli.specs.declared.target.Target.{Target}

abbrev pub no_disk : Shown
no_disk = record { tells = false; honest = false; content = []; settled = []; failed = false; faults = 0; name = 0 }

-- the target, which is there but within a call
abbrev pub target_of : {D : Type 0} → (D → Shown) → Option (Target D) → Held
target_of shown None = stopped false no_disk
target_of shown (Some target) = held_of shown target

abbrev pub count_in : Option Ledger → ℕ
count_in None = 0
count_in (Some l) = l.count

-- how many operations a target has accepted, where it serves
abbrev pub count_of : Held → ℕ
count_of h = count_in h.ledger

-- how many flags are set
abbrev pub marks : List Bool → ℕ
marks [] = 0
marks (true ∷ bs) = marks bs + 1
marks (false ∷ bs) = marks bs
