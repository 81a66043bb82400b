-- What starting a target from its disk does, and what a target is seen as.
use Rattle.std.specs.Prelude.{◌≡◌, ℕ, List, Option, Result, Err}
use Rattle.outside.specs.Disk.{Fuse, Shown}
use Rattle.dne_cli.specs.Disks.{Calls, Faulted, HoldsBadImage, HoldsNothing, Touches}
use Rattle.dne_cli.specs.Kept.{Held, Damaged, Unformatted, Unread, stopped, opened_on, serving_on}
use Rattle.dne_cli.specs.declared.image.ImageFault.{ImageFault}
use Rattle.dne_cli.specs.declared.image.ImageFault.TheVariants as image_fault
use Rattle.dne_cli.specs.declared.target.Target.{Target}
use Rattle.dne_cli.specs.declared.target.Target.TheVariants as targets
use Rattle.dne_cli.specs.declared.target.ReopenFault.{ReopenFault}
use Rattle.dne_cli.specs.declared.target.ReopenFault.TheVariants as reopen_fault
use Rattle.dne_cli.specs.declared.target.MakeFault.{MakeFault}
use Rattle.dne_cli.specs.declared.target.MakeFault.TheVariants as make_fault

-- an image that is none says where
abbrev pub BadAt : ImageFault → Result (List ℕ) ℕ → Type 0
BadAt (image_fault.BadImage place) read = read ≡ Err place
BadAt image_fault.Memory read = Unit {0}

-- each answer other than Ok of a start, with the disk that it gives back
abbrev pub FailsToReopen : Calls → {D : Type 0} → (D → Shown) → Shown → ReopenFault D → Type 0
FailsToReopen calls shown old (reopen_fault.Disk disk) = Unread calls old (shown disk)
FailsToReopen calls shown old (reopen_fault.Gates disk gates) = Damaged calls (HoldsNothing gates) old (shown disk)
FailsToReopen calls shown old (reopen_fault.Image disk place) = Damaged calls (HoldsBadImage place) old (shown disk)
FailsToReopen calls shown old (reopen_fault.Memory disk) = Touches old (shown disk)

-- each answer other than Ok of a formatting, and of one after a stop
abbrev pub FailsToMake : {D : Type 0} → (D → Shown) → Shown → MakeFault D → Type 0
FailsToMake shown old (make_fault.Disk disk) = Faulted old (shown disk)
FailsToMake shown old (make_fault.Memory disk) = Touches old (shown disk)

abbrev pub FailsToRemake : Calls → {D : Type 0} → (D → Shown) → Shown → MakeFault D → Type 0
FailsToRemake calls shown old (make_fault.Disk disk) = Unformatted calls old (shown disk)
FailsToRemake calls shown old (make_fault.Memory disk) = Touches old (shown disk)

-- a target as contracts see it
abbrev pub held_of : {D : Type 0} → (D → Shown) → Target D → Held
held_of shown (targets.Serving served) = serving_on served.ledger (shown served.store.disk)
held_of shown (targets.Opened store) = opened_on (shown store.disk)
held_of shown (targets.Down halted) = stopped halted.formatted (shown halted.disk)

-- the fuse of a target's disk, where it has one
abbrev pub fuse_of : {D : Type 0} → (D → Option Fuse) → Target D → Option Fuse
fuse_of fuse (targets.Serving served) = fuse served.store.disk
fuse_of fuse (targets.Opened store) = fuse store.disk
fuse_of fuse (targets.Down halted) = fuse halted.disk
