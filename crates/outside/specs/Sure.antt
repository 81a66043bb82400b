-- What contracts see of a disk in memory that never fails.
use Rattle.std.specs.Prelude.{true, false}
use Rattle.outside.specs.Disk.{Shown, settles}
use Rattle.outside.specs.declared.sure.SureDisk.{SureDisk}

-- all is settled, and there was no fault
abbrev pub seen : SureDisk → Shown
seen d = record { tells = true; honest = true; content = d.content.items; settled = settles d.content.items; failed = false; faults = 0; name = 0 }
