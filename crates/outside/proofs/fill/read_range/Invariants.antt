use Rattle.std.proofs.Common.{◌≡◌, ◌≤◌, ◌-◌, length, take, map}
use Rattle.outside.specs.Disk.{part}
use Rattle.outside.specs.Cells.{content_of}
use Rattle.outside.specs.Pages.{cells}
use Rattle.outside.proofs.fill.read_range.Given as goal

abbrev pub invariant-loop-done : goal.invariant-loop-done
invariant-loop-done l = record {
  size : length l.into ≡ length l.initial.into;
  within : l.done ≤ length l.into;
  read : take l.done l.into ≡ part l.at l.done (map content_of (cells l.pages.items));
}

abbrev pub decreases-loop-done : goal.decreases-loop-done
decreases-loop-done l = length l.initial.into - l.done
