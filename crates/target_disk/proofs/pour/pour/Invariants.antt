use Rattle.std.specs.Prelude.{IsTrue, IsSome}
use Rattle.std.proofs.Common.{◌≡◌, ◌≤◌, ◌+◌, ◌-◌, length, take, false}
use Rattle.outside.specs.Disk.{Stays}
use Rattle.target_disk.specs.Draft.{put_len}
use Rattle.target_disk.specs.Consistent.{Fits, begun_of}
use Rattle.target_disk.specs.Steps.{KeepsImage}
use Rattle.target_disk.proofs.Pouring.{Poured}
use Rattle.target_disk.proofs.pour.pour.Given as goal

abbrev pub invariant-loop-at : goal.invariant-loop-at
invariant-loop-at g l =
    let old = g.D.Disk.shown l.fn.disk in
    let new = g.D.Disk.shown l.disk in record {
      inside : l.at ≤ length l.piece;
      stays : Stays old new;
      later : old.faults ≤ new.faults;
      works : IsTrue old.honest → old.failed ≡ false → new.failed ≡ false;
      still : IsTrue old.honest → IsTrue old.failed → IsTrue new.failed;
      fits : Fits 4095 l.book;
      begun : IsSome l.book.draft;
      keeps : KeepsImage l.fn.book l.book;
      grows : put_len (begun_of l.book) ≡ put_len (begun_of l.fn.book) + l.at;
      poured : IsTrue old.honest → Poured (take l.at l.piece) l.fn.book l.book old new;
    }

abbrev pub decreases-loop-at : goal.decreases-loop-at
decreases-loop-at g l = length l.piece - l.at
