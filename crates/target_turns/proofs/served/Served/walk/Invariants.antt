use Rattle.std.proofs.Common.{◌≡◌, ◌-◌}
use Rattle.update_coordinator.specs.Fitting.{FitsAction}
use Rattle.target_turns.specs.Home.{walked, walks}
use Rattle.target_turns.specs.Seen.{served_of}
use Rattle.target_turns.proofs.served.Served.walk.Given as goal

abbrev pub invariant-loop-step : goal.invariant-loop-step
invariant-loop-step g l = record {
  is : walked (18446744073709551615 - l._step) (served_of g.D.Disk.shown l.self) l.next ≡ walks (served_of g.D.Disk.shown l.fn.self) l.fn.action;
  fits : FitsAction l.next;
  disk : l.self.node.disk ≡ l.fn.self.node.disk;
  cluster : l.self.cluster ≡ l.fn.self.cluster;
  index : l.self.index ≡ l.fn.self.index;
}
