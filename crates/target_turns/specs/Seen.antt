-- What contracts see of a target that serves.
use Rattle.std.specs.Prelude.{true, ℕ}
use Rattle.outside.specs.Disk.{Shown}
use Rattle.target_turns.specs.declared.served.Ran.{Ran}
use Rattle.target_turns.specs.declared.served.Ran.TheVariants as ran
use Rattle.target_turns.specs.declared.served.Served.{Served}
use Rattle.target_turns.specs.Target.{Target, target_up, target_down}

abbrev pub served_of : {D : Type 0} → (D → Shown) → Served D → Target
served_of shown s = target_up s.cluster s.index s.node.state s.coordinator s.sent_mark (shown s.node.disk)

-- one whose disk failed is down after that
abbrev pub after_ran : Ran → Target → Target
after_ran ran.Stands t = t
after_ran ran.Stopped t = target_down t.targets t.index true t.disk
