use Rattle.std.specs.Prelude.{OnOk}
use Rattle.std.proofs.Common.{◌≡◌, ◌++◌, arith, subst}
use Rattle.scenario_text.specs.LineText.{state_text}
use Rattle.scenario_text.specs.declared.line.Line.TheVariants as lines
use Rattle.dne_cli.specs.Kept.{Restarts, standing_of, stopped}
use Rattle.dne_cli.specs.Disks.{calls_of}
use Rattle.dne_cli.specs.Restart.{held_of}
use Rattle.dne_cli.proofs.Printed.{printed, restores_unformatted, starts_formatted, restarts_up, touches_itself}
use Rattle.dne_cli.proofs.turns.restart_target.Goals as goal

pub returns-then-down-clause-lines : goal.returns-then-down-clause-lines
returns-then-down-clause-lines g c =
    let down = c.in-Down.down in
    rw c.in-Down.is (starts_formatted (calls_of g.D.Disk.cycled g.D.Plant.armed) c.start.result.1 c.args.out.now c.start.new.out c.args.number (stopped down.formatted (g.D.Disk.shown down.disk)) (held_of g.D.Disk.shown c.start.result.0) down.formatted c.if-down.true c.start.ensures.lines)

pub returns-else-down-clause-lines : goal.returns-else-down-clause-lines
returns-else-down-clause-lines g c =
    let down = c.in-Down.down in
    rw c.in-Down.is (restores_unformatted (calls_of g.D.Disk.cycled g.D.Plant.armed) c.restore.result.1 c.args.out.now c.restore.new.out c.args.number (stopped down.formatted (g.D.Disk.shown down.disk)) (held_of g.D.Disk.shown c.restore.result.0) down.formatted c.if-down.false c.restore.ensures.lines)

pub returns-in_default : goal.returns-in_default
returns-in_default g c =
    let shown = g.D.Disk.shown in
    let target = c.args.target in
    let old = held_of shown target in record {
      lines = printed c.print_state.result c.args.out.now c.print_state.new.out (lines.State c.args.number (standing_of old)) (λ ls. Restarts (calls_of g.D.Disk.cycled g.D.Plant.armed) (standing_of old) old.formatted c.args.number old old ls)
          (subst (λ s. OnOk c.print_state.result (c.print_state.new.out ≡ c.args.out.now ++ state_text c.args.number s)) c.standing-standing.ensures c.print_state.ensures.ok)
          (restarts_up shown (calls_of g.D.Disk.cycled g.D.Plant.armed) target c.args.number c.in_default.not-Down);
      touches = touches_itself old.disk;
      count = omega arith;
    }
