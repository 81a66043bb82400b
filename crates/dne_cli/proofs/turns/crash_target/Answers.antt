use Rattle.std.specs.Prelude.{true}
use Rattle.std.proofs.Common.{◌≡◌, ◌∙◌, sym, ap, refl, subst}
use Rattle.scenario_text.specs.declared.line.Line.TheVariants as lines
use Rattle.scenario_text.specs.declared.line.Standing.TheVariants as standings
use Rattle.outside.specs.Disk.{Shown}
use Rattle.dne_cli.specs.Kept.{Held, Crashes, standing_of, stopped}
use Rattle.dne_cli.specs.Disks.{Touches}
use Rattle.dne_cli.specs.Restart.{held_of}
use Rattle.dne_cli.specs.Session.{count_of}
use Rattle.dne_cli.proofs.Printed.{printed, crashes_up, touches_itself}
use Rattle.dne_cli.proofs.turns.crash_target.Goals as goal

pub returns-in-Down-clause-lines : goal.returns-in-Down-clause-lines
returns-in-Down-clause-lines g c =
    let down = c.in-Down.down in
    let old = stopped down.formatted (g.D.Disk.shown down.disk) in
    rw c.in-Down.is (printed c.print_state.result c.args.out.now c.print_state.new.out (lines.State c.args.number standings.Down) (λ ls. Crashes standings.Down c.args.number old old ls)
    c.print_state.ensures.ok
    (refl, refl))

pub returns-in_default : goal.returns-in_default
returns-in_default g c =
    let shown = g.D.Disk.shown in
    let target = c.args.target in
    let old = held_of shown target in
    let new = held_of shown c.halted.result in
    let is : new ≡ stopped true old.disk = c.halted.ensures ∙ ap (λ (d : Shown). stopped true d) c.into_disk.ensures in record {
      lines = printed c.print_down.result c.args.out.now c.print_down.new.out (lines.Down c.args.number) (λ ls. Crashes (standing_of old) c.args.number old new ls)
          c.print_down.ensures.ok
          (crashes_up shown target c.args.number new c.in_default.not-Down is);
      touches = subst (λ (h : Held). Touches old.disk h.disk) (sym is) (touches_itself old.disk);
      count = ap (λ (h : Held). count_of h) is;
    }
