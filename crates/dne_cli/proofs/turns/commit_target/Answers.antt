use Rattle.std.specs.Prelude.{OnOk}
use Rattle.std.proofs.Common.{◌≡◌, ◌++◌, ◌∷◌, [], inr, refl, arith, subst}
use Rattle.scenario_text.specs.LineText.{state_text}
use Rattle.scenario_text.specs.declared.line.Line.TheVariants as lines
use Rattle.dne_cli.specs.Kept.{Commits, CommitsLedger, serving_on, standing_of}
use Rattle.dne_cli.specs.Restart.{held_of}
use Rattle.dne_cli.proofs.Printed.{printed, committed, commits_none, touches_itself}
use Rattle.dne_cli.proofs.turns.commit_target.Goals as goal

pub returns-in-Ok-clause-lines : goal.returns-in-Ok-clause-lines
returns-in-Ok-clause-lines g c =
    let number = c.args.number in
    let ledger = c.in-Serving.served.ledger in
    let disk = g.D.Disk.shown c.in-Serving.served.store.disk in
    let after = c.in-Ok.served.ledger in
    let new = g.D.Disk.shown c.in-Ok.served.store.disk in
    let numbers = c.in-Ok.numbers in
    rw c.in-Serving.is (printed c.print_stable.result c.args.out.now c.print_stable.new.out (lines.Stable number numbers) (λ ls. CommitsLedger ledger disk (serving_on after new) ls (lines.Stable number ledger.pend ∷ []) (lines.Down number ∷ []))
    c.print_stable.ensures.ok
    (committed ledger after disk new number numbers (lines.Down number ∷ []) c.in-Ok.ensures.ok c.in-Ok.ensures.ledger c.in-Ok.ensures.numbers))

pub returns-in-Err-clause-lines : goal.returns-in-Err-clause-lines
returns-in-Err-clause-lines g c =
    let number = c.args.number in
    let ledger = c.in-Serving.served.ledger in
    let disk = g.D.Disk.shown c.in-Serving.served.store.disk in
    let new = held_of g.D.Disk.shown c.halted.result in
    rw c.in-Serving.is (printed c.print_down.result c.args.out.now c.print_down.new.out (lines.Down number) (λ ls. CommitsLedger ledger disk new ls (lines.Stable number ledger.pend ∷ []) (lines.Down number ∷ []))
    c.print_down.ensures.ok
    (inr (g.D.Disk.shown c.in-Err.disk, c.in-Err.ensures.err, c.halted.ensures, refl)))

pub returns-in_default : goal.returns-in_default
returns-in_default g c =
    let shown = g.D.Disk.shown in
    let target = c.args.target in
    let old = held_of shown target in record {
      lines = printed c.print_state.result c.args.out.now c.print_state.new.out (lines.State c.args.number (standing_of old)) (λ ls. Commits old.ledger c.args.number old old ls)
          (subst (λ s. OnOk c.print_state.result (c.print_state.new.out ≡ c.args.out.now ++ state_text c.args.number s)) c.standing-standing.ensures c.print_state.ensures.ok)
          (commits_none shown target c.args.number c.in_default.not-Serving);
      touches = touches_itself old.disk;
      count = omega arith;
    }
