use Rattle.std.proofs.Common.{◌∷◌, [], inr, refl, arith}
use Rattle.scenario_text.specs.declared.line.Line.TheVariants as lines
use Rattle.dne_cli.specs.Kept.{Ends, CommitsLedger, serving_on}
use Rattle.dne_cli.specs.Restart.{held_of}
use Rattle.dne_cli.proofs.Printed.{printed, printed_all, ended, ends_none, touches_itself}
use Rattle.dne_cli.proofs.turns.end_target.Goals as goal

pub returns-in-Ok-clause-lines : goal.returns-in-Ok-clause-lines
returns-in-Ok-clause-lines g c =
    let ledger = c.in-Serving.served.ledger in
    let disk = g.D.Disk.shown c.in-Serving.served.store.disk in
    let after = c.in-Ok.served.ledger in
    let new = g.D.Disk.shown c.in-Ok.served.store.disk in
    let numbers = c.in-Ok.numbers in
    let failed = lines.Down 0 ∷ lines.EndUnclean 0 ∷ [] in
    rw c.in-Serving.is (printed_all c.print_clean.result c.args.out.now c.print_clean.new.out (lines.Stable 0 numbers ∷ lines.EndClean ∷ []) (λ ls. CommitsLedger ledger disk (serving_on after new) ls (lines.Stable 0 ledger.pend ∷ lines.EndClean ∷ []) failed)
    c.print_clean.ensures
    (ended ledger after disk new numbers failed c.in-Ok.ensures.ok c.in-Ok.ensures.ledger c.in-Ok.ensures.numbers))

pub returns-in-Err-clause-lines : goal.returns-in-Err-clause-lines
returns-in-Err-clause-lines g c =
    let ledger = c.in-Serving.served.ledger in
    let disk = g.D.Disk.shown c.in-Serving.served.store.disk in
    let new = held_of g.D.Disk.shown c.halted.result in
    let failed = lines.Down 0 ∷ lines.EndUnclean 0 ∷ [] in
    rw c.in-Serving.is (printed_all c.print_unclean.result c.args.out.now c.print_unclean.new.out failed (λ ls. CommitsLedger ledger disk new ls (lines.Stable 0 ledger.pend ∷ lines.EndClean ∷ []) failed)
    c.print_unclean.ensures
    (inr (g.D.Disk.shown c.in-Err.disk, c.in-Err.ensures.err, c.halted.ensures, refl)))

pub returns-in_default : goal.returns-in_default
returns-in_default g c =
    let shown = g.D.Disk.shown in
    let target = c.args.target in
    let old = held_of shown target in record {
      lines = printed c.print_end_unclean.result c.args.out.now c.print_end_unclean.new.out (lines.EndUnclean 0) (λ ls. Ends old.ledger old old ls)
          c.print_end_unclean.ensures.ok
          (ends_none shown target c.in_default.not-Serving);
      touches = touches_itself old.disk;
      count = omega arith;
    }
