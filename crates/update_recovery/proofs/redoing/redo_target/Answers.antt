use Rattle.std.proofs.Common.{List, ℕ, length, ap, arith}
use Rattle.update_recovery.specs.Redoing.{lacking}
use Rattle.update_recovery.proofs.Again.{redone_some}
use Rattle.update_recovery.proofs.redoing.redo_target.Goals as goal

pub returns-clause-done : goal.returns-clause-done
returns-clause-done g c =
    let b = c.args.bounds.now in
    let rs = lacking b.epoch b.marks.items c.args.index c.args.node.now.state c.args.union.now.keys in
    let mid = c.redo_lacking.new.node in
    let commit = c.in_ok-commit.ensures in
    redone_some g.D.Disk.shown rs c.args.node.now c.commit.new.self mid.state mid.disk
    (let told = ap (λ (ns : List ℕ). length ns) c.in-Ok.ensures.told in omega (arith, c.if-len-eq0.false, c.len.ensures, told))
    c.in-Ok.ensures.state c.in-Ok.ensures.disk commit.state
    (record { stays = commit.stays; later = commit.later; done = commit.done })
