use Rattle.std.proofs.Common.{rules, Option, ℕ, ap, subst}
use Rattle.scenario_text.specs.Spelling.{IsCommand, IsSkipped, Order}
use Rattle.target_turns.specs.Disks.{calls_of}
use Rattle.cluster_player.specs.Played.{Playing}
use Rattle.cluster_player.specs.Taken.{MayFollow}
use Rattle.cluster_player.proofs.Lines.{skipped_ok, barred_bad}
use Rattle.cluster_player.proofs.player.Player.take.Goals as goal

pub returns-then-is_skipped-clause-ok : goal.returns-then-is_skipped-clause-ok
returns-then-is_skipped-clause-ok g c =
    skipped_ok (calls_of g.D.Disk.cycled g.D.Plant.armed) c.skip.result c.args.self.now c.args.line.now c.args.out.now (c.is_skipped.ensures.0 c.if-is_skipped.true) c.skip.ensures.ok

pub returns-then-not-may_follow-clause-refused : goal.returns-then-not-may_follow-clause-refused
returns-then-not-may_follow-clause-refused g c = λ _.
    let other : IsSkipped c.args.line.now → ⊥ = search rules in
    let barred : MayFollow c.args.self.now c.in-Ok.command → ⊥ = search rules in
    let fits : IsCommand c.args.self.now.count c.in-Ok.command = subst (λ (a : Option ℕ). IsCommand a c.in-Ok.command) (ap (λ (p : Playing). p.count) c.self.view_is) c.in-Ok.ensures.ok.0 in
    barred_bad c.args.self.now c.args.line.now c.in-Ok.command other fits c.in-Ok.ensures.ok.1 barred

pub returns-in-Ok-play-clause-ok : goal.returns-in-Ok-play-clause-ok
returns-in-Ok-play-clause-ok g c =
    let fits : IsCommand c.args.self.now.count c.in-Ok.command = subst (λ (a : Option ℕ). IsCommand a c.in-Ok.command) (ap (λ (p : Playing). p.count) c.self.view_is) c.in-Ok.ensures.ok.0 in
    let does = c.in-Ok-play.ensures.does in
    (Order c.in-Ok.command, does.0, (fits, c.may_follow.ensures.0 c.if-not-may_follow.false), c.in-Ok.ensures.ok.1, does.1, does.2)
