use Rattle.std.proofs.Common.{rules, Option, ℕ, ap, subst}
use Rattle.scenario_text.specs.Spelling.{IsCommand, IsPlayed, IsSkipped, Order}
use Rattle.scenario_text.specs.Machine.{MayCome}
use Rattle.dne_cli.specs.Disks.{calls_of}
use Rattle.dne_cli.specs.Kept.{Kept, is_used}
use Rattle.dne_cli.proofs.Sessions.{barred_bad, skipped_ok, unplayed_bad}
use Rattle.dne_cli.proofs.session.Session.run_line.Goals as goal

pub returns-then-is_skipped-clause-ok : goal.returns-then-is_skipped-clause-ok
returns-then-is_skipped-clause-ok g c = skipped_ok (calls_of g.D.Disk.cycled g.D.Plant.armed) c.skip.result c.args.self.now c.args.line.now c.args.out.now (c.is_skipped.ensures.0 c.if-is_skipped.true) c.skip.ensures.ok

pub returns-then-not-is_played-clause-refused : goal.returns-then-not-is_played-clause-refused
returns-then-not-is_played-clause-refused g c = λ _.
    let other : IsSkipped c.args.line.now → ⊥ = search rules in
    let barred : IsPlayed c.in-Ok.command → ⊥ = search rules in
    let fits : IsCommand c.args.self.now.cluster c.in-Ok.command = subst (λ (a : Option ℕ). IsCommand a c.in-Ok.command) (ap (λ (k : Kept). k.cluster) c.self.view_is) c.in-Ok.ensures.ok.0 in
    unplayed_bad c.args.self.now c.args.line.now c.in-Ok.command other fits c.in-Ok.ensures.ok.1 barred

pub returns-then-not-may_come-clause-refused : goal.returns-then-not-may_come-clause-refused
returns-then-not-may_come-clause-refused g c = λ _.
    let other : IsSkipped c.args.line.now → ⊥ = search rules in
    let barred : MayCome c.args.self.now.cluster c.args.self.now.ended (is_used c.args.self.now.used) c.in-Ok.command → ⊥ = search rules in
    let fits : IsCommand c.args.self.now.cluster c.in-Ok.command = subst (λ (a : Option ℕ). IsCommand a c.in-Ok.command) (ap (λ (k : Kept). k.cluster) c.self.view_is) c.in-Ok.ensures.ok.0 in
    barred_bad c.args.self.now c.args.line.now c.in-Ok.command other fits c.in-Ok.ensures.ok.1 barred

pub returns-in-Ok-obey-clause-ok : goal.returns-in-Ok-obey-clause-ok
returns-in-Ok-obey-clause-ok g c =
    let fits : IsCommand c.args.self.now.cluster c.in-Ok.command = subst (λ (a : Option ℕ). IsCommand a c.in-Ok.command) (ap (λ (k : Kept). k.cluster) c.self.view_is) c.in-Ok.ensures.ok.0 in
    let does = c.in-Ok-obey.ensures.does in
    (Order c.in-Ok.command, does.0, (fits, c.may_come.ensures.0 c.if-not-may_come.false, c.is_played.ensures.0 c.if-not-is_played.false), c.in-Ok.ensures.ok.1, does.1, does.2)
