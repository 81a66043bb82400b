use Rattle.std.proofs.Common.{rules, Option, ℕ, subst}
use Rattle.scenario_text.specs.Spelling.{IsCommand, IsSkipped, Order}
use Rattle.scenario_text.specs.Machine.{MayCome}
use Rattle.model_mode.specs.Kept.{cluster_of, is_used}
use Rattle.model_mode.proofs.Sessions.{barred_bad, skipped_ok}
use Rattle.model_mode.proofs.session.Session.run_line.Goals as goal

pub returns-then-is_skipped-clause-ok : goal.returns-then-is_skipped-clause-ok
returns-then-is_skipped-clause-ok c = skipped_ok c.skip.result c.args.self.now c.args.line.now c.args.out.now (c.is_skipped.ensures.0 c.if-is_skipped.true) c.skip.ensures.ok

pub returns-then-not-may_come-clause-refused : goal.returns-then-not-may_come-clause-refused
returns-then-not-may_come-clause-refused c = λ _.
    let other : IsSkipped c.args.line.now → ⊥ = search rules in
    let barred : MayCome (cluster_of c.args.self.now.tree) c.args.self.now.ended (is_used c.args.self.now.used) c.in-Ok.command → ⊥ = search rules in
    let fits : IsCommand (cluster_of c.args.self.now.tree) c.in-Ok.command = subst (λ (a : Option ℕ). IsCommand a c.in-Ok.command) c.cluster.ensures c.in-Ok.ensures.ok.0 in
    barred_bad c.args.self.now c.args.line.now c.in-Ok.command other fits c.in-Ok.ensures.ok.1 barred

pub returns-in-Ok-obey-clause-ok : goal.returns-in-Ok-obey-clause-ok
returns-in-Ok-obey-clause-ok c =
    let fits : IsCommand (cluster_of c.args.self.now.tree) c.in-Ok.command = subst (λ (a : Option ℕ). IsCommand a c.in-Ok.command) c.cluster.ensures c.in-Ok.ensures.ok.0 in
    let does = c.in-Ok-obey.ensures in
    (Order c.in-Ok.command, (fits, c.may_come.ensures.0 c.if-not-may_come.false), c.in-Ok.ensures.ok.1, does.kept, does.said)
