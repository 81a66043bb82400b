use Rattle.model_mode.proofs.Sessions.{took}
use Rattle.model_mode.proofs.session.SessionLineRunner.take_line.Goals as goal

pub returns-clause-ok : goal.returns-clause-ok
returns-clause-ok c = took c.run_line.result c.args.self.now c.run_line.new.self c.args.line.now c.args.out.now c.run_line.new.out c.run_line.ensures.ok
