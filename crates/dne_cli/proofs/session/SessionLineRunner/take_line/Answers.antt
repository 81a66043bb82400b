use Rattle.dne_cli.specs.Disks.{calls_of}
use Rattle.dne_cli.proofs.Sessions.{took}
use Rattle.dne_cli.proofs.session.SessionLineRunner.take_line.Goals as goal

pub returns-clause-ok : goal.returns-clause-ok
returns-clause-ok g c = took (calls_of g.D.Disk.cycled g.D.Plant.armed) c.run_line.result c.args.self.now c.run_line.new.self c.args.line.now c.args.out.now c.run_line.new.out c.run_line.ensures.ok c.run_line.ensures.touches
