use Rattle.std.proofs.Common.{◌++◌}
use Rattle.update_protocol.specs.Events.{fresh}
use Rattle.turn_laws.proofs.Sends.{run_append}
use Rattle.turn_laws.proofs.Then.{run_then}
use Rattle.turn_laws.proofs.runs_go_on.Goals as goal

pub returns : goal.returns
returns call = record {
  pieces = λ targets w c i t u r q. run_then targets w c i t u r q;
  reached = λ targets h w ls c was r. record { story = was.story; start = was.start; events = was.events ++ r.events; run = run_append targets was.events r.events (fresh was.start h) w r.world was.run r.run };
}
