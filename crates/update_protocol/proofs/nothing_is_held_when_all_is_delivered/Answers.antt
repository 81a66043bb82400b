use Rattle.update_protocol.specs.Progress.{idle}
use Rattle.update_protocol.proofs.Calm.{calm}
use Rattle.update_protocol.proofs.Turning.{all_turns, at_first}
use Rattle.update_protocol.proofs.nothing_is_held_when_all_is_delivered.Goals as goal

pub returns : goal.returns
returns c = record {
  free = λ turns w run empty awaiting t a. calm w (all_turns turns idle w at_first run) empty awaiting t a;
}
