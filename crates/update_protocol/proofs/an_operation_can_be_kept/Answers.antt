use Rattle.std.proofs.Common.{refl}
use Rattle.update_protocol.specs.Epochs.{Begin, Next}
use Rattle.update_protocol.proofs.Instance.{is_op, stopped, start, events, runs, epoch, kept_history, kept_one}
use Rattle.update_protocol.proofs.an_operation_can_be_kept.Goals as goal

pub returns : goal.returns
returns c =
    let sounds = c.histories_keep_trees_sound.ensures.histories in
    record {
      accepted = (stopped, record { story = Begin; start = start; events = events; run = runs sounds is_op }, refl, refl, refl);
      kept = (kept_history sounds, Next Begin (epoch sounds is_op), kept_one sounds);
    }
