use Rattle.std.proofs.Common.{arith}
use Rattle.update_protocol.specs.Epochs.{Begin, Next}
use Rattle.update_protocol.proofs.Lives.{epoch, is_op, kept_history, kept_one, shows}
use Rattle.update_protocol.proofs.Making.{Below}
use Rattle.update_protocol.proofs.an_operation_can_be_redone.Goals as goal

pub returns : goal.returns
returns c =
    let b : Below = record {
      laws = c.operations_have_laws.ensures.laws 3 (omega arith, omega arith);
      sounds = c.histories_keep_trees_sound.ensures.histories;
      nodes = c.shares_tell.ensures.nodes;
      names = c.shares_tell.ensures.names;
    } in
    let s = shows b in
    record {
      redone = (epoch b is_op, s.0, s.1, s.2, s.3, s.4, s.5, s.6);
      kept = (kept_history b, Next Begin (epoch b is_op), kept_one b);
    }
