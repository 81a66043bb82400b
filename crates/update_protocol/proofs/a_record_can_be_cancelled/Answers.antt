use Rattle.std.proofs.Common.{arith}
use Rattle.update_protocol.proofs.Cancels.{cancelled, reached, shows}
use Rattle.update_protocol.proofs.Making.{Below}
use Rattle.update_protocol.proofs.a_record_can_be_cancelled.Goals as goal

pub returns : goal.returns
returns c =
    let b : Below = record {
      laws = c.operations_have_laws.ensures.laws 3 (omega arith, omega arith);
      sounds = c.histories_keep_trees_sound.ensures.histories;
      nodes = c.shares_tell.ensures.nodes;
      names = c.shares_tell.ensures.names;
    } in
    record { cancelled = (cancelled, reached b, shows.0, shows.1, shows.2, shows.3, shows.4) }
