use Rattle.std.proofs.Common.{arith}
use Rattle.update_protocol.proofs.Renames.{reached, renamed, shows}
use Rattle.update_protocol.proofs.Making.{Below}
use Rattle.update_protocol.proofs.a_rename_can_be_on_three_targets.Goals as goal

pub returns : goal.returns
returns c =
    let b : Below = record {
      laws = c.operations_have_laws.ensures.laws 3 (omega arith, omega arith);
      sounds = c.histories_keep_trees_sound.ensures.histories;
      nodes = c.shares_tell.ensures.nodes;
      names = c.shares_tell.ensures.names;
    } in
    record {
      renamed = (renamed, reached b c.parents_name_their_directories.ensures.there c.parents_name_their_directories.ensures.fids, shows.0, shows.1, shows.2, shows.3, shows.4, shows.5, shows.6);
    }
