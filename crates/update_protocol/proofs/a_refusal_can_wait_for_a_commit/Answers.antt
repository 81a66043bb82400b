use Rattle.std.proofs.Common.{[], arith}
use Rattle.update_protocol.proofs.Setting.{setting}
use Rattle.update_protocol.proofs.Resting.{waits}
use Rattle.update_protocol.proofs.Refusals.{asked, may_accept, reached, reached_before, refusal, rests, shows, synced, syncs_run, unnamed}
use Rattle.update_protocol.proofs.Lives.{dir}
use Rattle.update_protocol.proofs.Making.{Below}
use Rattle.update_protocol.proofs.a_refusal_can_wait_for_a_commit.Goals as goal

pub returns : goal.returns
returns c =
    let b : Below = record {
      laws = c.operations_have_laws.ensures.laws 3 (omega arith, omega arith);
      sounds = c.histories_keep_trees_sound.ensures.histories;
      nodes = c.shares_tell.ensures.nodes;
      names = c.shares_tell.ensures.names;
    } in
    record {
      waited = (
        refusal,
        shows.0,
        shows.1,
        shows.2,
        asked,
        reached_before b,
        shows.3,
        shows.4,
        (λ may. waits (setting 3 b.laws) [] asked (reached_before b) 0 refusal may 1 rests.0 dir rests.1 rests.2 unnamed 0 rests.3 rests.4),
        synced,
        syncs_run b,
        reached b,
        may_accept b,
      );
    }
