use Rattle.std.proofs.Common.{[], ◌∷◌, arith, refl}
use Rattle.update_protocol.proofs.Lives.{at_home}
use Rattle.update_protocol.proofs.LookingUp.{asked, attempt, decided, heard, reached}
use Rattle.update_protocol.proofs.Making.{Below}
use Rattle.update_protocol.proofs.a_read_can_be_answered.Goals as goal

pub returns : goal.returns
returns c =
    let b : Below = record {
      laws = c.operations_have_laws.ensures.laws 3 (omega arith, omega arith);
      sounds = c.histories_keep_trees_sound.ensures.histories;
      nodes = c.shares_tell.ensures.nodes;
      names = c.shares_tell.ensures.names;
    } in
    record { answered = (asked, attempt, at_home ∷ [], reached, refl, refl, heard, decided b) }
