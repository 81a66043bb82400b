use Rattle.turn_laws.proofs.Begins.{begins_so}
use Rattle.turn_laws.proofs.a_new_epoch_agrees.Goals as goal

pub returns : goal.returns
returns call targets e h c sent unique few new beyond old = begins_so targets e h c sent unique few new beyond old
