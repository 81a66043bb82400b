use Rattle.turn_laws.proofs.Attempts.{begins_so}
use Rattle.turn_laws.proofs.an_attempt_begins_as_a_run.Goals as goal

pub returns : goal.returns
returns call targets c w g to inside up r sent unique more known home free client new asks released going request =
    begins_so targets c w g to inside up r sent unique more known home free client new asks released going request
