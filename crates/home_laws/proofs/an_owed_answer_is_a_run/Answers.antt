use Rattle.home_laws.proofs.Owed.{executed_so, released_so}
use Rattle.home_laws.proofs.an_owed_answer_is_a_run.Goals as goal

pub returns : goal.returns
returns call = record {
  executed = λ targets c w g to inside k m t attempt. executed_so targets c w g to inside k m t attempt;
  released = λ targets c w g to inside k m t attempt. released_so targets c w g to inside k m t attempt;
}
