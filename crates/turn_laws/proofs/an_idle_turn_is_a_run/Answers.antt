use Rattle.turn_laws.proofs.Rests.{notes_done, rests_so}
use Rattle.turn_laws.proofs.an_idle_turn_is_a_run.Goals as goal

pub returns : goal.returns
returns call = record { rests = λ targets c w g to inside u same quiet silent. rests_so targets c w g to inside u same quiet silent; owed = λ targets c w g to inside fs. notes_done targets c w g to inside fs }
