-- That what a target tells can be sent.
use Rattle.update_record.specs.Messages.{FitsFacts}
use Rattle.target_state.specs.declared.answers.HoldAnswer.{HoldAnswer}
use Rattle.target_state.specs.declared.answers.HoldAnswer.TheVariants as hold

-- what is told has a spelling
abbrev pub FitsHold : HoldAnswer → Type 0
FitsHold (hold.Held f) = FitsFacts f
FitsHold (hold.Busy n) = Unit {0}
FitsHold hold.Ended = Unit {0}
