use Rattle.cross_rename.proofs.Onward.{kept_when_heard}
use Rattle.cross_rename.proofs.Opening.{kept_when_gone_on}
use Rattle.cross_rename.proofs.planner.RenamePlanner.step.Goals as goal

pub outcome-outcome-requires : goal.outcome-outcome-requires
outcome-outcome-requires c = kept_when_heard c.self.inside.state c.hear.new.self c.self.inside.walked c.take-walked.result _ c.in_ok-hear.ensures c.take-walked.ensures.value c.self.invariant

pub invariant_of-self-2 : goal.invariant_of-self-2
invariant_of-self-2 c = kept_when_gone_on c.hear.new.self c.go_on.new.self c.outcome-outcome.new.walked c.in_ok-step.ensures.state c.outcome-outcome.ensures.walked
