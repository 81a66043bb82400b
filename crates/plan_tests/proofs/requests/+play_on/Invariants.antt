use Rattle.plan_tests.proofs.requests.+play_on.Given as goal

abbrev pub decreases-play_on : goal.decreases-play_on
decreases-play_on l = l.left
