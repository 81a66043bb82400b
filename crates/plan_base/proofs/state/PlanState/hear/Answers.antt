use Rattle.std.proofs.Common.{sym, subst}
use Rattle.plan_base.proofs.Hearing.{Named, listed_named}
use Rattle.plan_base.proofs.state.PlanState.hear.Goals as goal

pub tell_names-requires : goal.tell_names-requires
tell_names-requires c = record { named = subst (λ es. Named es) (sym c.in_ok-entries-in-Names.ensures) (listed_named c.in-Some-fact.fact.now) }
