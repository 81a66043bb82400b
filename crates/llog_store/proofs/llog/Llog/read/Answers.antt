use Rattle.std.proofs.Common.{ap, subst, ◌∙◌, arith, Result}
use Rattle.llog_store.specs.declared.fault.LlogFault.{LlogFault}
use Rattle.llog_store.specs.Log.{Log}
use Rattle.llog_store.specs.Reading.{Gives, log_at}
use Rattle.llog_store.proofs.Whole.{log_again}
use Rattle.llog_store.proofs.Listing.{is_found}
use Rattle.llog_store.proofs.llog.Llog.read.Goals as goal

pub returns-clause-found : goal.returns-clause-found
returns-clause-found c = is_found c.args.bytes.now c.whole.result (λ i. omega (arith, c.type_inv.bytes i)) c.whole.ensures

pub returns-clause-only : goal.returns-clause-only
returns-clause-only c = λ log s. subst (λ (r : Result Log LlogFault). Gives (λ (l : Log). l) c.whole.result r) (ap log_at s.1 ∙ log_again log s.0) c.whole.ensures
