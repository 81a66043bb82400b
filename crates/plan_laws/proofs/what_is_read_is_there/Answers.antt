use Rattle.plan_laws.proofs.Readback.{nodes_back, children_back, counts_back, values_back}
use Rattle.plan_laws.proofs.ListedAgain.{names_back}
use Rattle.plan_laws.proofs.what_is_read_is_there.Goals as goal

pub returns-clause-nodes : goal.returns-clause-nodes
returns-clause-nodes c = nodes_back

pub returns-clause-children : goal.returns-clause-children
returns-clause-children c = children_back

pub returns-clause-counts : goal.returns-clause-counts
returns-clause-counts c = counts_back

pub returns-clause-values : goal.returns-clause-values
returns-clause-values c = values_back

pub returns-clause-names : goal.returns-clause-names
returns-clause-names c = names_back
