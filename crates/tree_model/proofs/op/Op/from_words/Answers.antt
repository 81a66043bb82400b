use Rattle.std.proofs.Common.{◌≢◌, map, subst}
use Rattle.tree_model.specs.OpReading.{IsOpFault}
use Rattle.tree_model.specs.declared.op.OpFault.TheVariants.{Memory}
use Rattle.tree_model.proofs.BadWords.{never, no_fault}
use Rattle.tree_model.proofs.op.Op.from_words.Goals as goal

pub returns-clause-refused : goal.returns-clause-refused
returns-clause-refused c = λ failed known op fits e.
    never c.of_words.result (λ d. d ≢ Memory → IsOpFault c.args.cluster (map (λ w. w.now) c.args.words.now) d) failed known c.of_words.ensures.fault
    (λ d m q. no_fault c.args.cluster op d fits m (subst (λ ws. IsOpFault c.args.cluster ws d) e (q m)))
