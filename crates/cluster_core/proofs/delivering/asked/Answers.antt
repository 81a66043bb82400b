use Rattle.std.proofs.Common.{is_err, ap, ◌∙◌}
use Rattle.tree_model.specs.declared.op.OpFault.TheVariants as faults
use Rattle.cluster_core.proofs.Reached.{not_spelled, not_err}
use Rattle.cluster_core.proofs.delivering.asked.Goals as goal

-- src/delivering.rt:62:1
pub returns-else-is_memory : goal.returns-else-is_memory
returns-else-is_memory c =
    not_spelled c.args.cluster c.args.message.now c.requires.kind
    (λ op o e. c.parse.ensures.refused (ap is_err c.in-Err.is) (not_err c.parse.result c.in-Err.fault faults.Memory c.is_memory.result c.in-Err.is c.if-is_memory.false c.is_memory.ensures.1) op o (c.bytes.ensures ∙ e))
