use Rattle.std.proofs.Common.{List, Bool, length, ap, ◌∙◌}
use Rattle.model_mode.proofs.Flags.{length-flags}
use Rattle.model_mode.proofs.session.Session.new.Goals as goal

pub invariant_of-result : goal.invariant_of-result
invariant_of-result c = ap (λ (l : List Bool). length l) c.in_ok-used.ensures ∙ length-flags 65537
