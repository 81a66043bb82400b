use Rattle.std.proofs.Common.{List, Bool, length, refl, ap, ◌∙◌, arith}
use Rattle.dne_cli.proofs.Flags.{length-flags}
use Rattle.dne_cli.proofs.session.Session.new.Goals as goal

pub invariant_of-result : goal.invariant_of-result
invariant_of-result g c = (refl, ap (λ (l : List Bool). length l) c.in-Ok.ensures ∙ length-flags 65537, (let none = ap length c.new.ensures.items in omega (arith, none)))
