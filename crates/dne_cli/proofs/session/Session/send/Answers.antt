use Rattle.std.proofs.Common.{◌≡◌, false, length, get_or, ap, ◌∙◌, arith, length-append, [], ◌∷◌}
use Rattle.std.proofs.lemmas.List.{length-set}
use Rattle.dne_cli.specs.Kept.{Kept}
use Rattle.dne_cli.proofs.Flags.{marks_more}
use Rattle.dne_cli.proofs.session.Session.send.Goals as goal

pub invariant_of-self-2 : goal.invariant_of-self-2
invariant_of-self-2 g c =
    let used = c.self.inside.used.items in
    let size = c.self.invariant.1 in
    let low = c.self.invariant.2 in
    let number = c.requires.number in
    let free : get_or used c.args.request.number false ≡ false = ap (λ (k : Kept). get_or k.used c.args.request.number false) c.self.view_is ∙ c.requires.free in
    let more = marks_more used c.args.request.number (omega (arith, size, number)) free in
    let pushed = ap length c.in_ok-push.ensures.items in
    let longer = length-append c.self.inside.waiting.items (c.args.request ∷ []) in
    (c.self.invariant.0, length-set used c.args.request.number _ ∙ size, omega (arith, low, more, pushed, longer))
