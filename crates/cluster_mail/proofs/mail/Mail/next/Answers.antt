use Rattle.std.proofs.Common.{◌≡◌, ◌<◌, sym, ap, ◌∙◌, length, arith}
use Rattle.std.proofs.lemmas.List.{length-map}
use Rattle.cluster_mail.specs.Kept.{seen}
use Rattle.cluster_mail.proofs.Marks.{next_is_none, next_is_some}
use Rattle.cluster_mail.proofs.mail.Mail.next.Goals as goal

pub returns-then-self-len-clause-least : goal.returns-then-self-len-clause-least
returns-then-self-len-clause-least c =
    let many : length c.args.self.now ≡ length c.self.inside.sent.items = ap length (sym c.self.view_is) ∙ length-map c.self.inside.sent.items seen in
    next_is_none c.first_waiting-self-inside.result c.args.self.now c.first_waiting-self-inside.ensures.past (omega (arith, c.if-self-len.true, c.len.ensures))

pub returns-clause-least : goal.returns-clause-least
returns-clause-least c =
    let many : length c.args.self.now ≡ length c.self.inside.sent.items = ap length (sym c.self.view_is) ∙ length-map c.self.inside.sent.items seen in
    let within = c.first_waiting-self-inside.ensures.within in
    let lt : c.first_waiting-self-inside.result < length c.args.self.now = omega (arith, c.if-self-len.false, c.len.ensures) in
    next_is_some c.first_waiting-self-inside.result c.args.self.now c.first_waiting-self-inside.ensures.past lt (c.first_waiting-self-inside.ensures.here lt)
