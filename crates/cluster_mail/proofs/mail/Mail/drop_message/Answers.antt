use Rattle.std.proofs.Common.{sym}
use Rattle.cluster_mail.proofs.Marks.{kept_dropped, seen_dropped, as_many}
use Rattle.cluster_mail.proofs.mail.Mail.drop_message.Goals as goal

pub invariant_of-self : goal.invariant_of-self
invariant_of-self c =
    let lt = as_many c.args.self.now c.self.inside.sent.items c.args.k (sym c.self.view_is) c.requires.low c.requires.sent in
    kept_dropped c.self.inside.sent.items c.self.inside.first c.self.inside.bytes _ c.index_mut.result.now c.self.invariant c.index_mut.ensures.value lt

pub returns : goal.returns
returns c =
    let lt = as_many c.args.self.now c.self.inside.sent.items c.args.k (sym c.self.view_is) c.requires.low c.requires.sent in
    seen_dropped c.args.self.now c.self.inside.sent.items _ c.index_mut.result.now (sym c.self.view_is) c.index_mut.ensures.value lt
