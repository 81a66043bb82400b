use Rattle.std.proofs.Common.{sym}
use Rattle.cluster_mail.proofs.Marks.{kept_delivered, seen_delivered, as_many}
use Rattle.cluster_mail.proofs.mail.Mail.take.Goals as goal

pub invariant_of-self : goal.invariant_of-self
invariant_of-self c =
    let lt = as_many c.args.self.now c.self.inside.sent.items c.args.k (sym c.self.view_is) c.requires.low c.requires.sent in
    kept_delivered c.self.inside.sent.items c.self.inside.first c.self.inside.bytes _ c.index_mut.result.now c.self.invariant c.index_mut.ensures.value lt

pub returns-clause-ok : goal.returns-clause-ok
returns-clause-ok c =
    let lt = as_many c.args.self.now c.self.inside.sent.items c.args.k (sym c.self.view_is) c.requires.low c.requires.sent in
    seen_delivered c.args.self.now c.self.inside.sent.items _ c.index_mut.result.now (sym c.self.view_is) c.index_mut.ensures.value lt
