use Rattle.std.proofs.Common.{◌≡◌, ◌+◌, sym, subst₂, arith}
use Rattle.cluster_mail.specs.Kept.{AreKept}
use Rattle.cluster_mail.proofs.Marks.{kept_push}
use Rattle.cluster_mail.proofs.mail.Mail.keep.Goals as goal

pub invariant_of-self : goal.invariant_of-self
invariant_of-self c =
    subst₂ (λ xs n. AreKept xs c.self.inside.first (c.self.inside.bytes + n)) (sym c.in-Ok.ensures.items) (sym c.len-len.ensures) (kept_push c.self.inside.sent.items c.self.inside.first c.self.inside.bytes c.args.sent c.self.invariant c.requires (omega (arith, c.if-len-ge4294967295.false, c.len.ensures)))
