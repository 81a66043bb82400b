use Rattle.std.proofs.Common.{◌≡◌, sym, ap, ◌∙◌, length, arith}
use Rattle.std.proofs.lemmas.List.{length-map}
use Rattle.cluster_mail.specs.Kept.{seen}
use Rattle.cluster_mail.proofs.Marks.{past_more}
use Rattle.cluster_mail.proofs.mail.Mail.first_waiting.Goals as goal

pub loop-index-preserved : goal.loop-index-preserved
loop-index-preserved c =
    let many : length c.args.self.now ≡ length c.self.inside.sent.items = ap length (sym c.self.view_is) ∙ length-map c.self.inside.sent.items seen in
    record {
      within = omega (arith, c.loop-index-test.true, c.len-index-end.ensures);
      past = past_more c.args.self.now c.self.inside.sent.items c.loop-index.index c.index.result.now (sym c.self.view_is) c.index.ensures (omega (arith, c.loop-index-test.true, c.len-index-end.ensures)) (sym c.waits.ensures ∙ c.if-waits.false) c.loop-index.invariant.past;
    }
