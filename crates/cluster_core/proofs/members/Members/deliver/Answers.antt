use Rattle.std.proofs.Common.{ℕ, List, refl, sym, ap, ◌∙◌, subst}
use Rattle.std.proofs.lemmas.Result.{on_ok_weaker}
use Rattle.cluster_mail.specs.declared.content.Content.{Content}
use Rattle.cluster_mail.specs.Mail.{Sent, mark_delivered, message_of}
use Rattle.target_turns.specs.Target.{Target}
use Rattle.cluster_core.specs.Cluster.{Cluster, AreTouched}
use Rattle.cluster_core.specs.Delivery.{MayReach}
use Rattle.cluster_core.proofs.Placed.{touched_same}
use Rattle.cluster_core.proofs.Delivered.{handed, lost, back, found, none_found, on_ok_both}
use Rattle.cluster_core.proofs.members.Members.deliver.Goals as goal

-- src/delivering.rt:156:5
pub returns-in-Some-clause-does : goal.returns-in-Some-clause-does
returns-in-Some-clause-does g c =
    let kept = ap (λ (x : Cluster). x.sent) c.self.view_is in
    on_ok_both c.hand.result
    (handed c.args.self.now (record { targets = c.self.inside.targets.items; sent = c.take.new.self }) c.hand.new.self c.args.k c.in_ok-message.message (ap (λ (x : Cluster). x.targets) c.self.view_is)
    (c.in_ok-message.ensures.ok ∙ ap (λ (ss : List Sent). mark_delivered ss c.args.k) kept)
    (c.in_ok-message.ensures.message ∙ ap (λ (ss : List Sent). message_of ss c.args.k) kept)
    c.args.lines.now c.hand.new.lines
    (sym c.bounces.ensures.back ∙ c.if-bounces.false) c.in-Some.content
    (subst (λ (n : ℕ). MayReach n c.in_ok-message.message c.in-Some.content) (sym c.self.invariant.count_is) (found c.self.inside.cluster c.in_ok-message.message c.in_ok-content.field-0 c.in-Some.content c.in-Some.is c.in_ok-content.ensures)))
    c.hand.ensures.turn c.hand.ensures.lines

-- src/delivering.rt:156:5
pub returns-clause-does : goal.returns-clause-does
returns-clause-does g c =
    let kept = ap (λ (x : Cluster). x.sent) c.self.view_is in
    let mid : Cluster = record { targets = c.self.inside.targets.items; sent = c.take.new.self } in
    on_ok_weaker c.push.result
    (lost c.args.self.now mid mid c.args.k c.in_ok-message.message (ap (λ (x : Cluster). x.targets) c.self.view_is)
    (c.in_ok-message.ensures.ok ∙ ap (λ (ss : List Sent). mark_delivered ss c.args.k) kept)
    (c.in_ok-message.ensures.message ∙ ap (λ (ss : List Sent). message_of ss c.args.k) kept)
    c.args.lines.now c.push.new.self
    (sym c.bounces.ensures.back ∙ c.if-bounces.false)
    (subst (λ (n : ℕ). (content : Content) → MayReach n c.in_ok-message.message content → ⊥) (sym c.self.invariant.count_is) (none_found c.self.inside.cluster c.in_ok-message.message c.in_ok-content.field-0 c.in-None.is c.in_ok-content.ensures))
    refl)
    c.push.ensures.ok

-- src/delivering.rt:156:5
pub returns-clause-touched : goal.returns-clause-touched
returns-clause-touched g c =
    subst (λ (ts : List Target). AreTouched ts c.self.inside.targets.items) (ap (λ (x : Cluster). x.targets) c.self.view_is) (touched_same c.self.inside.targets.items)

-- src/delivering.rt:159:23
pub returns-in_err-message-clause-touched : goal.returns-in_err-message-clause-touched
returns-in_err-message-clause-touched g c =
    subst (λ (ts : List Target). AreTouched ts c.self.inside.targets.items) (ap (λ (x : Cluster). x.targets) c.self.view_is) (touched_same c.self.inside.targets.items)

-- src/delivering.rt:163:15
pub returns-in_err-content-clause-touched : goal.returns-in_err-content-clause-touched
returns-in_err-content-clause-touched g c =
    subst (λ (ts : List Target). AreTouched ts c.self.inside.targets.items) (ap (λ (x : Cluster). x.targets) c.self.view_is) (touched_same c.self.inside.targets.items)

-- src/delivering.rt:161:13
pub returns-then-bounces-clause-does : goal.returns-then-bounces-clause-does
returns-then-bounces-clause-does g c =
    let kept = ap (λ (x : Cluster). x.sent) c.self.view_is in
    on_ok_both c.bounce.result
    (back c.args.self.now (record { targets = c.self.inside.targets.items; sent = c.take.new.self }) c.bounce.new.self c.args.k c.in_ok-message.message (ap (λ (x : Cluster). x.targets) c.self.view_is)
    (c.in_ok-message.ensures.ok ∙ ap (λ (ss : List Sent). mark_delivered ss c.args.k) kept)
    (c.in_ok-message.ensures.message ∙ ap (λ (ss : List Sent). message_of ss c.args.k) kept)
    c.args.lines.now c.bounce.new.lines
    (sym c.bounces.ensures.back ∙ c.if-bounces.true))
    c.bounce.ensures.turn c.bounce.ensures.lines
