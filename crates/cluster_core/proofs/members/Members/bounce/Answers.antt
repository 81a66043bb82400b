use Rattle.std.proofs.Common.{◌++◌, List, map, ap, ◌∙◌}
use Rattle.std.proofs.lemmas.Result.{on_ok_weaker}
use Rattle.cluster_mail.specs.Mail.{Sent, fresh}
use Rattle.target_turns.specs.Target.{Target, Fate, fate_of}
use Rattle.target_turns.specs.Commanded.{hears_bounce}
use Rattle.cluster_core.specs.Cluster.{Cluster}
use Rattle.cluster_core.proofs.Placed.{turn_placed, turn_touched, turn_said, turn_made}
use Rattle.cluster_core.proofs.Delivered.{on_ok_three}
use Rattle.cluster_core.proofs.members.Members.bounce.Goals as goal

-- src/delivering.rt:134:5
pub invariant_of-self : goal.invariant_of-self
invariant_of-self g c =
    turn_placed c.args.self.now.targets c.self.inside.targets.items c.args.message.now.from c.index_mut.result.now c.bounce.new.self (ap (λ (x : Cluster). x.targets) c.self.view_is) c.requires.there c.index_mut.ensures.value
    c.self.inside.cluster c.self.invariant c.bounce.ensures.place

-- src/delivering.rt:134:5
pub returns-clause-turn : goal.returns-clause-turn
returns-clause-turn g c =
    on_ok_three c.bounce.result
    (λ after sent fate.
    turn_made c.args.self.now.targets c.self.inside.targets.items c.args.message.now.from c.index_mut.result.now c.bounce.new.self (ap (λ (x : Cluster). x.targets) c.self.view_is) c.requires.there c.index_mut.ensures.value
    c.args.self.now.sent c.bounce.new.mail (λ (t : Target) (f : Fate). hears_bounce t c.args.message.now f) after
    (sent ∙ ap (λ (ss : List Sent). ss ++ map fresh ((λ (t : Target) (f : Fate). hears_bounce t c.args.message.now f) c.index_mut.result.now (fate_of c.bounce.new.self)).sent) (ap (λ (x : Cluster). x.sent) c.self.view_is)) fate)
    c.bounce.ensures.after c.bounce.ensures.sent c.bounce.ensures.fate

-- src/delivering.rt:134:5
pub returns-clause-lines : goal.returns-clause-lines
returns-clause-lines g c =
    on_ok_weaker c.bounce.result
    (turn_said c.args.self.now.targets c.self.inside.targets.items c.args.message.now.from c.index_mut.result.now c.bounce.new.self (ap (λ (x : Cluster). x.targets) c.self.view_is) c.requires.there c.index_mut.ensures.value
    (λ (t : Target) (f : Fate). hears_bounce t c.args.message.now f) c.args.lines.now c.bounce.new.lines)
    c.bounce.ensures.lines

-- src/delivering.rt:134:5
pub returns-clause-touched : goal.returns-clause-touched
returns-clause-touched g c =
    turn_touched c.args.self.now.targets c.self.inside.targets.items c.args.message.now.from c.index_mut.result.now c.bounce.new.self (ap (λ (x : Cluster). x.targets) c.self.view_is) c.requires.there c.index_mut.ensures.value
    c.bounce.ensures.touches
