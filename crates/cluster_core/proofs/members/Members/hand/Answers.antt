use Rattle.std.proofs.Common.{◌++◌, List, map, ap, ◌∙◌}
use Rattle.std.proofs.lemmas.Result.{on_ok_weaker}
use Rattle.cluster_mail.specs.Mail.{Sent, fresh}
use Rattle.target_turns.specs.Target.{Target, fate_of}
use Rattle.target_turns.specs.Turn.{turned}
use Rattle.cluster_core.specs.Cluster.{Cluster}
use Rattle.cluster_core.proofs.Placed.{turn_placed, turn_touched, turn_said, turn_made, turn_may}
use Rattle.cluster_core.proofs.Delivered.{on_ok_three}
use Rattle.cluster_core.proofs.members.Members.hand.Goals as goal

-- src/delivering.rt:129:9
pub receive-requires : goal.receive-requires
receive-requires g c =
    record {
      may =
          turn_may c.args.self.now.targets c.self.inside.targets.items c.args.message.now.to c.index_mut.result.now c.index_mut.result.now (ap (λ (x : Cluster). x.targets) c.self.view_is) c.requires.there c.index_mut.ensures.value
          c.self.inside.cluster c.self.invariant c.args.message.now c.args.content c.requires.may;
    }

-- src/delivering.rt:115:5
pub invariant_of-self : goal.invariant_of-self
invariant_of-self g c =
    turn_placed c.args.self.now.targets c.self.inside.targets.items c.args.message.now.to c.index_mut.result.now c.receive.new.self (ap (λ (x : Cluster). x.targets) c.self.view_is) c.requires.there c.index_mut.ensures.value
    c.self.inside.cluster c.self.invariant c.receive.ensures.place

-- src/delivering.rt:115:5
pub returns-clause-turn : goal.returns-clause-turn
returns-clause-turn g c =
    on_ok_three c.receive.result
    (λ after sent fate.
    turn_made c.args.self.now.targets c.self.inside.targets.items c.args.message.now.to c.index_mut.result.now c.receive.new.self (ap (λ (x : Cluster). x.targets) c.self.view_is) c.requires.there c.index_mut.ensures.value
    c.args.self.now.sent c.receive.new.mail (λ (t : Target). turned c.args.k t c.args.message.now c.args.content) after
    (sent ∙ ap (λ (ss : List Sent). ss ++ map fresh ((λ (t : Target). turned c.args.k t c.args.message.now c.args.content) c.index_mut.result.now (fate_of c.receive.new.self)).sent) (ap (λ (x : Cluster). x.sent) c.self.view_is)) fate)
    c.receive.ensures.after c.receive.ensures.sent c.receive.ensures.fate

-- src/delivering.rt:115:5
pub returns-clause-lines : goal.returns-clause-lines
returns-clause-lines g c =
    on_ok_weaker c.receive.result
    (turn_said c.args.self.now.targets c.self.inside.targets.items c.args.message.now.to c.index_mut.result.now c.receive.new.self (ap (λ (x : Cluster). x.targets) c.self.view_is) c.requires.there c.index_mut.ensures.value
    (λ (t : Target). turned c.args.k t c.args.message.now c.args.content) c.args.lines.now c.receive.new.lines)
    c.receive.ensures.lines

-- src/delivering.rt:115:5
pub returns-clause-touched : goal.returns-clause-touched
returns-clause-touched g c =
    turn_touched c.args.self.now.targets c.self.inside.targets.items c.args.message.now.to c.index_mut.result.now c.receive.new.self (ap (λ (x : Cluster). x.targets) c.self.view_is) c.requires.there c.index_mut.ensures.value
    c.receive.ensures.touches
