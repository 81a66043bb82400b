use Rattle.std.proofs.Common.{rules, ◌≡◌, ◌++◌, ◌∷◌, [], true, false}
use Rattle.fid_space.specs.Targets.{is_member}
use Rattle.scenario_text.specs.LineText.{members}
use Rattle.scenario_text.proofs.Members.{members_in, members_out}
use Rattle.scenario_text.proofs.list.members.Goals as goal
use Rattle.scenario_text.proofs.list.members.Goals.{then-has+in_ok-push, else-has}

pub loop-target-init : goal.loop-target-init
unfolding members
loop-target-init c = c.new-members.ensures.items

pub loop-target-preserved : goal.loop-target-preserved
loop-target-preserved c =
    elim c.if-has.branch [
      | then-has+in_ok-push w ↦
          let has : is_member c.args.set c.loop-target.target ≡ true = search rules in
          let new : c.if-has.members.items ≡ c.loop-target.members.items ++ c.loop-target.target ∷ [] = search rules in
          members_in c.args.set c.loop-target.target c.loop-target.members.items c.if-has.members.items c.loop-target.invariant has new
      | else-has w ↦
          let has : is_member c.args.set c.loop-target.target ≡ false = search rules in
          let new : c.if-has.members.items ≡ c.loop-target.members.items = search rules in
          members_out c.args.set c.loop-target.target c.loop-target.members.items c.if-has.members.items c.loop-target.invariant has new
    ]
