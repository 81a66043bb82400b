use Rattle.std.proofs.Common.{◌++◌, List, map, set, refl, ap, ◌∙◌}
use Rattle.cluster_mail.specs.Mail.{Sent, fresh}
use Rattle.target_turns.specs.Target.{fate_of}
use Rattle.target_turns.specs.Commanded.{commits_by}
use Rattle.cluster_core.specs.Cluster.{Cluster, turn_lines, target_at}
use Rattle.cluster_core.proofs.Placed.{turn_placed, turn_touched, turn_said, turn_made}
use Rattle.cluster_core.proofs.Delivered.{on_ok_all}
use Rattle.cluster_core.proofs.members.Members.commit.Goals as goal

-- src/members.rt:64:5
pub invariant_of-self : goal.invariant_of-self
invariant_of-self g c =
    turn_placed c.args.self.now.targets c.self.inside.targets.items c.args.target c.index_mut.result.now c.commit.new.self (ap (λ (x : Cluster). x.targets) c.self.view_is) c.requires c.index_mut.ensures.value
    c.self.inside.cluster c.self.invariant c.commit.ensures.place

-- src/members.rt:64:5
pub returns-clause-does : goal.returns-clause-does
returns-clause-does g c =
    let kept = ap (λ (x : Cluster). x.sent) c.self.view_is in
    let made = turn_made c.args.self.now.targets c.self.inside.targets.items c.args.target c.index_mut.result.now c.commit.new.self (ap (λ (x : Cluster). x.targets) c.self.view_is) c.requires c.index_mut.ensures.value in
    let said = turn_said c.args.self.now.targets c.self.inside.targets.items c.args.target c.index_mut.result.now c.commit.new.self (ap (λ (x : Cluster). x.targets) c.self.view_is) c.requires c.index_mut.ensures.value in
    let new : Cluster = record { targets = set c.self.inside.targets.items c.args.target c.commit.new.self; sent = c.commit.new.mail } in
    on_ok_all c.commit.result
    (λ after lines sent fate. (
      turn_lines new c.args.target (commits_by (target_at c.args.self.now.targets c.args.target)),
      record {
        turn = made c.args.self.now.sent c.commit.new.mail commits_by after (sent ∙ ap (λ (ss : List Sent). ss ++ map fresh (commits_by c.index_mut.result.now (fate_of c.commit.new.self)).sent) kept) fate;
        lines_are = refl;
      },
      said commits_by c.args.lines.now c.commit.new.lines lines,
    ))
    c.commit.ensures.after c.commit.ensures.lines c.commit.ensures.sent c.commit.ensures.fate

-- src/members.rt:64:5
pub returns-clause-touched : goal.returns-clause-touched
returns-clause-touched g c =
    turn_touched c.args.self.now.targets c.self.inside.targets.items c.args.target c.index_mut.result.now c.commit.new.self (ap (λ (x : Cluster). x.targets) c.self.view_is) c.requires c.index_mut.ensures.value
    c.commit.ensures.touches
