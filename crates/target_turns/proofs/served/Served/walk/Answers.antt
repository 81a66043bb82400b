use Rattle.std.proofs.Common.{◌∙◌, subst, arith}
use Rattle.target_turns.specs.declared.home.Step.{Step}
use Rattle.target_turns.specs.Seen.{served_of}
use Rattle.target_turns.specs.Home.{walks}
use Rattle.target_turns.specs.Stepping.{Goes, Rests, Steps}
use Rattle.target_turns.proofs.Walking.{one_goes, one_rests}
use Rattle.target_turns.proofs.served.Served.walk.Goals as goal

pub loop-step-preserved : goal.loop-step-preserved
loop-step-preserved g c =
    let old = served_of g.D.Disk.shown c.loop-step.self in
    let new = served_of g.D.Disk.shown c.step.new.self in
    let s : Goes old new c.loop-step.next c.in-Goes.action = subst (λ (s : Step). Steps old new c.loop-step.next s) c.in-Goes.is c.in_ok-action.ensures.step in record {
      is = one_goes c.loop-step._step old new c.loop-step.next c.in-Goes.action (walks (served_of g.D.Disk.shown c.args.self.now) c.args.action) (omega (arith, c.loop-step-test.true)) s.is c.loop-step.invariant.is;
      fits = s.fits;
      disk = c.in_ok-action.ensures.disk ∙ c.loop-step.invariant.disk;
      cluster = c.in_ok-action.ensures.place.0 ∙ c.loop-step.invariant.cluster;
      index = c.in_ok-action.ensures.place.1 ∙ c.loop-step.invariant.index;
    }

pub returns-in-Rests-clause-walk : goal.returns-in-Rests-clause-walk
returns-in-Rests-clause-walk g c =
    let old = served_of g.D.Disk.shown c.loop-step.self in
    let new = served_of g.D.Disk.shown c.step.new.self in
    let s : Rests old new c.loop-step.next c.in-Rests.action = subst (λ (s : Step). Steps old new c.loop-step.next s) c.in-Rests.is c.in_ok-action.ensures.step in record {
      is = one_rests c.loop-step._step old new c.loop-step.next c.in-Rests.action (walks (served_of g.D.Disk.shown c.args.self.now) c.args.action) s.is s.same s.after c.loop-step.invariant.is;
      fits = rw s.same c.loop-step.invariant.fits;
    }
