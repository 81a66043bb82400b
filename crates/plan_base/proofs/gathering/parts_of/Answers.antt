use Rattle.std.proofs.Common.{◌≡◌, ◌-◌, ◌+◌, ◌||◌, suc, Bool, true, false, List, [], ◌∷◌, ◌++◌, sym, ap, ◌∙◌, arith, append_assoc, append-nil, add-one}
use Rattle.fid_space.specs.Targets.{joined}
use Rattle.out_update.specs.declared.update.Update.{Update}
use Rattle.plan_base.specs.Updates.{Placed}
use Rattle.plan_base.specs.Planners.{part_for, has_part, is_home, parts_from}
use Rattle.update_record.specs.Spelling.{targets_from}
use Rattle.plan_base.proofs.Parting.{parts_on, parts_off, parts_end, targets_push}
use Rattle.plan_base.proofs.gathering.parts_of.Goals as goal

pub loop-target-preserved-then-not-takes_part : goal.loop-target-preserved-then-not-takes_part
loop-target-preserved-then-not-takes_part c =
    let i = c.loop-target.target in
    let n = c.targets-target-end.result in
    let e : n - i ≡ suc (n - (i + 1)) = omega (arith, c.loop-target-test.true) in
    let no = sym (c.takes_part.ensures ∙ ap (λ (p : List Placed). is_home c.args.home i || has_part i p) c.items.ensures) ∙ c.if-not-takes_part.true in
    record {
      all = ap (λ (ps : List Placed). c.loop-target.parts ++ ps) (sym (parts_off c.args.home c.args.placed.now i (i + 1) (n - i) (n - (i + 1)) e (add-one i) no)) ∙ c.loop-target.invariant.all;
      set = c.loop-target.invariant.set;
    }

pub loop-target-preserved : goal.loop-target-preserved
loop-target-preserved c =
    let i = c.loop-target.target in
    let n = c.targets-target-end.result in
    let placed = c.args.placed.now in
    let e : n - i ≡ suc (n - (i + 1)) = omega (arith, c.loop-target-test.true) in
    let yes = sym (c.takes_part.ensures ∙ ap (λ (p : List Placed). is_home c.args.home i || has_part i p) c.items.ensures) ∙ c.if-not-takes_part.false in
    let part = c.in_ok-part_for.ensures ∙ ap (λ (p : List Placed). part_for i p) c.items-in-loop-target.ensures in
    let pushed = c.in_ok-push.ensures.ok ∙ ap (λ (us : List Update). c.loop-target.parts ++ (i, us) ∷ []) part in
    record {
      all =
          ap (λ (ps : List Placed). ps ++ parts_from c.args.home placed (i + 1) (n - (i + 1))) pushed
          ∙ append_assoc c.loop-target.parts ((i, part_for i placed) ∷ []) (parts_from c.args.home placed (i + 1) (n - (i + 1)))
          ∙ ap (λ (ps : List Placed). c.loop-target.parts ++ ps) (sym (parts_on c.args.home placed i (i + 1) (n - i) (n - (i + 1)) e (add-one i) yes))
          ∙ c.loop-target.invariant.all;
      set =
          c.with-on.ensures.value ∙ ap (λ s. joined s i) c.loop-target.invariant.set
          ∙ sym (ap (λ (ps : List Placed). targets_from 0 ps) pushed ∙ targets_push 0 c.loop-target.parts (i, part_for i placed));
    }

pub returns-clause-parts : goal.returns-clause-parts
returns-clause-parts c =
    let i = c.loop-target.target in
    let n = c.targets-target-end.result in
    let e : n - i ≡ 0 = omega (arith, c.loop-target-test.false) in
    sym (append-nil c.loop-target.parts) ∙ ap (λ (ps : List Placed). c.loop-target.parts ++ ps) (sym (parts_end c.args.home c.args.placed.now i (n - i) e)) ∙ c.loop-target.invariant.all
