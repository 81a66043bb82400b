-- Each decision may be recorded.
use Rattle.std.proofs.Common.{◌≡◌, ℕ, not, true, false, Option, Some, None, is_some, Result, Ok, Err, [], refl, ap, subst, arith}
use Rattle.fid_space.specs.Places.{has_place}
use Rattle.tree_model.specs.declared.op.Op.{Op}
use Rattle.tree_model.specs.declared.op.Op.TheVariants as ops
use Rattle.tree_model.specs.declared.reply.Reply.{Reply}
use Rattle.tree_model.specs.declared.reply.Reply.TheVariants as replies
use Rattle.tree_model.specs.OpText.{IsOp}
use Rattle.tree_model.specs.Participants.{first_fid, home_of}
use Rattle.update_record.specs.Spelling.{is_answer}
use Rattle.striped_dir.specs.declared.plan.Step.TheVariants as steps
use Rattle.striped_dir.specs.declared.plan.Decision.{Decision}
use Rattle.plan_base.specs.declared.outcome.Outcome.{Outcome}
use Rattle.plan_base.specs.declared.question.Stop.{Stop}
use Rattle.plan_base.specs.declared.question.Stop.TheVariants as stop
use Rattle.plan_base.specs.Planning.{asks}
use Rattle.plan_base.specs.Planners.{reached, step_at, decision_of, refusal_of, told_after}
use Rattle.plan_record.specs.Recorded.{reads, IsRecorded, MayPlan, DecisionsAreRecorded}
use Rattle.plan_record.proofs.Outcomes.{every, Each}
use Rattle.plan_record.proofs.Fitting.{Fits, fits_none, fits_most}
use Rattle.plan_record.proofs.Settling.{Small, create_ends, mkdir_ends, link_ends, unlink_ends, rmdir_ends, setattr_ends, setxattr_ends, delxattr_ends, lookup_ends, getattr_ends, getxattr_ends}
use Rattle.plan_record.proofs.Moving.{rename_ends}
use Rattle.plan_record.proofs.Migrating.{migrate_ends}
use Rattle.plan_record.proofs.Parting.{parts_recorded, home_stands}

all_end : (targets batch : ℕ) (op : Op) → MayPlan targets batch op → Each (Small batch (not (reads op))) (asks targets batch op)
all_end targets batch (ops.Create p x f) h = let is = h.named in create_ends targets batch h.some h.few h.wide p x f is.0.0 is.1 is.2.0
all_end targets batch (ops.Mkdir p x f z) h = let is = h.named in mkdir_ends targets batch h.some h.few h.wide p x f z is.0.0 is.1 is.2.0
all_end targets batch (ops.Link p x f) h = let is = h.named in link_ends targets batch h.some h.few h.wide p x f is.0.0 is.1 is.2.0
all_end targets batch (ops.Unlink p x) h = let is = h.named in unlink_ends targets batch h.some h.few h.wide p x is.0.0 is.1
all_end targets batch (ops.Rmdir p x) h = let is = h.named in rmdir_ends targets batch h.some h.few h.wide p x is.0.0 is.1
all_end targets batch (ops.Rename p x q y) h = let is = h.named in rename_ends targets batch h.some h.few h.wide p x q y is.0.0 is.1 is.2.0 is.3
all_end targets batch (ops.SetAttr f m u g) h = let is = h.named in setattr_ends targets batch h.some h.few h.wide f m u g is.0.0
all_end targets batch (ops.SetXattr f x v) h = let is = h.named in setxattr_ends targets batch h.some h.few h.wide f x v is.0.0 is.1 is.2.1
all_end targets batch (ops.DelXattr f x) h = let is = h.named in delxattr_ends targets batch h.some h.few h.wide f x is.0.0 is.1
all_end targets batch (ops.Migrate d c i) h = let is = h.named in migrate_ends targets batch h.some h.few h.wide d c i is.0.0
all_end targets batch (ops.Lookup p x) h = lookup_ends targets batch h.some h.few h.wide p x
all_end targets batch (ops.GetAttr f) h = getattr_ends targets batch h.some h.few h.wide f
all_end targets batch (ops.GetXattr f x) h = getxattr_ends targets batch h.some h.few h.wide f x

-- ---- the home has a place

first_placed : (targets : ℕ) (op : Op) → IsOp targets op → has_place targets (first_fid op) ≡ true
first_placed targets (ops.Create p x f) is = is.0.1
first_placed targets (ops.Mkdir p x f z) is = is.0.1
first_placed targets (ops.Link p x f) is = is.0.1
first_placed targets (ops.Unlink p x) is = is.0.1
first_placed targets (ops.Rmdir p x) is = is.0.1
first_placed targets (ops.Rename p x q y) is = is.0.1
first_placed targets (ops.SetAttr f m u g) is = is.0.1
first_placed targets (ops.SetXattr f x v) is = is.0.1
first_placed targets (ops.DelXattr f x) is = is.0.1
first_placed targets (ops.Migrate d c i) is = is.0.1
first_placed targets (ops.Lookup p x) is = is.0.1
first_placed targets (ops.GetAttr f) is = is.1
first_placed targets (ops.GetXattr f x) is = is.0.1

home_there : (o : Option ℕ) → is_some o ≡ true → (home : ℕ) × (o ≡ Some home)
home_there (Some home) h = (home, refl)
home_there None h = absurd (cc)

-- ---- decisions

module _ (targets batch : ℕ) (op : Op) (h : MayPlan targets batch op) where
  recorded : (o : Outcome) → Fits batch 128 21680 o.placed → (reads op ≡ false → is_answer o.reply ≡ true) → IsRecorded targets batch op (decision_of targets op o)
  recorded o fits answer =
      let parts = parts_recorded targets batch (home_of targets op) o.placed h.few fits in
      let short = parts.short in
      let there = home_there (home_of targets op) (first_placed targets op h.named) in
      record {
        answer = answer;
        some_part = (home_stands targets (first_fid op) there.0 o.placed h.some there.1).some;
        few_parts = parts.few;
        each = parts.each;
        home_in = λ home is. (home_stands targets (first_fid op) home o.placed h.some is).has;
        size = omega (arith, short);
        on = refl;
      }

  refused : (r : Reply) → is_answer r ≡ true → IsRecorded targets batch op (decision_of targets op (refusal_of r))
  refused r answer = recorded (refusal_of r) (fits_most 0 128 0 21680 [] (omega arith) (omega arith) fits_none) (λ _. answer)

  done_answer : (o : Outcome) → Small batch (not (reads op)) o → reads op ≡ false → is_answer o.reply ≡ true
  done_answer o s change = ap is_answer (s.reply (ap not change))

  decided : (d e : Decision) → steps.Decided d ≡ steps.Decided e → d ≡ e
  decided d e h = cc

  by_stop : (d : Decision) (r : Result Outcome Stop) → ((o : Outcome) → r ≡ Ok o → Small batch (not (reads op)) o) → step_at targets op r ≡ steps.Decided d → IsRecorded targets batch op d
  by_stop d (Ok o) ends e = subst (λ d. IsRecorded targets batch op d) (decided (decision_of targets op o) d e) (recorded o (ends o refl).fits (done_answer o (ends o refl)))
  by_stop d (Err (stop.Ask q)) ends e = absurd (cc)
  by_stop d (Err (stop.Refused x)) ends e = subst (λ d. IsRecorded targets batch op d) (decided (decision_of targets op (refusal_of (replies.Err x))) d e) (refused (replies.Err x) refl)
  by_stop d (Err stop.Memory) ends e = subst (λ d. IsRecorded targets batch op d) (decided (decision_of targets op (refusal_of replies.Ok)) d e) (refused replies.Ok refl)

pub decisions_are_recorded : DecisionsAreRecorded
decisions_are_recorded p r d h heard e =
    let t = told_after p.told p.asked r in
    by_stop p.targets p.batch p.op h d (reached p.targets p.batch p.op t) (λ o k. every _ t heard (asks p.targets p.batch p.op) (all_end p.targets p.batch p.op h).all o k) e
