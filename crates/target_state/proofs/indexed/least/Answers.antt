use Rattle.std.proofs.Common.{◌≡◌, ◌≢◌, ◌<◌, ◌⊎◌, ◌∷◌, slice_get, IfSome, IsTrue, true, false, refl, sym, ap, subst, inl, inr, arith, List, Option, Some}
use Rattle.std.specs.Prelude.{⊤}
use Rattle.std.specs.BTreeSet.{contains}
use Rattle.std.specs.Ordering.{is_gt}
use Rattle.std.specs.Map.Iter.{deref}
use Rattle.std.proofs.lemmas.Map.Iter.{rest_more, rest_all}
use Rattle.target_state.specs.declared.indexed.LiveRecord.{LiveRecord}
use Rattle.target_state.specs.Indexed.{live_cmp}
use Rattle.target_state.proofs.Indexing.{IsLeast, start_of, none_of, none_up_to}
use Rattle.target_state.proofs.indexed.least.Goals as goal
use Rattle.target_state.proofs.indexed.least.Goals.{else-first-master-via-then-first-master+else-first-mark, else-first-master-via-else-first-master}

pub returns-in-None-clause-none : goal.returns-in-None-clause-none
returns-in-None-clause-none c = λ _ q same low.
    none_of c.args.live.now c.args.master
    (λ k from. (c.range.ensures.in_range tt).5 (rest_all deref c.range.result c.next.new.self c.next.result c.in-None.is c.next.ensures.steps) k (from, tt)) q same

pub returns-else-first-master-clause-none : goal.returns-else-first-master-clause-none
returns-else-first-master-clause-none c = λ _ q same low.
    let k = c.in-Some.first.now in
    let live = c.args.live.now in
    let master = c.args.master in
    let in_range = c.range.ensures.in_range tt in
    let more = rest_more deref c.range.result c.next.new.self c.next.result c.in-Some.first c.in-Some.is c.next.ensures.steps in
    let here = subst (λ (r : List LiveRecord). IfSome (slice_get r 0) (λ (x : LiveRecord). ((is_gt (live_cmp (start_of master) x) ≡ false) × ⊤) × IsTrue (contains live_cmp live x))) more in_range.1 in
    let least : IsLeast live master k = (here.0.0, λ x from there. subst (λ (r : List LiveRecord). IfSome (slice_get r 0) (λ y. is_gt (live_cmp y x) ≡ false)) more (in_range.2 x (from, tt) there)) in
    let far : (k.master ≢ master) ⊎ (c.args.mark < k.batch) = elim c.else-first-master.branch [
      | else-first-master-via-then-first-master+else-first-mark w ↦ inr (let high = w.if-first-mark.false in omega (arith, high))
      | else-first-master-via-else-first-master w ↦ inl (λ e. w.if-first-master.false e)
    ] in
    none_up_to live master c.args.mark k least far q same low
