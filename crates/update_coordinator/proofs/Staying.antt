-- Batches that are stable everywhere stay so, and a mark is the greatest there is.
use Rattle.std.proofs.Common.{◌≡◌, ◌≢◌, ◌≤◌, ◌<◌, ◌+◌, ◌==◌, ◌&&◌, nat_lt, ℕ, Bool, true, false, if◌then◌else◌, List, [], ◌∷◌, ◌++◌, length, drop, set, get_or, max, Option, Some, None, refl, sym, ap, subst, ◌∙◌, arith, append_assoc, append-nil}
use Rattle.std.proofs.lemmas.List.{get_or-set_same, get_or-set_other, get_or_past, length-append, drop_at}
use Rattle.std.proofs.lemmas.Bool.Decides.{nat_tests}
use Rattle.std.proofs.Math.Nat.{le-max_left}
use Rattle.fid_space.specs.Targets.{is_member}
use Rattle.tree_model.specs.declared.op.Request.{Request}
use Rattle.striped_dir.specs.declared.plan.Decision.{Decision}
use Rattle.striped_dir.specs.declared.plan.Step.{Step}
use Rattle.striped_dir.specs.declared.plan.Step.TheVariants as steps
use Rattle.plan_base.specs.Planners.{step_after}
use Rattle.plan_record.specs.Recorded.{reads}
use Rattle.update_record.specs.declared.message.Facts.{Facts}
use Rattle.update_coordinator.specs.declared.words.Course.{Course}
use Rattle.update_coordinator.specs.declared.words.Going.{Going}
use Rattle.update_coordinator.specs.declared.words.Waits.{Waits}
use Rattle.update_coordinator.specs.declared.words.Waits.TheVariants as waits
use Rattle.update_coordinator.specs.declared.words.Event.{Event}
use Rattle.update_coordinator.specs.declared.words.Event.TheVariants as events
use Rattle.update_coordinator.specs.declared.words.Action.{Action}
use Rattle.update_coordinator.specs.declared.words.Action.TheVariants as actions
use Rattle.update_coordinator.specs.Coordinating.{Coordinating}
use Rattle.update_coordinator.specs.Rules.{all_targets, settles, holds, rooms, syncs, accepts, follows, ends, unheld, full, room_for, next_sync, first_course, stepped, started, looked, told, first_result, fact_for, on_fact, synced_for, on_synced, gives_up, on_down, resting, heard}
use Rattle.update_coordinator.specs.Marks.{is_everywhere, is_stable, mark_from, noted}
use Rattle.update_coordinator.specs.Laws.{IsRow, IsMark, IsUpTo}
use Rattle.update_coordinator.proofs.Due.{apart}
use Rattle.update_coordinator.proofs.Rising.{marked}

-- ---- batches that are noted only rise

abbrev Rise : List ℕ → List ℕ → Type 0
Rise old new = (u : ℕ) → get_or old u 0 ≤ get_or new u 0

set_at_length : (xs : List ℕ) (i v : ℕ) → get_or xs i 0 ≤ v → i < length xs → get_or xs i 0 ≤ get_or (set xs i v) i 0
set_at_length xs i v h l = subst (λ (n : ℕ). get_or xs i 0 ≤ n) (sym (get_or-set_same xs i v 0 l)) h

set_within : (xs : List ℕ) (i v : ℕ) (b : Bool) → nat_lt i (length xs) ≡ b → get_or xs i 0 ≤ v → get_or xs i 0 ≤ get_or (set xs i v) i 0
set_within xs i v true e h = set_at_length xs i v h (grind (arith, nat_tests, e))
set_within xs i v false e h = let past : length xs ≤ i = grind (arith, nat_tests, e) in omega (arith, get_or_past xs i 0 past)

set_by : (xs : List ℕ) (i v u : ℕ) (b : Bool) → (u == i) ≡ b → get_or xs i 0 ≤ v → get_or xs u 0 ≤ get_or (set xs i v) u 0
set_by xs i v u true e h = let same : i ≡ u = grind (arith, nat_tests, e) in subst (λ (n : ℕ). get_or xs n 0 ≤ get_or (set xs i v) n 0) same (set_within xs i v (nat_lt i (length xs)) refl h)
set_by xs i v u false e h = let other : u ≢ i = grind (arith, nat_tests, e) in subst (λ (n : ℕ). get_or xs u 0 ≤ n) (sym (get_or-set_other xs i u v 0 other)) (omega arith)

noted_rise : (xs : List ℕ) (t batch : ℕ) → Rise xs (set xs t (max (get_or xs t 0) batch))
noted_rise xs t batch u = set_by xs t (max (get_or xs t 0) batch) u (u == t) refl (le-max_left (get_or xs t 0) batch)

-- ---- what is stable everywhere stays so

by_test : (m lacks lacks_now rest rest_now : Bool) → (lacks ≡ false → lacks_now ≡ false) → (rest ≡ true → rest_now ≡ true) → (if m && lacks then false else rest) ≡ true → (if m && lacks_now then false else rest_now) ≡ true
by_test false l n r s f g h = g h
by_test true true n r s f g h = apart h
by_test true false true r s f g h = apart (sym (f refl))
by_test true false false r s f g h = g h

lacks_less : (a b batch : ℕ) → a ≤ b → nat_lt a batch ≡ false → nat_lt b batch ≡ false
lacks_less a b batch h e = grind (arith, nat_tests, h, e)

everywhere_stays : (ts old new : List ℕ) (batch on : ℕ) → Rise old new → is_everywhere ts old batch on ≡ true → is_everywhere ts new batch on ≡ true
everywhere_stays [] old new batch on r h = refl
everywhere_stays (t ∷ ts) old new batch on r h =
    by_test (is_member on t) (nat_lt (get_or old t 0) batch) (nat_lt (get_or new t 0) batch) (is_everywhere ts old batch on) (is_everywhere ts new batch on) (lacks_less (get_or old t 0) (get_or new t 0) batch (r t))
    (everywhere_stays ts old new batch on r) h

stable_stays : (old new : List ℕ) (batch on : ℕ) → Rise old new → is_stable old batch on ≡ true → is_stable new batch on ≡ true
unfolding is_stable
stable_stays old new batch on r h = everywhere_stays all_targets old new batch on r h

row_stays : (old new : List ℕ) (m : ℕ) (ons : List ℕ) → Rise old new → IsRow old m ons → IsRow new m ons
row_stays old new m [] r h = tt
row_stays old new m (on ∷ ons) r h = (stable_stays old new (m + 1) on r h.0, row_stays old new (m + 1) ons r h.1)

-- ---- the mark

row_joins : (stable : List ℕ) (m n : ℕ) (xs ys : List ℕ) → n ≡ m + length xs → IsRow stable m xs → IsRow stable n ys → IsRow stable m (xs ++ ys)
row_joins stable m n [] ys e a b = let same : n ≡ m = omega (arith, e) in subst (λ (k : ℕ). IsRow stable k ys) same b
row_joins stable m n (x ∷ xs) ys e a b = (a.0, row_joins stable (m + 1) n xs ys (omega (arith, e)) a.1 b)

joins : (c : Coordinating) (stable : List ℕ) → Rise c.stable stable → (x : IsUpTo c) → (y : IsMark stable c.mark x.rest (mark_from stable c.mark x.rest)) → IsMark stable 0 c.batches (mark_from stable c.mark x.rest)
joins c stable r x y = record {
  front = x.front ++ y.front;
  rest = y.rest;
  parts = x.parts ∙ ap (λ (ys : List ℕ). x.front ++ ys) y.parts ∙ sym (append_assoc x.front y.front y.rest);
  count = let a = x.count in let b = y.count in omega (arith, a, b, length-append x.front y.front);
  row = let a = x.count in row_joins stable 0 c.mark x.front y.front (omega (arith, a)) (row_stays c.stable stable 0 x.front r x.row) y.row;
  stops = y.stops;
}

greatest : (c : Coordinating) (stable : List ℕ) → Rise c.stable stable → IsUpTo c → IsMark stable 0 c.batches (mark_from stable c.mark (drop c.mark c.batches))
greatest c stable r x =
    let behind : x.rest ≡ drop c.mark c.batches = sym (ap (drop c.mark) x.parts ∙ drop_at x.front x.rest c.mark (sym x.count)) in
    subst (λ (ys : List ℕ). IsMark stable 0 c.batches (mark_from stable c.mark ys)) behind (joins c stable r x (marked stable c.mark x.rest))

pub noted_greatest : (c : Coordinating) (t batch : ℕ) → IsUpTo c → IsMark (noted c t batch).stable 0 (noted c t batch).batches (noted c t batch).mark
noted_greatest c t batch x = greatest c (set c.stable t (max (get_or c.stable t 0) batch)) (noted_rise c.stable t batch) x

pub noted_up_to : (c : Coordinating) (t batch : ℕ) → IsUpTo c → IsUpTo (noted c t batch)
noted_up_to c t batch x = let y = noted_greatest c t batch x in record {
  front = y.front;
  rest = y.rest;
  parts = y.parts;
  count = let e = y.count in omega (arith, e);
  row = y.row;
}

-- ---- attempts add batches, and change nothing else of it

record Adds (c : Coordinating) (after : Coordinating) : Type 0 where
  stable : after.stable ≡ c.stable
  mark : after.mark ≡ c.mark
  more : List ℕ
  batches : after.batches ≡ c.batches ++ more

same : (c after : Coordinating) → after.stable ≡ c.stable → after.mark ≡ c.mark → after.batches ≡ c.batches → Adds c after
same c after s m b = record { stable = s; mark = m; more = []; batches = b ∙ sym (append-nil c.batches) }

up_to : (c after : Coordinating) → Adds c after → IsUpTo c → IsUpTo after
up_to c after a x = record {
  front = x.front;
  rest = x.rest ++ a.more;
  parts = a.batches ∙ ap (λ (ys : List ℕ). ys ++ a.more) x.parts ∙ append_assoc x.front x.rest a.more;
  count = a.mark ∙ x.count;
  row = subst (λ (s : List ℕ). IsRow s 0 x.front) (sym a.stable) x.row;
}

by_sync : (c : Coordinating) (k : Course) (d : Decision) (synced : ℕ) (x : Option (ℕ × ℕ)) → Adds c (syncs c k d synced x).after
unfolding syncs accepts
by_sync c k d synced (Some s) = same c _ refl refl refl
by_sync c k d synced None = record { stable = refl; mark = refl; more = d.on ∷ []; batches = refl }

by_room : (c : Coordinating) (k : Course) (d : Decision) (synced : ℕ) (x : Option (ℕ × ℕ)) → Adds c (rooms c k d synced x).after
unfolding rooms
by_room c k d synced (Some f) = same c _ refl refl refl
by_room c k d synced None = by_sync c k d synced (next_sync k.seen d.on synced)

by_hold : (c : Coordinating) (k : Course) (d : Decision) (synced : ℕ) (x : Option ℕ) → Adds c (holds c k d synced x).after
unfolding holds
by_hold c k d synced (Some t) = same c _ refl refl refl
by_hold c k d synced None = by_room c k d synced (full (room_for k.request.op) k.held d.parts)

by_read : (c : Coordinating) (k : Course) (d : Decision) (b : Bool) → Adds c (if b then ends c k k.asked (actions.Answer d.reply) else settles c k d 0).after
by_read c k d true = same c _ refl refl refl
by_read c k d false = by_hold c k d 0 (unheld k.held d.parts)

by_step : (c : Coordinating) (k : Course) (s : Step) → Adds c (follows c k s).after
unfolding follows
by_step c k (steps.Need n) = same c _ refl refl refl
by_step c k (steps.Decided d) = by_read c k d (reads k.request.op)

by_fact : (c : Coordinating) (k : Course) (f : Facts) (v : Waits) → Adds c (fact_for c k f v).after
by_fact c k f (waits.Look n) = by_step c (stepped (looked c.master k n f) (first_result f)) (step_after k.planner (first_result f))
by_fact c k f (waits.Hold d t) = by_hold c (told c.master k t f) d 0 (unheld (told c.master k t f).held d.parts)
by_fact c k f (waits.Sync d s t writer) = same c _ refl refl refl

by_commit : (c : Coordinating) (k : Course) (v : Waits) → Adds c (synced_for c k v).after
by_commit c k (waits.Look n) = same c _ refl refl refl
by_commit c k (waits.Hold d t) = same c _ refl refl refl
by_commit c k (waits.Sync d s t writer) = by_hold c k d _ (unheld k.held d.parts)

facts_add : (c : Coordinating) (f : Facts) (x : Option Going) → Adds c (on_fact (resting c) f x).after
facts_add c f None = same c _ refl refl refl
facts_add c f (Some g) = let a = by_fact (resting c) g.course f g.waits in record { stable = a.stable; mark = a.mark; more = a.more; batches = a.batches }

commits_add : (c : Coordinating) (x : Option Going) → Adds c (on_synced (resting c) x).after
commits_add c None = same c _ refl refl refl
commits_add c (Some g) = let a = by_commit (resting c) g.course g.waits in record { stable = a.stable; mark = a.mark; more = a.more; batches = a.batches }

ends_add : (c : Coordinating) (x : Option Going) (a : Action) → Adds c (gives_up (resting c) x a).after
ends_add c None a = same c _ refl refl refl
ends_add c (Some g) a = same c _ refl refl refl

bounces_add : (c : Coordinating) (t : ℕ) (x : Option Going) → Adds c (on_down (resting c) t x).after
bounces_add c t None = same c _ refl refl refl
bounces_add c t (Some g) = same c _ refl refl refl

heard_adds : (c : Coordinating) (e : Event) → Adds c (heard c e).after
unfolding heard
heard_adds c (events.Fact f) = facts_add c f c.current
heard_adds c events.Synced = commits_add c c.current
heard_adds c (events.Busy holder) = ends_add c c.current (actions.Busy holder)
heard_adds c (events.Down t) = bounces_add c t c.current
heard_adds c (events.Executed t n) = same c _ refl refl refl
heard_adds c (events.Released t n) = same c _ refl refl refl

pub heard_up_to : (c : Coordinating) (e : Event) → IsUpTo c → IsUpTo (heard c e).after
heard_up_to c e x = up_to c (heard c e).after (heard_adds c e) x

started_adds : (c : Coordinating) (r : Request) (load clock : ℕ) → Adds c (started c r load clock).after
started_adds c r load clock =
    let k = first_course c r load clock in
    let a = by_step (record c { attempts = c.attempts + 1; asks = 0; released = 0 }) (stepped k None) (step_after k.planner None) in
    record { stable = a.stable; mark = a.mark; more = a.more; batches = a.batches }

pub started_up_to : (c : Coordinating) (r : Request) (load clock : ℕ) → IsUpTo c → IsUpTo (started c r load clock).after
started_up_to c r load clock x = up_to c (started c r load clock).after (started_adds c r load clock) x
