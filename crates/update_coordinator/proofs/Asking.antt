-- What was sent a Hold is what is held.
use Rattle.std.proofs.Common.{◌≡◌, ℕ, ◌+◌, ◌==◌, ◌&&◌, ◌||◌, not, Bool, true, false, if◌then◌else◌, List, [], ◌∷◌, ◌++◌, Option, Some, None, refl, sym, ap, subst, ◌∙◌, arith}
use Rattle.fid_space.specs.Targets.{is_member, joined}
use Rattle.tree_model.specs.declared.op.Request.{Request}
use Rattle.striped_dir.specs.declared.plan.Decision.{Decision}
use Rattle.striped_dir.specs.declared.plan.Step.{Step}
use Rattle.striped_dir.specs.declared.plan.Step.TheVariants as steps
use Rattle.plan_base.specs.Planners.{step_after}
use Rattle.plan_record.specs.Recorded.{reads}
use Rattle.update_record.specs.declared.operation.Record.{Record}
use Rattle.update_record.specs.declared.message.Facts.{Facts}
use Rattle.update_coordinator.specs.declared.words.Held.{Held}
use Rattle.update_coordinator.specs.declared.words.Course.{Course}
use Rattle.update_coordinator.specs.declared.words.Going.{Going}
use Rattle.update_coordinator.specs.declared.words.Waits.{Waits}
use Rattle.update_coordinator.specs.declared.words.Waits.TheVariants as waits
use Rattle.update_coordinator.specs.declared.words.Event.{Event}
use Rattle.update_coordinator.specs.declared.words.Event.TheVariants as events
use Rattle.update_coordinator.specs.declared.words.Action.TheVariants as actions
use Rattle.update_coordinator.specs.Coordinating.{Coordinating}
use Rattle.update_coordinator.specs.Rules.{is_held, settles, holds, rooms, syncs, accepts, follows, ends, unheld, full, room_for, next_sync, first_course, stepped, started, looked, told, first_result, fact_for, on_fact, synced_for, on_synced, gives_up, on_down, resting, heard}
use Rattle.update_coordinator.specs.Laws.{AsksHeld, AskedHeld, IsSource, IsAccepted}
use Rattle.update_coordinator.proofs.Due.{apart}

-- ---- tests

abbrev Joins : Type 0
Joins = (set target t : ℕ) → is_member (joined set target) t ≡ (is_member set t || (t == target))

-- one more that is the home
same_home : (h c home : Bool) → (c ≡ true → home ≡ true) → (not home && h) ≡ (not home && (h || c))
same_home h c true g = refl
same_home true c false g = refl
same_home false false false g = refl
same_home false true false g = apart (g refl)

-- one more that isn't
one_more : (h c home : Bool) → (c ≡ true → home ≡ false) → ((not home && h) || c) ≡ (not home && (h || c))
one_more h false true g = refl
one_more h true true g = apart (sym (g refl))
one_more true c false g = refl
one_more false c false g = refl

or_assoc : (a b c : Bool) → ((a || b) || c) ≡ (a || (b || c))
or_assoc true b c = refl
or_assoc false b c = refl

or_false : (a : Bool) → (a || false) ≡ a
or_false true = refl
or_false false = refl

held_push : (hs : List Held) (h : Held) (t : ℕ) → is_held (hs ++ h ∷ []) t ≡ (is_held hs t || (h.target == t))
held_push [] h t = or_false (h.target == t)
held_push (x ∷ xs) h t = ap (λ (b : Bool). (x.target == t) || b) (held_push xs h t) ∙ sym (or_assoc (x.target == t) (is_held xs t) (h.target == t))

eq_swap : (t u : ℕ) (b : Bool) → (u == t) ≡ b → (t == u) ≡ b
eq_swap t u true e = grind (arith, e)
eq_swap t u false e = grind (arith, e)

module _ (m : ℕ) (k : Course) where
  -- a target is sent a Hold
  asked_by : Joins → (u t : ℕ) (b : Bool) → (u == m) ≡ b → AskedHeld m k
      → is_member (if b then k.asked else joined k.asked u) t ≡ (not (t == m) && (is_held k.held t || (u == t)))
  asked_by j u t true e h = h t ∙ same_home (is_held k.held t) (u == t) (t == m) (λ x. grind (arith, e, x))
  asked_by j u t false e h =
      j k.asked u t
      ∙ ap (λ (b : Bool). b || (t == u)) (h t)
      ∙ ap (λ (b : Bool). (not (t == m) && is_held k.held t) || b) (eq_swap t u (u == t) refl)
      ∙ one_more (is_held k.held t) (u == t) (t == m) (λ x. grind (arith, e, x))

  -- it told
  told_by : (u t : ℕ) (f : Facts) (b : Bool) → (u == m) ≡ b
      → (not (t == m) && (is_held k.held t || (u == t))) ≡ (not (t == m) && is_held (if b then k.held else k.held ++ record { target = u; load = f.load; clock = f.clock } ∷ []) t)
  told_by u t f true e = sym (same_home (is_held k.held t) (u == t) (t == m) (λ x. grind (arith, e, x)))
  told_by u t f false e = ap (λ (b : Bool). not (t == m) && b) (sym (held_push k.held (record { target = u; load = f.load; clock = f.clock }) t))

-- ---- rules

by_sync : (c : Coordinating) (k : Course) (d : Decision) (synced : ℕ) (x : Option (ℕ × ℕ)) → AskedHeld c.master k → AsksHeld c.master (syncs c k d synced x).after.current
unfolding syncs accepts
by_sync c k d synced (Some s) h = λ t. h t ∙ ap (λ (b : Bool). not (t == c.master) && b) (sym (or_false (is_held k.held t)))
by_sync c k d synced None h = tt

by_room : (c : Coordinating) (k : Course) (d : Decision) (synced : ℕ) (x : Option (ℕ × ℕ)) → AskedHeld c.master k → AsksHeld c.master (rooms c k d synced x).after.current
unfolding rooms
by_room c k d synced (Some f) h = tt
by_room c k d synced None h = by_sync c k d synced (next_sync k.seen d.on synced) h

by_hold : (c : Coordinating) (k : Course) (d : Decision) (synced : ℕ) (x : Option ℕ) → Joins → AskedHeld c.master k → AsksHeld c.master (holds c k d synced x).after.current
unfolding holds
by_hold c k d synced (Some u) j h = λ t. asked_by c.master k j u t (u == c.master) refl h
by_hold c k d synced None j h = by_room c k d synced (full (room_for k.request.op) k.held d.parts) h

by_read : (c : Coordinating) (k : Course) (d : Decision) (b : Bool) → Joins → AskedHeld c.master k → AsksHeld c.master (if b then ends c k k.asked (actions.Answer d.reply) else settles c k d 0).after.current
by_read c k d true j h = tt
by_read c k d false j h = by_hold c k d 0 (unheld k.held d.parts) j h

by_step : (c : Coordinating) (k : Course) (s : Step) → Joins → AskedHeld c.master k → AsksHeld c.master (follows c k s).after.current
unfolding follows
by_step c k (steps.Need n) j h = λ t. asked_by c.master k j n.target t (n.target == c.master) refl h
by_step c k (steps.Decided d) j h = by_read c k d (reads k.request.op) j h

told_asks : (m : ℕ) (g : Going) (u : ℕ) (f : Facts) → ((t : ℕ) → is_member g.course.asked t ≡ (not (t == m) && (is_held g.course.held t || (u == t)))) → AskedHeld m (told m g.course u f)
told_asks m g u f h = λ t. h t ∙ told_by m g.course u t f (u == m) refl

by_fact : (c : Coordinating) (g : Going) (f : Facts) (v : Waits) → Joins → AsksHeld c.master (Some (record { course = g.course; waits = v })) → AsksHeld c.master (fact_for c g.course f v).after.current
by_fact c g f (waits.Look n) j h = by_step c (stepped (looked c.master g.course n f) (first_result f)) (step_after g.course.planner (first_result f)) j (told_asks c.master g n.target f h)
by_fact c g f (waits.Hold d u) j h = by_hold c (told c.master g.course u f) d 0 (unheld (told c.master g.course u f).held d.parts) j (told_asks c.master g u f h)
by_fact c g f (waits.Sync d s u writer) j h = h

-- where nothing but a commit is awaited
settled_asks : (m : ℕ) (k : Course) (d : Decision) (s u writer : ℕ) → AsksHeld m (Some (record { course = k; waits = waits.Sync d s u writer })) → AskedHeld m k
settled_asks m k d s u writer h = λ t. h t ∙ ap (λ (b : Bool). not (t == m) && b) (or_false (is_held k.held t))

by_commit : (c : Coordinating) (g : Going) (v : Waits) → Joins → AsksHeld c.master (Some (record { course = g.course; waits = v })) → AsksHeld c.master (synced_for c g.course v).after.current
by_commit c g (waits.Look n) j h = h
by_commit c g (waits.Hold d u) j h = h
by_commit c g (waits.Sync d s u writer) j h = by_hold c g.course d (joined s u) (unheld g.course.held d.parts) j (settled_asks c.master g.course d s u writer h)

on_a_fact : (c : Coordinating) (f : Facts) (x : Option Going) → Joins → AsksHeld c.master x → AsksHeld c.master (on_fact (resting c) f x).after.current
on_a_fact c f None j h = tt
on_a_fact c f (Some g) j h = by_fact (resting c) g f g.waits j h

on_a_commit : (c : Coordinating) (x : Option Going) → Joins → AsksHeld c.master x → AsksHeld c.master (on_synced (resting c) x).after.current
on_a_commit c None j h = tt
on_a_commit c (Some g) j h = by_commit (resting c) g g.waits j h

on_busy : (c : Coordinating) (holder : ℕ) (x : Option Going) → AsksHeld c.master (gives_up (resting c) x (actions.Busy holder)).after.current
on_busy c holder None = tt
on_busy c holder (Some g) = tt

on_a_bounce : (c : Coordinating) (u : ℕ) (x : Option Going) → AsksHeld c.master (on_down (resting c) u x).after.current
on_a_bounce c u None = tt
on_a_bounce c u (Some g) = tt

pub next_asks : Joins → (c : Coordinating) (e : Event) → AsksHeld c.master c.current → AsksHeld c.master (heard c e).after.current
unfolding heard
next_asks j c (events.Fact f) h = on_a_fact c f c.current j h
next_asks j c events.Synced h = on_a_commit c c.current j h
next_asks j c (events.Busy holder) h = on_busy c holder c.current
next_asks j c (events.Down u) h = on_a_bounce c u c.current
next_asks j c (events.Executed u n) h = h
next_asks j c (events.Released u n) h = h

-- ---- the first step

first_test : (m t : ℕ) (b : Bool) → (m == t) ≡ b → false ≡ (not (t == m) && ((m == t) || false))
first_test m t true e = let s = eq_swap t m true e in ap (λ (x : Bool). not x && ((m == t) || false)) (sym s)
first_test m t false e = let s = eq_swap t m false e in ap (λ (x : Bool). not x && (false || false)) (sym s) ∙ ap (λ (x : Bool). not (t == m) && (x || false)) (sym e)

pub first_asks : Joins → ((t : ℕ) → is_member 0 t ≡ false) → (c : Coordinating) (r : Request) (load clock : ℕ) → AsksHeld c.master (started c r load clock).after.current
first_asks j none c r load clock =
    by_step (record c { attempts = c.attempts + 1; asks = 0; released = 0 }) (stepped (first_course c r load clock) None) (step_after (first_course c r load clock).planner None) j
    (λ t. none t ∙ first_test c.master t (c.master == t) refl)

-- ---- an accept

by_source : (c : Coordinating) (e : Event) (g : Going) (v : Waits) (k : Course) (d : Decision) (synced : ℕ) → AsksHeld c.master (Some (record { course = g.course; waits = v })) → IsSource c g e v k d synced → AskedHeld c.master k
by_source c (events.Fact f) g (waits.Look n) k d synced h s = subst (λ (x : Course). AskedHeld c.master x) (sym s.0) (told_asks c.master g n.target f h)
by_source c (events.Fact f) g (waits.Hold b u) k d synced h s = subst (λ (x : Course). AskedHeld c.master x) (sym s.0) (told_asks c.master g u f h)
by_source c (events.Fact f) g (waits.Sync b x u writer) k d synced h s = absurd s
by_source c events.Synced g (waits.Look n) k d synced h s = absurd s
by_source c events.Synced g (waits.Hold b u) k d synced h s = absurd s
by_source c events.Synced g (waits.Sync b x u writer) k d synced h s = subst (λ (x : Course). AskedHeld c.master x) (sym s.0) (settled_asks c.master g.course b x u writer h)
by_source c (events.Busy holder) g v k d synced h s = absurd s
by_source c (events.Down u) g v k d synced h s = absurd s
by_source c (events.Executed u n) g v k d synced h s = absurd s
by_source c (events.Released u n) g v k d synced h s = absurd s

pub accepted_asks : (c : Coordinating) (e : Event) (r : Record) → AsksHeld c.master c.current → (x : IsAccepted c e r) → AskedHeld c.master x.course
accepted_asks c e r h x = by_source c e x.going x.going.waits x.course x.decision x.synced (subst (λ (o : Option Going). AsksHeld c.master o) x.is_current h) x.source
