-- What a coordinator leaves of an attempt that goes on, or is over without a record.
use Rattle.std.proofs.Common.{◌≡◌, ◌≤◌, ◌+◌, ◌==◌, ◌&&◌, ℕ, zero, suc, Bool, true, false, true≢false, if◌then◌else◌, List, Option, Some, None, refl, sym, ap, ◌∙◌, subst, arith}
use Rattle.tree_model.specs.declared.op.Request.{Request}
use Rattle.striped_dir.specs.declared.plan.Decision.{Decision}
use Rattle.striped_dir.specs.declared.plan.Need.{Need}
use Rattle.striped_dir.specs.declared.plan.Step.{Step}
use Rattle.striped_dir.specs.declared.plan.Step.TheVariants as steps
use Rattle.plan_base.specs.Planners.{step_after}
use Rattle.plan_record.specs.Recorded.{reads}
use Rattle.update_record.specs.declared.message.Facts.{Facts}
use Rattle.target_state.specs.Commit.{is_empty}
use Rattle.update_coordinator.specs.declared.words.Action.{Action}
use Rattle.update_coordinator.specs.declared.words.Action.TheVariants as actions
use Rattle.update_coordinator.specs.declared.words.Course.{Course}
use Rattle.update_coordinator.specs.declared.words.Event.{Event}
use Rattle.update_coordinator.specs.declared.words.Event.TheVariants as events
use Rattle.update_coordinator.specs.declared.words.Flight.{Flight}
use Rattle.update_coordinator.specs.declared.words.Going.{Going}
use Rattle.update_coordinator.specs.declared.words.Waits.{Waits}
use Rattle.update_coordinator.specs.declared.words.Waits.TheVariants as waits
use Rattle.update_coordinator.specs.Coordinating.{Coordinating}
use Rattle.update_coordinator.specs.Rules.{Gone, accepts, ends, fact_for, first_result, follows, full, gives_up, heard, holds, looked, next_sync, on_down, on_fact, on_synced, resting, room_for, rooms, settles, stepped, synced_for, syncs, told, unheld}
use Rattle.target_turns.specs.Target.{Target}
use Rattle.target_turns.specs.Home.{Walked, hears, looks, then_walks, walked}
use Rattle.home_laws.specs.Asking.{is_of_attempt}

-- the last ask number, once this target is asked
abbrev pub asks_after : Coordinating → ℕ → ℕ
asks_after c t = if t == c.master then c.asks else c.asks + 1

abbrev pub GoesOn : Coordinating → Request → ℕ → Coordinating → Type 0
GoesOn c r asks h = (g : Going) × (g.course.request ≡ r) × (h ≡ record c { asks = asks; released = 0; current = Some g })

abbrev pub IsOver : Coordinating → Coordinating → Type 0
IsOver c h = (fs : List Flight) × (released : ℕ) × (h ≡ record c { current = None; flights = fs; released = released })

abbrev pub IsTaken : Coordinating → Coordinating → Type 0
IsTaken c h = (fs : List Flight) × (released : ℕ) × (batches : List ℕ) × (h ≡ record c { current = None; flights = fs; released = released; batches = batches })

-- by what is to be done
abbrev pub Moves : Coordinating → Request → Coordinating → Action → Type 0
Moves c r h (actions.Ask n) = GoesOn c r (asks_after c n.target) h
Moves c r h (actions.HoldOnly t) = GoesOn c r (asks_after c t) h
Moves c r h (actions.Sync t writer) = GoesOn c r (asks_after c t) h
Moves c r h (actions.Accept x) = IsTaken c h
Moves c r h (actions.Answer v) = IsOver c h
Moves c r h (actions.Busy m) = IsOver c h
Moves c r h (actions.Full t load need) = IsOver c h
Moves c r h (actions.Recovering t) = IsOver c h
Moves c r h actions.Nothing = GoesOn c r c.asks h

abbrev Moved : Coordinating → Request → Gone → Type 0
Moved c r x = Moves c r x.after x.action

by_sync : (c : Coordinating) (r : Request) (k : Course) (d : Decision) (synced : ℕ) (x : Option (ℕ × ℕ)) → k.request ≡ r → Moved c r (syncs (resting c) k d synced x)
unfolding syncs accepts
by_sync c r k d synced (Some s) q = (record { course = k; waits = waits.Sync d synced s.0 s.1 }, q, refl)
by_sync c r k d synced None q = (_, _, _, refl)

by_room : (c : Coordinating) (r : Request) (k : Course) (d : Decision) (synced : ℕ) (x : Option (ℕ × ℕ)) → k.request ≡ r → Moved c r (rooms (resting c) k d synced x)
unfolding rooms
by_room c r k d synced (Some f) q = (_, _, refl)
by_room c r k d synced None q = by_sync c r k d synced (next_sync k.seen d.on synced) q

by_hold : (c : Coordinating) (r : Request) (k : Course) (d : Decision) (synced : ℕ) (x : Option ℕ) → k.request ≡ r → Moved c r (holds (resting c) k d synced x)
unfolding holds
by_hold c r k d synced (Some t) q = (_, q, refl)
by_hold c r k d synced None q = by_room c r k d synced (full (room_for k.request.op) k.held d.parts) q

by_read : (c : Coordinating) (r : Request) (k : Course) (d : Decision) (b : Bool) → k.request ≡ r → Moved c r (if b then ends (resting c) k k.asked (actions.Answer d.reply) else settles (resting c) k d 0)
by_read c r k d true q = (_, _, refl)
by_read c r k d false q = by_hold c r k d 0 (unheld k.held d.parts) q

pub by_step : (c : Coordinating) (r : Request) (k : Course) (s : Step) → k.request ≡ r → Moved c r (follows (resting c) k s)
unfolding follows
by_step c r k (steps.Need n) q = (_, q, refl)
by_step c r k (steps.Decided d) q = by_read c r k d (reads k.request.op) q

by_fact : (c : Coordinating) (g : Going) (f : Facts) (v : Waits) → Moved c g.course.request (fact_for (resting c) g.course f v)
by_fact c g f (waits.Look n) = by_step c g.course.request (stepped (looked c.master g.course n f) (first_result f)) (step_after g.course.planner (first_result f)) refl
by_fact c g f (waits.Hold d t) = by_hold c g.course.request (told c.master g.course t f) d 0 (unheld (told c.master g.course t f).held d.parts) refl
by_fact c g f (waits.Sync d s t writer) = (record { course = g.course; waits = waits.Sync d s t writer }, refl, refl)

by_commit : (c : Coordinating) (g : Going) (v : Waits) → Moved c g.course.request (synced_for (resting c) g.course v)
by_commit c g (waits.Look n) = (record { course = g.course; waits = waits.Look n }, refl, refl)
by_commit c g (waits.Hold d t) = (record { course = g.course; waits = waits.Hold d t }, refl, refl)
by_commit c g (waits.Sync d s t writer) = by_hold c g.course.request g.course d _ (unheld g.course.held d.parts) refl

same_gone : (c : Coordinating) (r : Request) (x y : Gone) → x ≡ y → Moved c r y → Moved c r x
same_gone c r x y e m = subst (λ (z : Gone). Moved c r z) (sym e) m

-- what an attempt hears moves it
pub heard_moves : (c : Coordinating) (e : Event) (g : Going) → c.current ≡ Some g → is_of_attempt e ≡ true → Moves c g.course.request (heard c e).after (heard c e).action
unfolding heard
heard_moves c (events.Fact f) g is of = same_gone c g.course.request _ _ (ap (λ (x : Option Going). on_fact (resting c) f x) is) (by_fact c g f g.waits)
heard_moves c events.Synced g is of = same_gone c g.course.request _ _ (ap (λ (x : Option Going). on_synced (resting c) x) is) (by_commit c g g.waits)
heard_moves c (events.Busy holder) g is of = same_gone c g.course.request _ _ (ap (λ (x : Option Going). gives_up (resting c) x (actions.Busy holder)) is) (_, _, refl)
heard_moves c (events.Down t) g is of = same_gone c g.course.request _ _ (ap (λ (x : Option Going). on_down (resting c) t x) is) (_, _, refl)
heard_moves c (events.Executed t m) g is of = absurd (true≢false (sym of))
heard_moves c (events.Released t m) g is of = absurd (true≢false (sym of))

-- A step of the planner leaves nothing of the attempt that was under way.
abbrev pub with_current : Coordinating → Option Going → Coordinating
with_current c o = record c { current = o }

module _ (c : Coordinating) (o : Option Going) (k : Course) (d : Decision) where
  forgets_sync : (x : Option (ℕ × ℕ)) → syncs (with_current c o) k d 0 x ≡ syncs (with_current c None) k d 0 x
  unfolding syncs accepts
  forgets_sync (Some s) = refl
  forgets_sync None = refl

  forgets_room : (x : Option (ℕ × ℕ)) → rooms (with_current c o) k d 0 x ≡ rooms (with_current c None) k d 0 x
  unfolding rooms
  forgets_room (Some f) = refl
  forgets_room None = forgets_sync (next_sync k.seen d.on 0)

  forgets_hold : (x : Option ℕ) → holds (with_current c o) k d 0 x ≡ holds (with_current c None) k d 0 x
  unfolding holds
  forgets_hold (Some t) = refl
  forgets_hold None = forgets_room (full (room_for k.request.op) k.held d.parts)

  forgets_read : (b : Bool) → (if b then ends (with_current c o) k k.asked (actions.Answer d.reply) else settles (with_current c o) k d 0) ≡ (if b then ends (with_current c None) k k.asked (actions.Answer d.reply) else settles (with_current c None) k d 0)
  forgets_read true = refl
  forgets_read false = forgets_hold (unheld k.held d.parts)

pub forgets : (c : Coordinating) (o : Option Going) (k : Course) (s : Step) → follows (with_current c o) k s ≡ follows (with_current c None) k s
unfolding follows
forgets c o k (steps.Need n) = refl
forgets c o k (steps.Decided d) = forgets_read c o k d (reads k.request.op)

-- none begins
pub same_attempts : (c : Coordinating) (r : Request) (h : Coordinating) (a : Action) → Moves c r h a → h.attempts ≡ c.attempts
same_attempts c r h (actions.Ask n) m = ap (λ (x : Coordinating). x.attempts) m.2
same_attempts c r h (actions.HoldOnly t) m = ap (λ (x : Coordinating). x.attempts) m.2
same_attempts c r h (actions.Sync t writer) m = ap (λ (x : Coordinating). x.attempts) m.2
same_attempts c r h (actions.Accept x) m = ap (λ (x : Coordinating). x.attempts) m.3
same_attempts c r h (actions.Answer v) m = ap (λ (x : Coordinating). x.attempts) m.2
same_attempts c r h (actions.Busy k) m = ap (λ (x : Coordinating). x.attempts) m.2
same_attempts c r h (actions.Full t load need) m = ap (λ (x : Coordinating). x.attempts) m.2
same_attempts c r h (actions.Recovering t) m = ap (λ (x : Coordinating). x.attempts) m.2
same_attempts c r h actions.Nothing m = ap (λ (x : Coordinating). x.attempts) m.2

-- the last ask number doesn't fall, and an attempt that goes on is of the same request
abbrev pub GoesFor : Coordinating → Request → Coordinating → Type 0
GoesFor c r h = (h.master ≡ c.master) × (c.asks ≤ h.asks) × ((g : Going) → h.current ≡ Some g → g.course.request ≡ r)

some_going : (g h : Going) → ◌≡◌ {A = Option Going} (Some g) (Some h) → g ≡ h
some_going g h e = cc

none_going : (h : Going) → ◌≡◌ {A = Option Going} None (Some h) → ⊥
none_going h e = cc

no_fall : (c : Coordinating) (t : ℕ) → c.asks ≤ asks_after c t
no_fall c t = by_test (t == c.master)
  where
    by_test : (b : Bool) → c.asks ≤ (if b then c.asks else c.asks + 1)
    by_test true = omega arith
    by_test false = omega arith

still_for : (c : Coordinating) (r : Request) (asks : ℕ) (h : Coordinating) → c.asks ≤ asks → GoesOn c r asks h → GoesFor c r h
still_for c r asks h l m = subst (λ (h : Coordinating). GoesFor c r h) (sym m.2) (refl, l, λ g e. ap (λ (y : Going). y.course.request) (sym (some_going m.0 g e)) ∙ m.1)

over_for : (c : Coordinating) (r : Request) (h : Coordinating) → IsOver c h → GoesFor c r h
over_for c r h m = subst (λ (h : Coordinating). GoesFor c r h) (sym m.2) (refl, omega arith, λ g e. absurd (none_going g e))

pub goes_for : (c : Coordinating) (r : Request) (h : Coordinating) (a : Action) → Moves c r h a → GoesFor c r h
goes_for c r h (actions.Ask n) m = still_for c r (asks_after c n.target) h (no_fall c n.target) m
goes_for c r h (actions.HoldOnly t) m = still_for c r (asks_after c t) h (no_fall c t) m
goes_for c r h (actions.Sync t writer) m = still_for c r (asks_after c t) h (no_fall c t) m
goes_for c r h (actions.Accept x) m = subst (λ (h : Coordinating). GoesFor c r h) (sym m.3) (refl, omega arith, λ g e. absurd (none_going g e))
goes_for c r h (actions.Answer v) m = over_for c r h m
goes_for c r h (actions.Busy k) m = over_for c r h m
goes_for c r h (actions.Full t load need) m = over_for c r h m
goes_for c r h (actions.Recovering t) m = over_for c r h m
goes_for c r h actions.Nothing m = still_for c r c.asks h (omega arith) m

-- STEPS AT HOME

-- an attempt that asked nobody else has given no number
onward : (c : Coordinating) (r : Request) (g : Going) (h : Coordinating) (a : Action) → Moves (record c { released = 0; current = Some g }) r h a → Moves c r h a
onward c r g h (actions.Ask n) m = m
onward c r g h (actions.HoldOnly t) m = m
onward c r g h (actions.Sync t writer) m = m
onward c r g h (actions.Accept x) m = m
onward c r g h (actions.Answer v) m = m
onward c r g h (actions.Busy k) m = m
onward c r g h (actions.Full t load need) m = m
onward c r g h (actions.Recovering t) m = m
onward c r g h actions.Nothing m = m

-- where a walk from this target has come to
pub record Walks (t : Target) (r : Request) (x : Walked) : Type 0 where
  pub home : Coordinating
  pub there : x.target ≡ record t { home = home }
  pub moves : Moves t.home r home x.action

module _ (t : Target) (r : Request) (own : t.home.master ≡ t.index) where
  -- it heard of the home itself
  hears_itself : (n : ℕ) (h : Coordinating) (e : Event) → is_of_attempt e ≡ true → GoesOn t.home r t.home.asks h
      → ((h : Coordinating) (a : Action) → Moves t.home r h a → Walks t r (walked n (record t { home = h }) a))
      → Walks t r (walked n (hears (record t { home = h }) e).target (hears (record t { home = h }) e).action)
  hears_itself n h e of m on =
      let at : Coordinating = record t.home { released = 0; current = Some m.0 } in
      let one : Moves at m.0.course.request (heard at e).after (heard at e).action = heard_moves at e m.0 refl of in
      let two : Moves t.home m.0.course.request (heard at e).after (heard at e).action = onward t.home m.0.course.request m.0 (heard at e).after (heard at e).action one in
      let three : Moves t.home r (heard at e).after (heard at e).action = subst (λ q. Moves t.home q (heard at e).after (heard at e).action) m.1 two in
      subst (λ (h : Coordinating). Walks t r (walked n (record t { home = (heard h e).after }) (heard h e).action)) (sym m.2) (on (heard at e).after (heard at e).action three)

  same_asks : (to : ℕ) (b : Bool) (h : Coordinating) → (to == t.index) ≡ b → b ≡ true → GoesOn t.home r (asks_after t.home to) h → GoesOn t.home r t.home.asks h
  same_asks to b h e is m = subst (λ n. GoesOn t.home r n h) (ap (λ k. if to == k then t.home.asks else t.home.asks + 1) own ∙ ap (λ b. if b then t.home.asks else t.home.asks + 1) (e ∙ is)) m

  first : (a b : Bool) → (a && b) ≡ true → a ≡ true
  first true b e = refl
  first false b e = absurd (true≢false (sym e))

  abbrev On : ℕ → Type 0
  On n = (h : Coordinating) (a : Action) → Moves t.home r h a → Walks t r (walked n (record t { home = h }) a)

  asks_on : (n : ℕ) (h : Coordinating) (q : Need) → On n → GoesOn t.home r (asks_after t.home q.target) h → (b : Bool) → (q.target == t.index) ≡ b
      → Walks t r (then_walks (if b then Some (looks (record t { home = h }) q.ask) else None) (record { target = record t { home = h }; action = actions.Ask q }) (λ w. walked n w.target w.action))
  asks_on n h q on m true e = hears_itself n h _ refl (same_asks q.target true h e refl m) on
  asks_on n h q on m false e = record { home = h; there = refl; moves = m }

  syncs_on : (n : ℕ) (h : Coordinating) (to writer : ℕ) → On n → GoesOn t.home r (asks_after t.home to) h → (b : Bool) → ((to == t.index) && is_empty t.node.waiting) ≡ b
      → Walks t r (then_walks (if b then Some (hears (record t { home = h }) events.Synced) else None) (record { target = record t { home = h }; action = actions.Sync to writer }) (λ w. walked n w.target w.action))
  syncs_on n h to writer on m true e = hears_itself n h events.Synced refl (same_asks to true h (first (to == t.index) (is_empty t.node.waiting) e) refl m) on
  syncs_on n h to writer on m false e = record { home = h; there = refl; moves = m }

  pub walk_moves : (n : ℕ) (h : Coordinating) (a : Action) → Moves t.home r h a → Walks t r (walked n (record t { home = h }) a)
  unfolding walked
  walk_moves zero h a m = record { home = h; there = refl; moves = m }
  walk_moves (suc n) h (actions.Ask q) m = asks_on n h q (walk_moves n) m (q.target == t.index) refl
  walk_moves (suc n) h (actions.Sync to writer) m = syncs_on n h to writer (walk_moves n) m ((to == t.index) && is_empty t.node.waiting) refl
  walk_moves (suc n) h (actions.HoldOnly u) m = record { home = h; there = refl; moves = m }
  walk_moves (suc n) h (actions.Accept x) m = record { home = h; there = refl; moves = m }
  walk_moves (suc n) h (actions.Answer v) m = record { home = h; there = refl; moves = m }
  walk_moves (suc n) h (actions.Busy k) m = record { home = h; there = refl; moves = m }
  walk_moves (suc n) h (actions.Full u load need) m = record { home = h; there = refl; moves = m }
  walk_moves (suc n) h (actions.Recovering u) m = record { home = h; there = refl; moves = m }
  walk_moves (suc n) h actions.Nothing m = record { home = h; there = refl; moves = m }
