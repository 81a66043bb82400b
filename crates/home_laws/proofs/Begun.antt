-- A request comes to its home, which begins an attempt.
use Rattle.std.proofs.Common.{◌≡◌, ◌≢◌, ◌<◌, ◌≤◌, ◌+◌, ◌⊎◌, inl, inr, ⊎_elim, suc, length, get_or, ltb, ℕ, Bool, true, false, if◌then◌else◌, List, [], ◌∷◌, ◌++◌, Option, Some, None, refl, sym, ap, ◌∙◌, subst, arith}
use Rattle.std.proofs.lemmas.Bool.{leb-true, ltb-false, ltb-true}
use Rattle.std.proofs.lemmas.Bool.Decides.{eqb_tells}
use Rattle.std.proofs.lemmas.List.{get_or-set_same, length-set}
use Rattle.std.specs.FinMap.{get}
use Rattle.tree_model.specs.Participants.{home_of}
use Rattle.tree_model.specs.declared.op.Request.{Request}
use Rattle.tree_model.specs.declared.reply.Reply.{Reply}
use Rattle.tree_model.specs.declared.reply.Reply.TheVariants as replies
use Rattle.reply_cache.specs.Seats.{answer_of, judged, refusal_of}
use Rattle.reply_cache.specs.declared.seats.Judgement.{Judgement}
use Rattle.reply_cache.specs.declared.seats.Judgement.TheVariants as judgement
use Rattle.plan_base.specs.Planners.{step_after}
use Rattle.update_record.specs.declared.message.Attempt.{Attempt as Name}
use Rattle.target_state.specs.Image.{state_text}
use Rattle.target_state.specs.Rules.{after_hold, held_as, is_past, taken_at}
use Rattle.target_state.specs.State.{TargetState}
use Rattle.target_state.specs.declared.holding.Taking.TheVariants.{Comes, Ended}
use Rattle.update_coordinator.specs.Coordinating.{Coordinating}
use Rattle.update_coordinator.specs.Rules.{first_course, follows, started, stepped}
use Rattle.update_coordinator.specs.declared.words.Action.{Action}
use Rattle.update_coordinator.specs.declared.words.Course.{Course}
use Rattle.update_coordinator.specs.declared.words.Going.{Going}
use Rattle.update_coordinator.specs.declared.words.Waits.TheVariants as waits
use Rattle.target_turns.specs.Home.{begins, goes_on, holds_home, new_attempt, own_attempt, walks}
use Rattle.target_turns.specs.Target.{Fate, Target, Turned, quiet, serves}
use Rattle.update_protocol.specs.Epochs.{Reached}
use Rattle.update_protocol.specs.Events.{Ask, May, fresh, has_now, happens}
use Rattle.update_protocol.specs.Lists.{IsIn}
use Rattle.update_protocol.specs.Seats.{IsBelow, is_read}
use Rattle.update_protocol.specs.World.{Attempt, History, Sync, Synced, Who, World, at}
use Rattle.update_protocol.proofs.Basics.{by_bool}
use Rattle.update_protocol.proofs.Invariant.{Current, Invariant}
use Rattle.update_protocol.proofs.Setting.{Setting}
use Rattle.turn_laws.specs.Values.{Cluster, Genuine, Slice, Unique, after_turn, name_of, no_target, seat_of, slice, target_at}
use Rattle.turn_laws.specs.Agrees.{Agrees, Keeps, KeepsHome, KeepsNode}
use Rattle.turn_laws.specs.Attempting.{begun, next_name}
use Rattle.turn_laws.specs.Runs.{IsRun}
use Rattle.turn_laws.proofs.Given.{holds_of}
use Rattle.turn_laws.proofs.Points.{eqb_self, settles, some_name}
use Rattle.turn_laws.proofs.HoldComes.{free_is}
use Rattle.turn_laws.proofs.Requests.{still_carried, still_item, still_keeps}
use Rattle.turn_laws.proofs.Sends.{run_append}
use Rattle.turn_laws.proofs.Then.{run_then}
use Rattle.home_laws.specs.Asking.{AreNumbered, AsksOrEnds}
use Rattle.home_laws.proofs.Finishes.{goes_so}
use Rattle.home_laws.proofs.Given.{gives_more}
use Rattle.home_laws.proofs.Moves.{Moves, by_step, same_attempts}

-- a number that is new is above the seat
abbrev judged_by : Bool → Bool → ℕ → Reply → Judgement
judged_by same later last v = if same then judgement.Repeat v else (if later then judgement.Stale last else judgement.New)

not_repeat : (v : Reply) → judgement.Repeat v ≡ judgement.New → ⊥
not_repeat v z = cc

not_stale : (n : ℕ) → judgement.Stale n ≡ judgement.New → ⊥
not_stale n z = cc

above_last : (number last : ℕ) (v : Reply) (b : Bool) → ltb number last ≡ b → judged_by false b last v ≡ judgement.New → (last ≡ number → ⊥) → last < number
above_last number last v true l z ne = absurd (not_stale last z)
above_last number last v false l z ne = ⊎_elim (λ (h : ltb last number ≡ true). ltb-true last number h) (λ (h : ltb last number ≡ false). absurd (ne (let x = ltb-false number last l in let y = ltb-false last number h in omega (arith, x, y)))) (by_bool (ltb last number))

new_below : (o : Option (ℕ × Reply)) (number : ℕ) → judged (seat_of o) number ≡ judgement.New → IsBelow o number
new_below None number e = tt
new_below (Some s) number e = elim (eqb_tells s.0 number) [
  | inl q ↦ absurd (not_repeat (answer_of (refusal_of s.1)) (sym (ap (λ b. judged_by b (ltb number s.0) s.0 (answer_of (refusal_of s.1))) q.0) ∙ e))
  | inr q ↦ above_last number s.0 (answer_of (refusal_of s.1)) (ltb number s.0) refl (sym (ap (λ b. judged_by b (ltb number s.0) s.0 (answer_of (refusal_of s.1))) q.0) ∙ e) q.1
]

some_attempt : (a b : Attempt) → ◌≡◌ {A = Option Attempt} (Some a) (Some b) → a ≡ b
some_attempt a b e = cc

some_going : (g h : Going) → ◌≡◌ {A = Option Going} (Some g) (Some h) → g ≡ h
some_going g h e = cc

some_none : (g : Going) → ◌≡◌ {A = Option Going} (Some g) None → ⊥
some_none g e = cc

others_ask : (w : World) (who : Who) (s : ℕ) → s ≢ who.master → slice (happens w (Ask who)) s ≡ slice w s
others_ask w who s ne = elim (eqb_tells s who.master) [
  | inl q ↦ absurd (ne q.1)
  | inr q ↦ ap (λ b. record (slice w s) {
    turns = if b then suc (w.turns who.master) else w.turns s;
    trying = if b then Some (record { who = who; turn = suc (w.turns who.master) }) else w.trying s;
    holder = if b then Some (record { who = who; turn = suc (w.turns who.master) }) else w.holder s;
  }) q.0
]

here_ask : (w : World) (who : Who) → slice (happens w (Ask who)) who.master ≡ record (slice w who.master) { turns = suc (w.turns who.master); trying = Some (record { who = who; turn = suc (w.turns who.master) }); holder = Some (record { who = who; turn = suc (w.turns who.master) }) }
here_ask w who = ap (λ b. record (slice w who.master) {
  turns = if b then suc (w.turns who.master) else w.turns who.master;
  trying = if b then Some (record { who = who; turn = suc (w.turns who.master) }) else w.trying who.master;
  holder = if b then Some (record { who = who; turn = suc (w.turns who.master) }) else w.holder who.master;
}) (eqb_self who.master)

module _ (σ : Setting) (old : History) (c : Cluster) (w : World) (reached : Reached σ.targets old w) (g : Agrees σ.targets c w) (numbered : AreNumbered c) (to : ℕ) (inside : to < length c.targets) (up : serves (target_at c.targets to) ≡ true)
    (r : Request) (sent : List Request) (unique : Unique sent) (more : (q : Request) → IsIn q g.sent → IsIn q sent) (known : IsIn r sent) (home : home_of σ.targets r.op ≡ Some to)
    (free : (target_at c.targets to).node.holder ≡ None) (client : r.client < length (target_at c.targets to).node.seats)
    (new : is_read r.op ≡ false → judged (get_or (target_at c.targets to).node.seats r.client None) r.number ≡ judgement.New) (f : Fate) where
  abbrev was : Target
  was = target_at c.targets to

  later : get_or was.node.ended to 0 ≤ was.home.attempts
  later = (numbered.notes to up).ended

  i : Invariant σ.targets w
  i = holds_of σ old w reached

  -- what the attempt is before its first step
  abbrev first : Going
  first = record { course = stepped (first_course was.home r (length (state_text was.node)) was.node.clock) None; waits = waits.Hold (record { reply = replies.Ok; parts = []; on = 0 }) 0 }

  abbrev began : Coordinating
  began = record was.home { attempts = was.home.attempts + 1; asks = 0; released = 0; current = Some first }

  abbrev who : Who
  who = record { master = to; request = r }

  abbrev a : Attempt
  a = record { who = who; turn = suc (w.turns to) }

  keeps : Keeps σ.targets g.epoch g.sent (g.start to) w.base w.since to (slice w to) was
  keeps = g.keeps to up

  abbrev turn : Turned
  turn = quiet (begun was r 0 0 first)

  abbrev after : Slice
  after = record (slice w to) { turns = suc (w.turns to); trying = Some a; holder = Some a }

  named_so : next_name was r ≡ name_of g.epoch a
  named_so =
      let t : was.home.attempts + 1 ≡ suc (w.turns to) = (let k = keeps.home.attempts in omega (arith, k)) in
      λ j. record { epoch = keeps.node.epoch j; master = keeps.index j; attempt = t j; number = r.number }

  node_begins : KeepsNode σ.targets g.epoch sent (g.start to) w.base w.since to after (record was.node { holder = Some (next_name was r) })
  node_begins = let k = keeps.node in record {
    cluster = k.cluster;
    index = k.index;
    epoch = k.epoch;
    transno = k.transno;
    clock = k.clock;
    mark = k.mark;
    seats = k.seats;
    objects = k.objects;
    log = k.log;
    waiting = k.waiting;
    writers = k.writers;
    holder = ap (λ (y : Name). Some y) named_so;
    genuine = λ b e. subst (Genuine σ.targets sent) (some_attempt a b e) (known, home);
    wide = k.wide;
    ended = k.ended;
  }

  home_begins : KeepsHome σ.targets g.epoch sent w.since to after began
  home_begins = let k = keeps.home in record {
    cluster = k.cluster;
    at_home = k.at_home;
    epoch = k.epoch;
    attempts = (let h = k.attempts in omega (arith, h));
    batches = k.batches;
    sets = k.sets;
    wide = k.wide;
    stable = k.stable;
    mark = k.mark;
    under = k.under;
    idle = λ e. absurd (some_none first e);
    going = λ h e. record { attempt = a; current = refl; request = ap (λ (y : Going). y.course.request) (sym (some_going first h e)); genuine = (known, home) };
  }

  below : is_read r.op ≡ false → IsBelow (get (has_now σ.targets w to).seats r.client) r.number
  below e = new_below (get (has_now σ.targets w to).seats r.client) r.number (ap (λ o. judged o r.number) (sym (keeps.node.seats r.client client)) ∙ new e)

  abbrev next : World
  next = happens w (Ask who)

  abbrev then_there : Cluster
  then_there = after_turn c to turn

  may_ask : May σ.targets w (Ask who)
  may_ask = (g.ups to inside ∙ up, free_is g.epoch (w.holder to) (sym keeps.node.holder ∙ free), home, subst (λ n. to < n) g.few inside, below)

  agrees : Agrees σ.targets then_there next
  agrees = settles σ.targets c w next g sent unique g.asked to inside turn refl (λ n l. still_item σ.targets g.epoch g.sent sent more (at w.since n) (g.items n l)) (g.ups to inside) (λ j ne. refl)
      (λ j ne u. subst (λ s. Keeps σ.targets g.epoch sent (g.start j) w.base w.since j s (target_at c.targets j)) (sym (others_ask w who j ne)) (still_keeps σ.targets g.epoch g.sent sent more (g.start j) w.base w.since j (slice w j) (target_at c.targets j) (g.keeps j u)))
      (λ u. subst (λ s. Keeps σ.targets g.epoch sent (g.start to) w.base w.since to s turn.target) (sym (here_ask w who)) (record { cluster = keeps.cluster; index = keeps.index; node = node_begins; home = home_begins }))
      (still_carried σ.targets g.epoch g.sent sent more g.asked w.since w.pool)
      (λ x h epoch. absurd h)

  abbrev one : IsRun σ.targets w [] then_there
  one = record { events = Ask who ∷ []; world = next; run = (may_ask, refl); lines = refl; agrees = agrees }

  now : Invariant σ.targets next
  now = holds_of σ old next (record { story = reached.story; start = reached.start; events = reached.events ++ Ask who ∷ []; run = run_append σ.targets reached.events (Ask who ∷ []) (fresh reached.start old) w next reached.run (may_ask, refl) })

  numbered_then : AreNumbered then_there
  numbered_then = gives_more c numbered to inside up turn (record {
    same = λ s. refl;
    next = λ s. inl (omega arith);
    notes = λ s. record { held = λ by e m. ap_attempt by e; ended = omega (arith, later) };
    sent = λ x h. absurd h;
  })
    where
      ap_attempt : (by : Name) → ◌≡◌ {A = Option Name} (Some (next_name was r)) (Some by) → by.attempt ≤ was.home.attempts + 1
      ap_attempt by e = let z = ap (λ (y : Name). y.attempt) (some_name (next_name was r) by e) in omega (arith, z)

  abbrev there : Target
  there = target_at then_there.targets to

  there_is : there ≡ turn.target
  there_is = get_or-set_same c.targets to turn.target no_target inside

  -- no commit was asked of it yet
  nothing_asked : (b : Attempt) → next.trying to ≡ Some b → (t k : ℕ) → IsIn (Sync b t k) w.pool → (w.up t ≡ false) ⊎ IsIn (Synced b t) w.pool
  nothing_asked b e t k h =
      let cur : Current σ.targets w.base w.since w.up next.holder next.turns to b = now.holding.current to b e in
      let told : b.turn ≤ w.turns b.who.master = i.messages (Sync b t k) h in
      let turn_is : b.turn ≡ suc (w.turns to) = cur.last_turn ∙ ap (λ (x : Bool). if x then suc (w.turns to) else w.turns to) (eqb_self to) in
      let home_is : w.turns b.who.master ≡ w.turns to = ap w.turns cur.is_home in
      absurd (omega (arith, told, turn_is, home_is))

  -- THE FIRST STEP

  no_current : was.home.current ≡ None
  no_current = by_option was.home.current refl
    where
      no_attempt : (b : Attempt) → w.holder to ≡ Some b → ⊥
      no_attempt b e = clash b (sym e ∙ free_is g.epoch (w.holder to) (sym keeps.node.holder ∙ free))
        where
          clash : (b : Attempt) → ◌≡◌ {A = Option Attempt} (Some b) None → ⊥
          clash b z = cc

      by_option : (o : Option Going) → was.home.current ≡ o → o ≡ None
      by_option None e = refl
      by_option (Some x) e = let k = keeps.home.going x e in absurd (no_attempt k.attempt (i.holding.current to k.attempt k.current).holds)

  abbrev course : Course
  course = first_course was.home r (length (state_text was.node)) was.node.clock

  abbrev before : Option Going → Coordinating
  before o = record was.home { attempts = was.home.attempts + 1; asks = 0; released = 0; current = o }

  abbrev home_then : Coordinating
  home_then = (started was.home r (length (state_text was.node)) was.node.clock).after

  abbrev action : Action
  action = (started was.home r (length (state_text was.node)) was.node.clock).action

  moves : Moves began r home_then action
  moves = subst (λ (o : Option Going). Moves began r (follows (before o) (stepped course None) (step_after course.planner None)).after (follows (before o) (stepped course None) (step_after course.planner None)).action) (sym no_current)
      (by_step began r (stepped course None) (step_after course.planner None) refl)

  by_is : next_name was r ≡ new_attempt was r
  by_is = let e = same_attempts began r home_then action moves in λ j. record { epoch = was.node.epoch; master = was.index; attempt = sym e j; number = r.number }

  not_past : is_past was.node.ended (next_name was r) ≡ false
  not_past = ⊎_elim
      (λ (h : is_past was.node.ended (next_name was r) ≡ true). absurd (let l = leb-true (was.home.attempts + 1) (get_or was.node.ended was.index 0) h in let e = ap (λ n. get_or was.node.ended n 0) keeps.index in omega (arith, l, e, later)))
      (λ (h : is_past was.node.ended (next_name was r) ≡ false). h) (by_bool (is_past was.node.ended (next_name was r)))

  held : after_hold was.node (next_name was r) ≡ record was.node { holder = Some (next_name was r) }
  held = ap (held_as was.node (next_name was r))
      (ap (λ b. if b then taken_at was.node.holder was.node.ended (next_name was r) else Ended) (eqb_self was.node.epoch) ∙ ap (λ o. taken_at o was.node.ended (next_name was r)) free ∙ ap (λ b. if b then Ended else Comes) not_past)

  abbrev walked_from : TargetState → Name → Turned
  walked_from n by = goes_on by (record { target = record was { node = n; home = home_then }; action = action }) f

  turn_is : walked_from (record was.node { holder = Some (next_name was r) }) (next_name was r) ≡ begins was r f
  turn_is = ap (λ n. walked_from n (next_name was r)) (sym held) ∙ ap (λ by. walked_from (after_hold was.node by) by) by_is

  inside_then : to < length then_there.targets
  inside_then = subst (λ n. to < n) (sym (length-set c.targets to turn.target)) inside

  up_then : serves there ≡ true
  up_then = ap serves there_is ∙ up

  current_then : there.home.current ≡ Some first
  current_then = ap (λ (t : Target). t.home.current) there_is

  moves_then : Moves there.home r home_then action
  moves_then = subst (λ (t : Target). Moves t.home r home_then action) (sym there_is) moves

  module _ (asks : AsksOrEnds σ.targets to (walks (holds_home was r).target (holds_home was r).action).action) where
    abbrev Ends : Target → Type 0
    Ends t = AsksOrEnds σ.targets to (walks (record t { home = home_then }) action).action

    asks_there : Ends there
    asks_there = subst Ends (sym there_is) (subst (λ n. Ends (record was { node = n })) (ap (after_hold was.node) (sym by_is) ∙ held) asks)

    abbrev Two : Target → Type 0
    Two t = IsRun σ.targets next (goes_on (own_attempt t r.number) (record { target = record t { home = home_then }; action = action }) f).lines
        (after_turn then_there to (goes_on (own_attempt t r.number) (record { target = record t { home = home_then }; action = action }) f))

    pub begins_so : IsRun σ.targets w (begins was r f).lines (after_turn c to (begins was r f))
    begins_so = run_then σ.targets w c to turn (begins was r f) one
        (subst (λ (u : Turned). IsRun σ.targets next u.lines (after_turn then_there to u)) turn_is
        (subst Two there_is (goes_so σ then_there next now agrees numbered_then to inside_then up_then first current_then nothing_asked f home_then action moves_then asks_there)))
