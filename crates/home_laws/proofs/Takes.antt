-- The turn of a target that a message comes to gives numbers in order.
use Rattle.std.proofs.Common.{◌≡◌, ◌<◌, ◌≤◌, ◌+◌, ◌==◌, ◌&&◌, ◌⊎◌, inl, inr, length, get_or, ℕ, Bool, true, false, not, true≢false, if◌then◌else◌, List, [], ◌∷◌, Option, Some, None, refl, sym, ap, ◌∙◌, subst, arith}
use Rattle.std.proofs.lemmas.List.{get_or-set_same, length-set}
use Rattle.tree_model.specs.declared.op.Request.{Request}
use Rattle.tree_model.specs.declared.reply.Reply.TheVariants as replies
use Rattle.plan_base.specs.Planners.{step_after}
use Rattle.plan_record.specs.Recorded.{reads}
use Rattle.reply_cache.specs.Seats.{judged}
use Rattle.reply_cache.specs.declared.seats.Judgement.{Judgement}
use Rattle.reply_cache.specs.declared.seats.Judgement.TheVariants as judgement
use Rattle.update_record.specs.declared.message.Attempt.{Attempt as Name}
use Rattle.update_record.specs.declared.message.MessageKind.{MessageKind}
use Rattle.update_record.specs.declared.message.MessageKind.TheVariants as kind
use Rattle.scenario_text.specs.declared.line.Line.{Line}
use Rattle.scenario_text.specs.declared.line.Line.TheVariants as lines
use Rattle.cluster_mail.specs.Mail.{Sent}
use Rattle.cluster_mail.specs.declared.content.Content.{Content}
use Rattle.cluster_mail.specs.declared.content.Content.TheVariants as content
use Rattle.target_state.specs.Image.{state_text}
use Rattle.target_state.specs.Rules.{after_hold}
use Rattle.update_coordinator.specs.Coordinating.{Coordinating}
use Rattle.update_coordinator.specs.Marks.{is_awaited, waits_at}
use Rattle.update_coordinator.specs.Rules.{Gone, first_course, started, stepped}
use Rattle.update_coordinator.specs.declared.words.Action.{Action}
use Rattle.update_coordinator.specs.declared.words.Course.{Course}
use Rattle.update_coordinator.specs.declared.words.Event.{Event}
use Rattle.update_coordinator.specs.declared.words.Event.TheVariants as events
use Rattle.update_coordinator.specs.declared.words.Going.{Going}
use Rattle.update_coordinator.specs.declared.words.Waits.TheVariants as waits
use Rattle.target_turns.specs.Helping.{ignores}
use Rattle.target_turns.specs.Home.{begins, goes_on, hears_awaited, new_attempt, own_attempt}
use Rattle.target_turns.specs.Target.{Fate, Target, Turned, quiet, says, serves}
use Rattle.target_turns.specs.Turn.{asked_for, awaits, bounced, is_request, judged_as, on_answer, request_of, taken_up_as, takes_up, turned, turned_away, turned_now, turned_up, with_facts, with_op, with_question, with_record}
use Rattle.update_protocol.specs.Lists.{IsIn}
use Rattle.turn_laws.specs.Values.{Cluster, after_turn, no_target, target_at}
use Rattle.turn_laws.proofs.Points.{both, eqb_is}
use Rattle.turn_laws.proofs.Then.{after_both}
use Rattle.home_laws.specs.Asking.{AreNumbered, NotesBegun, is_ask, is_of_attempt, is_order, is_told}
use Rattle.home_laws.proofs.Given.{gives_more, gives_numbers}
use Rattle.home_laws.proofs.Homes.{goes_numbers, hears_numbers}
use Rattle.home_laws.proofs.Moves.{Moves, by_step, forgets, same_attempts}
use Rattle.home_laws.proofs.Noting.{hold_epoch, hold_notes}
use Rattle.home_laws.proofs.Orders.{cancel_gives, execute_gives, note_gives, release_gives, same_home, sync_gives}
use Rattle.home_laws.proofs.Owed.{executed_numbers, released_numbers}
use Rattle.home_laws.proofs.Told.{holds_give}

-- a message that doesn't find its target serving
pub away_numbers : (c : Cluster) → AreNumbered c → (to : ℕ) → to < length c.targets → (ls : List Line) → AreNumbered (after_turn c to (says (target_at c.targets to) ls))
away_numbers c numbered to inside ls = gives_numbers c numbered to inside (says (target_at c.targets to) ls) (λ s. s)
    (record { same = λ s. refl; next = λ s. same_home (target_at c.targets to) (target_at c.targets to) refl refl refl; notes = λ s. numbered.notes to s; sent = λ x h. absurd h })

module _ (c : Cluster) (numbered : AreNumbered c) (to : ℕ) (inside : to < length c.targets) (up : serves (target_at c.targets to) ≡ true)
    (index : (target_at c.targets to).index ≡ to) (at_home : (target_at c.targets to).home.master ≡ to) (f : Fate) where
  abbrev was : Target
  was = target_at c.targets to

  abbrev Numbered : Turned → Type 0
  Numbered u = AreNumbered (after_turn c to u)

  -- A REQUEST BEGINS

  module _ (r : Request) where
    abbrev course : Course
    course = first_course was.home r (length (state_text was.node)) was.node.clock

    abbrev first : Going
    first = record { course = stepped course None; waits = waits.Hold (record { reply = replies.Ok; parts = []; on = 0 }) 0 }

    abbrev began : Coordinating
    began = record was.home { attempts = was.home.attempts + 1; asks = 0; released = 0; current = Some first }

    abbrev home_then : Coordinating
    home_then = (started was.home r (length (state_text was.node)) was.node.clock).after

    abbrev action : Action
    action = (started was.home r (length (state_text was.node)) was.node.clock).action

    moves : Moves began r home_then action
    moves = subst (λ (x : Gone). Moves began r x.after x.action) (sym (forgets (record was.home { attempts = was.home.attempts + 1; asks = 0; released = 0 }) was.home.current (stepped course None) (step_after course.planner None)))
        (by_step began r (stepped course None) (step_after course.planner None) refl)

    abbrev by : Name
    by = new_attempt was r

    attempts_then : home_then.attempts ≡ was.home.attempts + 1
    attempts_then = same_attempts began r home_then action moves

    abbrev turn : Turned
    turn = quiet (record was { node = after_hold was.node by; home = began })

    notes_then : NotesBegun to (was.home.attempts + 1) was.node
    notes_then = let n = numbered.notes to up in record { held = λ x e m. (let l = n.held x e m in omega (arith, l)); ended = (let l = n.ended in omega (arith, l)) }

    abbrev then_there : Cluster
    then_there = after_turn c to turn

    numbered_then : AreNumbered then_there
    numbered_then = gives_more c numbered to inside up turn (record {
      same = λ s. hold_epoch was.node by;
      next = λ s. inl (omega arith);
      notes = λ s. hold_notes to (was.home.attempts + 1) was.node by notes_then (λ e. omega (arith, attempts_then));
      sent = λ x h. absurd h;
    })

    abbrev there : Target
    there = target_at then_there.targets to

    there_is : there ≡ turn.target
    there_is = get_or-set_same c.targets to turn.target no_target inside

    abbrev Then : Name → Target → Type 0
    Then b t = AreNumbered (after_turn then_there to (goes_on b (record { target = record t { home = home_then }; action = action }) f))

    goes_then : Then (own_attempt there r.number) there
    goes_then = goes_numbers then_there numbered_then to (subst (λ n. to < n) (sym (length-set c.targets to turn.target)) inside) (ap serves there_is ∙ up)
        (ap (λ (t : Target). t.index) there_is ∙ index) (ap (λ (t : Target). t.home.master) there_is ∙ at_home) first (ap (λ (t : Target). t.home.current) there_is) f home_then action
        (subst (λ (t : Target). Moves t.home r home_then action) (sym there_is) moves)

    by_then : own_attempt turn.target r.number ≡ by
    by_then = λ j. record { epoch = hold_epoch was.node by j; master = was.index; attempt = sym attempts_then j; number = r.number }

    pub begins_numbers : Numbered (begins was r f)
    begins_numbers = subst AreNumbered (after_both c to turn (begins was r f))
        (subst (λ (b : Name). Then b turn.target) by_then (subst (λ (t : Target). Then (own_attempt t r.number) t) there_is goes_then))

  -- IT IS TAKEN UP, OR NOT

  says_so : (ls : List Line) → Numbered (says was ls)
  says_so ls = away_numbers c numbered to inside ls

  takes_so : (r : Request) → Numbered (takes_up was r f)
  takes_so r = by_holder was.node.holder
    where
      by_holder : (o : Option Name) → Numbered (taken_up_as was r f o)
      by_holder (Some h) = says_so (lines.Busy r.number h.number ∷ [])
      by_holder None = begins_numbers r

  asked_so : (r : Request) → Numbered (asked_for was r f)
  asked_so r = by_read (reads r.op)
    where
      by_judgement : (j : Judgement) → Numbered (judged_as was r f j)
      by_judgement (judgement.Repeat v) = says_so (lines.Reply r.number v ∷ [])
      by_judgement (judgement.Stale last) = says_so (lines.Stale r.number last ∷ [])
      by_judgement judgement.New = takes_so r

      by_read : (b : Bool) → Numbered (if b then takes_up was r f else judged_as was r f (judged (get_or was.node.seats r.client None) r.number))
      by_read true = takes_so r
      by_read false = by_judgement (judged (get_or was.node.seats r.client None) r.number)

  -- ANSWERS

  -- the attempt of the request of this number waits for it
  awaited : (t attempt ask number : ℕ) (o : Option Going) → was.home.current ≡ o → is_awaited was.home t attempt ask o ≡ true
      → (attempt < was.home.attempts) ⊎ ((attempt ≡ was.home.attempts) × (ask ≤ was.home.asks) × ((g : Going) → was.home.current ≡ Some g → number ≡ g.course.request.number))
      → (e : Event) → is_of_attempt e ≡ true → Numbered (hears_awaited was number e f)
  awaited t attempt ask number None current is given e of = absurd (true≢false (sym is))
  awaited t attempt ask number (Some g) current is (inl l) e of =
      let one = both (not (t == was.home.master)) ((waits_at g.waits == t) && ((attempt == was.home.attempts) && (ask == was.home.asks))) is in
      let two = both (waits_at g.waits == t) ((attempt == was.home.attempts) && (ask == was.home.asks)) one.1 in
      let three = both (attempt == was.home.attempts) (ask == was.home.asks) two.1 in
      let same = eqb_is attempt was.home.attempts three.0 in absurd (omega (arith, l, same))
  awaited t attempt ask number (Some g) current is (inr h) e of = subst (λ n. Numbered (hears_awaited was n e f)) (sym (h.2 g current)) (hears_numbers c numbered to inside up index at_home g current f e of)

  module _ (k : ℕ) (m : Sent) (kept : IsIn m c.sent) where
    answered : m.message.to ≡ to → m.message.epoch ≡ was.node.epoch → is_told m.message.kind ≡ true → (e : Event) → is_of_attempt e ≡ true → Numbered (on_answer k was m.message e f)
    answered here now told e of = by_test (is_awaited was.home m.message.from m.message.attempt m.message.ask was.home.current) refl
      where
        by_test : (b : Bool) → is_awaited was.home m.message.from m.message.attempt m.message.ask was.home.current ≡ b → Numbered (if b then hears_awaited was m.message.number e f else ignores k was)
        by_test true is = awaited m.message.from m.message.attempt m.message.ask m.message.number was.home.current refl is (numbered.answers to up m kept now here told) e of
        by_test false is = says_so (lines.Ignored k ∷ [])

    -- what it asked of a target that doesn't serve
    pub bounce_numbers : m.message.from ≡ to → is_ask m.message.kind ≡ true → awaits was m.message ≡ true → Numbered (bounced was m.message f)
    bounce_numbers here ask is = by_epoch (m.message.epoch == was.node.epoch) refl (subst (λ b. (if b then (if m.message.epoch == was.node.epoch then is_awaited was.home m.message.to m.message.attempt m.message.ask was.home.current else false) else false) ≡ true) up is)
      where
        by_epoch : (b : Bool) → (m.message.epoch == was.node.epoch) ≡ b → (if b then is_awaited was.home m.message.to m.message.attempt m.message.ask was.home.current else false) ≡ true → Numbered (bounced was m.message f)
        by_epoch true now z = awaited m.message.to m.message.attempt m.message.ask m.message.number was.home.current refl z (numbered.orders to up m kept (eqb_is m.message.epoch was.node.epoch now) here ask) (events.Down m.message.to) refl
        by_epoch false now z = absurd (true≢false (sym z))

    -- BY KIND

    module _ (here : m.message.to ≡ to) (x : Content) where
      by_op : (x : Content) → Numbered (with_op was m.message f x)
      by_op (content.Asks op) = asked_so (request_of m.message op)
      by_op (content.Questions us) = says_so []
      by_op (content.Tells facts) = says_so []
      by_op (content.Carries r) = says_so []
      by_op content.Nothing = says_so []

      by_question : m.message.kind ≡ kind.Hold → m.message.epoch ≡ was.node.epoch → (x : Content) → Numbered (with_question k was m.message x)
      by_question is now (content.Questions us) = gives_more c numbered to inside up _ (holds_give c to numbered up m kept is now k us)
      by_question is now (content.Asks op) = says_so (lines.Ignored k ∷ [])
      by_question is now (content.Tells facts) = says_so (lines.Ignored k ∷ [])
      by_question is now (content.Carries r) = says_so (lines.Ignored k ∷ [])
      by_question is now content.Nothing = says_so (lines.Ignored k ∷ [])

      by_facts : m.message.kind ≡ kind.Held → m.message.epoch ≡ was.node.epoch → (x : Content) → Numbered (with_facts k was m.message f x)
      by_facts is now (content.Tells facts) = answered here now (ap is_told is) (events.Fact facts) refl
      by_facts is now (content.Asks op) = says_so (lines.Ignored k ∷ [])
      by_facts is now (content.Questions us) = says_so (lines.Ignored k ∷ [])
      by_facts is now (content.Carries r) = says_so (lines.Ignored k ∷ [])
      by_facts is now content.Nothing = says_so (lines.Ignored k ∷ [])

      by_record : m.message.kind ≡ kind.Execute → m.message.epoch ≡ was.node.epoch → (x : Content) → Numbered (with_record k was m.message x)
      by_record is now (content.Carries r) = gives_more c numbered to inside up _ (execute_gives c to numbered up k m.message r (λ e. numbered.begun to up m kept now e (ap is_order is)))
      by_record is now (content.Asks op) = says_so (lines.Ignored k ∷ [])
      by_record is now (content.Questions us) = says_so (lines.Ignored k ∷ [])
      by_record is now (content.Tells facts) = says_so (lines.Ignored k ∷ [])
      by_record is now content.Nothing = says_so (lines.Ignored k ∷ [])

      unless_old : (u : Turned) → (m.message.epoch ≡ was.node.epoch → Numbered u) → Numbered (if m.message.epoch == was.node.epoch then u else ignores k was)
      unless_old u on = by_test (m.message.epoch == was.node.epoch) refl
        where
          by_test : (b : Bool) → (m.message.epoch == was.node.epoch) ≡ b → Numbered (if b then u else ignores k was)
          by_test true e = on (eqb_is m.message.epoch was.node.epoch e)
          by_test false e = says_so (lines.Ignored k ∷ [])

      by_kind : (q : MessageKind) → m.message.kind ≡ q → Numbered (if is_request q then turned_now k was m.message x f q else (if m.message.epoch == was.node.epoch then turned_now k was m.message x f q else ignores k was))
      by_kind kind.Request is = by_op x
      by_kind kind.Hold is = unless_old (turned_now k was m.message x f kind.Hold) (λ now. by_question is now x)
      by_kind kind.Held is = unless_old (turned_now k was m.message x f kind.Held) (λ now. by_facts is now x)
      by_kind kind.HoldBusy is = unless_old (turned_now k was m.message x f kind.HoldBusy) (λ now. answered here now (ap is_told is) (events.Busy m.message.value) refl)
      by_kind kind.Sync is = unless_old (turned_now k was m.message x f kind.Sync) (λ now. gives_more c numbered to inside up _ (sync_gives c to numbered up m kept is now k f))
      by_kind kind.Synced is = unless_old (turned_now k was m.message x f kind.Synced) (λ now. answered here now (ap is_told is) events.Synced refl)
      by_kind kind.Execute is = unless_old (turned_now k was m.message x f kind.Execute) (λ now. by_record is now x)
      by_kind kind.Executed is = unless_old (turned_now k was m.message x f kind.Executed) (λ now. executed_numbers c to inside k m.message numbered up m.message.from m.message.attempt)
      by_kind kind.Release is = unless_old (turned_now k was m.message x f kind.Release) (λ now. gives_more c numbered to inside up _ (release_gives c to numbered up k m.message (λ e. numbered.begun to up m kept now e (ap is_order is))))
      by_kind kind.Released is = unless_old (turned_now k was m.message x f kind.Released) (λ now. released_numbers c to inside k m.message numbered up m.message.from m.message.attempt)
      by_kind kind.Stable is = unless_old (turned_now k was m.message x f kind.Stable) (λ now. gives_more c numbered to inside up _ (note_gives c to numbered up m.message.from m.message.value))
      by_kind kind.Cancel is = unless_old (turned_now k was m.message x f kind.Cancel) (λ now. gives_more c numbered to inside up _ (cancel_gives c to numbered up m.message.from m.message.value))

      pub turn_numbers : Numbered (turned k was m.message x f)
      turn_numbers = subst (λ b. Numbered (if b then turned_up k was m.message x f else turned_away k was m.message)) (sym up) (by_kind m.message.kind refl)
