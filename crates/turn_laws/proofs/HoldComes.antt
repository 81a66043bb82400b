-- A Hold comes.
use Rattle.std.proofs.Common.{◌≡◌, ◌≢◌, ◌<◌, ◌==◌, ◌⊎◌, inl, inr, ⊎_elim, max, length, ℕ, Bool, true, false, if◌then◌else◌, List, [], ◌∷◌, map, get_or, set, ltb, Option, Some, None, refl, sym, ap, ◌∙◌, subst, arith}
use Rattle.std.proofs.lemmas.Bool.{leb-false, ltb-true}
use Rattle.std.proofs.lemmas.Bool.Decides.{eqb_tells}
use Rattle.std.proofs.lemmas.List.{length-set}
use Rattle.out_update.specs.declared.update.Update.{Update}
use Rattle.out_update.specs.declared.result.UpdateResult.{UpdateResult}
use Rattle.object_store.specs.Reads.{reads}
use Rattle.update_record.specs.declared.message.Attempt.{Attempt as Name}
use Rattle.update_record.specs.declared.message.Message.{Message as Mail}
use Rattle.update_record.specs.Messages.{FitsFacts}
use Rattle.cluster_mail.specs.Answering.{attempt_of, busy_message, held_message}
use Rattle.cluster_mail.specs.declared.content.Content.TheVariants as content
use Rattle.target_state.specs.State.{TargetState}
use Rattle.target_state.specs.Image.{state_text}
use Rattle.target_state.specs.Rules.{after_hold, answer_as, facts, gives_way, held_taking, is_past, results_told, same_attempt, taken, taken_at, with_ended, writer_told}
use Rattle.target_state.specs.Rules as rules
use Rattle.target_state.specs.declared.answers.HoldAnswer.{HoldAnswer}
use Rattle.target_state.specs.declared.answers.HoldAnswer.TheVariants as hold
use Rattle.target_state.specs.declared.holding.Taking.{Taking}
use Rattle.target_state.specs.declared.holding.Taking.TheVariants.{Busy, Comes, Ended, Stays, TakesOver}
use Rattle.target_turns.specs.Target.{Target, serves}
use Rattle.target_turns.specs.Helping.{held_as, on_hold}
use Rattle.update_protocol.specs.Events.{Event, Hold_comes, Hold_takes_over, Tells, happens, has_now}
use Rattle.update_protocol.specs.Lists.{IsIn, put}
use Rattle.update_protocol.specs.World.{Attempt, Held, Hold, Message, Who, World}
use Rattle.update_protocol.proofs.Invariant.{Invariant}
use Rattle.update_protocol.proofs.Setting.{Setting}
use Rattle.turn_laws.specs.Values.{Asked, Cluster, Genuine, Inside, Slice, after_turn, name_of, named, slice, target_at, writer_at}
use Rattle.turn_laws.specs.Agrees.{Agrees, Carried, IsQuestion, Keeps, KeepsNode, TiedHold, answered_of}
use Rattle.turn_laws.specs.Runs.{ArePlaced, IsRun, loud}
use Rattle.turn_laws.proofs.Points.{both, eqb_is, eqb_self, holder_tells, home_moves, none_name, same_is, same_who, settles, some_name}
use Rattle.turn_laws.proofs.Growing.{Goes, carried_grows}
use Rattle.turn_laws.proofs.Executes.{ended_put}
use Rattle.turn_laws.proofs.Writers.{told_tells}

others_hold : (w : World) (a : Attempt) (t : ℕ) (q : List Update) (k : Option ℕ) (f : List UpdateResult) (s : ℕ) → s ≢ t → slice (happens w (Hold_comes a t q k f)) s ≡ slice w s
others_hold w a t q k f s ne = elim (eqb_tells s t) [
  | inl q ↦ absurd (ne q.1)
  | inr q ↦ ap (λ b. record (slice w s) { holder = if b then Some a else w.holder s }) q.0
]

here_hold : (w : World) (a : Attempt) (t : ℕ) (q : List Update) (k : Option ℕ) (f : List UpdateResult) → slice (happens w (Hold_comes a t q k f)) t ≡ record (slice w t) { holder = Some a }
here_hold w a t q k f = ap (λ b. record (slice w t) { holder = if b then Some a else w.holder t }) (eqb_self t)

others_over : (w : World) (a : Attempt) (t : ℕ) (q : List Update) (k : Option ℕ) (f : List UpdateResult) (b : Attempt) (s : ℕ) → s ≢ t → slice (happens w (Hold_takes_over a t q k f b)) s ≡ slice w s
others_over w a t q k f b s ne = elim (eqb_tells s t) [
  | inl q ↦ absurd (ne q.1)
  | inr q ↦ ap (λ c. record (slice w s) { holder = if c then Some a else w.holder s; ended = if c then put (w.ended t) a.who.master (max (w.ended t a.who.master) b.turn) else w.ended s }) q.0
]

here_over : (w : World) (a : Attempt) (t : ℕ) (q : List Update) (k : Option ℕ) (f : List UpdateResult) (b : Attempt)
    → slice (happens w (Hold_takes_over a t q k f b)) t ≡ record (slice w t) { holder = Some a; ended = put (w.ended t) a.who.master (max (w.ended t a.who.master) b.turn) }
here_over w a t q k f b = ap (λ c. record (slice w t) { holder = if c then Some a else w.holder t; ended = if c then put (w.ended t) a.who.master (max (w.ended t a.who.master) b.turn) else w.ended t }) (eqb_self t)

-- of one question or none
results_are : (targets t : ℕ) (s : TargetState) (q : List Update) → IsQuestion targets t q → results_told s q ≡ map (reads s.objects) q
results_are targets t s [] one = refl
results_are targets t s (u ∷ []) one = refl
results_are targets t s (u ∷ v ∷ us) one = absurd one

some_attempt : (a b : Attempt) → ◌≡◌ {A = Option Attempt} (Some a) (Some b) → a ≡ b
some_attempt a b e = cc

pub free_is : (e : ℕ) (o : Option Attempt) → named e o ≡ None → o ≡ None
free_is e None z = refl
free_is e (Some b) z = absurd (none_name _ (sym z))

module _ (σ : Setting) (c : Cluster) (w : World) (i : Invariant σ.targets w) (g : Agrees σ.targets c w) (k : ℕ)
    (to : ℕ) (inside : to < length c.targets) (up : serves (target_at c.targets to) ≡ true)
    (m : Mail) (is_to : m.to ≡ to) (home : m.from < 16) (q : List Update) (places : ArePlaced σ.targets w.since)
    (fits : FitsFacts (facts (target_at c.targets to).node (length (state_text (target_at c.targets to).node)) q))
    (tied : TiedHold σ.targets g.epoch g.sent g.asked w.since w.pool m (content.Questions q)) where
  abbrev was : Target
  was = target_at c.targets to

  abbrev by : Name
  by = attempt_of m

  abbrev a : Attempt
  a = tied.0

  abbrev load : ℕ
  load = length (state_text was.node)

  keeps : Keeps σ.targets g.epoch g.sent (g.start to) w.base w.since to (slice w to) was
  keeps = g.keeps to up

  asks : IsQuestion σ.targets to q
  asks = subst (λ t. IsQuestion σ.targets t q) is_to tied.3.0

  came : IsIn (Hold a to q) w.pool
  came = subst (λ t. IsIn (Hold a t q) w.pool) is_to tied.4

  tells : (j : Option ℕ) × (writer_told was.node q ≡ writer_at w.since j) × Inside w.since j × Tells σ.targets w to q j
  tells = told_tells σ w i places g.epoch to was.node keeps.node.cluster keeps.node.writers q asks

  abbrev fact : List UpdateResult
  fact = map (reads (has_now σ.targets w to).objects) q

  abbrev told : Message
  told = Held a to q tells.0 (w.clock to) fact

  goes : Goes w.since w.since w.pool (told ∷ w.pool)
  goes = record { grows = λ n l. (l, refl); more = λ p h. inr h }

  abbrev here : Mail
  here = held_message was.node.epoch was.index m (facts was.node load q)

  epoch_same : was.node.epoch ≡ m.epoch
  epoch_same = keeps.node.epoch ∙ sym (ap (λ (y : Name). y.epoch) tied.1)

  name_same : answered_of here ≡ by
  name_same = ap (λ x. record { epoch = x; master = m.from; attempt = m.attempt; number = m.number }) epoch_same

  -- the answer stands for the machine's
  told_so : IsIn (Held a was.index q tells.0 was.node.clock (results_told was.node q)) (told ∷ w.pool)
  told_so = inl (λ j. Held a (keeps.index j) q tells.0 (keeps.node.clock j) ((results_are σ.targets to was.node q asks ∙ ap (λ o. map (reads o) q) keeps.node.objects) j))

  answer : Carried σ.targets g.epoch g.sent g.asked w.since (told ∷ w.pool) here
  answer = (content.Tells (facts was.node load q), (fits, refl), (a, name_same ∙ tied.1, tied.2, q, tells.0, tells.1, (tells.2, subst (λ n. Asked g.asked n m.ask (Some q)) (sym name_same) tied.3.1), told_so))

  answers : (x : Mail) → IsIn x (here ∷ []) → Carried σ.targets g.epoch g.sent g.asked w.since (told ∷ w.pool) x
  answers x (inl e) = subst (λ (x : Mail). Carried σ.targets g.epoch g.sent g.asked w.since (told ∷ w.pool) x) (sym e) answer
  answers x (inr h) = absurd h

  abbrev Result : HoldAnswer → Type 0
  Result h = IsRun σ.targets w (held_as k was m h).lines (after_turn c to (held_as k was m h))

  -- an attempt holds it now
  held_node : (nd : TargetState) (s : Slice) → KeepsNode σ.targets g.epoch g.sent (g.start to) w.base w.since to s nd → KeepsNode σ.targets g.epoch g.sent (g.start to) w.base w.since to (record s { holder = Some a }) (record nd { holder = Some by })
  held_node nd s n = record {
    cluster = n.cluster;
    index = n.index;
    epoch = n.epoch;
    transno = n.transno;
    clock = n.clock;
    mark = n.mark;
    seats = n.seats;
    objects = n.objects;
    log = n.log;
    waiting = n.waiting;
    writers = n.writers;
    holder = ap (λ (y : Name). Some y) tied.1;
    genuine = λ b e. subst (Genuine σ.targets g.sent) (some_attempt a b e) tied.2;
    wide = n.wide;
    ended = n.ended;
  }

  not_past : is_past was.node.ended by ≡ false → w.ended to a.who.master < a.turn
  not_past e =
      let l = leb-false by.attempt (get_or was.node.ended by.master 0) e in
      let s = keeps.node.ended by.master home in
      let p = ap (λ (y : Name). w.ended to y.master) tied.1 in
      let t = ap (λ (y : Name). y.attempt) tied.1 in
      omega (arith, l, s, p, t)

  -- it comes to be held by this attempt, or is already
  comes : after_hold was.node by ≡ record was.node { holder = Some by } → (w.holder to ≡ Some a) ⊎ ((w.holder to ≡ None) × (w.ended to a.who.master < a.turn)) → Result (hold.Held (facts was.node load q))
  comes is may = record {
    events = Hold_comes a to q tells.0 fact ∷ [];
    world = happens w (Hold_comes a to q tells.0 fact);
    run = ((came, g.ups to inside ∙ up, may, tells.3, refl, subst (λ n. to < n) g.few inside), refl);
    lines = refl;
    agrees = settles σ.targets c w (happens w (Hold_comes a to q tells.0 fact)) g g.sent g.unique g.asked to inside (held_as k was m (hold.Held (facts was.node load q))) refl g.items (g.ups to inside) (λ j ne. refl)
        (λ j ne u. subst (λ s. Keeps σ.targets g.epoch g.sent (g.start j) w.base w.since j s (target_at c.targets j)) (sym (others_hold w a to q tells.0 fact j ne)) (g.keeps j u))
        (λ u. subst (λ s. Keeps σ.targets g.epoch g.sent (g.start to) w.base w.since to s (record was { node = after_hold was.node by })) (sym (here_hold w a to q tells.0 fact)) (record {
          cluster = keeps.cluster;
          index = keeps.index;
          node = subst (λ n. KeepsNode σ.targets g.epoch g.sent (g.start to) w.base w.since to (record (slice w to) { holder = Some a }) n) (sym is) (held_node was.node (slice w to) keeps.node);
          home = home_moves σ.targets g.epoch g.sent w.since to (slice w to) was.home (w.done to) (w.disk to) (w.gone to) (Some a) (w.ended to) (w.clock to) keeps.home;
        }))
        (carried_grows σ.targets w.since w.since w.pool (told ∷ w.pool) goes g.epoch g.sent g.asked)
        (λ x h epoch. answers x h);
  }

  -- it is taken over from an earlier attempt of the same request
  takes : (h : Name) → was.node.holder ≡ Some h → is_past was.node.ended by ≡ false → gives_way h by ≡ true → after_hold was.node by ≡ record was.node { holder = Some by; ended = with_ended was.node.ended h } → Result (hold.Held (facts was.node load q))
  takes h held past way is = over (w.holder to) refl
    where
      over : (o : Option Attempt) → w.holder to ≡ o → Result (hold.Held (facts was.node load q))
      over None e = absurd (none_name h (sym (keeps.node.holder ∙ ap (named g.epoch) e) ∙ held))
      over (Some b) e =
          let name : name_of g.epoch b ≡ h = some_name _ _ (sym (keeps.node.holder ∙ ap (named g.epoch) e) ∙ held) in
          let two = both (h.number == by.number) (ltb h.attempt by.attempt) way in
          let number : b.who.request.number ≡ a.who.request.number = ap (λ (y : Name). y.number) name ∙ eqb_is h.number by.number two.0 ∙ ap (λ (y : Name). y.number) tied.1 in
          let who : b.who ≡ a.who = same_who σ.targets g.sent g.unique b a (keeps.node.genuine b e) tied.2 number in
          let turn : b.turn < a.turn = (let l = ltb-true h.attempt by.attempt two.1 in let x = ap (λ (y : Name). y.attempt) name in let y = ap (λ (y : Name). y.attempt) tied.1 in omega (arith, l, x, y)) in
          let h_master : h.master ≡ a.who.master = sym (ap (λ (y : Name). y.master) name) ∙ ap (λ (y : Who). y.master) who in
          let event : Event = Hold_takes_over a to q tells.0 fact b in
          let after : ℕ → ℕ = put (w.ended to) a.who.master (max (w.ended to a.who.master) b.turn) in
          let out : KeepsNode σ.targets g.epoch g.sent (g.start to) w.base w.since to (record (slice w to) { ended = after }) (record was.node { ended = with_ended was.node.ended h }) = record {
            cluster = keeps.node.cluster;
            index = keeps.node.index;
            epoch = keeps.node.epoch;
            transno = keeps.node.transno;
            clock = keeps.node.clock;
            mark = keeps.node.mark;
            seats = keeps.node.seats;
            objects = keeps.node.objects;
            log = keeps.node.log;
            waiting = keeps.node.waiting;
            writers = keeps.node.writers;
            holder = keeps.node.holder;
            genuine = keeps.node.genuine;
            wide = length-set was.node.ended h.master (max (get_or was.node.ended h.master 0) h.attempt) ∙ keeps.node.wide;
            ended = λ n l. subst (λ (y : ℕ × ℕ). get_or (set was.node.ended y.0 (max (get_or was.node.ended y.0 0) y.1)) n 0 ≡ after n) (λ j. (sym h_master j, ap (λ (y : Name). y.attempt) name j))
                (ended_put was.node.ended (w.ended to) a.who.master b.turn n keeps.node.wide keeps.node.ended l);
          } in
          record {
            events = event ∷ [];
            world = happens w event;
            run = ((came, g.ups to inside ∙ up, e, who, turn, not_past past, tells.3, refl, subst (λ n. to < n) g.few inside), refl);
            lines = refl;
            agrees = settles σ.targets c w (happens w event) g g.sent g.unique g.asked to inside (held_as k was m (hold.Held (facts was.node load q))) refl g.items (g.ups to inside) (λ j ne. refl)
                (λ j ne u. subst (λ s. Keeps σ.targets g.epoch g.sent (g.start j) w.base w.since j s (target_at c.targets j)) (sym (others_over w a to q tells.0 fact b j ne)) (g.keeps j u))
                (λ u. subst (λ s. Keeps σ.targets g.epoch g.sent (g.start to) w.base w.since to s (record was { node = after_hold was.node by })) (sym (here_over w a to q tells.0 fact b)) (record {
                  cluster = keeps.cluster;
                  index = keeps.index;
                  node = subst (λ n. KeepsNode σ.targets g.epoch g.sent (g.start to) w.base w.since to (record (slice w to) { holder = Some a; ended = after }) n) (sym is) (held_node (record was.node { ended = with_ended was.node.ended h }) (record (slice w to) { ended = after }) out);
                  home = home_moves σ.targets g.epoch g.sent w.since to (slice w to) was.home (w.done to) (w.disk to) (w.gone to) (Some a) after (w.clock to) keeps.home;
                }))
                (carried_grows σ.targets w.since w.since w.pool (told ∷ w.pool) goes g.epoch g.sent g.asked)
                (λ x h epoch. answers x h);
          }

  -- nothing changes
  stays : (h : HoldAnswer) → (held_as k was m h).target ≡ record was { node = after_hold was.node by } → after_hold was.node by ≡ was.node → loud (held_as k was m h).lines ≡ [] → ((x : Mail) → IsIn x (held_as k was m h).sent → Carried σ.targets g.epoch g.sent g.asked w.since w.pool x) → Result h
  stays h shape same quiet news = record {
    events = [];
    world = w;
    run = refl;
    lines = quiet;
    agrees = settles σ.targets c w w g g.sent g.unique g.asked to inside (held_as k was m h) refl g.items (g.ups to inside ∙ sym (ap serves was_so)) (λ j ne. refl) (λ j ne u. g.keeps j u)
        (λ u. subst (λ x. Keeps σ.targets g.epoch g.sent (g.start to) w.base w.since to (slice w to) x) (sym was_so) keeps) (λ x h. h) (λ x h epoch. news x h);
  }
    where
      was_so : (held_as k was m h).target ≡ was
      was_so = shape ∙ ap (λ n. record was { node = n }) same

  busy : (n : ℕ) → after_hold was.node by ≡ was.node → Result (hold.Busy n)
  busy n same = stays (hold.Busy n) refl same refl (λ x h. ⊎_elim (λ (e : x ≡ busy_message was.node.epoch was.index m n). subst (λ (x : Mail). Carried σ.targets g.epoch g.sent g.asked w.since w.pool x) (sym e) (content.Nothing, refl, tt)) (λ (h : ⊥). absurd h) h)

  past : after_hold was.node by ≡ was.node → Result hold.Ended
  past same = stays hold.Ended refl same refl (λ x h. absurd h)

  epoch_is : (by.epoch == was.node.epoch) ≡ true
  epoch_is = ap (λ x. by.epoch == x) epoch_same ∙ eqb_self m.epoch

  taken_so : (o : Option Name) → was.node.holder ≡ o → taken was.node by ≡ taken_at o was.node.ended by
  taken_so o e = ap (λ b. if b then taken_at was.node.holder was.node.ended by else Ended) epoch_is ∙ ap (λ o. taken_at o was.node.ended by) e

  -- what is answered, and what the node becomes, by how it is taken
  by_taking : (t : Taking) → taken was.node by ≡ t → Result (answer_as was.node load q t) → Result (answer_as was.node load q (taken was.node by))
  by_taking t e r = subst (λ t. Result (answer_as was.node load q t)) (sym e) r

  became : (t : Taking) → taken was.node by ≡ t → after_hold was.node by ≡ rules.held_as was.node by t
  became t e = ap (rules.held_as was.node by) e

  abbrev Done : Type 0
  Done = Result (answer_as was.node load q (taken was.node by))

  by_held : (h : Name) → was.node.holder ≡ Some h → (same gone way : Bool) → same_attempt h by ≡ same → is_past was.node.ended by ≡ gone → gives_way h by ≡ way
      → taken was.node by ≡ (if same then Stays else (if gone then Ended else (if way then TakesOver h else Busy h.number))) → Done
  by_held h e true gone way s p y t = by_taking Stays t (comes (became Stays t ∙ (λ j. record was.node { holder = (e ∙ ap (λ (y : Name). Some y) (same_is h by s)) j }))
      (inl (holder_tells σ.targets g.sent g.unique g.epoch (w.holder to) a keeps.node.genuine tied.2 (sym keeps.node.holder ∙ e ∙ ap (λ (y : Name). Some y) (same_is h by s ∙ tied.1)))))
  by_held h e false true way s p y t = by_taking Ended t (past (became Ended t))
  by_held h e false false true s p y t = by_taking (TakesOver h) t (takes h e p y (became (TakesOver h) t))
  by_held h e false false false s p y t = by_taking (Busy h.number) t (busy h.number (became (Busy h.number) t))

  by_past : was.node.holder ≡ None → (b : Bool) → is_past was.node.ended by ≡ b → taken was.node by ≡ (if b then Ended else Comes) → Done
  by_past e true p t = by_taking Ended t (past (became Ended t))
  by_past e false p t = by_taking Comes t (comes (became Comes t) (inr (free_is g.epoch (w.holder to) (sym keeps.node.holder ∙ e), not_past p)))

  by_holder : (o : Option Name) → was.node.holder ≡ o → Done
  by_holder None e = by_past e (is_past was.node.ended by) refl (taken_so None e)
  by_holder (Some h) e = by_held h e (same_attempt h by) (is_past was.node.ended by) (gives_way h by) refl refl refl (taken_so (Some h) e)

  pub holds : IsRun σ.targets w (on_hold k was m q).lines (after_turn c to (on_hold k was m q))
  holds = by_holder was.node.holder refl
