-- An attempt ends without a record.
use Rattle.std.proofs.Common.{◌≡◌, ◌≢◌, ◌<◌, ◌==◌, ◌⊎◌, inl, inr, max, length, get_or, set, ℕ, Bool, true, false, if◌then◌else◌, List, [], ◌∷◌, map, Option, Some, None, refl, sym, ap, ◌∙◌, subst, arith}
use Rattle.std.proofs.lemmas.Bool.Decides.{eqb_tells}
use Rattle.std.proofs.lemmas.List.{length-set}
use Rattle.fid_space.specs.Targets.{is_member}
use Rattle.tree_model.specs.declared.op.Request.{Request}
use Rattle.update_record.specs.declared.message.Attempt.{Attempt as Name}
use Rattle.update_record.specs.declared.message.Message.{Message as Mail}
use Rattle.scenario_text.specs.declared.line.Line.{Line}
use Rattle.cluster_mail.specs.Asking.{release_message}
use Rattle.cluster_mail.specs.declared.content.Content.TheVariants as content
use Rattle.target_state.specs.Rules.{is_held_by, is_past, let_go, with_ended}
use Rattle.update_coordinator.specs.Rules.{all_targets}
use Rattle.update_coordinator.specs.declared.words.Flight.{Flight}
use Rattle.update_coordinator.specs.declared.words.Going.{Going}
use Rattle.target_turns.specs.Target.{Target, Turned, serves}
use Rattle.target_turns.specs.Home.{ends_with, own_attempt, release_to, releases}
use Rattle.update_protocol.specs.Events.{Give_up, MaySend, happens}
use Rattle.update_protocol.specs.Lists.{IsIn, put}
use Rattle.update_protocol.specs.World.{Attempt, Message, Release, Sync, Synced, World}
use Rattle.update_protocol.proofs.Invariant.{Current, Invariant}
use Rattle.update_protocol.proofs.Setting.{Setting}
use Rattle.turn_laws.specs.Values.{Cluster, after_turn, name_of, named, slice, target_at}
use Rattle.turn_laws.specs.Agrees.{Agrees, Carried, IsGoing, Keeps, KeepsHome, KeepsNode}
use Rattle.turn_laws.specs.Attempting as attempting
use Rattle.turn_laws.specs.Runs.{IsRun, is_loud}
use Rattle.turn_laws.proofs.Points.{eqb_self, same_self, settles}
use Rattle.turn_laws.proofs.Commits.{in_flat}
use Rattle.turn_laws.proofs.Executes.{ended_put, none_some}
use Rattle.turn_laws.proofs.Growing.{Goes, carried_grows}
use Rattle.turn_laws.proofs.Sends.{all_sends, in_pushed, more_pushed, pushed, run_sends, said_sends, sends}

others_give : (w : World) (m : ℕ) (a : Attempt) (s : ℕ) → s ≢ m → slice (happens w (Give_up m a)) s ≡ slice w s
others_give w m a s ne = elim (eqb_tells s m) [
  | inl q ↦ absurd (ne q.1)
  | inr q ↦ ap (λ b. record (slice w s) { trying = if b then None else w.trying s; holder = if b then None else w.holder s; ended = if b then put (w.ended m) m (max (w.ended m m) a.turn) else w.ended s }) q.0
]

here_give : (w : World) (m : ℕ) (a : Attempt) → slice (happens w (Give_up m a)) m ≡ record (slice w m) { trying = None; holder = None; ended = put (w.ended m) m (max (w.ended m m) a.turn) }
here_give w m a = ap (λ b. record (slice w m) { trying = if b then None else w.trying m; holder = if b then None else w.holder m; ended = if b then put (w.ended m) m (max (w.ended m m) a.turn) else w.ended m }) (eqb_self m)

releases_are : (by : Name) (on : ℕ) (x : Mail) → IsIn x (releases by on) → (s : ℕ) × IsIn s all_targets × (x ≡ release_message by s)
unfolding releases
releases_are by on x h = let r = in_flat (release_to by on) all_targets x h in (r.0, r.1, by_test r.0 (is_member on r.0) r.2)
  where
    by_test : (s : ℕ) (b : Bool) → IsIn x (if b then release_message by s ∷ [] else []) → x ≡ release_message by s
    by_test s true (inl q) = q
    by_test s true (inr z) = absurd z
    by_test s false z = absurd z

module _ (σ : Setting) (c : Cluster) (w : World) (i : Invariant σ.targets w) (g : Agrees σ.targets c w) (to : ℕ) (inside : to < length c.targets) (up : serves (target_at c.targets to) ≡ true)
    (going : Going) (current : (target_at c.targets to).home.current ≡ Some going)
    (synced : (a : Attempt) → w.trying to ≡ Some a → (t k : ℕ) → IsIn (Sync a t k) w.pool → (w.up t ≡ false) ⊎ IsIn (Synced a t) w.pool)
    (flights : List Flight) (released : ℕ) (line : Line) (quiet_line : is_loud line ≡ false) where
  abbrev was : Target
  was = target_at c.targets to

  keeps : Keeps σ.targets g.epoch g.sent (g.start to) w.base w.since to (slice w to) was
  keeps = g.keeps to up

  goes_on : IsGoing σ.targets g.epoch g.sent (w.trying to) going
  goes_on = keeps.home.going going current

  abbrev a : Attempt
  a = goes_on.attempt

  fact : Current σ.targets w.base w.since w.up w.holder w.turns to a
  fact = i.holding.current to a goes_on.current

  -- the target that its coordinator has left
  abbrev left : Target
  left = attempting.let_go was flights released

  abbrev by : Name
  by = own_attempt left going.course.request.number

  abbrev turn : Turned
  turn = ends_with by left line

  named_so : by ≡ name_of g.epoch a
  named_so = λ j. record { epoch = keeps.node.epoch j; master = (keeps.index ∙ sym fact.is_home) j; attempt = (keeps.home.attempts ∙ sym fact.last_turn) j; number = ap (λ (q : Request). q.number) goes_on.request j }

  holder_is : was.node.holder ≡ Some by
  holder_is = keeps.node.holder ∙ ap (named g.epoch) fact.holds ∙ ap (λ (y : Name). Some y) (sym named_so)

  node_is : turn.target.node ≡ let_go was.node by
  node_is = ap (λ b. if b then (if is_held_by was.node.holder by then let_go was.node by else (if is_past was.node.ended by then was.node else record was.node { ended = with_ended was.node.ended by })) else was.node) (eqb_self was.node.epoch)
      ∙ ap (λ b. if b then let_go was.node by else (if is_past was.node.ended by then was.node else record was.node { ended = with_ended was.node.ended by })) (ap (λ o. is_held_by o by) holder_is ∙ same_self by)

  abbrev next : World
  next = happens w (Give_up to a)

  abbrev all_releases : List ℕ → List Message
  all_releases ts = map (λ s. Release a s) ts

  abbrev ps : List Message
  ps = all_releases all_targets

  in_releases : (ts : List ℕ) (s : ℕ) → IsIn s ts → IsIn (Release a s) (all_releases ts)
  in_releases [] s h = absurd h
  in_releases (t ∷ ts) s (inl e) = inl (ap (λ s. Release a s) e)
  in_releases (t ∷ ts) s (inr h) = inr (in_releases ts s h)

  of_releases : (ts : List ℕ) (p : Message) → IsIn p (all_releases ts) → (s : ℕ) × (p ≡ Release a s)
  of_releases [] p h = absurd h
  of_releases (t ∷ ts) p (inl e) = (t, e)
  of_releases (t ∷ ts) p (inr h) = of_releases ts p h

  may_release : (s : ℕ) → MaySend σ.targets next (Release a s)
  may_release s = (
    (let l = fact.last_turn in let h = ap w.turns fact.is_home in omega (arith, l, h)),
    (λ e. none_some a (sym (ap (λ b. if b then None else w.trying a.who.master) (ap (λ m. m == to) fact.is_home ∙ eqb_self to)) ∙ e)),
    (λ n l e. absurd (fact.not_yet n l (ap (λ (y : Attempt). y.who) e))),
  )

  may : (p : Message) → IsIn p ps → MaySend σ.targets next p
  may p h = let r = of_releases all_targets p h in subst (MaySend σ.targets next) (sym r.1) (may_release r.0)

  goes : Goes w.since w.since w.pool (pushed ps w.pool)
  goes = record { grows = λ n l. (l, refl); more = λ p h. more_pushed ps w.pool p h }

  news : (x : Mail) → IsIn x turn.sent → Carried σ.targets g.epoch g.sent g.asked w.since (pushed ps w.pool) x
  news x h = let r = releases_are by released x h in
      subst (λ (x : Mail). Carried σ.targets g.epoch g.sent g.asked w.since (pushed ps w.pool) x) (sym r.2) (content.Nothing, refl, (a, named_so, goes_on.genuine, in_pushed ps w.pool _ (in_releases all_targets r.0 r.1)))

  abbrev after : ℕ → ℕ
  after = put (w.ended to) to (max (w.ended to to) a.turn)

  node_ends : KeepsNode σ.targets g.epoch g.sent (g.start to) w.base w.since to (record (slice w to) { trying = None; holder = None; ended = after }) (let_go was.node by)
  node_ends = let k = keeps.node in record {
    cluster = k.cluster;
    index = k.index;
    epoch = k.epoch;
    transno = k.transno;
    clock = k.clock;
    mark = k.mark;
    seats = k.seats;
    objects = k.objects;
    log = k.log;
    waiting = k.waiting;
    writers = k.writers;
    holder = refl;
    genuine = λ b e. absurd (none_some b e);
    wide = length-set was.node.ended by.master (max (get_or was.node.ended by.master 0) by.attempt) ∙ k.wide;
    ended = λ n l. subst (λ (y : ℕ × ℕ). get_or (set was.node.ended y.0 (max (get_or was.node.ended y.0 0) y.1)) n 0 ≡ after n) (λ j. (sym keeps.index j, ap (λ (y : Name). y.attempt) (sym named_so) j))
        (ended_put was.node.ended (w.ended to) to a.turn n k.wide k.ended l);
  }

  none_going : (h : Going) → ◌≡◌ {A = Option Going} None (Some h) → ⊥
  none_going h e = cc

  home_ends : KeepsHome σ.targets g.epoch g.sent w.since to (record (slice w to) { trying = None; holder = None; ended = after }) left.home
  home_ends = let k = keeps.home in record { cluster = k.cluster; at_home = k.at_home; epoch = k.epoch; attempts = k.attempts; batches = k.batches; sets = k.sets; wide = k.wide; stable = k.stable; mark = k.mark; under = k.under; idle = λ e. refl; going = λ h e. absurd (none_going h e) }

  pub ends_so : IsRun σ.targets w turn.lines (after_turn c to turn)
  ends_so = record {
    events = Give_up to a ∷ all_sends ps;
    world = sends next ps;
    run = ((goes_on.current, synced a goes_on.current), run_sends σ.targets ps next may);
    lines = ap (λ b. if b then line ∷ [] else []) quiet_line ∙ sym (said_sends ps next);
    agrees = settles σ.targets c w (sends next ps) g g.sent g.unique g.asked to inside turn refl g.items (g.ups to inside) (λ j ne. refl)
        (λ j ne u. subst (λ s. Keeps σ.targets g.epoch g.sent (g.start j) w.base w.since j s (target_at c.targets j)) (sym (others_give w to a j ne)) (g.keeps j u))
        (λ u. subst (λ s. Keeps σ.targets g.epoch g.sent (g.start to) w.base w.since to s turn.target) (sym (here_give w to a)) (record {
          cluster = keeps.cluster;
          index = keeps.index;
          node = subst (λ n. KeepsNode σ.targets g.epoch g.sent (g.start to) w.base w.since to (record (slice w to) { trying = None; holder = None; ended = after }) n) (sym node_is) node_ends;
          home = home_ends;
        }))
        (carried_grows σ.targets w.since w.since w.pool (pushed ps w.pool) goes g.epoch g.sent g.asked)
        (λ x h epoch. news x h);
  }
