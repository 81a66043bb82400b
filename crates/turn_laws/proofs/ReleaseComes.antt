-- A Release comes.
use Rattle.std.proofs.Common.{◌≡◌, ◌≢◌, ◌<◌, ◌==◌, inl, inr, max, length, get_or, ℕ, Bool, true, false, [], ◌∷◌, Some, None, refl, sym, ap, ◌∙◌, subst, if◌then◌else◌}
use Rattle.std.proofs.lemmas.Bool.Decides.{eqb_tells}
use Rattle.std.proofs.lemmas.List.{length-set}
use Rattle.update_record.specs.declared.message.Attempt.{Attempt as Name}
use Rattle.update_record.specs.declared.message.Message.{Message as Mail}
use Rattle.cluster_mail.specs.Answering.{attempt_of, released_message}
use Rattle.cluster_mail.specs.declared.content.Content.TheVariants as content
use Rattle.target_state.specs.Rules.{is_held_by, is_past, let_go, with_ended}
use Rattle.target_state.specs.declared.answers.ReleaseAnswer.TheVariants as release
use Rattle.target_turns.specs.Target.{Target, Turned, serves}
use Rattle.target_turns.specs.Helping.{on_release, released_lines}
use Rattle.update_protocol.specs.Events.{Release_comes, Release_noted, happens}
use Rattle.update_protocol.specs.Lists.{IsIn, put}
use Rattle.update_protocol.specs.World.{Attempt, Release, World}
use Rattle.update_protocol.proofs.Invariant.{Invariant}
use Rattle.update_protocol.proofs.Setting.{Setting}
use Rattle.turn_laws.specs.Values.{Cluster, after_turn, slice, target_at}
use Rattle.turn_laws.specs.Agrees.{Agrees, Carried, Keeps, TiedRelease}
use Rattle.turn_laws.specs.Runs.{IsRun}
use Rattle.turn_laws.proofs.Points.{eqb_self, held_is, holder_tells, home_moves, settles}
use Rattle.turn_laws.proofs.Executes.{ended_put, none_some}

others_release : (w : World) (a : Attempt) (t s : ℕ) → s ≢ t → slice (happens w (Release_comes a t)) s ≡ slice w s
others_release w a t s ne = elim (eqb_tells s t) [
  | inl q ↦ absurd (ne q.1)
  | inr q ↦ ap (λ b. record (slice w s) { holder = if b then None else w.holder s; ended = if b then put (w.ended t) a.who.master (max (w.ended t a.who.master) a.turn) else w.ended s }) q.0
]

here_release : (w : World) (a : Attempt) (t : ℕ) → slice (happens w (Release_comes a t)) t ≡ record (slice w t) { holder = None; ended = put (w.ended t) a.who.master (max (w.ended t a.who.master) a.turn) }
here_release w a t = ap (λ b. record (slice w t) { holder = if b then None else w.holder t; ended = if b then put (w.ended t) a.who.master (max (w.ended t a.who.master) a.turn) else w.ended t }) (eqb_self t)

others_noted : (w : World) (a : Attempt) (t s : ℕ) → s ≢ t → slice (happens w (Release_noted a t)) s ≡ slice w s
others_noted w a t s ne = elim (eqb_tells s t) [
  | inl q ↦ absurd (ne q.1)
  | inr q ↦ ap (λ b. record (slice w s) { ended = if b then put (w.ended t) a.who.master (max (w.ended t a.who.master) a.turn) else w.ended s }) q.0
]

here_noted : (w : World) (a : Attempt) (t : ℕ) → slice (happens w (Release_noted a t)) t ≡ record (slice w t) { ended = put (w.ended t) a.who.master (max (w.ended t a.who.master) a.turn) }
here_noted w a t = ap (λ b. record (slice w t) { ended = if b then put (w.ended t) a.who.master (max (w.ended t a.who.master) a.turn) else w.ended t }) (eqb_self t)

module _ (σ : Setting) (c : Cluster) (w : World) (i : Invariant σ.targets w) (g : Agrees σ.targets c w) (k : ℕ)
    (to : ℕ) (inside : to < length c.targets) (up : serves (target_at c.targets to) ≡ true) (m : Mail) (is_to : m.to ≡ to)
    (tied : TiedRelease σ.targets g.epoch g.sent g.asked w.since w.pool m) where
  abbrev was : Target
  was = target_at c.targets to

  abbrev by : Name
  by = attempt_of m

  abbrev a : Attempt
  a = tied.0

  keeps : Keeps σ.targets g.epoch g.sent (g.start to) w.base w.since to (slice w to) was
  keeps = g.keeps to up

  came : IsIn (Release a to) w.pool
  came = subst (λ t. IsIn (Release a t) w.pool) is_to tied.3

  -- by whether the message is of its epoch, whether its attempt holds the target, and whether it has ended there
  abbrev turn : Bool → Bool → Bool → Turned
  turn now held past = record {
    target = record was { node = if now then (if held then let_go was.node by else (if past then was.node else record was.node { ended = with_ended was.node.ended by })) else was.node };
    lines = released_lines k (if now then (if held then release.LetGo else (if past then release.Ended else release.Noted)) else release.Ended);
    sent = released_message was.node.epoch was.index m ∷ [];
  }

  released : (x : Mail) → IsIn x (released_message was.node.epoch was.index m ∷ []) → Carried σ.targets g.epoch g.sent g.asked w.since w.pool x
  released x (inl e) = subst (λ (x : Mail). Carried σ.targets g.epoch g.sent g.asked w.since w.pool x) (sym e) (content.Nothing, refl, tt)
  released x (inr h) = absurd h

  abbrev after : ℕ → ℕ
  after = put (w.ended to) a.who.master (max (w.ended to a.who.master) a.turn)

  wide : length (with_ended was.node.ended by) ≡ 16
  wide = length-set was.node.ended by.master (max (get_or was.node.ended by.master 0) by.attempt) ∙ keeps.node.wide

  ended : (n : ℕ) → n < 16 → get_or (with_ended was.node.ended by) n 0 ≡ after n
  ended n l = subst (λ (y : Name). get_or (with_ended was.node.ended y) n 0 ≡ after n) (sym tied.1) (ended_put was.node.ended (w.ended to) a.who.master a.turn n keeps.node.wide keeps.node.ended l)

  abbrev Result : Turned → Type 0
  Result u = IsRun σ.targets w u.lines (after_turn c to u)

  by_cases : (held : Bool) → is_held_by was.node.holder by ≡ held → (past : Bool) → Result (turn true held past)
  by_cases true h past = record {
    events = Release_comes a to ∷ [];
    world = happens w (Release_comes a to);
    run = ((came, g.ups to inside ∙ up, holder_tells σ.targets g.sent g.unique g.epoch (w.holder to) a keeps.node.genuine tied.2 (sym keeps.node.holder ∙ held_is was.node.holder by h ∙ ap (λ (y : Name). Some y) tied.1)), refl);
    lines = refl;
    agrees = settles σ.targets c w (happens w (Release_comes a to)) g g.sent g.unique g.asked to inside (turn true true past) refl g.items (g.ups to inside) (λ j ne. refl)
        (λ j ne u. subst (λ s. Keeps σ.targets g.epoch g.sent (g.start j) w.base w.since j s (target_at c.targets j)) (sym (others_release w a to j ne)) (g.keeps j u))
        (λ u. subst (λ s. Keeps σ.targets g.epoch g.sent (g.start to) w.base w.since to s (turn true true past).target) (sym (here_release w a to)) (record {
          cluster = keeps.cluster;
          index = keeps.index;
          node = (let k = keeps.node in record { cluster = k.cluster; index = k.index; epoch = k.epoch; transno = k.transno; clock = k.clock; mark = k.mark; seats = k.seats; objects = k.objects; log = k.log; waiting = k.waiting; writers = k.writers; holder = refl; genuine = λ b e. absurd (none_some b e); wide = wide; ended = ended });
          home = home_moves σ.targets g.epoch g.sent w.since to (slice w to) was.home (w.done to) (w.disk to) (w.gone to) None after (w.clock to) keeps.home;
        }))
        (λ x h. h)
        (λ x h epoch. released x h);
  }
  by_cases false h true = record {
    events = [];
    world = w;
    run = refl;
    lines = refl;
    agrees = settles σ.targets c w w g g.sent g.unique g.asked to inside (turn true false true) refl g.items (g.ups to inside) (λ j ne. refl) (λ j ne u. g.keeps j u) (λ u. keeps) (λ x h. h) (λ x h epoch. released x h);
  }
  by_cases false h false = record {
    events = Release_noted a to ∷ [];
    world = happens w (Release_noted a to);
    run = (tt, refl);
    lines = refl;
    agrees = settles σ.targets c w (happens w (Release_noted a to)) g g.sent g.unique g.asked to inside (turn true false false) refl g.items (g.ups to inside) (λ j ne. refl)
        (λ j ne u. subst (λ s. Keeps σ.targets g.epoch g.sent (g.start j) w.base w.since j s (target_at c.targets j)) (sym (others_noted w a to j ne)) (g.keeps j u))
        (λ u. subst (λ s. Keeps σ.targets g.epoch g.sent (g.start to) w.base w.since to s (turn true false false).target) (sym (here_noted w a to)) (record {
          cluster = keeps.cluster;
          index = keeps.index;
          node = (let k = keeps.node in record { cluster = k.cluster; index = k.index; epoch = k.epoch; transno = k.transno; clock = k.clock; mark = k.mark; seats = k.seats; objects = k.objects; log = k.log; waiting = k.waiting; writers = k.writers; holder = k.holder; genuine = k.genuine; wide = wide; ended = ended });
          home = home_moves σ.targets g.epoch g.sent w.since to (slice w to) was.home (w.done to) (w.disk to) (w.gone to) (w.holder to) after (w.clock to) keeps.home;
        }))
        (λ x h. h)
        (λ x h epoch. released x h);
  }

  epoch_is : (by.epoch == was.node.epoch) ≡ true
  epoch_is = ap (λ x. by.epoch == x) (keeps.node.epoch ∙ sym (ap (λ (y : Name). y.epoch) tied.1)) ∙ eqb_self m.epoch

  pub releases : Result (on_release k was m)
  releases = subst (λ b. Result (turn b (is_held_by was.node.holder by) (is_past was.node.ended by))) (sym epoch_is) (by_cases (is_held_by was.node.holder by) refl (is_past was.node.ended by))
