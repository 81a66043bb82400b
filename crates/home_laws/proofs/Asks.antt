-- An attempt asks another target to be held.
use Rattle.std.proofs.Common.{◌≡◌, ◌<◌, ◌≤◌, ◌+◌, inl, inr, ⊎_elim, length, ℕ, true, List, [], ◌∷◌, map, Option, Some, None, refl, sym, ap, ◌∙◌, subst, arith}
use Rattle.std.proofs.lemmas.List.{length-set}
use Rattle.out_update.specs.Spelling.{FitsRequest}
use Rattle.out_update.specs.declared.update.Update.{Update}
use Rattle.update_record.specs.Messages.{AsksOne}
use Rattle.update_record.specs.declared.message.Attempt.{Attempt as Name}
use Rattle.update_record.specs.declared.message.Message.{Message as Mail}
use Rattle.update_record.specs.declared.message.MessageKind.{MessageKind}
use Rattle.update_record.specs.declared.message.MessageKind.TheVariants as kind
use Rattle.cluster_mail.specs.Answering.{attempt_of}
use Rattle.cluster_mail.specs.Asking.{hold_message}
use Rattle.cluster_mail.specs.Mail.{Sent, fresh}
use Rattle.cluster_mail.specs.declared.content.Content.{Content}
use Rattle.cluster_mail.specs.declared.content.Content.TheVariants as content
use Rattle.update_coordinator.specs.declared.words.Going.{Going}
use Rattle.target_turns.specs.Home.{own_attempt}
use Rattle.target_turns.specs.Target.{Target, Turned, sends, serves}
use Rattle.update_protocol.specs.Events.{Send, happens}
use Rattle.update_protocol.specs.Lists.{IsIn}
use Rattle.update_protocol.specs.World.{Attempt, Hold, Message, World}
use Rattle.update_protocol.proofs.Invariant.{Current, Invariant}
use Rattle.update_protocol.proofs.Setting.{Setting}
use Rattle.turn_laws.specs.Values.{Cluster, Questions, after_turn, name_of, slice, target_at}
use Rattle.turn_laws.specs.Agrees.{Agrees, Carried, IsGoing, IsQuestion, Keeps, KeepsHome, Tied, TiedHeld, TiedHold, answered_of}
use Rattle.turn_laws.specs.Runs.{IsRun}
use Rattle.turn_laws.proofs.Points.{at_set, mem_append}
use Rattle.turn_laws.proofs.Growing.{Goes, carried_grows}
use Rattle.home_laws.specs.Asking.{AreNumbered, WasGiven, is_ask, is_told}
use Rattle.home_laws.proofs.Numbers.{asking, asks_now, still_asked}

pub in_fresh : (ms : List Mail) (m : Sent) → IsIn m (map fresh ms) → IsIn m.message ms
in_fresh [] m h = absurd h
in_fresh (x ∷ ms) m (inl e) = inl (ap (λ (q : Sent). q.message) e)
in_fresh (x ∷ ms) m (inr h) = inr (in_fresh ms m h)

pub some_going : (g h : Going) → ◌≡◌ {A = Option Going} (Some g) (Some h) → g ≡ h
some_going g h e = cc

some_none : (g : Going) → ◌≡◌ {A = Option Going} (Some g) None → ⊥
some_none g e = cc

module _ (σ : Setting) (c : Cluster) (w : World) (i : Invariant σ.targets w) (g : Agrees σ.targets c w) (numbered : AreNumbered c) (to : ℕ) (inside : to < length c.targets) (up : serves (target_at c.targets to) ≡ true)
    (going : Going) (current : (target_at c.targets to).home.current ≡ Some going) where
  abbrev was : Target
  was = target_at c.targets to

  keeps : Keeps σ.targets g.epoch g.sent (g.start to) w.base w.since to (slice w to) was
  keeps = g.keeps to up

  goes_on : IsGoing σ.targets g.epoch g.sent (w.trying to) going
  goes_on = keeps.home.going going current

  abbrev a : Attempt
  a = goes_on.attempt

  fact : Current σ.targets w.base w.since w.up w.holder w.turns to a
  fact = i.holding.current to a goes_on.current

  abbrev by : Name
  by = own_attempt was going.course.request.number

  named_so : by ≡ name_of g.epoch a
  named_so = λ j. record { epoch = keeps.node.epoch j; master = (keeps.index ∙ sym fact.is_home) j; attempt = (keeps.home.attempts ∙ sym fact.last_turn) j; number = ap (λ q. q.number) goes_on.request j }

  -- the same attempt, with another course
  home_moves : (next : Going) → next.course.request ≡ going.course.request → (asks : ℕ) → KeepsHome σ.targets g.epoch g.sent w.since to (slice w to) (record was.home { asks = asks; released = 0; current = Some next })
  home_moves next same asks = let k = keeps.home in record {
    cluster = k.cluster;
    at_home = k.at_home;
    epoch = k.epoch;
    attempts = k.attempts;
    batches = k.batches;
    sets = k.sets;
    wide = k.wide;
    stable = k.stable;
    mark = k.mark;
    under = k.under;
    idle = λ e. absurd (some_none next e);
    going = λ h e. record { attempt = a; current = goes_on.current; request = ap (λ (y : Going). y.course.request) (sym (some_going next h e)) ∙ same ∙ goes_on.request; genuine = goes_on.genuine };
  }

  module _ (next : Going) (same : next.course.request ≡ going.course.request) where
    abbrev rested : Turned
    rested = sends (record was { home = record was.home { asks = was.home.asks; released = 0; current = Some next } }) []

    -- nobody is asked
    pub rests : IsRun σ.targets w [] (after_turn c to rested)
    rests = record {
      events = [];
      world = w;
      run = refl;
      lines = refl;
      agrees = record {
        epoch = g.epoch;
        sent = g.sent;
        unique = g.unique;
        asked = g.asked;
        start = g.start;
        serving = g.serving;
        items = g.items;
        few = length-set c.targets to rested.target ∙ g.few;
        ups = λ t l. at_set (λ t x. t < length c.targets → w.up t ≡ serves x) c.targets to rested.target inside (λ l. g.ups to inside) (λ j ne l. g.ups j l) t (subst (λ n. t < n) (length-set c.targets to rested.target) l);
        keeps = at_set (λ t x. serves x ≡ true → Keeps σ.targets g.epoch g.sent (g.start t) w.base w.since t (slice w t) x) c.targets to rested.target inside
            (λ u. record { cluster = keeps.cluster; index = keeps.index; node = keeps.node; home = home_moves next same was.home.asks }) (λ j ne u. g.keeps j u);
        carried = λ m h e. ⊎_elim (λ (q : IsIn m c.sent). g.carried m q e) (λ n. absurd n) (mem_append c.sent [] m h);
      };
    }

    module _ (at : ℕ) (q : List Update) (placed : IsQuestion σ.targets at q) (fits : FitsRequest q × AsksOne q) where
      abbrev there : Target
      there = record was { home = record was.home { asks = was.home.asks + 1; released = 0; current = Some next } }

      abbrev order : Mail
      order = hold_message by at (was.home.asks + 1) q

      abbrev turn : Turned
      turn = sends there (order ∷ [])

      abbrev p : Message
      p = Hold a at q

      abbrev later : Questions
      later = asking g.asked by was.home.asks (Some q)

      goes : Goes w.since w.since w.pool (p ∷ w.pool)
      goes = record { grows = λ n l. (l, refl); more = λ p h. inr h }

      -- a number that was given to this attempt is below the new one
      below : (m : Mail) → m.attempt ≡ by.attempt → WasGiven was m → m.ask ≤ was.home.asks
      below m e (inl l) = absurd (omega (arith, l, e))
      below m e (inr h) = h.1

      old_hold : (m : Sent) → IsIn m c.sent → m.message.epoch ≡ g.epoch → m.message.kind ≡ kind.Hold → (x : Content) → TiedHold σ.targets g.epoch g.sent g.asked w.since (p ∷ w.pool) m.message x → TiedHold σ.targets g.epoch g.sent later w.since (p ∷ w.pool) m.message x
      old_hold m h e k (content.Questions u) t = (
        t.0,
        t.1,
        t.2,
        (
          t.3.0,
          still_asked g.asked by was.home.asks (Some q) (attempt_of m.message) m.message.ask (Some u)
              (λ s. below m.message (ap (λ (y : Name). y.attempt) s) (numbered.orders to up m h (e ∙ sym keeps.node.epoch) (ap (λ (y : Name). y.master) s ∙ keeps.index) (ap is_ask k))) t.3.1,
        ),
        t.4,
      )
      old_hold m h e k (content.Asks op) t = absurd t
      old_hold m h e k (content.Tells f) t = absurd t
      old_hold m h e k (content.Carries r) t = absurd t
      old_hold m h e k content.Nothing t = absurd t

      old_held : (m : Sent) → IsIn m c.sent → m.message.epoch ≡ g.epoch → m.message.kind ≡ kind.Held → (x : Content) → TiedHeld σ.targets g.epoch g.sent g.asked w.since (p ∷ w.pool) m.message x → TiedHeld σ.targets g.epoch g.sent later w.since (p ∷ w.pool) m.message x
      old_held m h e k (content.Tells f) t = (
        t.0,
        t.1,
        t.2,
        t.3,
        t.4,
        t.5,
        (
          t.6.0,
          still_asked g.asked by was.home.asks (Some q) (answered_of m.message) m.message.ask (Some t.3)
              (λ s. below m.message (ap (λ (y : Name). y.attempt) s) (numbered.answers to up m h (e ∙ sym keeps.node.epoch) (ap (λ (y : Name). y.master) s ∙ keeps.index) (ap is_told k))) t.6.1,
        ),
        t.7,
      )
      old_held m h e k (content.Asks op) t = absurd t
      old_held m h e k (content.Questions u) t = absurd t
      old_held m h e k (content.Carries r) t = absurd t
      old_held m h e k content.Nothing t = absurd t

      old_tied : (m : Sent) → IsIn m c.sent → m.message.epoch ≡ g.epoch → (k : MessageKind) → m.message.kind ≡ k → (x : Content) → Tied σ.targets g.epoch g.sent g.asked w.since (p ∷ w.pool) k m.message x → Tied σ.targets g.epoch g.sent later w.since (p ∷ w.pool) k m.message x
      old_tied m h e kind.Hold k x t = old_hold m h e k x t
      old_tied m h e kind.Held k x t = old_held m h e k x t
      old_tied m h e kind.Sync k x t = t
      old_tied m h e kind.Synced k x t = t
      old_tied m h e kind.Execute k (content.Carries r) t = t
      old_tied m h e kind.Execute k (content.Asks op) t = absurd t
      old_tied m h e kind.Execute k (content.Questions u) t = absurd t
      old_tied m h e kind.Execute k (content.Tells f) t = absurd t
      old_tied m h e kind.Execute k content.Nothing t = absurd t
      old_tied m h e kind.Release k x t = t
      old_tied m h e kind.Stable k x t = t
      old_tied m h e kind.Cancel k x t = t
      old_tied m h e kind.Request k x t = t
      old_tied m h e kind.HoldBusy k x t = t
      old_tied m h e kind.Executed k x t = t
      old_tied m h e kind.Released k x t = t

      old : (m : Sent) → IsIn m c.sent → m.message.epoch ≡ g.epoch → Carried σ.targets g.epoch g.sent later w.since (p ∷ w.pool) m.message
      old m h e = let t = carried_grows σ.targets w.since w.since w.pool (p ∷ w.pool) goes g.epoch g.sent g.asked m.message (g.carried m h e) in (t.0, t.1, old_tied m h e m.message.kind refl t.0 t.2)

      new : Carried σ.targets g.epoch g.sent later w.since (p ∷ w.pool) order
      new = (content.Questions q, (fits, refl), (a, named_so, goes_on.genuine, (placed, asks_now g.asked by was.home.asks (Some q)), inl refl))

      news : (m : Mail) → IsIn m (order ∷ []) → Carried σ.targets g.epoch g.sent later w.since (p ∷ w.pool) m
      news m (inl e) = subst (λ (m : Mail). Carried σ.targets g.epoch g.sent later w.since (p ∷ w.pool) m) (sym e) new
      news m (inr h) = absurd h

      pub asks : IsRun σ.targets w [] (after_turn c to turn)
      asks = record {
        events = Send p ∷ [];
        world = happens w (Send p);
        run = (subst (λ m. w.trying m ≡ Some a) (sym fact.is_home) goes_on.current, refl);
        lines = refl;
        agrees = record {
          epoch = g.epoch;
          sent = g.sent;
          unique = g.unique;
          asked = later;
          start = g.start;
          serving = g.serving;
          items = g.items;
          few = length-set c.targets to there ∙ g.few;
          ups = λ t l. at_set (λ t x. t < length c.targets → w.up t ≡ serves x) c.targets to there inside (λ l. g.ups to inside) (λ j ne l. g.ups j l) t (subst (λ n. t < n) (length-set c.targets to there) l);
          keeps = at_set (λ t x. serves x ≡ true → Keeps σ.targets g.epoch g.sent (g.start t) w.base w.since t (slice w t) x) c.targets to there inside
              (λ u. record { cluster = keeps.cluster; index = keeps.index; node = keeps.node; home = home_moves next same (was.home.asks + 1) }) (λ j ne u. g.keeps j u);
          carried = λ m h e. ⊎_elim (λ (o : IsIn m c.sent). old m o e) (λ n. news m.message (in_fresh (order ∷ []) m n)) (mem_append c.sent (fresh order ∷ []) m h);
        };
      }
