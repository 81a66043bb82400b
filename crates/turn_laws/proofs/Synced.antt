-- A target that an attempt holds has committed everything, and answers that.
use Rattle.std.proofs.Common.{◌≡◌, ◌<◌, inl, inr, length, ℕ, true, [], ◌∷◌, Some, refl, sym, ap, ◌∙◌, subst}
use Rattle.update_record.specs.declared.message.Attempt.{Attempt as Name}
use Rattle.update_record.specs.declared.message.Message.{Message as Mail}
use Rattle.cluster_mail.specs.Answering.{attempt_of, synced_message}
use Rattle.cluster_mail.specs.declared.content.Content.TheVariants as content
use Rattle.target_turns.specs.Target.{Target, sends, serves}
use Rattle.update_protocol.specs.Events.{Sync_comes, happens}
use Rattle.update_protocol.specs.Lists.{IsIn}
use Rattle.update_protocol.specs.World.{Attempt, Message, Sync, Synced, World}
use Rattle.turn_laws.specs.Values.{Cluster, after_turn, name_of, slice, target_at}
use Rattle.turn_laws.specs.Agrees.{Agrees, Carried, Keeps, answered_of}
use Rattle.turn_laws.specs.Runs.{IsRun}
use Rattle.turn_laws.proofs.Points.{settles}
use Rattle.turn_laws.proofs.Growing.{Goes, carried_grows}

module _ (targets : ℕ) (c : Cluster) (w : World) (g : Agrees targets c w) (to : ℕ) (inside : to < length c.targets) (up : serves (target_at c.targets to) ≡ true)
    (a : Attempt) (holds : w.holder to ≡ Some a) (k : ℕ) (came : IsIn (Sync a to k) w.pool) (all : (n : ℕ) → IsIn n (w.done to) → IsIn n (w.disk to))
    (m : Mail) (e : ℕ) (name : attempt_of m ≡ name_of e a) where
  abbrev was : Target
  was = target_at c.targets to

  keeps : Keeps targets g.epoch g.sent (g.start to) w.base w.since to (slice w to) was
  keeps = g.keeps to up

  abbrev here : Mail
  here = synced_message was.node.epoch was.index m

  abbrev told : Message
  told = Synced a to

  goes : Goes w.since w.since w.pool (told ∷ w.pool)
  goes = record { grows = λ n l. (l, refl); more = λ p h. inr h }

  named_so : answered_of here ≡ name_of g.epoch a
  named_so = λ j. record { epoch = keeps.node.epoch j; master = ap (λ (y : Name). y.master) name j; attempt = ap (λ (y : Name). y.attempt) name j; number = ap (λ (y : Name). y.number) name j }

  answer : (x : Mail) → IsIn x (here ∷ []) → Carried targets g.epoch g.sent g.asked w.since (told ∷ w.pool) x
  answer x (inr h) = absurd h
  answer x (inl q) = subst (λ (x : Mail). Carried targets g.epoch g.sent g.asked w.since (told ∷ w.pool) x) (sym q) (content.Nothing, refl, (a, named_so, keeps.node.genuine a holds, inl (ap (λ t. Synced a t) keeps.index)))

  pub answers_so : IsRun targets w [] (after_turn c to (sends was (here ∷ [])))
  answers_so = record {
    events = Sync_comes a to k ∷ [];
    world = happens w (Sync_comes a to k);
    run = ((came, g.ups to inside ∙ up, holds, all), refl);
    lines = refl;
    agrees = settles targets c w (happens w (Sync_comes a to k)) g g.sent g.unique g.asked to inside (sends was (here ∷ [])) refl g.items (g.ups to inside) (λ j ne. refl) (λ j ne u. g.keeps j u) (λ u. keeps)
        (carried_grows targets w.since w.since w.pool (told ∷ w.pool) goes g.epoch g.sent g.asked)
        (λ x h epoch. answer x h);
  }
