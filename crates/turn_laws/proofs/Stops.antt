-- A target stops, by itself or inside a commit.
use Rattle.std.proofs.Common.{◌≡◌, ◌≢◌, ◌<◌, inl, inr, length, ℕ, true, false, true≢false, List, [], ◌∷◌, refl, sym, ap, ◌∙◌, subst, if◌then◌else◌}
use Rattle.std.proofs.lemmas.Bool.Decides.{eqb_tells}
use Rattle.update_record.specs.declared.message.Message.{Message as Mail}
use Rattle.scenario_text.specs.declared.line.Line.TheVariants as lines
use Rattle.target_turns.specs.Target.{Turned, serves}
use Rattle.update_protocol.specs.Events.{Stop, Tear, happens}
use Rattle.update_protocol.specs.Lists.{IsIn}
use Rattle.update_protocol.specs.World.{World}
use Rattle.turn_laws.specs.Values.{Cluster, after_turn, slice, target_at}
use Rattle.turn_laws.specs.Agrees.{Agrees, Keeps}
use Rattle.turn_laws.specs.Runs.{IsRun, loud}
use Rattle.turn_laws.proofs.Points.{eqb_self, settles}

others_stop : (w : World) (t s : ℕ) → s ≢ t → slice (happens w (Stop t)) s ≡ slice w s
others_stop w t s ne = elim (eqb_tells s t) [
  | inl q ↦ absurd (ne q.1)
  | inr q ↦ ap (λ b. record (slice w s) { done = if b then w.disk t else w.done s; gone = if b then w.kept_gone t else w.gone s; mark = if b then w.kept_mark t else w.mark s }) q.0
]

up_stop : (w : World) (t s : ℕ) → s ≢ t → (happens w (Stop t)).up s ≡ w.up s
up_stop w t s ne = elim (eqb_tells s t) [
  | inl q ↦ absurd (ne q.1)
  | inr q ↦ ap (λ b. if b then false else w.up s) q.0
]

module _ (targets : ℕ) (c : Cluster) (w : World) (g : Agrees targets c w) (to : ℕ) (inside : to < length c.targets) (u : Turned)
    (down : serves u.target ≡ false) (says : loud u.lines ≡ lines.Down to ∷ []) (silent : u.sent ≡ []) where
  no_mail : (x : Mail) → IsIn x u.sent → ⊥
  no_mail x h = subst (λ (ms : List Mail). IsIn x ms) silent h

  pub stops_so : IsRun targets w u.lines (after_turn c to u)
  stops_so = record {
    events = Stop to ∷ [];
    world = happens w (Stop to);
    run = (tt, refl);
    lines = says;
    agrees = settles targets c w (happens w (Stop to)) g g.sent g.unique g.asked to inside u refl g.items (ap (λ b. if b then false else w.up to) (eqb_self to) ∙ sym down) (up_stop w to)
        (λ j ne h. subst (λ s. Keeps targets g.epoch g.sent (g.start j) w.base w.since j s (target_at c.targets j)) (sym (others_stop w to j ne)) (g.keeps j h))
        (λ h. absurd (true≢false (sym h ∙ down)))
        (λ x h. h)
        (λ x h epoch. absurd (no_mail x h));
  }

  pub tears_so : w.up to ≡ true → IsRun targets w u.lines (after_turn c to u)
  tears_so up = record {
    events = Tear to ∷ [];
    world = happens w (Tear to);
    run = (up, refl);
    lines = says;
    agrees = settles targets c w (happens w (Tear to)) g g.sent g.unique g.asked to inside u refl g.items (ap (λ b. if b then false else w.up to) (eqb_self to) ∙ sym down) (up_stop w to)
        (λ j ne h. subst (λ s. Keeps targets g.epoch g.sent (g.start j) w.base w.since j s (target_at c.targets j)) (sym (others_stop w to j ne)) (g.keeps j h))
        (λ h. absurd (true≢false (sym h ∙ down)))
        (λ x h. h)
        (λ x h epoch. absurd (no_mail x h));
  }
