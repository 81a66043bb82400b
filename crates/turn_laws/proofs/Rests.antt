-- A turn that leaves what the machine knows as it is.
use Rattle.std.proofs.Common.{◌≡◌, ◌<◌, length, ℕ, List, [], refl, sym, ap, ◌∙◌, subst}
use Rattle.update_record.specs.declared.message.Message.{Message as Mail}
use Rattle.target_turns.specs.Target.{Target, Turned, quiet, serves}
use Rattle.update_coordinator.specs.declared.words.Flight.{Flight}
use Rattle.update_protocol.specs.Lists.{IsIn}
use Rattle.update_protocol.specs.World.{World}
use Rattle.turn_laws.specs.Values.{Cluster, after_turn, slice, target_at}
use Rattle.turn_laws.specs.Agrees.{Agrees, Keeps, KeepsHome}
use Rattle.turn_laws.specs.Runs.{IsRun, loud}
use Rattle.turn_laws.proofs.Points.{settles}

module _ (targets : ℕ) (c : Cluster) (w : World) (g : Agrees targets c w) (to : ℕ) (inside : to < length c.targets) where
  abbrev was : Target
  was = target_at c.targets to

  -- nothing changes, and nothing is sent
  pub rests_so : (u : Turned) → u.target ≡ was → loud u.lines ≡ [] → u.sent ≡ [] → IsRun targets w u.lines (after_turn c to u)
  rests_so u same quiet silent = record {
    events = [];
    world = w;
    run = refl;
    lines = quiet;
    agrees = settles targets c w w g g.sent g.unique g.asked to inside u refl g.items (g.ups to inside ∙ ap serves (sym same)) (λ j ne. refl) (λ j ne h. g.keeps j h)
        (λ h. subst (λ x. Keeps targets g.epoch g.sent (g.start to) w.base w.since to (slice w to) x) (sym same) (g.keeps to (ap serves (sym same) ∙ h)))
        (λ x h. h)
        (λ x h epoch. absurd (subst (λ (ms : List Mail). IsIn x ms) silent h));
  }

  -- an answer that was owed is noted
  pub notes_done : (fs : List Flight) → IsRun targets w [] (after_turn c to (quiet (record was { home = record was.home { flights = fs; released = 0 } })))
  notes_done fs = record {
    events = [];
    world = w;
    run = refl;
    lines = refl;
    agrees = settles targets c w w g g.sent g.unique g.asked to inside (quiet (record was { home = record was.home { flights = fs; released = 0 } })) refl g.items (g.ups to inside) (λ j ne. refl) (λ j ne h. g.keeps j h)
        (λ h. let k = g.keeps to h in record { cluster = k.cluster; index = k.index; node = k.node; home = home_so k.home })
        (λ x h. h)
        (λ x h epoch. absurd h);
  }
    where
      home_so : KeepsHome targets g.epoch g.sent w.since to (slice w to) was.home → KeepsHome targets g.epoch g.sent w.since to (slice w to) (record was.home { flights = fs; released = 0 })
      home_so h = record { cluster = h.cluster; at_home = h.at_home; epoch = h.epoch; attempts = h.attempts; batches = h.batches; sets = h.sets; wide = h.wide; stable = h.stable; mark = h.mark; under = h.under; idle = h.idle; going = h.going }
