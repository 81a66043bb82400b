-- A Cancel comes.
use Rattle.std.proofs.Common.{◌≡◌, ◌≢◌, ◌≤◌, ◌<◌, inl, inr, length, ℕ, true, List, [], ◌∷◌, refl, sym, ap, subst}
use Rattle.std.proofs.lemmas.Bool.Decides.{eqb_tells}
use Rattle.target_state.specs.Marking.{cancelled}
use Rattle.target_turns.specs.Target.{Target, Turned, quiet, serves}
use Rattle.update_protocol.specs.Events.{Cancel_comes, Event, Run, happens}
use Rattle.update_protocol.specs.Lists.{IsIn}
use Rattle.update_protocol.specs.World.{Cancel, World, at, master}
use Rattle.update_protocol.proofs.Invariant.{Invariant}
use Rattle.update_protocol.proofs.Setting.{Setting}
use Rattle.turn_laws.specs.Values.{Cluster, after_turn, slice, target_at}
use Rattle.turn_laws.specs.Agrees.{Agrees, Keeps}
use Rattle.turn_laws.specs.Runs.{IsRun, said}
use Rattle.turn_laws.proofs.Points.{home_moves, settles}
use Rattle.turn_laws.proofs.Cancelled.{cancels_at, cancels_known, gone_with, gones, gones_here, gones_other, node_cancels}

unfoldable cancels_of : ℕ → ℕ → ℕ → List ℕ → List Event
cancels_of of mark t [] = []
cancels_of of mark t (n ∷ ns) = Cancel_comes of mark t n ∷ cancels_of of mark t ns

run_of : (targets of mark t : ℕ) (ns : List ℕ) (w : World) → IsIn (Cancel of mark) w.pool → ((n : ℕ) → IsIn n ns → (n < length w.since) × (master (at w.since n) ≡ of) × ((at w.since n).batch ≤ mark)) → Run targets w (cancels_of of mark t ns) (record w { gone = gones t ns w.gone })
unfolding cancels_of
run_of targets of mark t [] w came may = refl
run_of targets of mark t (n ∷ ns) w came may = ((let m = may n (inl refl) in (came, m.0, m.1, m.2)), run_of targets of mark t ns (happens w (Cancel_comes of mark t n)) came (λ j h. may j (inr h)))

said_of : (of mark t : ℕ) (ns : List ℕ) (w : World) → said w (cancels_of of mark t ns) ≡ []
unfolding cancels_of
said_of of mark t [] w = refl
said_of of mark t (n ∷ ns) w = said_of of mark t ns (happens w (Cancel_comes of mark t n))

module _ (σ : Setting) (c : Cluster) (w : World) (i : Invariant σ.targets w) (g : Agrees σ.targets c w) (to : ℕ) (inside : to < length c.targets) (up : serves (target_at c.targets to) ≡ true)
    (of mark : ℕ) (came : IsIn (Cancel of mark) w.pool) where
  abbrev was : Target
  was = target_at c.targets to

  keeps : Keeps σ.targets g.epoch g.sent (g.start to) w.base w.since to (slice w to) was
  keeps = g.keeps to up

  abbrev cs : List ℕ
  cs = cancels_at w.since (slice w to) of mark

  abbrev after : World
  after = record w { gone = gones to cs w.gone }

  others_cancel : (s : ℕ) → s ≢ to → slice after s ≡ slice w s
  others_cancel s ne = elim (eqb_tells s to) [
    | inl q ↦ absurd (ne q.1)
    | inr q ↦ ap (λ l. record (slice w s) { gone = l }) (gones_other to cs w.gone s q.0)
  ]

  here_cancel : slice after to ≡ record (slice w to) { gone = gone_with cs (w.gone to) }
  here_cancel = ap (λ l. record (slice w to) { gone = l }) (gones_here to cs w.gone)

  abbrev turn : Turned
  turn = quiet (record was { node = cancelled was.node of mark })

  pub cancels_so : IsRun σ.targets w [] (after_turn c to turn)
  cancels_so = record {
    events = cancels_of of mark to cs;
    world = after;
    run = run_of σ.targets of mark to cs w came (λ n m. let k = cancels_known w.since (slice w to) of mark n m in ((i.executed.known_done to n k.0).0, k.1, k.2));
    lines = sym (said_of of mark to cs w);
    agrees = settles σ.targets c w after g g.sent g.unique g.asked to inside turn refl g.items (g.ups to inside) (λ j ne. refl)
        (λ j ne u. subst (λ s. Keeps σ.targets g.epoch g.sent (g.start j) w.base w.since j s (target_at c.targets j)) (sym (others_cancel j ne)) (g.keeps j u))
        (λ u. subst (λ s. Keeps σ.targets g.epoch g.sent (g.start to) w.base w.since to s turn.target) (sym here_cancel) (record {
          cluster = keeps.cluster;
          index = keeps.index;
          node = node_cancels σ.targets g.epoch g.sent (g.start to) w.base w.since to (slice w to) was.node of mark (λ n m. (g.items n (i.executed.known_done to n m).0).fits) keeps.node;
          home = home_moves σ.targets g.epoch g.sent w.since to (slice w to) was.home (w.done to) (w.disk to) (gone_with cs (w.gone to)) (w.holder to) (w.ended to) (w.clock to) keeps.home;
        }))
        (λ x m. m)
        (λ x m epoch. absurd m);
  }
