-- A record that is committed on both of its targets is cancelled.
use Rattle.std.proofs.Common.{◌≡◌, ◌≤◌, ⊎_elim, ℕ, zero, suc, true, List, [], ◌∷◌, inl, ◌++◌, length, refl, subst, arith}
use Rattle.update_protocol.specs.World.{Cancel, Each, Stable, World, at, is_on, master}
use Rattle.update_protocol.specs.Events.{Cancel_comes, Cancel_own, Commit, Event, Raise, Run, Send, Stable_comes, fresh, happens}
use Rattle.update_protocol.specs.Epochs.{Begin, Reached}
use Rattle.update_protocol.proofs.Making.{Below}
use Rattle.update_protocol.proofs.Lives.{events, executed, is_op, item_on, run_on, runs, start}

-- events one after another
abbrev pub go : World → List Event → World
go w [] = w
go w (e ∷ es) = go (happens w e) es

abbrev pub tells : List Event
tells = Commit 0 ∷ Commit 1 ∷ Send (Stable 0 0 1) ∷ Stable_comes 0 0 1 ∷ Send (Stable 1 0 1) ∷ Stable_comes 1 0 1 ∷ []

abbrev pub told : World
told = go executed tells

abbrev pub cancels : List Event
cancels = Raise 0 1 ∷ Cancel_own 0 0 ∷ Commit 0 ∷ Send (Cancel 0 1) ∷ Cancel_comes 0 1 1 0 ∷ []

abbrev pub cancelled : World
cancelled = go told cancels

tells_run : Run 3 executed tells told
unfolding at
tells_run = (refl, (refl, ((0, inl refl, refl, refl), (inl refl, ((0, inl refl, refl, refl), (inl refl, refl))))))

one_told : 1 ≤ 1
one_told = omega arith

stable_each : Each (λ n a. master a ≡ 0 → a.batch ≤ 1 → (t : ℕ) → is_on a t ≡ true → a.batch ≤ told.stable 0 t) told.since
unfolding at
stable_each zero l own below t on = ⊎_elim (λ (e : 0 ≡ t). subst (λ t. 1 ≤ told.stable 0 t) e one_told) (λ (e : 1 ≡ t). subst (λ t. 1 ≤ told.stable 0 t) e one_told) (item_on t on)
stable_each (suc n) l own below t on = absurd (omega (arith, l))

cancels_run : Run 3 told cancels cancelled
unfolding at
cancels_run = ((omega arith, omega arith, stable_each), ((omega arith, refl, omega arith), (refl, (omega arith, ((inl refl, omega arith, refl, omega arith), refl)))))

pub reached : Below → Reached 3 [] cancelled
reached b = record {
  story = Begin;
  start = start;
  events = (events ++ tells) ++ cancels;
  run = run_on 3 (events ++ tells) cancels (fresh start []) told cancelled (run_on 3 events tells (fresh start []) executed told (runs b is_op) tells_run) cancels_run;
}

pub shows : (length cancelled.since ≡ 1) × (is_on (at cancelled.since 0) 0 ≡ true) × (is_on (at cancelled.since 0) 1 ≡ true) × (cancelled.gone 0 ≡ 0 ∷ []) × (cancelled.gone 1 ≡ 0 ∷ [])
unfolding at
shows = (refl, refl, refl, refl, refl)
