-- Whole runs.
use Rattle.std.proofs.Common.{List, [], ap, arith, le_refl, refl, subst, sym, ℕ, ⊎_elim, ◌<◌, ◌∙◌, ◌∷◌, ◌≡◌, ◌≤◌}
use Rattle.update_protocol.proofs.Accepts.{keeps_accept}
use Rattle.update_protocol.proofs.Adopts.{keeps_adopt}
use Rattle.update_protocol.proofs.Disks.{keeps_commit, keeps_forget, keeps_stop, keeps_tear}
use Rattle.update_protocol.proofs.Holds.{keeps_hold, keeps_takes_over}
use Rattle.update_protocol.proofs.Invariant.{Grounded, Invariant}
use Rattle.update_protocol.proofs.LetsGo.{keeps_ask, keeps_execute, keeps_give_up, keeps_noted, keeps_release, keeps_sync, none_some}
use Rattle.update_protocol.proofs.Setting.{Setting}
use Rattle.update_protocol.proofs.Small.{keeps_cancel, keeps_cancel_own, keeps_raise, keeps_send, keeps_stable}
use Rattle.update_protocol.specs.Events.{Accept, Adopt, Ask, Cancel_comes, Cancel_own, Commit, Event, Execute_comes, Forget, Give_up, Hold_comes, Hold_takes_over, May, Raise, Release_comes, Release_noted, Run, Send, Stable_comes, Start, Stop, Sync_comes, Tear, fresh, happens}
use Rattle.update_protocol.specs.Lists.{IsIn}
use Rattle.update_protocol.specs.World.{Full, History, World, at, master}

module _ (σ : Setting) where
  pub keeps : (w : World) → Invariant σ.targets w → (e : Event) → May σ.targets w e → Invariant σ.targets (happens w e)
  keeps w i (Ask who) may = keeps_ask σ w i who may
  keeps w i (Send p) may = keeps_send σ w i p may
  keeps w i (Hold_comes a t q k f) may = keeps_hold σ w i a t q k f may
  keeps w i (Hold_takes_over a t q k f b) may = keeps_takes_over σ w i a t q k f b may
  keeps w i (Sync_comes a t k) may = keeps_sync σ w i a t k may
  keeps w i (Accept m x) may = keeps_accept σ w i m x may
  keeps w i (Give_up m a) may = keeps_give_up σ w i m a may
  keeps w i (Execute_comes n t) may = keeps_execute σ w i n t may
  keeps w i (Release_comes a t) may = keeps_release σ w i a t may
  keeps w i (Release_noted a t) may = keeps_noted σ w i a t
  keeps w i (Commit t) may = keeps_commit σ w i t may
  keeps w i (Stable_comes t m b) may = keeps_stable σ w i t m b may
  keeps w i (Raise m b) may = keeps_raise σ w i m b may
  keeps w i (Cancel_own m n) may = keeps_cancel_own σ w i m n may
  keeps w i (Cancel_comes m b t n) may = keeps_cancel σ w i m b t n may
  keeps w i (Stop t) may = keeps_stop σ w i t
  keeps w i (Tear t) may = keeps_tear σ w i t may
  keeps w i (Adopt t) may = keeps_adopt σ w i t may
  keeps w i Forget may = keeps_forget σ w i

  pub begins : (s : Start) (b : History) → Grounded σ.targets b → Invariant σ.targets (fresh s b)
  begins s b g = record {
    grounded = g;
    syncing = record { backed = λ a t k m. absurd m; awaited = λ a t k m. absurd m; synced = λ a t m. absurd m; whole = λ a t q k c f m. absurd m };
    numbered = record { counted = λ m. refl; position = λ n l. absurd (none l) };
    follows = tt;
    tearing = record { torn_has = λ t n h. h; torn_rising = λ t. tt; torn_known = λ t n h. absurd h; torn_prefix = λ n m o l. absurd (none l); torn_under = λ n l. absurd (none l); torn_most = λ m. (le_refl _, le_refl _); torn_dropped = λ t n h. absurd h };
    durable = record {
      rising = λ t. tt;
      known = λ t n h. absurd h;
      prefix = λ n m o l. absurd (none l);
      shared = λ n m o l. absurd (none l);
      stamps = λ n m o l. absurd (none l);
      covered = λ n l. absurd (none l);
      under = λ n l. absurd (none l);
      at_most = λ m. le_refl _;
      cancelled = λ t n h. absurd h;
    };
    executed = record { in_order = λ t. tt; has = λ t n h. absurd h; known_done = λ t n h. absurd h; one_waits = λ n m o l. absurd (none l); clocked = λ t n u h. absurd h; home_done = λ n l. absurd (none l); down_done = λ t n d h. h };
    holding = record { waits = λ n l. absurd (none l); once = λ n l. absurd (none l); over = λ n l. absurd (none l); distinct = λ n m o l. absurd (none l); current = λ m a e. absurd (none_some a e) };
    marking = record { batched = λ n l. absurd (none l); batches_rise = λ n m o l. absurd (none l); heard = λ m t. (le_refl _, λ n l. absurd (none l)); marked = λ n l. absurd (none l); mark_most = λ m. (le_refl _, le_refl _); dropped = λ t n h. absurd h };
    messages = λ p h. absurd h;
  }
    where
      none : {n : ℕ} → n < 0 → ⊥
      none l = omega (arith, l)

  pub always : (es : List (Event)) (w v : World) → Invariant σ.targets w → Run σ.targets w es v → Invariant σ.targets v
  always [] w v i run = subst (λ x. Invariant σ.targets x) (sym run) i
  always (e ∷ es) w v i run = always es (happens w e) v (keeps w i e run.0) run.1

  base_after : (w : World) (e : Event) → (happens w e).base ≡ w.base
  base_after w (Ask who) = refl
  base_after w (Send p) = refl
  base_after w (Hold_comes a t q k f) = refl
  base_after w (Hold_takes_over a t q k f b) = refl
  base_after w (Sync_comes a t k) = refl
  base_after w (Accept m x) = refl
  base_after w (Give_up m a) = refl
  base_after w (Execute_comes n t) = refl
  base_after w (Release_comes a t) = refl
  base_after w (Release_noted a t) = refl
  base_after w (Commit t) = refl
  base_after w (Stable_comes t m b) = refl
  base_after w (Raise m b) = refl
  base_after w (Cancel_own m n) = refl
  base_after w (Cancel_comes m b t n) = refl
  base_after w (Stop t) = refl
  base_after w (Tear t) = refl
  base_after w (Adopt t) = refl
  base_after w (Forget) = refl

  pub base_kept : (es : List (Event)) (w v : World) → Run σ.targets w es v → v.base ≡ w.base
  base_kept [] w v run = ap (λ (x : World). x.base) run
  base_kept (e ∷ es) w v run = base_kept es (happens w e) v run.1 ∙ base_after w e

  -- a cancelled record is committed on each of its targets
  pub gone_full : (w : World) → Invariant σ.targets w → (t n : ℕ) → IsIn n (w.gone t) → Full w.disk n (at w.since n)
  gone_full w i t n h = let d = i.marking.dropped t n h in ⊎_elim
      (λ (le : (at w.since n).batch ≤ w.kept_mark (master (at w.since n))). i.durable.under n d.0 le)
      (λ (own : (master (at w.since n) ≡ t) × ((at w.since n).batch ≤ w.mark t)). i.marking.marked n d.0 (subst (λ m. (at w.since n).batch ≤ w.mark m) (sym own.0) own.1)) d.1
