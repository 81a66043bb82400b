-- Events that send, raise a mark or cancel.
use Rattle.std.proofs.Common.{arith, inl, inr, le_trans, length, max, refl, subst, sym, ℕ, ⊎_elim, ◌<◌, ◌∙◌, ◌∷◌, ◌≡◌, ◌≢◌, ◌≤◌, ◌⊎◌}
use Rattle.std.proofs.lemmas.Bool.Decides.{eqb_tells}
use Rattle.update_protocol.proofs.Basics.{put_at}
use Rattle.update_protocol.proofs.Invariant.{Current, Invariant, Means, Stably}
use Rattle.update_protocol.proofs.Setting.{Setting}
use Rattle.update_protocol.proofs.Syncs.{Brings, syncing_push}
use Rattle.update_protocol.specs.Events.{Cancel_comes, Cancel_own, May, MaySend, Raise, Send, Stable_comes, happens}
use Rattle.update_protocol.specs.Lists.{IsIn, put}
use Rattle.update_protocol.specs.World.{Cancel, Execute, Full, Held, Hold, Message, Release, Stable, Sync, Synced, World, at, master}

module _ (σ : Setting) where
  may_send : (w : World) → Invariant σ.targets w → (p : Message) → MaySend σ.targets w p → Means σ.targets w p
  may_send w i (Hold a t q) may =
      let c : Current σ.targets w.base w.since w.up w.holder w.turns a.who.master a = i.holding.current a.who.master a may in
      (omega (arith, c.last_turn), λ n l e. absurd (c.not_yet n l (sym e)))
  may_send w i (Held a t q k c f) may = absurd may
  may_send w i (Sync a t k) may =
      let c : Current σ.targets w.base w.since w.up w.holder w.turns a.who.master a = i.holding.current a.who.master a may.0 in omega (arith, c.last_turn)
  may_send w i (Synced a t) may = absurd may
  may_send w i (Execute n t) may = may
  may_send w i (Release a t) may = may
  may_send w i (Stable t m b) (n, mem, is, e) =
      let known = i.durable.known t n mem in (
        subst (λ x. x ≤ w.batches m) e (subst (λ x. (at w.since n).batch ≤ w.batches x) is (i.marking.batched n known.0)),
        λ k l mk on le. elim (eqb_tells k n) [
          | inl q ↦ subst (λ x. IsIn x (w.disk t)) (sym q.1) mem
          | inr q ↦ ⊎_elim
              (λ (lt : k < n). i.durable.prefix k n lt known.0 t mem on)
              (λ (gt : n < k). absurd (let r : (at w.since n).batch < (at w.since k).batch = i.marking.batches_rise n k gt l (is ∙ sym mk) in omega (arith, r, le, e)))
              (let ne : k ≢ n = q.1 in grind arith)
        ],
      )
  may_send w i (Cancel m b) may = may

  brings : (w : World) (p : Message) → MaySend σ.targets w p → Brings σ w.since w.pool w.done w.disk w.trying w.holder p
  brings w (Hold a t q) may = tt
  brings w (Held a t q k c f) may = absurd may
  brings w (Sync a t k) may = may
  brings w (Synced a t) may = absurd may
  brings w (Execute n t) may = tt
  brings w (Release a t) may = tt
  brings w (Stable t m b) may = tt
  brings w (Cancel m b) may = tt

  pub keeps_send : (w : World) → Invariant σ.targets w → (p : Message) → MaySend σ.targets w p → Invariant σ.targets (happens w (Send p))
  keeps_send w i p may = record {
    grounded = i.grounded;
    numbered = i.numbered;
    syncing = syncing_push σ w.since w.pool w.up w.done w.disk w.trying w.holder w.ended w.serving p i.syncing (brings w p may);
    follows = i.follows;
    tearing = i.tearing;
    durable = i.durable;
    executed = i.executed;
    holding = i.holding;
    marking = i.marking;
    messages = λ q m. ⊎_elim (λ (e : q ≡ p). subst (Means σ.targets w) (sym e) (may_send w i p may)) (λ (h : IsIn q w.pool). i.messages q h) m;
  }

  pub keeps_raise : (w : World) → Invariant σ.targets w → (m b : ℕ) → May σ.targets w (Raise m b) → Invariant σ.targets (happens w (Raise m b))
  keeps_raise w i m b may = record {
    grounded = i.grounded;
    numbered = i.numbered;
    syncing = i.syncing;
    follows = i.follows;
    tearing = i.tearing;
    durable = i.durable;
    executed = i.executed;
    holding = i.holding;
    marking = record {
      batched = i.marking.batched;
      batches_rise = i.marking.batches_rise;
      heard = i.marking.heard;
      marked = λ n l. put_at (λ s x. master (at w.since n) ≡ s → (at w.since n).batch ≤ x → Full w.disk n (at w.since n)) w.mark m b (master (at w.since n))
          (λ is le t on. (i.marking.heard m t).1 n l is on (may.2 n l is le t on)) (λ d is le. i.marking.marked n l le) refl;
      mark_most = λ s. put_at (λ s x. (w.kept_mark s ≤ x) × (x ≤ w.batches s)) w.mark m b s (le_trans (i.marking.mark_most m).0 may.0, may.1) (λ d. i.marking.mark_most s);
      dropped = λ t n h. let old = i.marking.dropped t n h in (
        old.0,
        ⊎_elim (λ x. inl x)
            (λ (y : (master (at w.since n) ≡ t) × ((at w.since n).batch ≤ w.mark t)). inr (y.0, put_at (λ s x. (at w.since n).batch ≤ w.mark s → (at w.since n).batch ≤ x) w.mark m b t (λ z. le_trans z may.0) (λ d z. z) y.1)) old.1,
      );
    };
    messages = i.messages;
  }

  pub keeps_stable : (w : World) → Invariant σ.targets w → (t m b : ℕ) → May σ.targets w (Stable_comes t m b) → Invariant σ.targets (happens w (Stable_comes t m b))
  keeps_stable w i t m b may =
      let told : Stably w.since w.disk w.batches t m b = i.messages (Stable t m b) may in
      let old : Stably w.since w.disk w.batches t m (w.stable m t) = i.marking.heard m t in
      let both : Stably w.since w.disk w.batches t m (max (w.stable m t) b) =
      (omega (arith, told.0, old.0), λ n l is on le. ⊎_elim (λ (x : (at w.since n).batch ≤ w.stable m t). old.1 n l is on x) (λ (y : (at w.since n).batch ≤ b). told.1 n l is on y) (grind arith)) in
      record {
        grounded = i.grounded;
        numbered = i.numbered;
        syncing = i.syncing;
        follows = i.follows;
        tearing = i.tearing;
        durable = i.durable;
        executed = i.executed;
        holding = i.holding;
        marking = record {
          batched = i.marking.batched;
          batches_rise = i.marking.batches_rise;
          heard = λ s r. put_at (λ s f. Stably w.since w.disk w.batches r s (f r)) w.stable m (put (w.stable m) t (max (w.stable m t) b)) s
              (put_at (λ r x. Stably w.since w.disk w.batches r m x) (w.stable m) t (max (w.stable m t) b) r both (λ d. i.marking.heard m r))
              (λ d. i.marking.heard s r);
          marked = i.marking.marked;
          mark_most = i.marking.mark_most;
          dropped = i.marking.dropped;
        };
        messages = i.messages;
      }

  -- one record more is cancelled in memory
  drop_more : (w : World) → Invariant σ.targets w → (t n : ℕ) → n < length w.since
      → ((at w.since n).batch ≤ w.kept_mark (master (at w.since n))) ⊎ ((master (at w.since n) ≡ t) × ((at w.since n).batch ≤ w.mark t))
      → Invariant σ.targets (record w { gone = put w.gone t (n ∷ w.gone t) })
  drop_more w i t n l fits = record {
    grounded = i.grounded;
    numbered = i.numbered;
    syncing = i.syncing;
    follows = i.follows;
    tearing = i.tearing;
    durable = i.durable;
    executed = i.executed;
    holding = i.holding;
    marking = record {
      batched = i.marking.batched;
      batches_rise = i.marking.batches_rise;
      heard = i.marking.heard;
      marked = i.marking.marked;
      mark_most = i.marking.mark_most;
      dropped = λ s k. put_at (λ s xs. IsIn k xs → (k < length w.since) × (((at w.since k).batch ≤ w.kept_mark (master (at w.since k))) ⊎ ((master (at w.since k) ≡ s) × ((at w.since k).batch ≤ w.mark s)))) w.gone t (n ∷ w.gone t) s
          (λ h. ⊎_elim (λ (e : k ≡ n). subst (λ k. (k < length w.since) × (((at w.since k).batch ≤ w.kept_mark (master (at w.since k))) ⊎ ((master (at w.since k) ≡ t) × ((at w.since k).batch ≤ w.mark t)))) (sym e) (l, fits)) (λ (g : IsIn k (w.gone t)). i.marking.dropped t k g) h)
          (λ d h. i.marking.dropped s k h);
    };
    messages = i.messages;
  }

  pub keeps_cancel_own : (w : World) → Invariant σ.targets w → (m n : ℕ) → May σ.targets w (Cancel_own m n) → Invariant σ.targets (happens w (Cancel_own m n))
  keeps_cancel_own w i m n may = drop_more w i m n may.0 (inr (may.1, may.2))

  pub keeps_cancel : (w : World) → Invariant σ.targets w → (m b t n : ℕ) → May σ.targets w (Cancel_comes m b t n) → Invariant σ.targets (happens w (Cancel_comes m b t n))
  keeps_cancel w i m b t n may =
      let fits : b ≤ w.kept_mark m = i.messages (Cancel m b) may.0 in
      drop_more w i t n may.1 (inl (le_trans may.3 (subst (λ x. b ≤ w.kept_mark x) (sym may.2) fits)))
