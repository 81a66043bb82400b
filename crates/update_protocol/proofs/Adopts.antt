-- A restarted target turns out to have the new image of its last, failed commit.
use Rattle.std.proofs.Common.{List, false, inl, inr, le_refl, le_trans, length, refl, subst, sym, true, true≢false, ℕ, ⊎_elim, ◌<◌, ◌∙◌, ◌≡◌, ◌≢◌, ◌≤◌, ◌⊎◌}
use Rattle.update_protocol.proofs.Basics.{put_same, put_at}
use Rattle.update_protocol.proofs.Disks.{safe_more}
use Rattle.update_protocol.proofs.Invariant.{Invariant}
use Rattle.update_protocol.proofs.Messages.{says_more}
use Rattle.update_protocol.proofs.Setting.{Setting}
use Rattle.update_protocol.proofs.Syncs.{syncing_more}
use Rattle.update_protocol.specs.Events.{Adopt, May, happens}
use Rattle.update_protocol.specs.Lists.{IsIn, Rising, put}
use Rattle.update_protocol.specs.World.{Full, World, at, is_on, master}

module _ (σ : Setting) where
  pub keeps_adopt : (w : World) → Invariant σ.targets w → (t : ℕ) → May σ.targets w (Adopt t) → Invariant σ.targets (happens w (Adopt t))
  keeps_adopt w i t down =
      let disk' : ℕ → List ℕ = put w.disk t (w.torn t) in
      let done' : ℕ → List ℕ = put w.done t (w.torn t) in
      let kept' : ℕ → ℕ = put w.kept_mark t (w.torn_mark t) in
      let mark' : ℕ → ℕ = put w.mark t (w.torn_mark t) in
      let more : (s n : ℕ) → IsIn n (w.disk s) → IsIn n (disk' s) = λ s n. put_at (λ s l. IsIn n (w.disk s) → IsIn n l) w.disk t (w.torn t) s (i.tearing.torn_has t n) (λ d h. h) in
      let marks : (m : ℕ) → w.kept_mark m ≤ kept' m = λ m. put_at (λ m x. w.kept_mark m ≤ x) w.kept_mark t (w.torn_mark t) m (i.tearing.torn_most t).0 (λ d. le_refl _) in
      -- a target that is up isn't t
      let other : (s : ℕ) → w.up s ≡ true → s ≢ t = λ s u e. true≢false (sym u ∙ subst (λ k. w.up k ≡ false) (sym e) down) in
      let was : (s n : ℕ) → w.up s ≡ true → IsIn n (done' s) → IsIn n (w.done s) = λ s n u. put_at (λ s l. w.up s ≡ true → IsIn n l → IsIn n (w.done s)) w.done t (w.torn t) s (λ u h. absurd (other t u refl)) (λ d u h. h) u in
      let stays : (s n : ℕ) → w.up s ≡ true → IsIn n (w.done s) → IsIn n (done' s) = λ s n u. put_at (λ s l. w.up s ≡ true → IsIn n (w.done s) → IsIn n l) w.done t (w.torn t) s (λ u h. absurd (other t u refl)) (λ d u h. h) u in
      let dropped : (s n : ℕ) → IsIn n (w.torn_gone t) → (n < length w.since) × ((at w.since n).batch ≤ kept' (master (at w.since n))) = λ s n h.
      let old = i.tearing.torn_dropped t n h in (
        old.0,
        ⊎_elim (λ (x : (at w.since n).batch ≤ w.kept_mark (master (at w.since n))). le_trans x (marks _))
            (λ (y : (master (at w.since n) ≡ t) × ((at w.since n).batch ≤ w.torn_mark t)). subst (λ m. (at w.since n).batch ≤ kept' m) (sym y.0) (subst (λ x. (at w.since n).batch ≤ x) (sym (put_same w.kept_mark t (w.torn_mark t))) y.1)) old.1,
      ) in
      record {
        grounded = i.grounded;
        numbered = i.numbered;
        syncing = syncing_more σ w.since w.pool w.up w.up w.done done' w.disk disk' w.trying w.trying w.holder w.holder w.ended w.ended w.serving w.serving (record {
          downs = λ s d. d;
          ups = λ s u. u;
          serves = λ e. e;
          goes = λ a s k m on c. inl c;
          holds = λ a s u h sub. inl (h, λ n g. more s n (sub n (was s n u g)));
          ends = λ s m. le_refl _;
          never = λ a s m u out le. out;
          stays = λ a s q k c f m is u h old n g. more s n (old (put_at (λ s l. s ≢ t → IsIn k l → IsIn k (w.disk s)) w.disk t (w.torn t) s (λ z h. absurd (z refl)) (λ d z h. h) (other s u) h) n (was s n u g));
          back = λ a s q k c f m is. is;
        }) i.syncing;
        follows = i.follows;
        tearing = record {
          torn_has = λ s n. put_at (λ s l. IsIn n l → IsIn n (w.torn s)) w.disk t (w.torn t) s (λ h. h) (λ d. i.tearing.torn_has s n);
          torn_rising = i.tearing.torn_rising;
          torn_known = i.tearing.torn_known;
          torn_prefix = i.tearing.torn_prefix;
          torn_under = λ n l le s on. more s n (i.tearing.torn_under n l le s on);
          torn_most = λ m. (put_at (λ m x. x ≤ w.torn_mark m) w.kept_mark t (w.torn_mark t) m (le_refl _) (λ d. (i.tearing.torn_most m).0), (i.tearing.torn_most m).1);
          torn_dropped = λ s n h. let old = i.tearing.torn_dropped s n h in (old.0, ⊎_elim (λ (x : (at w.since n).batch ≤ w.kept_mark (master (at w.since n))). inl (le_trans x (marks _))) (λ y. inr y) old.1);
        };
        durable = record {
          rising = λ s. put_at (λ s l. Rising l) w.disk t (w.torn t) s (i.tearing.torn_rising t) (λ d. i.durable.rising s);
          known = λ s n. put_at (λ s l. IsIn n l → (n < length w.since) × (is_on (at w.since n) s ≡ true)) w.disk t (w.torn t) s (i.tearing.torn_known t n) (λ d. i.durable.known s n);
          prefix = λ n m o l s. put_at (λ s xs. IsIn m xs → is_on (at w.since n) s ≡ true → IsIn n xs) w.disk t (w.torn t) s (i.tearing.torn_prefix n m o l t) (λ d. i.durable.prefix n m o l s);
          shared = λ n m o l x a b. safe_more σ w.disk disk' more n (at w.since n) (at w.since m) (i.durable.shared n m o l x a b);
          stamps = i.durable.stamps;
          covered = i.durable.covered;
          under = λ n l. put_at (λ m x. master (at w.since n) ≡ m → (at w.since n).batch ≤ x → Full disk' n (at w.since n)) w.kept_mark t (w.torn_mark t) (master (at w.since n))
              (λ e le s on. more s n (i.tearing.torn_under n l (subst (λ m. (at w.since n).batch ≤ w.torn_mark m) (sym e) le) s on)) (λ d e le s on. more s n (i.durable.under n l le s on)) refl;
          at_most = λ m. put_at (λ m x. x ≤ w.batches m) w.kept_mark t (w.torn_mark t) m (i.tearing.torn_most t).1 (λ d. i.durable.at_most m);
          cancelled = λ s n. put_at (λ s l. IsIn n l → (n < length w.since) × ((at w.since n).batch ≤ kept' (master (at w.since n)))) w.kept_gone t (w.torn_gone t) s
              (dropped t n) (λ d h. let old = i.durable.cancelled s n h in (old.0, le_trans old.1 (marks _)));
        };
        executed = record {
          in_order = λ s. put_at (λ s l. Rising l) w.done t (w.torn t) s (i.tearing.torn_rising t) (λ d. i.executed.in_order s);
          has = λ s n. put_at (λ s l. IsIn n l → IsIn n (done' s)) w.disk t (w.torn t) s (λ h. subst (λ l. IsIn n l) (sym (put_same w.done t (w.torn t))) h)
              (λ d h. put_at (λ s l. s ≢ t → IsIn n (w.done s) → IsIn n l) w.done t (w.torn t) s (λ e. absurd (e refl)) (λ e f q. q) d (i.executed.has s n h));
          known_done = λ s n. put_at (λ s l. IsIn n l → (n < length w.since) × (is_on (at w.since n) s ≡ true)) w.done t (w.torn t) s (i.tearing.torn_known t n) (λ d. i.executed.known_done s n);
          one_waits = λ n m o l s u a b. stays s n u (i.executed.one_waits n m o l s u a b);
          clocked = λ s n u h. i.executed.clocked s n u (was s n u h);
          home_done = λ n l u. stays (master (at w.since n)) n u (i.executed.home_done n l u);
          down_done = λ s n d. put_at (λ s l. IsIn n l → IsIn n (disk' s)) w.done t (w.torn t) s (λ h. subst (λ l. IsIn n l) (sym (put_same w.disk t (w.torn t))) h) (λ ne h. more s n (i.executed.down_done s n d h));
        };
        holding = record {
          waits = λ n l s u on. ⊎_elim (λ (h : IsIn n (w.done s)). inl (stays s n u h)) (λ e. inr e) (i.holding.waits n l s u on);
          once = λ n l s u h. i.holding.once n l s u (was s n u h);
          over = i.holding.over;
          distinct = i.holding.distinct;
          current = i.holding.current;
        };
        marking = record {
          batched = i.marking.batched;
          batches_rise = i.marking.batches_rise;
          heard = λ m s. ((i.marking.heard m s).0, λ n l is on le. more s n ((i.marking.heard m s).1 n l is on le));
          marked = λ n l. put_at (λ m x. master (at w.since n) ≡ m → (at w.since n).batch ≤ x → Full disk' n (at w.since n)) w.mark t (w.torn_mark t) (master (at w.since n))
              (λ e le s on. more s n (i.tearing.torn_under n l (subst (λ m. (at w.since n).batch ≤ w.torn_mark m) (sym e) le) s on)) (λ d e le s on. more s n (i.marking.marked n l le s on)) refl;
          mark_most = λ m. (
            put_at (λ m x. x ≤ mark' m) w.kept_mark t (w.torn_mark t) m (subst (λ x. w.torn_mark t ≤ x) (sym (put_same w.mark t (w.torn_mark t))) (le_refl _))
                (λ d. put_at (λ m x. m ≢ t → w.kept_mark m ≤ x) w.mark t (w.torn_mark t) m (λ e. absurd (e refl)) (λ e f. (i.marking.mark_most m).0) d),
            put_at (λ m x. x ≤ w.batches m) w.mark t (w.torn_mark t) m (i.tearing.torn_most t).1 (λ d. (i.marking.mark_most m).1),
          );
          dropped = λ s n. put_at (λ s l. IsIn n l → (n < length w.since) × (((at w.since n).batch ≤ kept' (master (at w.since n))) ⊎ ((master (at w.since n) ≡ s) × ((at w.since n).batch ≤ mark' s)))) w.gone t (w.torn_gone t) s
              (λ h. let old = dropped t n h in (old.0, inl old.1))
              (λ d h. let old = i.marking.dropped s n h in (
                old.0,
                ⊎_elim (λ (x : (at w.since n).batch ≤ w.kept_mark (master (at w.since n))). inl (le_trans x (marks _)))
                    (λ (y : (master (at w.since n) ≡ s) × ((at w.since n).batch ≤ w.mark s)). inr (y.0, put_at (λ s x. s ≢ t → (at w.since n).batch ≤ w.mark s → (at w.since n).batch ≤ x) w.mark t (w.torn_mark t) s (λ ne q. absurd (ne refl)) (λ e ne q. q) d y.1)) old.1,
              ));
        };
        messages = λ p m. says_more σ w.base w.since w.disk disk' w.holder w.holder w.trying w.trying w.turns w.turns w.batches w.batches w.kept_mark kept'
            (record { disks = more; turn = λ m. le_refl _; batch = λ m. le_refl _; marks = marks; back = λ a l e. e; holds = λ a t l e h. h }) p (i.messages p m);
      }
