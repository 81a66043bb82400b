-- Commits and stops.
use Rattle.std.proofs.Common.{Bool, List, None, Option, Some, arith, false, inl, inr, le_refl, le_trans, length, refl, subst, sym, true, true≢false, ℕ, ⊎_elim, ◌<◌, ◌≡◌, ◌≢◌, ◌≤◌, ◌⊎◌}
use Rattle.update_protocol.proofs.Basics.{put_same, put_at}
use Rattle.update_protocol.proofs.Invariant.{Current, Invariant, Safe}
use Rattle.update_protocol.proofs.Messages.{says_more}
use Rattle.update_protocol.proofs.Setting.{Setting}
use Rattle.update_protocol.proofs.Syncs.{syncing_more}
use Rattle.update_protocol.specs.Events.{Commit, Forget, May, Stop, Tear, happens}
use Rattle.update_protocol.specs.Lists.{IsIn, Rising, put}
use Rattle.update_protocol.specs.World.{Accepted, Attempt, Full, History, World, at, is_on, master}

module _ (σ : Setting) where
  pub safe_more : (disk disk' : ℕ → List ℕ) → ((t n : ℕ) → IsIn n (disk t) → IsIn n (disk' t)) → (n : ℕ) (a b : Accepted) → Safe disk n a b → Safe disk' n a b
  safe_more disk disk' more n a b (inl named) = inl (named.0, more named.0 n named.1)
  safe_more disk disk' more n a b (inr covers) = inr covers

  pub keeps_commit : (w : World) → Invariant σ.targets w → (t : ℕ) → May σ.targets w (Commit t) → Invariant σ.targets (happens w (Commit t))
  keeps_commit w i t up =
      let disk' : ℕ → List ℕ = put w.disk t (w.done t) in
      let kept' : ℕ → ℕ = put w.kept_mark t (w.mark t) in
      let more : (s n : ℕ) → IsIn n (w.disk s) → IsIn n (disk' s) = λ s n. put_at (λ s l. IsIn n (w.disk s) → IsIn n l) w.disk t (w.done t) s (λ h. i.executed.has t n h) (λ d h. h) in
      let marks : (m : ℕ) → w.kept_mark m ≤ kept' m = λ m. put_at (λ m x. w.kept_mark m ≤ x) w.kept_mark t (w.mark t) m (i.marking.mark_most t).0 (λ d. le_refl _) in
      record {
        grounded = i.grounded;
        numbered = i.numbered;
        syncing = syncing_more σ w.since w.pool w.up w.up w.done w.done w.disk disk' w.trying w.trying w.holder w.holder w.ended w.ended w.serving w.serving (record {
          downs = λ s d. d;
          ups = λ s u. u;
          serves = λ e. e;
          goes = λ a s k m on c. inl c;
          holds = λ a s u h sub. inl (h, λ n. put_at (λ s l. (IsIn n (w.done s) → IsIn n (w.disk s)) → IsIn n (w.done s) → IsIn n l) w.disk t (w.done t) s (λ z g. g) (λ d z g. z g) (sub n));
          ends = λ s m. le_refl _;
          never = λ a s m u out le. out;
          stays = λ a s q k c f m is u h old n. put_at (λ s l. IsIn k l → (IsIn k (w.disk s) → (n : ℕ) → IsIn n (w.done s) → IsIn n (w.disk s)) → IsIn n (w.done s) → IsIn n l) w.disk t (w.done t) s (λ h z g. g) (λ d h z g. z h n g) h old;
          back = λ a s q k c f m is. is;
        }) i.syncing;
        follows = i.follows;
        tearing = record {
          torn_has = λ s n. put_at (λ s l. IsIn n l → IsIn n (put w.torn t (w.done t) s)) w.disk t (w.done t) s
              (λ h. subst (λ l. IsIn n l) (sym (put_same w.torn t (w.done t))) h)
              (λ d h. put_at (λ s l. IsIn n (w.disk s) → IsIn n l) w.torn t (w.done t) s (i.executed.has t n) (λ e. i.tearing.torn_has s n) h);
          torn_rising = λ s. put_at (λ s l. Rising l) w.torn t (w.done t) s (i.executed.in_order t) (λ d. i.tearing.torn_rising s);
          torn_known = λ s n. put_at (λ s l. IsIn n l → (n < length w.since) × (is_on (at w.since n) s ≡ true)) w.torn t (w.done t) s (i.executed.known_done t n) (λ d. i.tearing.torn_known s n);
          torn_prefix = λ n m o l s. put_at (λ s xs. IsIn m xs → is_on (at w.since n) s ≡ true → IsIn n xs) w.torn t (w.done t) s
              (λ h on. i.executed.one_waits n m o l t up on (i.executed.known_done t m h).1) (λ d. i.tearing.torn_prefix n m o l s);
          torn_under = λ n l. put_at (λ m x. master (at w.since n) ≡ m → (at w.since n).batch ≤ x → Full disk' n (at w.since n)) w.torn_mark t (w.mark t) (master (at w.since n))
              (λ e le s on. more s n (i.marking.marked n l (subst (λ m. (at w.since n).batch ≤ w.mark m) (sym e) le) s on)) (λ d e le s on. more s n (i.tearing.torn_under n l le s on)) refl;
          torn_most = λ m. (
            put_at (λ m x. x ≤ put w.torn_mark t (w.mark t) m) w.kept_mark t (w.mark t) m (subst (λ x. w.mark t ≤ x) (sym (put_same w.torn_mark t (w.mark t))) (le_refl _))
                (λ d. put_at (λ m x. m ≢ t → w.kept_mark m ≤ x) w.torn_mark t (w.mark t) m (λ e. absurd (e refl)) (λ e f. (i.tearing.torn_most m).0) d),
            put_at (λ m x. x ≤ w.batches m) w.torn_mark t (w.mark t) m (i.marking.mark_most t).1 (λ d. (i.tearing.torn_most m).1),
          );
          torn_dropped = λ s n. put_at (λ s l. IsIn n l → (n < length w.since) × (((at w.since n).batch ≤ kept' (master (at w.since n))) ⊎ ((master (at w.since n) ≡ s) × ((at w.since n).batch ≤ put w.torn_mark t (w.mark t) s)))) w.torn_gone t (w.gone t) s
              (λ h. let old = i.marking.dropped t n h in (
                old.0,
                ⊎_elim (λ (x : (at w.since n).batch ≤ w.kept_mark (master (at w.since n))). inl (le_trans x (marks _)))
                    (λ (y : (master (at w.since n) ≡ t) × ((at w.since n).batch ≤ w.mark t)). inr (y.0, subst (λ x. (at w.since n).batch ≤ x) (sym (put_same w.torn_mark t (w.mark t))) y.1)) old.1,
              ))
              (λ d h. let old = i.tearing.torn_dropped s n h in (
                old.0,
                ⊎_elim (λ (x : (at w.since n).batch ≤ w.kept_mark (master (at w.since n))). inl (le_trans x (marks _)))
                    (λ (y : (master (at w.since n) ≡ s) × ((at w.since n).batch ≤ w.torn_mark s)). inr (y.0, put_at (λ s x. s ≢ t → (at w.since n).batch ≤ w.torn_mark s → (at w.since n).batch ≤ x) w.torn_mark t (w.mark t) s (λ ne q. absurd (ne refl)) (λ e ne q. q) d y.1)) old.1,
              ));
        };
        durable = record {
          rising = λ s. put_at (λ s l. Rising l) w.disk t (w.done t) s (i.executed.in_order t) (λ d. i.durable.rising s);
          known = λ s n. put_at (λ s l. IsIn n l → (n < length w.since) × (is_on (at w.since n) s ≡ true)) w.disk t (w.done t) s (i.executed.known_done t n) (λ d. i.durable.known s n);
          prefix = λ n m o l s. put_at (λ s xs. IsIn m xs → is_on (at w.since n) s ≡ true → IsIn n xs) w.disk t (w.done t) s
              (λ h on. i.executed.one_waits n m o l t up on (i.executed.known_done t m h).1) (λ d. i.durable.prefix n m o l s);
          shared = λ n m o l x a b. safe_more w.disk disk' more n (at w.since n) (at w.since m) (i.durable.shared n m o l x a b);
          stamps = i.durable.stamps;
          covered = i.durable.covered;
          under = λ n l. put_at (λ m x. master (at w.since n) ≡ m → (at w.since n).batch ≤ x → Full disk' n (at w.since n)) w.kept_mark t (w.mark t) (master (at w.since n))
              (λ e le s on. more s n (i.marking.marked n l (subst (λ m. (at w.since n).batch ≤ w.mark m) (sym e) le) s on)) (λ d e le s on. more s n (i.durable.under n l le s on)) refl;
          at_most = λ m. put_at (λ m x. x ≤ w.batches m) w.kept_mark t (w.mark t) m (i.marking.mark_most t).1 (λ d. i.durable.at_most m);
          cancelled = λ s n. put_at (λ s l. IsIn n l → (n < length w.since) × ((at w.since n).batch ≤ kept' (master (at w.since n)))) w.kept_gone t (w.gone t) s
              (λ h. let old = i.marking.dropped t n h in (
                old.0,
                ⊎_elim (λ (x : (at w.since n).batch ≤ w.kept_mark (master (at w.since n))). le_trans x (marks _))
                    (λ (y : (master (at w.since n) ≡ t) × ((at w.since n).batch ≤ w.mark t)). subst (λ m. (at w.since n).batch ≤ kept' m) (sym y.0) (subst (λ x. (at w.since n).batch ≤ x) (sym (put_same w.kept_mark t (w.mark t))) y.1)) old.1,
              ))
              (λ d h. let old = i.durable.cancelled s n h in (old.0, le_trans old.1 (marks _)));
        };
        executed = record {
          in_order = i.executed.in_order;
          has = λ s n. put_at (λ s l. IsIn n l → IsIn n (w.done s)) w.disk t (w.done t) s (λ h. h) (λ d. i.executed.has s n);
          known_done = i.executed.known_done;
          one_waits = i.executed.one_waits;
          clocked = i.executed.clocked;
          home_done = i.executed.home_done;
          down_done = λ s n d h. put_at (λ s l. IsIn n (w.done s) → IsIn n (w.disk s) ⊎ (s ≡ t) → IsIn n l) w.disk t (w.done t) s (λ h z. h) (λ ne h z. ⊎_elim (λ (g : IsIn n (w.disk s)). g) (λ (e : s ≡ t). absurd (ne e)) z) h (inl (i.executed.down_done s n d h));
        };
        holding = i.holding;
        marking = record {
          batched = i.marking.batched;
          batches_rise = i.marking.batches_rise;
          heard = λ m s. ((i.marking.heard m s).0, λ n l is on le. more s n ((i.marking.heard m s).1 n l is on le));
          marked = λ n l le s on. more s n (i.marking.marked n l le s on);
          mark_most = λ m. (put_at (λ m x. x ≤ w.mark m) w.kept_mark t (w.mark t) m (le_refl _) (λ d. (i.marking.mark_most m).0), (i.marking.mark_most m).1);
          dropped = λ s n h. let old = i.marking.dropped s n h in (old.0, ⊎_elim (λ (x : (at w.since n).batch ≤ w.kept_mark (master (at w.since n))). inl (le_trans x (marks _))) (λ y. inr y) old.1);
        };
        messages = λ p m. says_more σ w.base w.since w.disk disk' w.holder w.holder w.trying w.trying w.turns w.turns w.batches w.batches w.kept_mark kept'
            (record { disks = more; turn = λ m. le_refl _; batch = λ m. le_refl _; marks = marks; back = λ a l e. e; holds = λ a t l e h. h }) p (i.messages p m);
      }

  -- an attempt that is forgotten: trying becomes less
  pub current_less : (base : History) (since : List Accepted) (up : ℕ → Bool) (holder : ℕ → Option Attempt) (turns : ℕ → ℕ) (trying trying' : ℕ → Option Attempt)
      → ((m : ℕ) (a : Attempt) → trying' m ≡ Some a → trying m ≡ Some a) → ((m : ℕ) (a : Attempt) → trying m ≡ Some a → Current σ.targets base since up holder turns m a)
      → (m : ℕ) (a : Attempt) → trying' m ≡ Some a → Current σ.targets base since up holder turns m a
  current_less base since up holder turns trying trying' less old m a e = old m a (less m a e)

  pub keeps_stop : (w : World) → Invariant σ.targets w → (t : ℕ) → Invariant σ.targets (happens w (Stop t))
  keeps_stop w i t =
      let up' : ℕ → Bool = put w.up t false in
      let done' : ℕ → List ℕ = put w.done t (w.disk t) in
      let was : (s : ℕ) → up' s ≡ true → (s ≢ t) × (w.up s ≡ true) = λ s. put_at (λ s b. b ≡ true → (s ≢ t) × (w.up s ≡ true)) w.up t false s (λ e. absurd (grind arith)) (λ d e. (d, e)) in
      let same : (s n : ℕ) → s ≢ t → IsIn n (w.done s) → IsIn n (done' s) = λ s n ne. put_at (λ s l. s ≢ t → IsIn n (w.done s) → IsIn n l) w.done t (w.disk t) s (λ d h. absurd (d refl)) (λ d e h. h) ne in
      let back : (s n : ℕ) → IsIn n (done' s) → IsIn n (w.done s) = λ s n. put_at (λ s l. IsIn n l → IsIn n (w.done s)) w.done t (w.disk t) s (λ h. i.executed.has t n h) (λ d h. h) in
      record {
        grounded = i.grounded;
        numbered = i.numbered;
        syncing = syncing_more σ w.since w.pool w.up up' w.done done' w.disk w.disk w.trying w.trying w.holder w.holder w.ended w.ended w.serving w.serving (record {
          downs = λ s d. put_at (λ s b. w.up s ≡ false → b ≡ false) w.up t false s (λ z. refl) (λ d z. z) d;
          ups = λ s u. (was s u).1;
          serves = λ e. e;
          goes = λ a s k m on c. inl c;
          holds = λ a s u h sub. inl (h, λ n g. sub n (back s n g));
          ends = λ s m. le_refl _;
          never = λ a s m u out le. out;
          stays = λ a s q k c f m is u h old n g. old h n (back s n g);
          back = λ a s q k c f m is. is;
        }) i.syncing;
        follows = i.follows;
        tearing = i.tearing;
        durable = i.durable;
        executed = record {
          in_order = λ s. put_at (λ s l. Rising l) w.done t (w.disk t) s (i.durable.rising t) (λ d. i.executed.in_order s);
          has = λ s n. put_at (λ s l. IsIn n (w.disk s) → IsIn n l) w.done t (w.disk t) s (λ h. h) (λ d. i.executed.has s n);
          known_done = λ s n h. i.executed.known_done s n (back s n h);
          one_waits = λ n m o l s up a b. let u = was s up in same s n u.0 (i.executed.one_waits n m o l s u.1 a b);
          clocked = λ s n up h. i.executed.clocked s n (was s up).1 (back s n h);
          down_done = λ s n d h. put_at (λ s l. put w.up t false s ≡ false → IsIn n l → IsIn n (w.disk s)) w.done t (w.disk t) s (λ d h. h) (λ ne d h. i.executed.down_done s n (put_at (λ s b. s ≢ t → b ≡ false → w.up s ≡ false) w.up t false s (λ z d. absurd (z refl)) (λ y z d. d) ne d) h) d h;
          home_done = λ n l up. let u = was (master (at w.since n)) up in same (master (at w.since n)) n u.0 (i.executed.home_done n l u.1);
        };
        holding = record {
          waits = λ n l s up on. let u = was s up in ⊎_elim (λ (h : IsIn n (w.done s)). inl (same s n u.0 h)) (λ h. inr h) (i.holding.waits n l s u.1 on);
          once = λ n l s up h. i.holding.once n l s (was s up).1 (back s n h);
          over = i.holding.over;
          distinct = i.holding.distinct;
          current = λ m a e. let old : Current σ.targets w.base w.since w.up w.holder w.turns m a = i.holding.current m a e in
              record {
                is_home = old.is_home;
                last_turn = old.last_turn;
                at_home = old.at_home;
                newest = old.newest;
                holds = old.holds;
                not_yet = old.not_yet;
              };
        };
        marking = record {
          batched = i.marking.batched;
          batches_rise = i.marking.batches_rise;
          heard = i.marking.heard;
          marked = λ n l le. i.marking.marked n l (put_at (λ m x. (at w.since n).batch ≤ x → (at w.since n).batch ≤ w.mark m) w.mark t (w.kept_mark t) (master (at w.since n)) (λ q. le_trans q (i.marking.mark_most t).0) (λ d q. q) le);
          mark_most = λ m. put_at (λ m x. (w.kept_mark m ≤ x) × (x ≤ w.batches m)) w.mark t (w.kept_mark t) m (le_refl _, i.durable.at_most t) (λ d. i.marking.mark_most m);
          dropped = λ s n. put_at (λ s l. IsIn n l → (n < length w.since) × (((at w.since n).batch ≤ w.kept_mark (master (at w.since n))) ⊎ ((master (at w.since n) ≡ s) × ((at w.since n).batch ≤ put w.mark t (w.kept_mark t) s)))) w.gone t (w.kept_gone t) s
              (λ h. let old = i.durable.cancelled t n h in (old.0, inl old.1))
              (λ d h. let old = i.marking.dropped s n h in (
                old.0,
                ⊎_elim (λ x. inl x) (λ (y : (master (at w.since n) ≡ s) × ((at w.since n).batch ≤ w.mark s)).
                    inr (y.0, put_at (λ s x. s ≢ t → (at w.since n).batch ≤ w.mark s → (at w.since n).batch ≤ x) w.mark t (w.kept_mark t) s (λ ne q. absurd (ne refl)) (λ d ne q. q) d y.1)) old.1,
              ));
        };
        messages = λ p m. says_more σ w.base w.since w.disk w.disk w.holder w.holder w.trying w.trying w.turns w.turns w.batches w.batches w.kept_mark w.kept_mark
            (record { disks = λ t n h. h; turn = λ m. le_refl _; batch = λ m. le_refl _; marks = λ m. le_refl _; back = λ a l e. e; holds = λ a t l e h. h }) p (i.messages p m);
      }

  pub keeps_forget : (w : World) → Invariant σ.targets w → Invariant σ.targets (happens w Forget)
  keeps_forget w i = record {
    grounded = i.grounded;
    numbered = i.numbered;
    syncing = syncing_more σ w.since w.pool w.up w.up w.done w.done w.disk w.disk w.trying (λ _. None) w.holder w.holder w.ended w.ended w.serving false (record {
      downs = λ s d. d;
      ups = λ s u. u;
      serves = λ e. absurd (true≢false (sym e));
      goes = λ a s k m on c. absurd (true≢false (sym on));
      holds = λ a s u h sub. inl (h, sub);
      ends = λ s m. le_refl _;
      never = λ a s m u out le. out;
      stays = λ a s q k c f m is u h old n g. old h n g;
      back = λ a s q k c f m is. absurd (grind arith);
    }) i.syncing;
    follows = i.follows;
    tearing = i.tearing;
    durable = i.durable;
    executed = i.executed;
    marking = i.marking;
    holding = record {
      waits = i.holding.waits;
      once = i.holding.once;
      distinct = i.holding.distinct;
      over = λ n l. ((i.holding.over n l).0, λ e. absurd (grind arith));
      current = λ m a e. absurd (grind arith);
    };
    messages = λ p m. says_more σ w.base w.since w.disk w.disk w.holder w.holder w.trying (λ _. None) w.turns w.turns w.batches w.batches w.kept_mark w.kept_mark
        (record { disks = λ t n h. h; turn = λ m. le_refl _; batch = λ m. le_refl _; marks = λ m. le_refl _; back = λ a l e. absurd (grind arith); holds = λ a t l e h. h }) p (i.messages p m);
  }

  -- a commit that failed: the target stops, and the image may be the new one
  pub keeps_tear : (w : World) → Invariant σ.targets w → (t : ℕ) → w.up t ≡ true → Invariant σ.targets (happens w (Tear t))
  keeps_tear w i t up = keeps_stop (record w { torn = put w.torn t (w.done t); torn_mark = put w.torn_mark t (w.mark t); torn_gone = put w.torn_gone t (w.gone t) })
      (record {
        grounded = i.grounded;
        numbered = i.numbered;
        syncing = i.syncing;
        follows = i.follows;
        durable = i.durable;
        executed = i.executed;
        holding = i.holding;
        marking = i.marking;
        messages = i.messages;
        tearing = record {
          torn_has = λ s n. put_at (λ s l. IsIn n (w.disk s) → IsIn n l) w.torn t (w.done t) s (i.executed.has t n) (λ d. i.tearing.torn_has s n);
          torn_rising = λ s. put_at (λ s l. Rising l) w.torn t (w.done t) s (i.executed.in_order t) (λ d. i.tearing.torn_rising s);
          torn_known = λ s n. put_at (λ s l. IsIn n l → (n < length w.since) × (is_on (at w.since n) s ≡ true)) w.torn t (w.done t) s (i.executed.known_done t n) (λ d. i.tearing.torn_known s n);
          torn_prefix = λ n m o l s. put_at (λ s xs. IsIn m xs → is_on (at w.since n) s ≡ true → IsIn n xs) w.torn t (w.done t) s
              (λ h on. i.executed.one_waits n m o l t up on (i.executed.known_done t m h).1) (λ d. i.tearing.torn_prefix n m o l s);
          torn_under = λ n l. put_at (λ m x. master (at w.since n) ≡ m → (at w.since n).batch ≤ x → Full w.disk n (at w.since n)) w.torn_mark t (w.mark t) (master (at w.since n))
              (λ e le. i.marking.marked n l (subst (λ m. (at w.since n).batch ≤ w.mark m) (sym e) le)) (λ d e le. i.tearing.torn_under n l le) refl;
          torn_most = λ m. put_at (λ m x. (w.kept_mark m ≤ x) × (x ≤ w.batches m)) w.torn_mark t (w.mark t) m (i.marking.mark_most t) (λ d. i.tearing.torn_most m);
          torn_dropped = λ s n. put_at (λ s l. IsIn n l → (n < length w.since) × (((at w.since n).batch ≤ w.kept_mark (master (at w.since n))) ⊎ ((master (at w.since n) ≡ s) × ((at w.since n).batch ≤ put w.torn_mark t (w.mark t) s)))) w.torn_gone t (w.gone t) s
              (λ h. let old = i.marking.dropped t n h in (
                old.0,
                ⊎_elim (λ (x : (at w.since n).batch ≤ w.kept_mark (master (at w.since n))). inl x)
                    (λ (y : (master (at w.since n) ≡ t) × ((at w.since n).batch ≤ w.mark t)). inr (y.0, subst (λ x. (at w.since n).batch ≤ x) (sym (put_same w.torn_mark t (w.mark t))) y.1)) old.1,
              ))
              (λ d h. let old = i.tearing.torn_dropped s n h in (
                old.0,
                ⊎_elim (λ (x : (at w.since n).batch ≤ w.kept_mark (master (at w.since n))). inl x)
                    (λ (y : (master (at w.since n) ≡ s) × ((at w.since n).batch ≤ w.torn_mark s)). inr (y.0, put_at (λ s x. s ≢ t → (at w.since n).batch ≤ w.torn_mark s → (at w.since n).batch ≤ x) w.torn_mark t (w.mark t) s (λ ne q. absurd (ne refl)) (λ e ne q. q) d y.1)) old.1,
              ));
        };
      }) t
