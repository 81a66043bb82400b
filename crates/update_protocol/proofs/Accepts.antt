-- An operation is accepted.
use Rattle.fid_space.specs.declared.fid.Fid.{Fid}
use Rattle.object_store.specs.Reads.{reads}
use Rattle.out_update.specs.declared.result.UpdateResult.{UpdateResult}
use Rattle.out_update.specs.declared.update.Update.{Update}
use Rattle.std.proofs.Common.{Bool, List, None, Option, Some, [], ap, arith, false, inl, inr, le_of_lt, le_refl, le_trans, length, max, refl, subst, suc, sym, true, true≢false, ℕ, ⊎_elim, ◌++◌, ◌<◌, ◌∙◌, ◌∷◌, ◌≡◌, ◌≢◌, ◌≤◌, ◌⊎◌}
use Rattle.std.proofs.lemmas.Bool.Decides.{eqb_tells}
use Rattle.std.specs.Prelude.{map, take, zip}
use Rattle.tree_model.specs.Looks.{writes}
use Rattle.update_protocol.proofs.Basics.{none_less, ended_more, at-new, at-old, count_here, count_other, each_push, length-push, mem_last, mem_left, mem_push, pairs_push, put_same, put_at, put_two_same, rising_push, take_old, take_whole}
use Rattle.update_protocol.proofs.Hearing.{all_true, mem_join, mem_zip}
use Rattle.update_protocol.proofs.Holds.{all_done}
use Rattle.update_protocol.proofs.Invariant.{Current, Durable, Executed, Holding, Invariant, Marking, Means, Numbered, Over, Safe, Says, Stably, Syncing, Tearing, Told}
use Rattle.update_protocol.proofs.LetsGo.{none_some, not_current, some_same}
use Rattle.update_protocol.proofs.Places.{Beside, beside_of}
use Rattle.update_protocol.proofs.Seating.{all_push, ops_after, some_number}
use Rattle.update_protocol.proofs.Setting.{Setting}
use Rattle.update_protocol.proofs.Shares.{follows_push, home_part, share_still, tree_push, wrote_is}
use Rattle.update_protocol.proofs.Sharing.{chain}
use Rattle.update_protocol.proofs.Syncs.{syncing_more}
use Rattle.update_protocol.specs.Events.{Accept, MayAccept, Settled, happens}
use Rattle.update_protocol.specs.Facts.{Asks, Decides, Fits, is_told, laid, place}
use Rattle.update_protocol.specs.Lists.{IsIn, Rising, put, put_two}
use Rattle.tree_shares.specs.Seats.{SameSeat, Share, share_of}
use Rattle.update_protocol.specs.Seats.{Newest}
use Rattle.update_protocol.specs.World.{Accepted, Answer, Attempt, Cancel, Covers, Each, Execute, Full, Held, History, Hold, Matches, Message, Release, Stable, Sync, Synced, Who, World, after_items, at, count_home, entry, facts_of, is_on, master, request_of, saw_of, wrote_of}
use Rattle.update_record.specs.Spelling.{has_target}

pub asks_one : (targets : ℕ) (q : List Update) (u : Update) (f : Fid) → IsIn u q → u.fid ≡ f → is_told targets u ≡ true → Asks targets q f
asks_one targets [] u f h e t = absurd h
asks_one targets (v ∷ q) u f (inl d) e t = inl (ap (λ (u : Update). u.fid) (sym d) ∙ e, subst (λ u. is_told targets u ≡ true) d t)
asks_one targets (v ∷ q) u f (inr h) e t = inr (asks_one targets q u f h e t)

module _ (σ : Setting) where
  module _ (w : World) (i : Invariant σ.targets w) (m : ℕ) (x : Accepted) (may : MayAccept σ.targets w m x) where
    trying : w.trying m ≡ Some x.attempt
    trying = may.is_current

    c : Current σ.targets w.base w.since w.up w.holder w.turns m x.attempt
    c = i.holding.current m x.attempt may.is_current

    at_cur : w.trying (x.attempt.who.master) ≡ Some x.attempt
    at_cur = subst (λ k. w.trying k ≡ Some x.attempt) (sym c.is_home) may.is_current

    -- each participant is held by the attempt
    now : History
    now = after_items w.base w.since

    held : (a : Answer) → IsIn a may.answers → (w.holder a.at ≡ Some x.attempt) × Told σ.targets w.base w.since w.disk a.at a.question a.writer a.clock a.results
    held a h = (i.messages (Held x.attempt a.at a.question a.writer a.clock a.results) (may.heard a h)).2 at_cur

    fits : Fits σ.targets now
    unfolding now
    fits = record { each = ops_after σ.targets w.base w.since i.grounded.each i.follows; few = may.few }

    decision : Decides σ.targets (laid σ.targets now) (facts_of may.answers) x.batch (request_of x).op (record { reply = x.reply; parts = x.parts; saw = x.saw })
    unfolding now
    decision = may.decided (after_items w.base w.since) fits (all_true σ w i m x.attempt may.is_current may.answers (record { came = may.heard; placed = may.placed }))

    -- the facts are those of the history as it is now, so the item is the operation on it
    matches : Matches σ.targets now x
    unfolding now
    matches = record {
      fits = fits;
      is_op = may.is_op;
      changes = may.changes;
      home = c.at_home ∙ ap Some (sym c.is_home);
      newest = c.newest may.changes;
      reply = decision.reply;
      parts = decision.parts;
      saw = decision.saw;
    }

    at_home : is_on x m ≡ true
    at_home = subst (λ k. is_on x k ≡ true) c.is_home (home_part σ.targets σ.laws now x matches)

    not_true : (b : Bool) → (b ≡ true → ⊥) → b ≡ false
    not_true true h = absurd (h refl)
    not_true false h = refl

    held_by : (t : ℕ) → is_on x t ≡ true → w.holder t ≡ Some x.attempt
    held_by t on = let a = may.certified t on in subst (λ s. w.holder s ≡ Some x.attempt) a.2 (held a.0 a.1).0

    home_done : Each (λ n y. is_on y m ≡ true → IsIn n (w.done m)) w.since
    home_done = all_done σ w i m x.attempt may.is_up at_cur (λ b h. ap (λ (a : Attempt). a.who) (some_same b x.attempt (sym h ∙ c.holds)))

    -- nothing waits at a participant
    no_wait : Each (λ n y. (t : ℕ) → is_on x t ≡ true → w.holder t ≢ Some y.attempt) w.since
    no_wait n l t on e = not_current σ w i m x.attempt trying n l (some_same _ _ (sym e ∙ held_by t on))

    stamps_new : Each (λ n y. (t : ℕ) → is_on y t ≡ true → is_on x t ≡ true → y.stamp < x.stamp) w.since
    stamps_new n l t a b = let h = may.certified t b in let s : (at w.since n).stamp ≤ h.0.clock = (held h.0 h.1).1.clocks n l (subst (λ s. is_on (at w.since n) s ≡ true) (sym h.2) a) in let r = may.above h.0 h.1 in omega (arith, s, r)

    -- the last writer of an object that was looked at is safe
    last_safe : (f : Fid) (q : List Update) (k : Option ℕ) → Asks σ.targets q f → Settled w (place σ.targets f) x.attempt k x → (c : ℕ) (rs : List UpdateResult) → Told σ.targets w.base w.since w.disk (place σ.targets f) q k c rs
        → Each (λ n y. wrote_of y f ≡ true → Safe w.disk n y x) w.since
    last_safe f q None asks settled z rs told n l wrote = inl (place σ.targets f, told.nobody_else refl f asks n l (i.durable.covered n l f wrote) wrote)
    last_safe f q (Some j) asks settled z rs told n l wrote =
        let on = i.durable.covered n l f wrote in
        let last = told.last j refl f asks in
        let le : n ≤ j = last.2 n l on wrote in
        ⊎_elim
        (λ (covers : Covers (at w.since j) x). elim (eqb_tells n j) [
          | inl q ↦ inr (subst (λ k. Covers (at w.since k) x) (sym q.1) covers)
          | inr q ↦ let ne : n ≢ j = q.1 in let lt : n < j = omega (arith, le, ne) in chain σ w i.durable n j x lt last.0 (i.durable.shared n j lt last.0 f wrote (inr last.1)) (inr covers)
        ])
        (λ (s : IsIn (Synced x.attempt (place σ.targets f)) w.pool). inl (place σ.targets f, ((i.messages (Synced x.attempt (place σ.targets f)) s).1 at_cur).1 n l on))
        settled

    -- an object whose writer is to be told was asked for
    asked : (as' : List Answer) → ((a : Answer) → IsIn a as' → IsIn a may.answers) → (u : Update) (r : UpdateResult) → IsIn (u, r) (facts_of as') → (f : Fid) → u.fid ≡ f → is_told σ.targets u ≡ true
        → (a : Answer) × IsIn a may.answers × Asks σ.targets a.question f × (a.at ≡ place σ.targets f)
    asked [] sub u r h f e t = absurd h
    asked (a ∷ more) sub u r h f e t = ⊎_elim
        (λ (g : IsIn (u, r) (zip a.question a.results)). let k : IsIn u a.question = mem_zip a.question a.results u r g in
        (a, sub a (inl refl), asks_one σ.targets a.question u f k e t, subst (λ g. a.at ≡ place σ.targets g) e (may.placed a (sub a (inl refl)) u k)))
        (λ (g : IsIn (u, r) (facts_of more)). asked more (λ b k. sub b (inr k)) u r g f e t)
        (mem_join (zip a.question a.results) (facts_of more) (u, r) h)

    looked_safe : (f : Fid) → saw_of x f ≡ true → Each (λ n y. wrote_of y f ≡ true → Safe w.disk n y x) w.since
    looked_safe f saw n l wrote =
        let d = decision.asked f saw in
        let k = asked may.answers (λ a h. h) d.0 d.1 d.2 f d.3 d.4 in
        let told : Told σ.targets w.base w.since w.disk (place σ.targets f) k.0.question k.0.writer k.0.clock k.0.results = subst (λ s. Told σ.targets w.base w.since w.disk s k.0.question k.0.writer k.0.clock k.0.results) k.3 (held k.0 k.1).1 in
        last_safe f k.0.question k.0.writer k.2 (subst (λ s. Settled w s x.attempt k.0.writer x) k.3 (may.settled k.0 k.1)) k.0.clock k.0.results told n l wrote

    beside_now : (o : Fid) → wrote_of x o ≡ true → Beside σ.targets σ.laws w.since x o
    unfolding now
    beside_now o writes = beside_of σ.targets σ.laws w.since w.base x o i.follows matches writes

    shared_new : Each (λ n y. (o : Fid) → wrote_of y o ≡ true → (saw_of x o ≡ true) ⊎ (wrote_of x o ≡ true) → Safe w.disk n y x) w.since
    shared_new n l o wrote (inl saw) = looked_safe o saw n l wrote
    shared_new n l o wrote (inr writes) = ⊎_elim (λ (saw : saw_of x o ≡ true). looked_safe o saw n l wrote)
        (λ (beside : (p : Fid) × (saw_of x p ≡ true) × ((k : ℕ) → k < length w.since → wrote_of (at w.since k) o ≡ true → wrote_of (at w.since k) p ≡ true ⊎ ((l : ℕ) × (k < l) × (l < length w.since) × (wrote_of (at w.since l) o ≡ true) × (wrote_of (at w.since l) p ≡ true)))).
        ⊎_elim (λ (also : wrote_of (at w.since n) beside.0 ≡ true). looked_safe beside.0 beside.1 n l also)
        (λ (later : (l : ℕ) × (n < l) × (l < length w.since) × (wrote_of (at w.since l) o ≡ true) × (wrote_of (at w.since l) beside.0 ≡ true)).
        chain σ w i.durable n later.0 x later.1 later.2 (i.durable.shared n later.0 later.1 later.2 o wrote (inr later.3)) (looked_safe beside.0 beside.1 later.0 later.2 later.4))
        (beside.2 n l wrote))
        (beside_now o writes)

    since' : List Accepted
    since' = w.since ++ x ∷ []

    kept_at : (n : ℕ) → n < length w.since → at since' n ≡ at w.since n
    unfolding since'
    kept_at n l = at-old w.since x n l

    longer : (n : ℕ) → n < length w.since → n < length since'
    unfolding since'
    longer n l = omega (arith, l, length-push w.since x)

    home_x : master x ≡ m
    home_x = c.is_home

    batches' : ℕ → ℕ
    batches' = put w.batches m x.batch

    batches_more : (s : ℕ) → w.batches s ≤ batches' s
    unfolding batches'
    batches_more s = put_at (λ s b. w.batches s ≤ b) w.batches m x.batch s (omega (arith, may.next_batch)) (λ d. le_refl _)

    -- a bound on the batches of a master is below the new one
    batch_new : (s b : ℕ) → b ≤ w.batches s → master x ≡ s → x.batch ≤ b → ⊥
    batch_new s b le is q = let e : w.batches m ≡ w.batches s = ap w.batches (sym home_x ∙ is) in let n = may.next_batch in omega (arith, le, q, e, n)

    durable : Durable σ.targets since' w.disk batches' w.kept_mark w.kept_gone
    unfolding since' batches'
    durable = record {
      rising = i.durable.rising;
      known = λ t n h. let k = i.durable.known t n h in (longer n k.0, subst (λ (y : Accepted). is_on y t ≡ true) (sym (kept_at n k.0)) k.1);
      prefix = pairs_push (λ n m a b. (t : ℕ) → IsIn m (w.disk t) → is_on a t ≡ true → IsIn n (w.disk t)) w.since x i.durable.prefix
          (λ n l t h on. absurd (let k = (i.durable.known t (length w.since) h).0 in omega (arith, k)));
      shared = pairs_push (λ n m a b. (f : Fid) → wrote_of a f ≡ true → (saw_of b f ≡ true) ⊎ (wrote_of b f ≡ true) → Safe w.disk n a b) w.since x i.durable.shared shared_new;
      stamps = pairs_push (λ n m a b. (t : ℕ) → is_on a t ≡ true → is_on b t ≡ true → a.stamp < b.stamp) w.since x i.durable.stamps stamps_new;
      covered = each_push (λ n a. (f : Fid) → (wrote_of a f ≡ true) → is_on a (place σ.targets f) ≡ true) w.since x i.durable.covered
          (λ f h. ap (λ ps. has_target (place σ.targets f) ps) matches.parts ∙ σ.laws.wrote_on now x.batch (request_of x).op f fits may.is_op (sym (wrote_is σ.targets σ.laws now x matches f) ∙ h));
      under = each_push (λ n a. a.batch ≤ w.kept_mark (master a) → Full w.disk n a) w.since x i.durable.under
          (λ le. absurd (batch_new (master x) (w.kept_mark (master x)) (i.durable.at_most _) refl le));
      at_most = λ s. le_trans (i.durable.at_most s) (batches_more s);
      cancelled = λ t n h. let k = i.durable.cancelled t n h in (longer n k.0, subst (λ (y : Accepted). y.batch ≤ w.kept_mark (master y)) (sym (kept_at n k.0)) k.1);
    }

    done' : ℕ → List ℕ
    done' = put w.done m (w.done m ++ length w.since ∷ [])

    grows : (t n : ℕ) → IsIn n (w.done t) → IsIn n (done' t)
    unfolding done'
    grows t n = put_at (λ t l. IsIn n (w.done t) → IsIn n l) w.done m (w.done m ++ length w.since ∷ []) t (mem_left (w.done m) (length w.since) n) (λ d h. h)

    was : (t n : ℕ) → IsIn n (done' t) → (IsIn n (w.done t) × (n < length w.since)) ⊎ ((t ≡ m) × (n ≡ length w.since))
    unfolding done'
    was t n = put_at (λ t l. IsIn n l → (IsIn n (w.done t) × (n < length w.since)) ⊎ ((t ≡ m) × (n ≡ length w.since))) w.done m (w.done m ++ length w.since ∷ []) t
        (λ h. ⊎_elim (λ (g : IsIn n (w.done m)). inl (g, (i.executed.known_done m n g).0)) (λ (e : n ≡ length w.since). inr (refl, e)) (mem_push (w.done m) (length w.since) n h))
        (λ d h. inl (h, (i.executed.known_done t n h).0))

    newest_done : (t : ℕ) → t ≡ m → IsIn (length w.since) (done' t)
    unfolding done'
    newest_done t e = subst (λ t. IsIn (length w.since) (done' t)) (sym e) (subst (λ l. IsIn (length w.since) l) (sym (put_same w.done m (w.done m ++ length w.since ∷ []))) (mem_last (w.done m) (length w.since)))

    executed : Executed since' w.up done' w.disk (put w.clock m x.stamp)
    unfolding since' done'
    executed = record {
      in_order = λ t. put_at (λ t l. Rising l) w.done m (w.done m ++ length w.since ∷ []) t (rising_push (w.done m) (length w.since) (i.executed.in_order m) (λ n h. (i.executed.known_done m n h).0)) (λ d. i.executed.in_order t);
      has = λ t n h. grows t n (i.executed.has t n h);
      known_done = λ t n h. ⊎_elim
          (λ (g : IsIn n (w.done t) × (n < length w.since)). (longer n g.1, subst (λ (y : Accepted). is_on y t ≡ true) (sym (kept_at n g.1)) (i.executed.known_done t n g.0).1))
          (λ (q : (t ≡ m) × (n ≡ length w.since)). (omega (arith, q.1, length-push w.since x), subst (λ k. is_on (at since' k) t ≡ true) (sym q.1) (subst (λ (y : Accepted). is_on y t ≡ true) (sym (at-new w.since x)) (subst (λ t. is_on x t ≡ true) (sym q.0) at_home))))
          (was t n h);
      one_waits = pairs_push (λ n k a b. (t : ℕ) → w.up t ≡ true → is_on a t ≡ true → is_on b t ≡ true → IsIn n (done' t)) w.since x
          (λ n k o l t u a b. grows t n (i.executed.one_waits n k o l t u a b))
          (λ n l t u a b. ⊎_elim (λ h. grows t n h) (λ e. absurd (no_wait n l t b e)) (i.holding.waits n l t u a));
      down_done = λ t n d h. ⊎_elim (λ (g : IsIn n (w.done t) × (n < length w.since)). i.executed.down_done t n d g.0) (λ (q : (t ≡ m) × (n ≡ length w.since)). absurd (true≢false (sym may.is_up ∙ subst (λ t. w.up t ≡ false) q.0 d))) (was t n h);
      home_done = each_push (λ n a. w.up (master a) ≡ true → IsIn n (done' (master a))) w.since x (λ n l u. grows (master (at w.since n)) n (i.executed.home_done n l u)) (λ u. newest_done (master x) c.is_home);
      clocked = λ t n u h. ⊎_elim
          (λ (g : IsIn n (w.done t) × (n < length w.since)). subst (λ (y : Accepted). y.stamp ≤ put w.clock m x.stamp t) (sym (kept_at n g.1))
          (put_at (λ t k. w.up t ≡ true → IsIn n (w.done t) → (at w.since n).stamp ≤ k) w.clock m x.stamp t
          (λ u h. le_of_lt (stamps_new n g.1 m (i.executed.known_done m n h).1 at_home)) (λ d u h. i.executed.clocked t n u h) u g.0))
          (λ (q : (t ≡ m) × (n ≡ length w.since)). subst (λ k. (at since' k).stamp ≤ put w.clock m x.stamp t) (sym q.1) (subst (λ (y : Accepted). y.stamp ≤ put w.clock m x.stamp t) (sym (at-new w.since x))
          (subst (λ t. x.stamp ≤ put w.clock m x.stamp t) (sym q.0) (subst (λ k. x.stamp ≤ k) (sym (put_same w.clock m x.stamp)) (le_refl _)))))
          (was t n h);
    }

    ended' : ℕ → ℕ → ℕ
    ended' = put_two w.ended m m (max (w.ended m m) x.attempt.turn)

    trying' : ℕ → Option Attempt
    trying' = put w.trying m None

    less : (s : ℕ) (b : Attempt) → trying' s ≡ Some b → (s ≢ m) × (w.trying s ≡ Some b)
    unfolding trying'
    less s b e = none_less w.trying m s b e

    -- another attempt that stays current holds what it held, and that is no participant
    others : (b : Attempt) → trying' (b.who.master) ≡ Some b → (t : ℕ) → w.holder t ≡ Some b → (put w.holder m None t ≡ Some b) × (is_on x t ≡ true → ⊥)
    others b e t h =
        let q = less (b.who.master) b e in
        let apart : x.attempt ≡ b → ⊥ = λ same. q.0 (ap (λ (a : Attempt). a.who.master) (sym same) ∙ c.is_home) in (
          put_at (λ t y. w.holder t ≡ Some b → y ≡ Some b) w.holder m None t (λ h. absurd (apart (some_same _ _ (sym c.holds ∙ h)))) (λ d h. h) h,
          λ on. apart (some_same _ _ (sym (held_by t on) ∙ h)),
        )

    holding : Holding σ.targets w.base since' w.up done' (put w.holder m None) ended' w.turns trying'
    unfolding since' done' ended' trying' now
    holding = record {
      waits = each_push (λ n a. (t : ℕ) → w.up t ≡ true → is_on a t ≡ true → IsIn n (done' t) ⊎ (put w.holder m None t ≡ Some a.attempt)) w.since x
          (λ n l t u on. put_at (λ t y. w.up t ≡ true → is_on (at w.since n) t ≡ true → IsIn n (done' t) ⊎ (y ≡ Some (at w.since n).attempt)) w.holder m None t
          (λ u on. inl (grows m n (home_done n l on))) (λ d u on. ⊎_elim (λ h. inl (grows t n h)) (λ e. inr e) (i.holding.waits n l t u on)) u on)
          (λ t u on. put_at (λ t y. is_on x t ≡ true → IsIn (length w.since) (done' t) ⊎ (y ≡ Some x.attempt)) w.holder m None t (λ on. inl (newest_done m refl)) (λ d on. inr (held_by t on)) on);
      once = each_push (λ n a. (t : ℕ) → w.up t ≡ true → IsIn n (done' t) → (put w.holder m None t ≢ Some a.attempt) × (a.attempt.turn ≤ ended' t (master a))) w.since x
          (λ n l t u h. let g : IsIn n (w.done t) = ⊎_elim (λ (g : IsIn n (w.done t) × (n < length w.since)). g.0) (λ (q : (t ≡ m) × (n ≡ length w.since)). absurd (omega (arith, l, q.1))) (was t n h) in
          let old = i.holding.once n l t u g in (
            put_at (λ t y. w.holder t ≢ Some (at w.since n).attempt → y ≢ Some (at w.since n).attempt) w.holder m None t (λ d e. none_some _ e) (λ d q. q) old.0,
            le_trans old.1 (ended_more w.ended m m x.attempt.turn t _),
          ))
          (λ t u h. ⊎_elim (λ (g : IsIn (length w.since) (w.done t) × (length w.since < length w.since)). absurd (omega (arith, g.1)))
          (λ (q : (t ≡ m) × (length w.since ≡ length w.since)). subst (λ t. (put w.holder m None t ≢ Some x.attempt) × (x.attempt.turn ≤ ended' t (master x))) (sym q.0) (
            subst (λ y. y ≢ Some x.attempt) (sym (put_same w.holder m None)) (none_some _),
            subst (λ s. x.attempt.turn ≤ ended' m s) (sym home_x) (subst (λ f. x.attempt.turn ≤ f m) (sym (put_same w.ended m (put (w.ended m) m (max (w.ended m m) x.attempt.turn))))
                (subst (λ y. x.attempt.turn ≤ y) (sym (put_same (w.ended m) m (max (w.ended m m) x.attempt.turn))) (omega arith))),
          ))
          (was t (length w.since) h));
      over = each_push (λ n a. Over w.turns trying' a.attempt) w.since x
          (λ n l. ((i.holding.over n l).0, λ e. (i.holding.over n l).1 (less _ _ e).1))
          (le_of_eq' (c.last_turn ∙ ap w.turns (sym c.is_home)), λ e. (less _ _ e).0 c.is_home);
      distinct = pairs_push (λ n k a b. a.attempt.who ≢ b.attempt.who) w.since x i.holding.distinct (λ n l. c.not_yet n l);
      current = λ s b e. let q = less s b e in let d : Current σ.targets w.base w.since w.up w.holder w.turns s b = i.holding.current s b q.1 in
          record {
            is_home = d.is_home;
            last_turn = d.last_turn;
            holds = (others b (subst (λ s. trying' s ≡ Some b) (sym d.is_home) e) s d.holds).0;
            not_yet = each_push (λ n y. y.attempt.who ≢ b.who) w.since x d.not_yet (λ e. q.0 (sym d.is_home ∙ ap (λ (y : Who). y.master) (sym e) ∙ c.is_home));
            at_home = d.at_home;
            newest = λ r. subst (λ h. Newest σ.targets h b.who.request) (sym (tree_push w.since w.base x)) (all_push (λ i. SameSeat σ.targets i.request b.who.request → i.request.number < b.who.request.number) now (entry x) (d.newest r)
                (λ same. absurd (q.0 (some_number s m (sym d.at_home ∙ sym same.1 ∙ c.at_home)))));
          };
    }
      where
        le_of_eq' : {a b : ℕ} → a ≡ b → a ≤ b
        le_of_eq' e = omega (arith, e)

    stably_push : (t s b : ℕ) → Stably w.since w.disk w.batches t s b → Stably since' w.disk batches' t s b
    unfolding since'
    stably_push t s b old = (
      le_trans old.0 (batches_more s),
      each_push (λ n a. master a ≡ s → is_on a t ≡ true → a.batch ≤ b → IsIn n (w.disk t)) w.since x old.1 (λ is on le. absurd (batch_new s b old.0 is le)),
    )

    marking : Marking since' w.disk batches' w.stable w.mark w.kept_mark w.gone
    unfolding since' batches'
    marking = record {
      batched = each_push (λ n a. a.batch ≤ batches' (master a)) w.since x (λ n l. le_trans (i.marking.batched n l) (batches_more _))
          (subst (λ s. x.batch ≤ batches' s) (sym home_x) (subst (λ b. x.batch ≤ b) (sym (put_same w.batches m x.batch)) (le_refl _)));
      batches_rise = pairs_push (λ n k a b. master a ≡ master b → a.batch < b.batch) w.since x i.marking.batches_rise
          (λ n l e. let b : (at w.since n).batch ≤ w.batches m = subst (λ s. (at w.since n).batch ≤ w.batches s) (e ∙ home_x) (i.marking.batched n l) in let q = may.next_batch in omega (arith, b, q));
      heard = λ s t. stably_push t s (w.stable s t) (i.marking.heard s t);
      marked = each_push (λ n a. a.batch ≤ w.mark (master a) → Full w.disk n a) w.since x i.marking.marked
          (λ le. absurd (batch_new (master x) (w.mark (master x)) (i.marking.mark_most _).1 refl le));
      mark_most = λ s. ((i.marking.mark_most s).0, le_trans (i.marking.mark_most s).1 (batches_more s));
      dropped = λ t n h. let k = i.marking.dropped t n h in (
        longer n k.0,
        subst (λ (y : Accepted). (y.batch ≤ w.kept_mark (master y)) ⊎ ((master y ≡ t) × (y.batch ≤ w.mark t))) (sym (kept_at n k.0)) k.1,
      );
    }

    numbered : Numbered since' batches'
    unfolding since' batches'
    numbered = record {
      counted = λ s. put_at (λ s b. b ≡ count_home s (w.since ++ x ∷ [])) w.batches m x.batch s
          (may.next_batch ∙ ap suc (i.numbered.counted m) ∙ sym (count_here m w.since x c.is_home))
          (λ d. i.numbered.counted s ∙ sym (count_other s w.since x (λ e. d (sym e ∙ c.is_home))));
      position = each_push (λ n a. a.batch ≡ suc (count_home (master a) (take n (w.since ++ x ∷ [])))) w.since x
          (λ n l. i.numbered.position n l ∙ ap (λ ys. suc (count_home (master (at w.since n)) ys)) (sym (take_old w.since x n (le_of_lt l))))
          (may.next_batch ∙ ap suc (ap w.batches (sym c.is_home) ∙ i.numbered.counted (master x)) ∙ ap (λ ys. suc (count_home (master x) ys)) (sym (take_old w.since x (length w.since) (le_refl _) ∙ take_whole w.since)));
    }

    tearing : Tearing since' w.disk w.torn batches' w.kept_mark w.torn_mark w.torn_gone
    unfolding since' batches'
    tearing = record {
      torn_has = i.tearing.torn_has;
      torn_rising = i.tearing.torn_rising;
      torn_known = λ t n h. let k = i.tearing.torn_known t n h in (longer n k.0, subst (λ (y : Accepted). is_on y t ≡ true) (sym (kept_at n k.0)) k.1);
      torn_prefix = pairs_push (λ n m a b. (t : ℕ) → IsIn m (w.torn t) → is_on a t ≡ true → IsIn n (w.torn t)) w.since x i.tearing.torn_prefix
          (λ n l t h on. absurd (let k = (i.tearing.torn_known t (length w.since) h).0 in omega (arith, k)));
      torn_under = each_push (λ n a. a.batch ≤ w.torn_mark (master a) → Full w.disk n a) w.since x i.tearing.torn_under
          (λ le. absurd (batch_new (master x) (w.torn_mark (master x)) (i.tearing.torn_most _).1 refl le));
      torn_most = λ s. ((i.tearing.torn_most s).0, le_trans (i.tearing.torn_most s).1 (batches_more s));
      torn_dropped = λ t n h. let k = i.tearing.torn_dropped t n h in (
        longer n k.0,
        subst (λ (y : Accepted). (y.batch ≤ w.kept_mark (master y)) ⊎ ((master y ≡ t) × (y.batch ≤ w.torn_mark t))) (sym (kept_at n k.0)) k.1,
      );
    }

    told_push : (t : ℕ) (q : List Update) (k : Option ℕ) (z : ℕ) (rs : List UpdateResult) → t < σ.targets → (is_on x t ≡ true → ⊥) → Told σ.targets w.base w.since w.disk t q k z rs → Told σ.targets w.base since' w.disk t q k z rs
    unfolding now since'
    told_push t q k z rs lt out told = record {
      still = told.still ∙ ap (λ (s : Share). map (reads s.objects) q) (sym (ap (λ h. share_of σ.targets h t) (tree_push w.since w.base x) ∙ share_still σ.targets σ.laws (after_items w.base w.since) x t matches lt (not_true (is_on x t) out)));
      clocks = each_push (λ n a. is_on a t ≡ true → a.stamp ≤ z) w.since x told.clocks (λ on. absurd (out on));
      nobody_else = λ e f asks. each_push (λ n a. is_on a t ≡ true → wrote_of a f ≡ true → IsIn n (w.disk t)) w.since x (told.nobody_else e f asks) (λ on wrote. absurd (out on));
      last = λ j e f asks. let l = told.last j e f asks in (
        longer j l.0,
        subst (λ (y : Accepted). wrote_of y f ≡ true) (sym (kept_at j l.0)) l.1,
        each_push (λ n a. is_on a t ≡ true → wrote_of a f ≡ true → n ≤ j) w.since x l.2 (λ on wrote. absurd (out on)),
      );
    }

    says_push : (p : Message) → Means σ.targets w p → Says σ.targets w.base since' w.disk (put w.holder m None) trying' w.turns batches' w.kept_mark p
    unfolding since'
    says_push (Hold b t q) s = (
      s.0,
      each_push (λ n y. b.who ≡ y.attempt.who → b.turn ≤ y.attempt.turn) w.since x s.1
          (λ e. let q : w.turns (b.who.master) ≡ w.turns m = ap (λ (k : Who). w.turns k.master) e ∙ ap w.turns c.is_home in let r = c.last_turn in let s0 : b.turn ≤ w.turns (b.who.master) = s.0 in omega (arith, q, r, s0)),
    )
    says_push (Held b t q k z rs) s = (s.0, s.1, λ e. let old = s.2 (less _ _ e).1 in let r = others b e t old.0 in (r.0, told_push t q k z rs s.1 r.1 old.1))
    says_push (Sync b t k) s = s
    says_push (Synced b t) s = (s.0, λ e. let old = s.1 (less _ _ e).1 in let q = others b e t old.0 in (q.0, each_push (λ n y. is_on y t ≡ true → IsIn n (w.disk t)) w.since x old.1 (λ on. absurd (q.1 on))))
    says_push (Execute n t) s = (longer n s.0, subst (λ (y : Accepted). is_on y t ≡ true) (sym (kept_at n s.0)) s.1)
    says_push (Release b t) s = (s.0, (λ e. s.1 (less _ _ e).1), each_push (λ n y. y.attempt ≡ b → is_on y t ≡ false) w.since x s.2 (λ e. absurd (s.1 (subst (λ (b : Attempt). w.trying (b.who.master) ≡ Some b) e at_cur))))
    says_push (Stable t s b) q = stably_push t s b q
    says_push (Cancel s b) q = q

    noted : x.attempt.turn ≤ ended' m (master x)
    unfolding ended'
    noted = subst (λ j. x.attempt.turn ≤ put_two w.ended m m (max (w.ended m m) x.attempt.turn) m j) (sym home_x) (subst (λ v. x.attempt.turn ≤ v) (sym (put_two_same w.ended m m (max (w.ended m m) x.attempt.turn))) (omega arith))

    syncing : Syncing σ.targets since' w.pool w.up done' w.disk trying' (put w.holder m None) ended' w.serving
    unfolding since' done' ended' trying'
    syncing = syncing_more σ since' w.pool w.up w.up w.done done' w.disk w.disk w.trying trying' w.holder (put w.holder m None) w.ended ended' w.serving w.serving (record {
      downs = λ s d. d;
      ups = λ s u. u;
      serves = λ e. e;
      goes = λ b s k mem on e. elim (eqb_tells b.who.master m) [
        | inl r ↦ let q : x.attempt ≡ b = some_same _ _ (sym trying ∙ subst (λ j. w.trying j ≡ Some b) r.1 e) in inr (subst (λ b. (w.up s ≡ false) ⊎ IsIn (Synced b s) w.pool) q (may.all_synced s k (subst (λ b. IsIn (Sync b s k) w.pool) (sym q) mem)))
        | inr r ↦ inl (put_at (λ j y. j ≢ m → w.trying j ≡ Some b → y ≡ Some b) w.trying m None b.who.master (λ z e. absurd (z refl)) (λ d z e. e) r.1 e)
      ];
      holds = λ b s u h sub. elim (eqb_tells s m) [
        | inl r ↦ let q : x.attempt ≡ b = some_same _ _ (sym c.holds ∙ subst (λ s. w.holder s ≡ Some b) r.1 h) in inr (subst (λ s. put w.holder m None s ≢ Some b) (sym r.1) (subst (λ y. y ≢ Some b) (sym (put_same w.holder m None)) (none_some b)), subst (λ s. b.turn ≤ ended' s b.who.master) (sym r.1) (subst (λ (b : Attempt). b.turn ≤ ended' m b.who.master) q noted))
        | inr r ↦ inl (
          put_at (λ s y. s ≢ m → w.holder s ≡ Some b → y ≡ Some b) w.holder m None s (λ z e. absurd (z refl)) (λ d z e. e) r.1 h,
          λ k g. ⊎_elim (λ (o : IsIn k (w.done s) × (k < length w.since)). sub k o.0) (λ (z : (s ≡ m) × (k ≡ length w.since)). absurd (r.1 z.0)) (was s k g),
        )
      ];
      ends = ended_more w.ended m m x.attempt.turn;
      never = λ b s k u out le. put_at (λ s y. w.holder s ≢ Some b → y ≢ Some b) w.holder m None s (λ z. none_some b) (λ d z. z) out;
      stays = λ b s q k z f mem is u h old j g. ⊎_elim (λ (o : IsIn j (w.done s) × (j < length w.since)). old h j o.0)
          (λ (e : (s ≡ m) × (j ≡ length w.since)). absurd (let d = less _ _ is in
          let q : x.attempt ≡ b = some_same _ _ (sym c.holds ∙ subst (λ s. w.holder s ≡ Some b) e.0 ((i.messages (Held b s q (Some k) z f) mem).2 d.1).0) in
          d.0 (ap (λ (b : Attempt). b.who.master) (sym q) ∙ c.is_home))) (was s j g);
      back = λ b s q k z f mem is. (less _ _ is).1;
    })
        (record {
          backed = λ a t k mem. let b = i.syncing.backed a t k mem in record {
            is_op = b.is_op;
            answers = b.answers;
            heard = b.heard;
            placed = b.placed;
            batch = b.batch;
            decision = b.decision;
            decided = b.decided;
            answer = b.answer;
            answered = b.answered;
            at_t = b.at_t;
            writer = b.writer;
            object = b.object;
            asks = b.asks;
            inside = longer k b.inside;
            lacks = b.lacks;
            takes_part = b.takes_part;
            uncovered = subst (λ y. is_on y b.lacks ≡ false) (sym (kept_at k b.inside)) b.uncovered;
          };
          awaited = i.syncing.awaited;
          synced = i.syncing.synced;
          whole = i.syncing.whole;
        })

    pub keeps_accept : Invariant σ.targets (happens w (Accept m x))
    unfolding now since' done' ended' trying' batches'
    keeps_accept = record { grounded = i.grounded; numbered = numbered; syncing = syncing; follows = follows_push σ.targets σ.laws w.since w.base x i.follows matches; tearing = tearing; durable = durable; executed = executed; holding = holding; marking = marking; messages = λ p h. says_push p (i.messages p h) }
