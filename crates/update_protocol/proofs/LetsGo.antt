-- A target lets go, a request begins, a record is executed.
use Rattle.std.proofs.Common.{List, None, Option, Some, [], ap, arith, false, inl, inr, le_of_lt, le_refl, le_trans, length, max, refl, subst, suc, sym, true, true≢false, zero, ℕ, ⊎_elim, ◌++◌, ◌<◌, ◌∙◌, ◌∷◌, ◌≡◌, ◌≢◌, ◌≤◌, ◌⊎◌}
use Rattle.std.proofs.lemmas.Bool.Decides.{eqb_tells}
use Rattle.std.specs.FinMap.{get}
use Rattle.tree_model.specs.declared.op.Request.{Request}
use Rattle.update_protocol.proofs.Basics.{none_less, ended_more, mem_last, mem_left, mem_push, put_same, put_at, put_two_same, rising_push}
use Rattle.update_protocol.proofs.Holds.{all_done}
use Rattle.update_protocol.proofs.Invariant.{Current, Invariant, Means}
use Rattle.update_protocol.proofs.Messages.{says_more}
use Rattle.update_protocol.proofs.Seating.{all_mem, ordered_after, passes}
use Rattle.update_protocol.proofs.Setting.{Setting}
use Rattle.update_protocol.proofs.Shares.{entry_in, share_made}
use Rattle.update_protocol.proofs.Syncs.{syncing_more, syncing_push}
use Rattle.update_protocol.specs.Events.{Ask, Execute_comes, Give_up, May, Release_comes, Release_noted, Sync_comes, happens}
use Rattle.update_protocol.specs.Lists.{IsIn, Rising, put, put_two}
use Rattle.tree_shares.specs.Seats.{SameSeat, Share}
use Rattle.update_protocol.specs.Seats.{IsBelow, Newest, is_read}
use Rattle.update_protocol.specs.World.{Accepted, Attempt, Each, Execute, Follows, Held, History, Release, Sync, Synced, Who, World, after_items, at, entry, grown, is_on, master, request_of}

pub some_same : (a b : Attempt) → Some a ≡ Some b → a ≡ b
some_same a b e = cc

pub none_some : (a : Attempt) → None ≡ Some a → ⊥
none_some a e = cc

-- an item of the history whose request is that one would have a smaller number than itself
pub not_newest : (o : ℕ) (h : History) (xs : List Accepted) → Follows o h xs → (r : Request) → Newest o (after_items h xs) r → Each (λ n x. request_of x ≡ r → ⊥) xs
not_newest o h xs f r new n l e =
    let in_it : IsIn (entry (at xs n)) (after_items h xs) = entry_in h xs n l in
    let lt : (request_of (at xs n)).number < r.number = all_mem (λ i. SameSeat o i.request r → i.request.number < r.number) (after_items h xs) (entry (at xs n)) new in_it (subst (λ r. SameSeat o (request_of (at xs n)) r) e (refl, refl)) in
    let same : (request_of (at xs n)).number ≡ r.number = ap (λ (r : Request). r.number) e in omega (arith, lt, same)

-- no item is a read
pub changes_at : (o : ℕ) (h : History) (xs : List Accepted) → Follows o h xs → Each (λ n x. is_read (request_of x).op ≡ false) xs
unfolding at
changes_at o h [] f n l = absurd (omega (arith, l))
changes_at o h (x ∷ xs) f zero l = f.0.changes
changes_at o h (x ∷ xs) f (suc n) l = changes_at o (grown h x) xs f.1 n (omega (arith, l))

module _ (σ : Setting) where
  pub keeps_noted : (w : World) → Invariant σ.targets w → (a : Attempt) (t : ℕ) → Invariant σ.targets (happens w (Release_noted a t))
  keeps_noted w i a t = record {
    grounded = i.grounded;
    numbered = i.numbered;
    syncing = syncing_more σ w.since w.pool w.up w.up w.done w.done w.disk w.disk w.trying w.trying w.holder w.holder w.ended (put_two w.ended t a.who.master (max (w.ended t a.who.master) a.turn)) w.serving w.serving (record {
      downs = λ s d. d;
      ups = λ s u. u;
      serves = λ e. e;
      goes = λ b s k m on c. inl c;
      holds = λ b s u h sub. inl (h, sub);
      ends = ended_more w.ended t a.who.master a.turn;
      never = λ b s m u out le. out;
      stays = λ b s q k c f m is u h old n g. old h n g;
      back = λ b s q k c f m is. is;
    }) i.syncing;
    follows = i.follows;
    tearing = i.tearing;
    durable = i.durable;
    executed = i.executed;
    marking = i.marking;
    messages = i.messages;
    holding = record {
      waits = i.holding.waits;
      over = i.holding.over;
      distinct = i.holding.distinct;
      current = i.holding.current;
      once = λ n l s u h. let old = i.holding.once n l s u h in (old.0, le_trans old.1 (ended_more w.ended t a.who.master a.turn s _));
    };
  }

  pub keeps_sync : (w : World) → Invariant σ.targets w → (a : Attempt) (t k : ℕ) → May σ.targets w (Sync_comes a t k) → Invariant σ.targets (happens w (Sync_comes a t k))
  keeps_sync w i a t k may = record {
    grounded = i.grounded;
    numbered = i.numbered;
    syncing = syncing_push σ w.since w.pool w.up w.done w.disk w.trying w.holder w.ended w.serving (Synced a t) i.syncing (may.2, may.3);
    follows = i.follows;
    tearing = i.tearing;
    durable = i.durable;
    executed = i.executed;
    marking = i.marking;
    holding = i.holding;
    messages = λ p m. ⊎_elim (λ (e : p ≡ Synced a t). subst (Means σ.targets w) (sym e) (i.messages (Sync a t k) may.0, λ trying. (may.2, λ n l on. may.3 n (all_done σ w i t a may.1 trying (λ b h. ap (λ (x : Attempt). x.who) (some_same b a (sym h ∙ may.2))) n l on)))) (λ (h : IsIn p w.pool). i.messages p h) m;
  }

  -- t lets go, and no attempt that stays current holds it
  lets_go : (w : World) → Invariant σ.targets w → (t : ℕ) (trying' : ℕ → Option Attempt) (ended' : ℕ → ℕ → ℕ)
      → ((m : ℕ) (b : Attempt) → trying' m ≡ Some b → w.trying m ≡ Some b)
      → ((b : Attempt) → trying' (b.who.master) ≡ Some b → w.holder t ≢ Some b)
      → Each (λ n x. is_on x t ≡ true → w.up t ≡ true → w.holder t ≡ Some x.attempt → IsIn n (w.done t)) w.since
      → ((s m : ℕ) → w.ended s m ≤ ended' s m)
      → ((b : Attempt) → w.holder t ≡ Some b → b.turn ≤ ended' t b.who.master)
      → ((b : Attempt) (s k : ℕ) → IsIn (Sync b s k) w.pool → w.trying b.who.master ≡ Some b → (trying' b.who.master ≡ Some b) ⊎ ((w.up s ≡ false) ⊎ IsIn (Synced b s) w.pool))
      → Invariant σ.targets (record w { holder = put w.holder t None; ended = ended'; trying = trying' })
  lets_go w i t trying' ended' less free none more outs goes = record {
    grounded = i.grounded;
    numbered = i.numbered;
    syncing = syncing_more σ w.since w.pool w.up w.up w.done w.done w.disk w.disk w.trying trying' w.holder (put w.holder t None) w.ended ended' w.serving w.serving (record {
      downs = λ s d. d;
      ups = λ s u. u;
      serves = λ e. e;
      goes = λ b s k m on c. goes b s k m c;
      holds = λ b s u h sub. put_at (λ s x. w.holder s ≡ Some b → ((x ≡ Some b) × ((n : ℕ) → IsIn n (w.done s) → IsIn n (w.disk s))) ⊎ ((x ≢ Some b) × (b.turn ≤ ended' s b.who.master))) w.holder t None s (λ h. inr (none_some b, outs b h)) (λ d h. inl (h, sub)) h;
      never = λ b s m u out le. put_at (λ s x. w.holder s ≢ Some b → x ≢ Some b) w.holder t None s (λ z. none_some b) (λ d z. z) out;
      ends = more;
      stays = λ b s q k c f m is u h old n g. old h n g;
      back = λ b s q k c f m is. less _ _ is;
    }) i.syncing;
    follows = i.follows;
    tearing = i.tearing;
    durable = i.durable;
    executed = i.executed;
    marking = i.marking;
    holding = record {
      waits = λ n l s u on. put_at (λ s h. w.up s ≡ true → is_on (at w.since n) s ≡ true → IsIn n (w.done s) ⊎ (h ≡ Some (at w.since n).attempt)) w.holder t None s
          (λ u on. ⊎_elim (λ h. inl h) (λ e. inl (none n l on u e)) (i.holding.waits n l t u on)) (λ d u on. i.holding.waits n l s u on) u on;
      once = λ n l s u h. let old = i.holding.once n l s u h in
          (put_at (λ s x. w.holder s ≢ Some (at w.since n).attempt → x ≢ Some (at w.since n).attempt) w.holder t None s (λ d e. none_some _ e) (λ d q. q) old.0, le_trans old.1 (more s _));
      over = λ n l. ((i.holding.over n l).0, λ e. (i.holding.over n l).1 (less _ _ e));
      distinct = i.holding.distinct;
      current = λ m b e. let c : Current σ.targets w.base w.since w.up w.holder w.turns m b = i.holding.current m b (less m b e) in
          record {
            is_home = c.is_home;
            last_turn = c.last_turn;
            at_home = c.at_home;
            newest = c.newest;
            not_yet = c.not_yet;
            holds = put_at (λ m x. trying' m ≡ Some b → b.who.master ≡ m → w.holder m ≡ Some b → x ≡ Some b) w.holder t None m (λ e q h. absurd (free b (subst (λ x. trying' x ≡ Some b) (sym q) e) h)) (λ d e q h. h) e c.is_home c.holds;
          };
    };
    messages = λ p m. says_more σ w.base w.since w.disk w.disk w.holder (put w.holder t None) w.trying trying' w.turns w.turns w.batches w.batches w.kept_mark w.kept_mark
        (record {
          disks = λ t n h. h;
          turn = λ m. le_refl _;
          batch = λ m. le_refl _;
          marks = λ m. le_refl _;
          back = λ a l e. less _ _ e;
          holds = λ b s l e h. put_at (λ s x. w.holder s ≡ Some b → x ≡ Some b) w.holder t None s (λ h. absurd (free b e h)) (λ d h. h) h;
        }) p (i.messages p m);
  }

  pub keeps_release : (w : World) → Invariant σ.targets w → (a : Attempt) (t : ℕ) → May σ.targets w (Release_comes a t) → Invariant σ.targets (happens w (Release_comes a t))
  keeps_release w i a t may =
      let says = i.messages (Release a t) may.0 in
      lets_go w i t w.trying (put_two w.ended t a.who.master (max (w.ended t a.who.master) a.turn)) (λ m b e. e)
      (λ b e h. let q : a ≡ b = some_same a b (sym may.2 ∙ h) in says.1 (subst (λ (b : Attempt). w.trying (b.who.master) ≡ Some b) (sym q) e))
      (λ n l on u h. absurd (let q : (at w.since n).attempt ≡ a = some_same _ _ (sym h ∙ may.2) in let z = says.2 n l q in grind arith))
      (ended_more w.ended t a.who.master a.turn)
      (λ b h. let q : a ≡ b = some_same a b (sym may.2 ∙ h) in subst (λ (b : Attempt). b.turn ≤ put_two w.ended t a.who.master (max (w.ended t a.who.master) a.turn) t b.who.master) q
      (subst (λ v. a.turn ≤ v) (sym (put_two_same w.ended t a.who.master (max (w.ended t a.who.master) a.turn))) (omega arith)))
      (λ b s k m c. inl c)

  -- an item is no item of a current attempt
  pub not_current : (w : World) → Invariant σ.targets w → (m : ℕ) (a : Attempt) → w.trying m ≡ Some a → Each (λ n x. x.attempt ≢ a) w.since
  not_current w i m a trying n l e =
      let c : Current σ.targets w.base w.since w.up w.holder w.turns m a = i.holding.current m a trying in c.not_yet n l (ap (λ (x : Attempt). x.who) e)

  pub keeps_give_up : (w : World) → Invariant σ.targets w → (m : ℕ) (a : Attempt) → May σ.targets w (Give_up m a) → Invariant σ.targets (happens w (Give_up m a))
  keeps_give_up w i m a may =
      let trying = may.0 in
      let c : Current σ.targets w.base w.since w.up w.holder w.turns m a = i.holding.current m a trying in
      lets_go w i m (put w.trying m None) (put_two w.ended m m (max (w.ended m m) a.turn)) (λ s b e. (none_less w.trying m s b e).1)
      (λ b e h. let q : a ≡ b = some_same a b (sym c.holds ∙ h) in (none_less w.trying m _ b e).0 (subst (λ (b : Attempt). b.who.master ≡ m) q c.is_home))
      (λ n l on u h. absurd (not_current w i m a trying n l (some_same _ _ (sym h ∙ c.holds))))
      (ended_more w.ended m m a.turn)
      (λ b h. let q : a ≡ b = some_same a b (sym c.holds ∙ h) in subst (λ (b : Attempt). b.turn ≤ put_two w.ended m m (max (w.ended m m) a.turn) m b.who.master) q
      (subst (λ j. a.turn ≤ put_two w.ended m m (max (w.ended m m) a.turn) m j) (sym c.is_home) (subst (λ v. a.turn ≤ v) (sym (put_two_same w.ended m m (max (w.ended m m) a.turn))) (omega arith))))
      (λ b s k mem e. elim (eqb_tells b.who.master m) [
        | inl r ↦ let q : a ≡ b = some_same a b (sym trying ∙ subst (λ j. w.trying j ≡ Some b) r.1 e) in inr (subst (λ b. (w.up s ≡ false) ⊎ IsIn (Synced b s) w.pool) q (may.1 s k (subst (λ b. IsIn (Sync b s k) w.pool) (sym q) mem)))
        | inr r ↦ inl (put_at (λ j x. j ≢ m → w.trying j ≡ Some b → x ≡ Some b) w.trying m None b.who.master (λ z e. absurd (z refl)) (λ d z e. e) r.1 e)
      ])

  pub keeps_ask : (w : World) → Invariant σ.targets w → (who : Who) → May σ.targets w (Ask who) → Invariant σ.targets (happens w (Ask who))
  keeps_ask w i who may =
      let h : ℕ = who.master in
      let a : Attempt = record { who = who; turn = suc (w.turns h) } in
      -- nothing waits at the home, so its seats are those of the history
      let all : Each (λ n x. is_on x h ≡ true → IsIn n (w.done h)) w.since = λ n l on. ⊎_elim (λ g. g) (λ (e : w.holder h ≡ Some (at w.since n).attempt). absurd (none_some _ (sym may.1 ∙ e))) (i.holding.waits n l h may.0 on) in
      let new : is_read who.request.op ≡ false → Newest σ.targets (after_items w.base w.since) who.request = λ r. passes σ.targets (after_items w.base w.since) who.request h (ordered_after σ.targets w.base w.since i.grounded.ordered i.follows) may.2
      (subst (λ (s : Share). IsBelow (get s.seats who.request.client) who.request.number) (share_made σ w i h may.3 all) (may.4 r)) in
      let fresh : Each (λ n x. x.attempt.who ≢ who) w.since = λ n l e.
      let same : request_of (at w.since n) ≡ who.request = ap (λ (y : Who). y.request) e in
      not_newest σ.targets w.base w.since i.follows who.request (new (subst (λ (r : Request). is_read r.op ≡ false) same (changes_at σ.targets w.base w.since i.follows n l))) n l same in
      let turns' : ℕ → ℕ = put w.turns h (suc (w.turns h)) in
      let trying' : ℕ → Option Attempt = put w.trying h (Some a) in
      let holder' : ℕ → Option Attempt = put w.holder h (Some a) in
      let turn : (m : ℕ) → w.turns m ≤ turns' m = λ m. put_at (λ m x. w.turns m ≤ x) w.turns h (suc (w.turns h)) m (omega arith) (λ d. le_refl _) in
      -- an attempt that was there before is current only where it was
      let back : (m : ℕ) (b : Attempt) → b.turn ≤ w.turns m → trying' m ≡ Some b → (m ≢ h) × (w.trying m ≡ Some b) = λ m b. put_at (λ m x. b.turn ≤ w.turns m → x ≡ Some b → (m ≢ h) × (w.trying m ≡ Some b)) w.trying h (Some a) m
      (λ l e. let q : suc (w.turns h) ≡ b.turn = ap (λ (x : Attempt). x.turn) (some_same a b e) in absurd (omega (arith, q, l))) (λ d l e. (d, e)) in
      let holds : (b : Attempt) (s : ℕ) → w.holder s ≡ Some b → holder' s ≡ Some b = λ b s. put_at (λ s x. w.holder s ≡ Some b → x ≡ Some b) w.holder h (Some a) s
      (λ e. absurd (none_some b (sym may.1 ∙ e))) (λ d e. e) in
      record {
        grounded = i.grounded;
        numbered = i.numbered;
        syncing = syncing_more σ w.since w.pool w.up w.up w.done w.done w.disk w.disk w.trying trying' w.holder holder' w.ended w.ended w.serving w.serving (record {
          downs = λ s d. d;
          ups = λ s u. u;
          serves = λ e. e;
          goes = λ b s k m on c. inl (put_at (λ j x. w.trying j ≡ Some b → x ≡ Some b) w.trying h (Some a) b.who.master (λ e. absurd (none_some b (sym may.1 ∙ (i.holding.current h b e).holds))) (λ d e. e) c);
          holds = λ b s u g sub. inl (holds b s g, sub);
          never = λ b s m u out le. put_at (λ s y. w.holder s ≢ Some b → y ≢ Some b) w.holder h (Some a) s
              (λ z e. let same : a ≡ b = some_same a b e in let said : b.turn ≤ w.turns b.who.master = (i.messages (Synced b s) m).0 in
              absurd (let old : a.turn ≤ w.turns a.who.master = subst (λ (b : Attempt). b.turn ≤ w.turns b.who.master) (sym same) said in omega (arith, old)))
              (λ d z. z) out;
          ends = λ s m. le_refl _;
          stays = λ b s q k c f m is u h old n g. old h n g;
          back = λ b s q k c f m is. (back _ b (i.messages (Held b s q (Some k) c f) m).0 is).1;
        }) i.syncing;
        follows = i.follows;
        tearing = i.tearing;
        durable = i.durable;
        executed = i.executed;
        marking = i.marking;
        holding = record {
          waits = λ n l s u on. ⊎_elim (λ h. inl h) (λ (e : w.holder s ≡ Some (at w.since n).attempt). inr (holds _ s e)) (i.holding.waits n l s u on);
          once = λ n l s u d. let old = i.holding.once n l s u d in
              (put_at (λ s x. w.holder s ≢ Some (at w.since n).attempt → x ≢ Some (at w.since n).attempt) w.holder h (Some a) s (λ q e. fresh n l (ap (λ (x : Attempt). x.who) (sym (some_same a _ e)))) (λ d q. q) old.0, old.1);
          over = λ n l. let old = i.holding.over n l in (le_trans old.0 (turn _), λ e. old.1 (back _ _ old.0 e).1);
          distinct = i.holding.distinct;
          current = λ m b e. elim (eqb_tells m h) [
            | inl q ↦ let s : a ≡ b = some_same a b (sym (put_same w.trying h (Some a)) ∙ subst (λ m. trying' m ≡ Some b) q.1 e) in
                subst (λ b. Current σ.targets w.base w.since w.up holder' turns' m b) s (subst (λ m. Current σ.targets w.base w.since w.up holder' turns' m a) (sym q.1)
                (record { is_home = refl; last_turn = sym (put_same w.turns h (suc (w.turns h))); holds = put_same w.holder h (Some a); not_yet = fresh; at_home = may.2; newest = new }))
            | inr q ↦ let e' : w.trying m ≡ Some b = put_at (λ m x. m ≢ h → x ≡ Some b → w.trying m ≡ Some b) w.trying h (Some a) m (λ d e. absurd (d refl)) (λ d x e. e) q.1 e in
                let c : Current σ.targets w.base w.since w.up w.holder w.turns m b = i.holding.current m b e' in
                record {
                  is_home = c.is_home;
                  not_yet = c.not_yet;
                  holds = holds b m c.holds;
                  at_home = c.at_home;
                  newest = c.newest;
                  last_turn = put_at (λ m x. m ≢ h → b.turn ≡ w.turns m → b.turn ≡ x) w.turns h (suc (w.turns h)) m (λ d e. absurd (d refl)) (λ d x e. e) q.1 c.last_turn;
                }
          ];
        };
        messages = λ p m. says_more σ w.base w.since w.disk w.disk w.holder holder' w.trying trying' w.turns turns' w.batches w.batches w.kept_mark w.kept_mark
            (record { disks = λ t n h. h; turn = turn; batch = λ m. le_refl _; marks = λ m. le_refl _; back = λ b l e. (back _ b l e).1; holds = λ b s l e h. holds b s h }) p (i.messages p m);
      }

  pub keeps_execute : (w : World) → Invariant σ.targets w → (n t : ℕ) → May σ.targets w (Execute_comes n t) → Invariant σ.targets (happens w (Execute_comes n t))
  keeps_execute w i n t may =
      let says = i.messages (Execute n t) may.0 in
      let x : Accepted = at w.since n in
      let done' : ℕ → List ℕ = put w.done t (w.done t ++ n ∷ []) in
      let fresh : IsIn n (w.done t) → ⊥ = λ h. (i.holding.once n says.0 t may.1 h).0 may.2 in
      -- what t executed stands before n
      let below : (k : ℕ) → IsIn k (w.done t) → k < n = λ k h. let known = i.executed.known_done t k h in
      elim (eqb_tells k n) [
        | inl q ↦ absurd (fresh (subst (λ k. IsIn k (w.done t)) q.1 h))
        | inr q ↦ ⊎_elim (λ (lt : k < n). lt) (λ (gt : n < k). absurd (fresh (i.executed.one_waits n k gt known.0 t may.1 says.1 known.1))) (let ne : k ≢ n = q.1 in grind arith)
      ] in
      let grows : (s k : ℕ) → IsIn k (w.done s) → IsIn k (done' s) = λ s k. put_at (λ s l. IsIn k (w.done s) → IsIn k l) w.done t (w.done t ++ n ∷ []) s (mem_left (w.done t) n k) (λ d h. h) in
      let was : (s k : ℕ) → IsIn k (done' s) → IsIn k (w.done s) ⊎ ((s ≡ t) × (k ≡ n)) = λ s k. put_at (λ s l. IsIn k l → IsIn k (w.done s) ⊎ ((s ≡ t) × (k ≡ n))) w.done t (w.done t ++ n ∷ []) s
      (λ h. ⊎_elim (λ g. inl g) (λ (e : k ≡ n). inr (refl, e)) (mem_push (w.done t) n k h)) (λ d h. inl h) in
      let ended' : ℕ → ℕ → ℕ = put_two w.ended t (master x) (max (w.ended t (master x)) x.attempt.turn) in
      let more : (s m : ℕ) → w.ended s m ≤ ended' s m = ended_more w.ended t (master x) x.attempt.turn in
      let free : (m : ℕ) (b : Attempt) → w.trying m ≡ Some b → (s : ℕ) → w.holder s ≡ Some b → put w.holder t None s ≡ Some b = λ m b trying s. put_at (λ s y. w.holder s ≡ Some b → y ≡ Some b) w.holder t None s
      (λ e. absurd (not_current w i m b trying n says.0 (some_same _ _ (sym may.2 ∙ e)))) (λ d e. e) in
      record {
        grounded = i.grounded;
        numbered = i.numbered;
        syncing = syncing_more σ w.since w.pool w.up w.up w.done done' w.disk w.disk w.trying w.trying w.holder (put w.holder t None) w.ended ended' w.serving w.serving (record {
          downs = λ s d. d;
          ups = λ s u. u;
          serves = λ e. e;
          goes = λ b s k m on c. inl c;
          holds = λ b s u h sub. elim (eqb_tells s t) [
            | inl r ↦ let same : x.attempt ≡ b = some_same _ _ (sym may.2 ∙ subst (λ s. w.holder s ≡ Some b) r.1 h) in
                inr (
                  subst (λ s. put w.holder t None s ≢ Some b) (sym r.1) (subst (λ y. y ≢ Some b) (sym (put_same w.holder t None)) (none_some b)),
                  subst (λ s. b.turn ≤ ended' s b.who.master) (sym r.1) (subst (λ (b : Attempt). b.turn ≤ ended' t b.who.master) same
                      (subst (λ v. x.attempt.turn ≤ v) (sym (put_two_same w.ended t (master x) (max (w.ended t (master x)) x.attempt.turn))) (omega arith))),
                )
            | inr r ↦ inl (
              put_at (λ s y. s ≢ t → w.holder s ≡ Some b → y ≡ Some b) w.holder t None s (λ z e. absurd (z refl)) (λ d z e. e) r.1 h,
              λ k g. ⊎_elim (λ (o : IsIn k (w.done s)). sub k o) (λ (z : (s ≡ t) × (k ≡ n)). absurd (r.1 z.0)) (was s k g),
            )
          ];
          ends = more;
          never = λ b s m u out le. put_at (λ s y. w.holder s ≢ Some b → y ≢ Some b) w.holder t None s (λ z. none_some b) (λ d z. z) out;
          stays = λ b s q k c f m is u h old j g. ⊎_elim (λ (o : IsIn j (w.done s)). old h j o)
              (λ (z : (s ≡ t) × (j ≡ n)). absurd (not_current w i b.who.master b is n says.0 (some_same _ _ (sym may.2 ∙ subst (λ s. w.holder s ≡ Some b) z.0 ((i.messages (Held b s q (Some k) c f) m).2 is).0)))) (was s j g);
          back = λ b s q k c f m is. is;
        }) i.syncing;
        follows = i.follows;
        tearing = i.tearing;
        durable = i.durable;
        marking = i.marking;
        executed = record {
          in_order = λ s. put_at (λ s l. Rising l) w.done t (w.done t ++ n ∷ []) s (rising_push (w.done t) n (i.executed.in_order t) below) (λ d. i.executed.in_order s);
          has = λ s k h. grows s k (i.executed.has s k h);
          known_done = λ s k h. ⊎_elim (λ (g : IsIn k (w.done s)). i.executed.known_done s k g) (λ (q : (s ≡ t) × (k ≡ n)). subst (λ k. (k < length w.since) × (is_on (at w.since k) s ≡ true)) (sym q.1) (subst (λ s. (n < length w.since) × (is_on x s ≡ true)) (sym q.0) says)) (was s k h);
          one_waits = λ a b o l s u p q. grows s a (i.executed.one_waits a b o l s u p q);
          down_done = λ s k d h. ⊎_elim (λ (g : IsIn k (w.done s)). i.executed.down_done s k d g) (λ (q : (s ≡ t) × (k ≡ n)). absurd (true≢false (sym may.1 ∙ subst (λ s. w.up s ≡ false) q.0 d))) (was s k h);
          home_done = λ k l u. grows (master (at w.since k)) k (i.executed.home_done k l u);
          clocked = λ s k. put_at (λ s c. w.up s ≡ true → IsIn k (done' s) → (at w.since k).stamp ≤ c) w.clock t x.stamp s
              (λ u h. ⊎_elim (λ (g : IsIn k (w.done t)). le_of_lt (i.durable.stamps k n (below k g) says.0 t (i.executed.known_done t k g).1 says.1)) (λ (q : (t ≡ t) × (k ≡ n)). subst (λ j. (at w.since k).stamp ≤ (at w.since j).stamp) q.1 (le_refl _)) (was t k h))
              (λ d u h. ⊎_elim (λ (g : IsIn k (w.done s)). i.executed.clocked s k u g) (λ (q : (s ≡ t) × (k ≡ n)). absurd (d q.0)) (was s k h));
        };
        holding = record {
          waits = λ k l s u on. ⊎_elim (λ (h : IsIn k (w.done s)). inl (grows s k h))
              (λ (e : w.holder s ≡ Some (at w.since k).attempt). put_at (λ s y. w.holder s ≡ Some (at w.since k).attempt → IsIn k (done' s) ⊎ (y ≡ Some (at w.since k).attempt)) w.holder t None s
              (λ e. let q : x.attempt ≡ (at w.since k).attempt = some_same _ _ (sym may.2 ∙ e) in
              elim (eqb_tells k n) [
                | inl r ↦ inl (subst (λ l. IsIn k l) (sym (put_same w.done t (w.done t ++ n ∷ []))) (subst (λ j. IsIn j (w.done t ++ n ∷ [])) (sym r.1) (mem_last (w.done t) n)))
                | inr r ↦ absurd (⊎_elim (λ (lt : k < n). i.holding.distinct k n lt says.0 (ap (λ (b : Attempt). b.who) (sym q))) (λ (gt : n < k). i.holding.distinct n k gt l (ap (λ (b : Attempt). b.who) q)) (let ne : k ≢ n = r.1 in grind arith))
              ])
              (λ d e. inr e) e)
              (i.holding.waits k l s u on);
          once = λ k l s u h. (
            put_at (λ s y. IsIn k (done' s) → w.up s ≡ true → y ≢ Some (at w.since k).attempt) w.holder t None s (λ h u e. none_some _ e)
                (λ d h u. ⊎_elim (λ (g : IsIn k (w.done s)). (i.holding.once k l s u g).0) (λ (q : (s ≡ t) × (k ≡ n)). absurd (d q.0)) (was s k h)) h u,
            ⊎_elim (λ (g : IsIn k (w.done s)). le_trans (i.holding.once k l s u g).1 (more s _))
                (λ (q : (s ≡ t) × (k ≡ n)). subst (λ k. (at w.since k).attempt.turn ≤ ended' s (master (at w.since k))) (sym q.1) (subst (λ s. x.attempt.turn ≤ ended' s (master x)) (sym q.0)
                (subst (λ f. x.attempt.turn ≤ f (master x)) (sym (put_same w.ended t (put (w.ended t) (master x) (max (w.ended t (master x)) x.attempt.turn))))
                (subst (λ y. x.attempt.turn ≤ y) (sym (put_same (w.ended t) (master x) (max (w.ended t (master x)) x.attempt.turn))) (omega arith))))) (was s k h),
          );
          over = i.holding.over;
          distinct = i.holding.distinct;
          current = λ m b e. let c : Current σ.targets w.base w.since w.up w.holder w.turns m b = i.holding.current m b e in
              record { is_home = c.is_home; last_turn = c.last_turn; at_home = c.at_home; newest = c.newest; not_yet = c.not_yet; holds = free m b e m c.holds };
        };
        messages = λ p m. says_more σ w.base w.since w.disk w.disk w.holder (put w.holder t None) w.trying w.trying w.turns w.turns w.batches w.batches w.kept_mark w.kept_mark
            (record { disks = λ t n h. h; turn = λ m. le_refl _; batch = λ m. le_refl _; marks = λ m. le_refl _; back = λ a l e. e; holds = λ b s l e h. free _ b e s h }) p (i.messages p m);
      }
