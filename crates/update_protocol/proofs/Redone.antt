-- Redo completes each target by the kept records that it lacks, in the order of the history.
use Rattle.std.proofs.Common.{Bool, List, [], ap, arith, false, inl, inr, le_trans, length, refl, subst, sym, true, true≢false, zero-add, ℕ, ⊎_elim, ◌++◌, ◌<◌, ◌∙◌, ◌∷◌, ◌≡◌, ◌≤◌, ◌⊎◌}
use Rattle.std.proofs.lemmas.Bool.Decides.{eqb_tells}
use Rattle.update_protocol.proofs.Basics.{put_at}
use Rattle.update_protocol.proofs.Invariant.{Invariant}
use Rattle.update_protocol.proofs.Kept.{both, kept_legal, kept_made, kept_on}
use Rattle.update_protocol.proofs.Keys.{depends_leads}
use Rattle.update_protocol.proofs.Setting.{Setting}
use Rattle.update_protocol.proofs.Shares.{member_in, member_of, places_from, places_rising, rising_same}
use Rattle.update_protocol.proofs.Sharing.{leads_safe}
use Rattle.update_protocol.specs.Lists.{IsIn, Rising, put}
use Rattle.update_protocol.specs.Recovery.{ByStamp, Gathered, Redo, kept_items}
use Rattle.tree_shares.specs.Seats.{share_of}
use Rattle.update_protocol.specs.World.{Accepted, Covers, Each, Follows, History, Named, World, after_items, at, is_on, made, master}

pub mem_append : (xs ys : List ℕ) (n : ℕ) → IsIn n (xs ++ ys) → IsIn n xs ⊎ IsIn n ys
mem_append [] ys n h = inr h
mem_append (x ∷ xs) ys n (inl e) = inl (inl e)
mem_append (x ∷ xs) ys n (inr h) = ⊎_elim (λ a. inl (inr a)) (λ b. inr b) (mem_append xs ys n h)

pub mem_front : (xs ys : List ℕ) (n : ℕ) → IsIn n xs → IsIn n (xs ++ ys)
mem_front [] ys n h = absurd h
mem_front (x ∷ xs) ys n (inl e) = inl e
mem_front (x ∷ xs) ys n (inr h) = inr (mem_front xs ys n h)

pub mem_back : (xs ys : List ℕ) (n : ℕ) → IsIn n ys → IsIn n (xs ++ ys)
mem_back [] ys n h = h
mem_back (x ∷ xs) ys n h = inr (mem_back xs ys n h)

pub mem_tells : (n : ℕ) (xs : List ℕ) → IsIn n xs ⊎ (IsIn n xs → ⊥)
mem_tells n [] = inr (λ h. h)
mem_tells n (x ∷ xs) = elim (eqb_tells n x) [
  | inl q ↦ inl (inl q.1)
  | inr q ↦ ⊎_elim (λ (h : IsIn n xs). inl (inr h)) (λ (f : IsIn n xs → ⊥). inr (λ g. ⊎_elim q.1 f g)) (mem_tells n xs)
]

pub rising_append : (xs ys : List ℕ) → Rising xs → Rising ys → ((a b : ℕ) → IsIn a xs → IsIn b ys → a < b) → Rising (xs ++ ys)
rising_append [] ys r q below = q
rising_append (x ∷ xs) ys r q below = (
  (λ n h. ⊎_elim (λ (g : IsIn n xs). r.0 n g) (λ (g : IsIn n ys). below x n (inl refl) g) (mem_append xs ys n h)),
  rising_append xs ys r.1 q (λ a b h. below a b (inr h)),
)

apart : (n m : ℕ) → (n ≡ m → ⊥) → (n < m) ⊎ (m < n)
apart n m ne = grind arith

le_or : (n m : ℕ) → (n ≤ m) ⊎ (m < n)
le_or n m = grind arith

module _ (σ : Setting) where
  module _ (base : History) (since : List Accepted) (disk : ℕ → List ℕ) (mark : ℕ → ℕ) (gone : ℕ → List ℕ) (kept : ℕ → Bool) (g : Gathered σ.targets base since disk mark gone kept) where
    by_stamp_rising : (t : ℕ) (extra : List ℕ) → ByStamp since extra → ((n : ℕ) → IsIn n extra → (n < length since) × (is_on (at since n) t ≡ true)) → Rising extra
    by_stamp_rising t [] order on = tt
    by_stamp_rising t (n ∷ ns) order on = (
      (λ m h. ⊎_elim (λ (lt : n < m). lt) (λ (gt : m < n). absurd (let a = g.stamps m n gt (on n (inl refl)).0 t (on m (inr h)).1 (on n (inl refl)).1 in let b = order.0 m h in omega (arith, a, b)))
          (apart n m (λ e. order.1 m h (sym e)))),
      by_stamp_rising t ns order.2 (λ m h. on m (inr h)),
    )

    module _ (t : ℕ) (extra : List ℕ) (redo : Redo since disk mark gone t extra) where
      extra_is : (n : ℕ) → IsIn n extra → (n < length since) × (is_on (at since n) t ≡ true) × (kept n ≡ true) × (IsIn n (disk t) → ⊥)
      extra_is n h =
          let q = redo.only n h in
          let known = g.known q.0.0.0 n q.0.0.1.0 in (
            known.0,
            q.1,
            (g.named n known.0).1 (q.0.0.0, q.0.0.1.0),
            λ here. q.2 (here, λ c. let a = (g.cancelled t n c).1 in let b = q.0.1 in omega (arith, a, b)),
          )

      pub redone_is : (n : ℕ) → IsIn n (disk t ++ extra) → (n < length since) × (is_on (at since n) t ≡ true) × (kept n ≡ true)
      redone_is n h = ⊎_elim
          (λ (a : IsIn n (disk t)). let k = g.known t n a in (k.0, k.1, (g.named n k.0).1 (t, a)))
          (λ (b : IsIn n extra). let k = extra_is n b in (k.0, k.1, k.2)) (mem_append (disk t) extra n h)

      pub redone_all : (n : ℕ) → n < length since → kept n ≡ true → is_on (at since n) t ≡ true → IsIn n (disk t ++ extra)
      redone_all n l k on = ⊎_elim (λ (h : IsIn n (disk t)). mem_front (disk t) extra n h)
          (λ (lacks : IsIn n (disk t) → ⊥). let named = (g.named n l).0 k in ⊎_elim
          (λ (le : (at since n).batch ≤ mark (master (at since n))). absurd (lacks (g.under n l le t on)))
          (λ (above : mark (master (at since n)) < (at since n).batch). mem_back (disk t) extra n (redo.all n l
          ((named.0, (named.1, λ c. let a = (g.cancelled named.0 n c).1 in omega (arith, a, above))), above) on (λ live. lacks live.0)))
          (le_or (at since n).batch (mark (master (at since n)))))
          (mem_tells n (disk t))

      -- exactly the kept items that name t and that t doesn't name, in the order of the history
      pub redo_exact : Rising extra × ((n : ℕ) → (IsIn n extra → (n < length since) × (is_on (at since n) t ≡ true) × (kept n ≡ true) × (IsIn n (disk t) → ⊥))
          × (n < length since → is_on (at since n) t ≡ true → kept n ≡ true → (IsIn n (disk t) → ⊥) → IsIn n extra))
      redo_exact = (
        by_stamp_rising t extra redo.order (λ n h. let k = extra_is n h in (k.0, k.1)),
        λ n. (extra_is n, λ l on k lacks. ⊎_elim (λ (h : IsIn n (disk t)). absurd (lacks h)) (λ h. h) (mem_append (disk t) extra n (redone_all n l k on))),
      )

      pub redone_rising : Rising (disk t ++ extra)
      redone_rising = rising_append (disk t) extra (g.rising t) (by_stamp_rising t extra redo.order (λ n h. let k = extra_is n h in (k.0, k.1)))
          (λ a b h q. let k = extra_is b q in let old = g.known t a h in ⊎_elim (λ (lt : a < b). lt)
          (λ (gt : b < a). absurd (k.3 (g.prefix b a gt old.0 t h k.2 k.1)))
          (apart a b (λ e. k.3 (subst (λ n. IsIn n (disk t)) e h))))

      -- so a later recovery, after any stop, starts from the same kept items
      pub redone_gathered : Gathered σ.targets base since (put disk t (disk t ++ extra)) mark gone kept
      redone_gathered =
          let more : (s n : ℕ) → IsIn n (disk s) → IsIn n (put disk t (disk t ++ extra) s) = λ s n. put_at (λ s l. IsIn n (disk s) → IsIn n l) disk t (disk t ++ extra) s (mem_front (disk t) extra n) (λ d h. h) in
          record {
            named = λ n l. (
              (λ k. let d = (g.named n l).0 k in (d.0, more d.0 n d.1)),
              λ named. put_at (λ s xs. IsIn n xs → kept n ≡ true) disk t (disk t ++ extra) named.0 (λ h. (redone_is n h).2) (λ d h. (g.named n l).1 (named.0, h)) named.1,
            );
            rising = λ s. put_at (λ s xs. Rising xs) disk t (disk t ++ extra) s redone_rising (λ d. g.rising s);
            known = λ s n. put_at (λ s xs. IsIn n xs → (n < length since) × (is_on (at since n) s ≡ true)) disk t (disk t ++ extra) s (λ h. let k = redone_is n h in (k.0, k.1)) (λ d. g.known s n);
            prefix = λ n m o l s. put_at (λ s xs. IsIn m xs → kept n ≡ true → is_on (at since n) s ≡ true → IsIn n xs) disk t (disk t ++ extra) s
                (λ h k on. redone_all n (omega (arith, o, l)) k on) (λ d. g.prefix n m o l s);
            stamps = g.stamps;
            under = λ n l le s on. more s n (g.under n l le s on);
            cancelled = g.cancelled;
            closed = g.closed;
          }

    -- once each target has all kept items that name it
    pub complete : ((t n : ℕ) → n < length since → kept n ≡ true → is_on (at since n) t ≡ true → IsIn n (disk t)) → Follows σ.targets base since
        → Follows σ.targets base (kept_items kept 0 since) × ((t : ℕ) → t < σ.targets → made σ.targets since t (disk t) (share_of σ.targets base t) ≡ share_of σ.targets (after_items base (kept_items kept 0 since)) t)
    complete all f =
        let legal = kept_legal σ.targets σ.laws kept base since g.closed f in (
          legal,
          λ t lt.
              let test : ℕ → Accepted → Bool = kept_on σ.targets σ.laws kept t in
              let both_true : (n : ℕ) → kept n ≡ true → is_on (at since n) t ≡ true → test n (at since n) ≡ true = λ n k on. subst (λ b. both b (is_on (at since n) t) ≡ true) (sym k) on in
              let same : disk t ≡ places_from test 0 since = rising_same (disk t) (places_from test 0 since) (g.rising t) (places_rising test since 0)
              (λ n h. let k = g.known t n h in subst (λ m. IsIn m (places_from test 0 since)) (zero-add n) (member_in test since 0 n k.0 (subst (λ j. test j (at since n) ≡ true) (sym (zero-add n)) (both_true n ((g.named n k.0).1 (t, h)) k.1))))
              (λ n h. let m = member_of test since 0 n h in let e : n ≡ m.0 = m.1 ∙ zero-add m.0 in
              let q : both (kept n) (is_on (at since n) t) ≡ true = subst (λ j. both (kept n) (is_on (at since j) t) ≡ true) (sym e) m.3 in
              let p = both_parts (kept n) (is_on (at since n) t) q in
              all t n (subst (λ k. k < length since) (sym e) m.2) p.0 p.1) in
              ap (λ l. made σ.targets since t l (share_of σ.targets base t)) same ∙ kept_made σ.targets σ.laws kept since base t 0 lt legal since (λ j l. ap (at since) (zero-add j)),
        )
      where
        both_parts : (a b : Bool) → both a b ≡ true → (a ≡ true) × (b ≡ true)
        both_parts true b e = (refl, e)
        both_parts false b e = absurd (true≢false (sym e))

  -- from a run of the cluster: everything that its targets still have is committed
  pub gathered : (w : World) → Invariant σ.targets w → (kept : ℕ → Bool) → Each (λ n a. (kept n ≡ true → Named w.disk n) × (Named w.disk n → kept n ≡ true)) w.since
      → Gathered σ.targets w.base w.since w.disk w.kept_mark w.kept_gone kept
  gathered w i kept named = record {
    named = named;
    rising = i.durable.rising;
    known = i.durable.known;
    stamps = i.durable.stamps;
    under = i.durable.under;
    cancelled = i.durable.cancelled;
    prefix = λ n m o l t h k on. i.durable.prefix n m o l t h on;
    closed = λ n m d k.
        let bound : n < length w.since = let a = d.before in let b = d.inside in omega (arith, a, b) in
        (named n bound).1 (⊎_elim (λ (h : Named w.disk n). h)
        (λ (covers : Covers (at w.since n) (at w.since m)). let r = (named m d.inside).0 k in (r.0, i.durable.prefix n m d.before d.inside r.0 r.1 (covers r.0 (i.durable.known r.0 m r.1).1)))
        (leads_safe σ w i.durable n m (depends_leads σ w i.follows n m d)));
  }

  -- So it is from what masters and targets have in memory, where a mark or a cancelled record may not be committed yet.
  pub gathered_now : (w : World) → Invariant σ.targets w → (kept : ℕ → Bool) → Each (λ n a. (kept n ≡ true → Named w.disk n) × (Named w.disk n → kept n ≡ true)) w.since
      → Gathered σ.targets w.base w.since w.disk w.mark w.gone kept
  gathered_now w i kept named =
      let g = gathered w i kept named in
      record {
        named = g.named;
        rising = g.rising;
        known = g.known;
        stamps = g.stamps;
        prefix = g.prefix;
        closed = g.closed;
        under = i.marking.marked;
        cancelled = λ t n h. let d = i.marking.dropped t n h in (
          d.0,
          ⊎_elim (λ (le : (at w.since n).batch ≤ w.kept_mark (master (at w.since n))). le_trans le (i.marking.mark_most (master (at w.since n))).0)
              (λ (own : (master (at w.since n) ≡ t) × ((at w.since n).batch ≤ w.mark t)). subst (λ m. (at w.since n).batch ≤ w.mark m) (sym own.0) own.1) d.1,
        );
      }

  -- What is redone doesn't depend on which marks and cancelled records it is found by.
  pub redo_alike : (base : History) (since : List Accepted) (disk : ℕ → List ℕ) (mark : ℕ → ℕ) (gone : ℕ → List ℕ) (other : ℕ → ℕ) (dropped : ℕ → List ℕ) (kept : ℕ → Bool)
      → Gathered σ.targets base since disk mark gone kept → Gathered σ.targets base since disk other dropped kept → (t : ℕ) (extra : List ℕ) → Redo since disk mark gone t extra → Redo since disk other dropped t extra
  redo_alike base since disk mark gone other dropped kept g f t extra redo =
      let exact = redo_exact base since disk mark gone kept g t extra redo in
      record {
        only = λ n m.
            let x = (exact.1 n).0 m in
            let named = (g.named n x.0).0 x.2 in
            let above : other (master (at since n)) < (at since n).batch = ⊎_elim
            (λ (le : (at since n).batch ≤ other (master (at since n))). absurd (x.3 (f.under n x.0 le t x.1))) (λ lt. lt) (le_or (at since n).batch (other (master (at since n)))) in
            (((named.0, (named.1, λ c. let a = (f.cancelled named.0 n c).1 in omega (arith, a, above))), above), x.1, λ live. x.3 live.0);
        all = λ n l union on lacks. (exact.1 n).1 l on ((g.named n l).1 (union.0.0, union.0.1.0))
            (λ here. lacks (here, λ c. let a = (f.cancelled t n c).1 in let b = union.1 in omega (arith, a, b)));
        order = redo.order;
      }
