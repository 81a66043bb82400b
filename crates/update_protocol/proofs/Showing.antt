-- What lines show fits.
use Rattle.std.proofs.Common.{Bool, List, [], ap, arith, false, inl, inr, length, refl, subst, suc, sym, true, true≢false, zero-add, ℕ, ⊎_elim, ◌++◌, ◌+◌, ◌<◌, ◌∙◌, ◌∷◌, ◌≡◌, ◌≤◌}
use Rattle.std.proofs.lemmas.Bool.Decides.{eqb_tells}
use Rattle.std.specs.Prelude.{drop, if◌then◌else◌, ◌||◌}
use Rattle.update_protocol.proofs.Basics.{by_bool}
use Rattle.update_protocol.proofs.Invariant.{Invariant}
use Rattle.update_protocol.proofs.Redone.{mem_back, mem_front, redo_exact, redone_is, redone_rising}
use Rattle.update_protocol.proofs.Runs.{gone_full}
use Rattle.update_protocol.proofs.Setting.{Setting}
use Rattle.update_protocol.specs.Events.{Execute_comes, May}
use Rattle.update_protocol.specs.Lists.{IsIn, Rising}
use Rattle.update_protocol.specs.Recovery.{Gathered, Redo}
use Rattle.update_protocol.specs.Rows.{FitsLog, FitsTarget, has, live, new_in, pending}
use Rattle.update_protocol.specs.World.{Accepted, Execute, Full, History, World, at, is_on, master}

pub has_mem : (n : ℕ) (xs : List ℕ) → has n xs ≡ true → IsIn n xs
has_mem n [] e = absurd (true≢false (sym e))
has_mem n (x ∷ xs) e = elim (eqb_tells n x) [ inl q ↦ inl q.1 | inr q ↦ inr (has_mem n xs (sym (ap (λ b. b || has n xs) q.0) ∙ e)) ]

pub mem_has : (n : ℕ) (xs : List ℕ) → IsIn n xs → has n xs ≡ true
mem_has n [] m = absurd m
mem_has n (x ∷ xs) m = elim (eqb_tells n x) [
  | inl q ↦ ap (λ b. b || has n xs) q.0
  | inr q ↦ ap (λ b. b || has n xs) q.0 ∙ ⊎_elim (λ (e : n ≡ x). absurd (q.1 e)) (λ (h : IsIn n xs). mem_has n xs h) m
]

pub has_not : (n : ℕ) (xs : List ℕ) → has n xs ≡ false → IsIn n xs → ⊥
has_not n xs e m = true≢false (sym (mem_has n xs m) ∙ e)

-- LIVE RECORDS

abbrev pick : Bool → ℕ → List ℕ → List ℕ
pick b n xs = if b then xs else n ∷ xs

pub live_in : (xs gone : List ℕ) (n : ℕ) → IsIn n (live xs gone) → IsIn n xs
live_in [] gone n m = absurd m
live_in (x ∷ xs) gone n m = ⊎_elim
    (λ (e : has x gone ≡ true). inr (live_in xs gone n (subst (λ b. IsIn n (pick b x (live xs gone))) e m)))
    (λ (e : has x gone ≡ false). ⊎_elim (λ (q : n ≡ x). inl q) (λ (h : IsIn n (live xs gone)). inr (live_in xs gone n h)) (subst (λ b. IsIn n (pick b x (live xs gone))) e m))
    (by_bool (has x gone))

pub in_live : (xs gone : List ℕ) (n : ℕ) → IsIn n xs → (IsIn n gone → ⊥) → IsIn n (live xs gone)
in_live [] gone n m out = absurd m
in_live (x ∷ xs) gone n m out = ⊎_elim
    (λ (e : has x gone ≡ true). subst (λ b. IsIn n (pick b x (live xs gone))) (sym e) (⊎_elim (λ (q : n ≡ x). absurd (out (subst (λ k. IsIn k gone) (sym q) (has_mem x gone e)))) (λ (h : IsIn n xs). in_live xs gone n h out) m))
    (λ (e : has x gone ≡ false). subst (λ b. IsIn n (pick b x (live xs gone))) (sym e) (⊎_elim (λ (q : n ≡ x). inl q) (λ (h : IsIn n xs). inr (in_live xs gone n h out)) m))
    (by_bool (has x gone))

live_rising : (xs gone : List ℕ) → Rising xs → Rising (live xs gone)
live_rising [] gone r = tt
live_rising (x ∷ xs) gone r = ⊎_elim
    (λ (e : has x gone ≡ true). subst (λ b. Rising (pick b x (live xs gone))) (sym e) (live_rising xs gone r.1))
    (λ (e : has x gone ≡ false). subst (λ b. Rising (pick b x (live xs gone))) (sym e) ((λ y h. r.0 y (live_in xs gone y h)), live_rising xs gone r.1))
    (by_bool (has x gone))

-- COUNTS

abbrev counted : Bool → ℕ → ℕ
counted b n = if b then n else suc n

new_join : (disk xs ys : List ℕ) → new_in disk (xs ++ ys) ≡ new_in disk xs + new_in disk ys
new_join disk [] ys = sym (zero-add (new_in disk ys))
new_join disk (x ∷ xs) ys =
    let ih : new_in disk (xs ++ ys) ≡ new_in disk xs + new_in disk ys = new_join disk xs ys in
    ⊎_elim
    (λ (e : has x disk ≡ true).
    let a : new_in disk (x ∷ (xs ++ ys)) ≡ new_in disk (xs ++ ys) = ap (λ b. counted b (new_in disk (xs ++ ys))) e in
    let b : new_in disk (x ∷ xs) ≡ new_in disk xs = ap (λ b. counted b (new_in disk xs)) e in omega (arith, a, b, ih))
    (λ (e : has x disk ≡ false).
    let a : new_in disk (x ∷ (xs ++ ys)) ≡ suc (new_in disk (xs ++ ys)) = ap (λ b. counted b (new_in disk (xs ++ ys))) e in
    let b : new_in disk (x ∷ xs) ≡ suc (new_in disk xs) = ap (λ b. counted b (new_in disk xs)) e in omega (arith, a, b, ih))
    (by_bool (has x disk))

new_none : (disk xs : List ℕ) → ((n : ℕ) → IsIn n xs → IsIn n disk) → new_in disk xs ≡ 0
new_none disk [] f = refl
new_none disk (x ∷ xs) f = ap (λ b. counted b (new_in disk xs)) (mem_has x disk (f x (inl refl))) ∙ new_none disk xs (λ n h. f n (inr h))

pub not_has : (n : ℕ) (xs : List ℕ) → (IsIn n xs → ⊥) → has n xs ≡ false
not_has n xs f = ⊎_elim (λ (e : has n xs ≡ true). absurd (f (has_mem n xs e))) (λ (e : has n xs ≡ false). e) (by_bool (has n xs))

new_all : (disk xs : List ℕ) → ((n : ℕ) → IsIn n xs → IsIn n disk → ⊥) → new_in disk xs ≡ length xs
new_all disk [] f = refl
new_all disk (x ∷ xs) f = ap (λ b. counted b (new_in disk xs)) (not_has x disk (f x (inl refl))) ∙ ap suc (new_all disk xs (λ n h. f n (inr h)))

-- what is cancelled was named, so it doesn't count
new_live : (disk xs gone : List ℕ) → ((n : ℕ) → IsIn n xs → IsIn n gone → IsIn n disk) → new_in disk (live xs gone) ≡ new_in disk xs
new_live disk [] gone f = refl
new_live disk (x ∷ xs) gone f = ⊎_elim
    (λ (e : has x gone ≡ true). ap (λ b. new_in disk (pick b x (live xs gone))) e ∙ new_live disk xs gone (λ n h. f n (inr h))
    ∙ ap (λ b. counted b (new_in disk xs)) (sym (mem_has x disk (f x (inl refl) (has_mem x gone e)))))
    (λ (e : has x gone ≡ false). ap (λ b. new_in disk (pick b x (live xs gone))) e ∙ ap (λ n. counted (has x disk) n) (new_live disk xs gone (λ n h. f n (inr h))))
    (by_bool (has x gone))

-- FRONTS

-- a rising list has another one as its front, if nothing of it before the other's members is missing there
pub front_of : (xs ys : List ℕ) → Rising xs → Rising ys → ((n : ℕ) → IsIn n xs → IsIn n ys) → ((n m : ℕ) → IsIn n ys → IsIn m xs → n < m → IsIn n xs) → ys ≡ xs ++ drop (length xs) ys
front_of [] ys r q sub below = refl
front_of (x ∷ xs) [] r q sub below = absurd (sub x (inl refl))
front_of (x ∷ xs) (y ∷ ys) r q sub below =
    let e : x ≡ y = ⊎_elim (λ (e : x ≡ y). e)
    (λ (h : IsIn x ys). ⊎_elim (λ (e : y ≡ x). sym e) (λ (g : IsIn y xs). absurd (let a = q.0 x h in let b = r.0 y g in omega (arith, a, b))) (below y x (inl refl) (inl refl) (q.0 x h)))
    (sub x (inl refl)) in
    ap (λ k. k ∷ ys) (sym e) ∙ ap (λ l. x ∷ l) (front_of xs ys r.1 q.1
    (λ n h. ⊎_elim (λ (f : n ≡ y). absurd (let a = r.0 n h in omega (arith, a, f, e))) (λ (g : IsIn n ys). g) (sub n (inr h)))
    (λ n m h g lt. ⊎_elim (λ (f : n ≡ x). absurd (let a = q.0 n h in omega (arith, a, f, e))) (λ (g : IsIn n xs). g) (below n m (inr h) (inr g) lt)))

rising_apart : (xs ys : List ℕ) → Rising (xs ++ ys) → (a b : ℕ) → IsIn a xs → IsIn b ys → a < b
rising_apart [] ys r a b h g = absurd h
rising_apart (x ∷ xs) ys r a b (inl e) g = subst (λ k. k < b) (sym e) (r.0 b (mem_back xs ys b g))
rising_apart (x ∷ xs) ys r a b (inr h) g = rising_apart xs ys r.1 a b h g

pub rest_apart : (xs ys : List ℕ) → Rising (xs ++ ys) → (n : ℕ) → IsIn n ys → IsIn n xs → ⊥
rest_apart xs ys r n h g = let lt = rising_apart xs ys r n n g h in omega (arith, lt)

pub length_join : (xs ys : List ℕ) → length (xs ++ ys) ≡ length xs + length ys
length_join [] ys = sym (zero-add (length ys))
length_join (x ∷ xs) ys = let ih : length (xs ++ ys) ≡ length xs + length ys = length_join xs ys in omega (arith, ih)

module _ (σ : Setting) (w : World) (i : Invariant σ.targets w) (t : ℕ) where
  -- what is executed and not committed stands behind what is committed
  pub pends_behind : w.done t ≡ w.disk t ++ pending w t
  pends_behind = front_of (w.disk t) (w.done t) (i.durable.rising t) (i.executed.in_order t) (i.executed.has t)
      (λ n m h g lt. let k = i.executed.known_done t n h in i.durable.prefix n m lt (i.durable.known t m g).0 t g k.1)

  torn_behind : w.torn t ≡ w.disk t ++ drop (length (w.disk t)) (w.torn t)
  torn_behind = front_of (w.disk t) (w.torn t) (i.durable.rising t) (i.tearing.torn_rising t) (i.tearing.torn_has t)
      (λ n m h g lt. let k = i.tearing.torn_known t n h in i.durable.prefix n m lt (i.durable.known t m g).0 t g k.1)

  pub cancelled_full : (n : ℕ) → IsIn n (w.torn_gone t) → Full w.disk n (at w.since n)
  cancelled_full n h = let d = i.tearing.torn_dropped t n h in ⊎_elim
      (λ (le : (at w.since n).batch ≤ w.kept_mark (master (at w.since n))). i.durable.under n d.0 le)
      (λ (own : (master (at w.since n) ≡ t) × ((at w.since n).batch ≤ w.torn_mark t)). i.tearing.torn_under n d.0 (subst (λ m. (at w.since n).batch ≤ w.torn_mark m) (sym own.0) own.1)) d.1

  pub kept_full : (n : ℕ) → IsIn n (w.kept_gone t) → Full w.disk n (at w.since n)
  kept_full n h = let d = i.durable.cancelled t n h in i.durable.under n d.0 d.1

  pub old_fits : FitsTarget w.since w.disk t (length (w.disk t)) (live (w.disk t) (w.kept_gone t))
  old_fits = record {
    distinct = live_rising (w.disk t) (w.kept_gone t) (i.durable.rising t);
    known = λ n h. i.durable.known t n (live_in (w.disk t) (w.kept_gone t) n h);
    each = λ n h part. in_live (w.disk t) (w.kept_gone t) n h (λ g. part (kept_full n g));
    count = let none : new_in (w.disk t) (live (w.disk t) (w.kept_gone t)) ≡ 0 = new_none (w.disk t) (live (w.disk t) (w.kept_gone t)) (λ n h. live_in (w.disk t) (w.kept_gone t) n h) in omega (arith, none);
  }

  pub new_fits : FitsTarget w.since w.disk t (length (w.torn t)) (live (w.torn t) (w.torn_gone t))
  new_fits = record {
    distinct = live_rising (w.torn t) (w.torn_gone t) (i.tearing.torn_rising t);
    known = λ n h. i.tearing.torn_known t n (live_in (w.torn t) (w.torn_gone t) n h);
    each = λ n h part. in_live (w.torn t) (w.torn_gone t) n (i.tearing.torn_has t n h) (λ g. part (cancelled_full n g));
    count =
        let rest : List ℕ = drop (length (w.disk t)) (w.torn t) in
        let all : length (w.torn t) ≡ length (w.disk t) + length rest = ap length torn_behind ∙ length_join (w.disk t) rest in
        let fresh : new_in (w.disk t) rest ≡ length rest = new_all (w.disk t) rest (rest_apart (w.disk t) rest (subst Rising torn_behind (i.tearing.torn_rising t))) in
        let old : new_in (w.disk t) (w.disk t) ≡ 0 = new_none (w.disk t) (w.disk t) (λ n h. h) in
        let both : new_in (w.disk t) (w.torn t) ≡ new_in (w.disk t) (w.disk t) + new_in (w.disk t) rest = ap (new_in (w.disk t)) torn_behind ∙ new_join (w.disk t) (w.disk t) rest in
        let lives : new_in (w.disk t) (live (w.torn t) (w.torn_gone t)) ≡ new_in (w.disk t) (w.torn t) = new_live (w.disk t) (w.torn t) (w.torn_gone t) (λ n h g. cancelled_full n g t (i.tearing.torn_known t n h).1) in
        omega (arith, all, fresh, old, both, lives);
  }

  pub log_fits : FitsLog w t (live (w.done t) (w.gone t))
  log_fits = record {
    distinct = live_rising (w.done t) (w.gone t) (i.executed.in_order t);
    known = λ n h. let g = live_in (w.done t) (w.gone t) n h in let k = i.executed.known_done t n g in (k.0, k.1, g);
    pends = λ n h.
        let here : IsIn n (w.done t) = subst (λ l. IsIn n l) (sym pends_behind) (mem_back (w.disk t) (pending w t) n h) in
        in_live (w.done t) (w.gone t) n here
        (λ g. rest_apart (w.disk t) (pending w t) (subst Rising pends_behind (i.executed.in_order t)) n h (gone_full σ w i t n g t (i.executed.known_done t n here).1));
    each = λ n h part. in_live (w.done t) (w.gone t) n (i.executed.has t n h) (λ g. part (gone_full σ w i t n g));
  }

module _ (σ : Setting) where
  -- a record is executed at a target once, and never by a message at its home
  pub executed_once : (w : World) → Invariant σ.targets w → (n t : ℕ) → May σ.targets w (Execute_comes n t) → (n < length w.since) × (is_on (at w.since n) t ≡ true) × (IsIn n (w.done t) → ⊥) × (t ≡ master (at w.since n) → ⊥)
  executed_once w i n t may =
      let says = i.messages (Execute n t) may.0 in
      let apart : IsIn n (w.done t) → ⊥ = λ h. (i.holding.once n says.0 t may.1 h).0 may.2 in (
        says.0,
        says.1,
        apart,
        λ e. apart (subst (λ m. IsIn n (w.done m)) (sym e) (i.executed.home_done n says.0 (subst (λ m. w.up m ≡ true) e may.1))),
      )

  module _ (base : History) (since : List Accepted) (disk : ℕ → List ℕ) (mark : ℕ → ℕ) (gone : ℕ → List ℕ) (kept : ℕ → Bool) (g : Gathered σ.targets base since disk mark gone kept) (t : ℕ) where
    pub gone_named : (n : ℕ) → IsIn n (gone t) → Full disk n (at since n)
    gone_named n h = let c = g.cancelled t n h in g.under n c.0 c.1

    pub redo_old : FitsTarget since disk t (length (disk t)) (live (disk t) (gone t))
    redo_old = record {
      distinct = live_rising (disk t) (gone t) (g.rising t);
      known = λ n h. g.known t n (live_in (disk t) (gone t) n h);
      each = λ n h part. in_live (disk t) (gone t) n h (λ c. part (gone_named n c));
      count = let none : new_in (disk t) (live (disk t) (gone t)) ≡ 0 = new_none (disk t) (live (disk t) (gone t)) (λ n h. live_in (disk t) (gone t) n h) in omega (arith, none);
    }

    pub redo_new : (extra : List ℕ) → Redo since disk mark gone t extra → FitsTarget since disk t (length (disk t ++ extra)) (live (disk t ++ extra) (gone t))
    redo_new extra r =
        let exact = redo_exact σ base since disk mark gone kept g t extra r in
        record {
          distinct = live_rising (disk t ++ extra) (gone t) (redone_rising σ base since disk mark gone kept g t extra r);
          known = λ n h. let k = redone_is σ base since disk mark gone kept g t extra r n (live_in (disk t ++ extra) (gone t) n h) in (k.0, k.1);
          each = λ n h part. in_live (disk t ++ extra) (gone t) n (mem_front (disk t) extra n h) (λ c. part (gone_named n c));
          count =
              let all : length (disk t ++ extra) ≡ length (disk t) + length extra = length_join (disk t) extra in
              let fresh : new_in (disk t) extra ≡ length extra = new_all (disk t) extra (λ n h. ((exact.1 n).0 h).3) in
              let old : new_in (disk t) (disk t) ≡ 0 = new_none (disk t) (disk t) (λ n h. h) in
              let both : new_in (disk t) (disk t ++ extra) ≡ new_in (disk t) (disk t) + new_in (disk t) extra = new_join (disk t) (disk t) extra in
              let lives : new_in (disk t) (live (disk t ++ extra) (gone t)) ≡ new_in (disk t) (disk t ++ extra) = new_live (disk t) (disk t ++ extra) (gone t)
              (λ n h c. gone_named n c t (redone_is σ base since disk mark gone kept g t extra r n h).1) in
              omega (arith, all, fresh, old, both, lives);
        }
