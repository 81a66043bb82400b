-- Who depends on an item by a key is led to from it by objects.
use Rattle.fid_space.specs.declared.fid.Fid.{Fid}
use Rattle.op_laws.specs.Objects.{is_among, saw, stands}
use Rattle.std.proofs.Common.{Bool, List, [], add-zero, ap, arith, inl, inr, length, refl, subst, suc, sym, true, zero, zero-add, ℕ, ⊎_elim, ◌+◌, ◌<◌, ◌∙◌, ◌∷◌, ◌≡◌, ◌⊎◌}
use Rattle.tree_model.specs.Kept.{laid_step}
use Rattle.tree_model.specs.Keys.{Key, Laid, meets}
use Rattle.tree_model.specs.Looks.{looks, writes}
use Rattle.tree_model.specs.declared.op.Op.{Op}
use Rattle.tree_shares.specs.Parts.{named_in, parts}
use Rattle.update_protocol.proofs.Cuts.{Leads, Once, Then}
use Rattle.update_protocol.proofs.Setting.{Setting}
use Rattle.update_protocol.proofs.Shares.{laid_grown, saw_is, wrote_is}
use Rattle.update_protocol.specs.Facts.{laid}
use Rattle.update_protocol.specs.Lists.{IsIn}
use Rattle.update_protocol.specs.Recovery.{Depends, before_item, looks_over, writes_over}
use Rattle.update_protocol.specs.World.{Accepted, Follows, History, World, at, grown, request_of, saw_of, wrote_of}

module _ (σ : Setting) (w : World) where
  abbrev o : ℕ
  o = σ.targets

  -- xs is what w.since has from j on
  abbrev Rest : List Accepted → ℕ → Type 0
  Rest xs j = ((i : ℕ) → i < length xs → at w.since (j + i) ≡ at xs i) × (j + length xs ≡ length w.since)

  rest_on : (x : Accepted) (xs : List Accepted) (j : ℕ) → Rest (x ∷ xs) j → Rest xs (suc j)
  unfolding at
  rest_on x xs j r = ((λ i l. subst (λ n. at w.since n ≡ at xs i) (omega arith) (r.0 (suc i) (omega (arith, l)))), omega (arith, r.1))

  rest_first : (x : Accepted) (xs : List Accepted) (j : ℕ) → Rest (x ∷ xs) j → (at w.since j ≡ x) × (j < length w.since)
  unfolding at
  rest_first x xs j r = (subst (λ n. at w.since n ≡ x) (add-zero j) (r.0 0 (omega arith)), omega (arith, r.1))

  abbrev Reaches : ℕ → ℕ → Type 0
  Reaches n g = (n ≡ g) ⊎ Leads w n g

  reaches_on : (n g m : ℕ) → Reaches n g → Leads w g m → Leads w n m
  reaches_on n g m (inl e) l = subst (λ k. Leads w k m) (sym e) l
  reaches_on n g m (inr p) l = Then p l

  abbrev wrote_at : Laid → ℕ → Op → Fid → Bool
  wrote_at l batch op f = is_among (named_in (parts o batch l op)) f

  -- where a key stood after an item
  stands_on : (h : History) (x : Accepted) (k : Key) (f : Fid) → is_among (stands o (laid_step o (laid o h) (request_of x).op) k) f ≡ true → is_among (stands o (laid o (grown h x)) k) f ≡ true
  stands_on h x k f e = subst (λ l. is_among (stands o l k) f ≡ true) (sym (laid_grown o σ.laws h x)) e

  -- g did an object at which the key stood; along the items from j on there is always such a one that n leads to
  follow : (xs : List Accepted) (t : History) (j : ℕ) → Follows o t xs → Rest xs j → (n g : ℕ) (k : Key) (b : Fid) → g < j → Reaches n g → wrote_of (at w.since g) b ≡ true → is_among (stands o (laid o t) k) b ≡ true
      → (i : ℕ) → i < length xs → IsIn k (looks_over o (before_item t xs i) (at xs i)) → Leads w n (j + i)
  unfolding at
  follow [] t j f r n g k b lt reach did stood i l looks = absurd (omega (arith, l))
  follow (x ∷ xs) t j f r n g k b lt reach did stood zero l looks =
      let is = rest_first x xs j r in
      let told : saw_of x b ≡ true = saw_is o σ.laws t x f.0 b ∙ σ.laws.looks_told t (request_of x).op k b f.0.fits f.0.is_op looks stood in
      subst (λ m. Leads w n m) (sym (add-zero j)) (reaches_on n g j reach
      (Once lt is.1 b did (inl (subst (λ (y : Accepted). saw_of y b ≡ true) (sym is.0) told))))
  follow (x ∷ xs) t j f r n g k b lt reach did stood (suc i) l looks =
      let is = rest_first x xs j r in
      let e : suc j + i ≡ j + suc i = omega arith in
      subst (λ m. Leads w n m) e (⊎_elim
      (λ (same : (y : Fid) → is_among (stands o (laid o t) k) y ≡ true → is_among (stands o (laid_step o (laid o t) (request_of x).op) k) y ≡ true).
      follow xs (grown t x) (suc j) f.1 (rest_on x xs j r) n g k b (omega (arith, lt)) reach did (stands_on t x k b (same b stood)) i (omega (arith, l)) looks)
      (λ (moved : ((y : Fid) → is_among (stands o (laid o t) k) y ≡ true → is_among (saw o (laid o t) (request_of x).op) y ≡ true)
      × ((y : Fid) × (is_among (stands o (laid_step o (laid o t) (request_of x).op) k) y ≡ true) × (wrote_at (laid o t) x.batch (request_of x).op y ≡ true))).
      let told : saw_of x b ≡ true = saw_is o σ.laws t x f.0 b ∙ moved.0 b stood in
      let step : Leads w g j = Once lt is.1 b did (inl (subst (λ (y : Accepted). saw_of y b ≡ true) (sym is.0) told)) in
      follow xs (grown t x) (suc j) f.1 (rest_on x xs j r) n j k moved.1.0 (omega arith) (inr (reaches_on n g j reach step))
      (subst (λ (y : Accepted). wrote_of y moved.1.0 ≡ true) (sym is.0) (wrote_is o σ.laws t x f.0 moved.1.0 ∙ moved.1.2)) (stands_on t x k moved.1.0 moved.1.1) i (omega (arith, l)) looks)
      (σ.laws.moves t x.batch (request_of x).op k f.0.fits f.0.is_op))

  -- from the writer itself on
  from_writer : (xs : List Accepted) (t : History) (j : ℕ) → Follows o t xs → Rest xs j → (k v : Key) (n i : ℕ) → n < i → i < length xs
      → IsIn v (writes_over o (before_item t xs n) (at xs n)) → IsIn k (looks_over o (before_item t xs i) (at xs i)) → meets v k ≡ true → Leads w (j + n) (j + i)
  unfolding at
  from_writer [] t j f r k v n i lt l writes looks meet = absurd (omega (arith, l))
  from_writer (x ∷ xs) t j f r k v n zero lt l writes looks meet = absurd (omega (arith, lt))
  from_writer (x ∷ xs) t j f r k v zero (suc i) lt l writes looks meet =
      let is = rest_first x xs j r in
      let b = σ.laws.writes_object t x.batch (request_of x).op v k f.0.fits f.0.is_op writes meet in
      let e : suc j + i ≡ j + suc i = omega arith in
      subst (λ n. Leads w n (j + suc i)) (sym (add-zero j)) (subst (λ m. Leads w j m) e
      (follow xs (grown t x) (suc j) f.1 (rest_on x xs j r) j j k b.0 (omega arith) (inl refl)
      (subst (λ (y : Accepted). wrote_of y b.0 ≡ true) (sym is.0) (wrote_is o σ.laws t x f.0 b.0 ∙ b.2)) (stands_on t x k b.0 b.1) i (omega (arith, l)) looks))
  from_writer (x ∷ xs) t j f r k v (suc n) (suc i) lt l writes looks meet =
      let a : suc j + n ≡ j + suc n = omega arith in let e : suc j + i ≡ j + suc i = omega arith in
      subst (λ n. Leads w n (j + suc i)) a (subst (λ m. Leads w (suc j + n) m) e
      (from_writer xs (grown t x) (suc j) f.1 (rest_on x xs j r) k v n i (omega (arith, lt)) (omega (arith, l)) writes looks meet))

  pub depends_leads : Follows o w.base w.since → (n m : ℕ) → Depends o w.base w.since n m → Leads w n m
  depends_leads f n m d =
      subst (λ k. Leads w k m) (zero-add n) (subst (λ k. Leads w (0 + n) k) (zero-add m)
      (from_writer w.since w.base 0 f ((λ i l. ap (at w.since) (zero-add i)), zero-add (length w.since)) d.looked d.written n m d.before d.inside d.writes d.looks d.meet))
