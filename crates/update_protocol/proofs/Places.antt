-- Where keys and objects stand: what the laws on places say of whole histories.
use Rattle.fid_space.specs.declared.fid.Fid.{Fid}
use Rattle.op_laws.specs.Objects.{is_among, owner, saw, there}
use Rattle.std.proofs.Common.{List, [], ap, arith, false, inl, inr, length, refl, subst, suc, sym, true, true≢false, zero, ℕ, ⊎_elim, ◌<◌, ◌∙◌, ◌∷◌, ◌≡◌, ◌≢◌, ◌⊎◌}
use Rattle.std.proofs.lemmas.Bool.Decides.{eqb_tells}
use Rattle.update_protocol.proofs.Basics.{by_bool}
use Rattle.update_protocol.proofs.Shares.{laid_grown, saw_is, wrote_is}
use Rattle.update_protocol.specs.Facts.{laid}
use Rattle.update_protocol.specs.Laws.{Laws}
use Rattle.update_protocol.specs.World.{Accepted, Follows, History, Matches, after_items, at, grown, request_of, saw_of, wrote_of}

module _ (o : ℕ) (laws : Laws o) where
  -- the last writer of b, which made it go and so wrote its owner too; or nobody wrote it
  abbrev pub LastGone : Fid → List Accepted → Type 0
  LastGone b xs = ((l : ℕ) × (l < length xs) × (wrote_of (at xs l) b ≡ true) × (wrote_of (at xs l) (owner o b) ≡ true) × ((k : ℕ) → l < k → k < length xs → wrote_of (at xs k) b ≡ false))
      ⊎ ((k : ℕ) → k < length xs → wrote_of (at xs k) b ≡ false)

  untouched : (xs : List Accepted) (t : History) (b : Fid) → Follows o t xs → ((k : ℕ) → k < length xs → wrote_of (at xs k) b ≡ false) → there o (laid o (after_items t xs)) b ≡ there o (laid o t) b
  unfolding at
  untouched [] t b f none = refl
  untouched (x ∷ xs) t b f none = untouched xs (grown t x) b f.1 (λ k l. none (suc k) (omega (arith, l))) ∙ ap (λ l. there o l b) (laid_grown o laws t x)
      ∙ laws.stays t x.batch (request_of x).op b f.0.fits f.0.is_op (sym (wrote_is o laws t x f.0 b) ∙ none 0 (omega arith))

  pub last_gone : (xs : List Accepted) (t : History) (b : Fid) → Follows o t xs → there o (laid o (after_items t xs)) b ≡ false → LastGone b xs
  unfolding at
  last_gone [] t b f absent = inr (λ k l. absurd (omega (arith, l)))
  last_gone (x ∷ xs) t b f absent = ⊎_elim
      (λ (h : (l : ℕ) × (l < length xs) × (wrote_of (at xs l) b ≡ true) × (wrote_of (at xs l) (owner o b) ≡ true) × ((k : ℕ) → l < k → k < length xs → wrote_of (at xs k) b ≡ false)).
      inl (suc h.0, omega (arith, h.1), h.2, h.3, λ k. later x xs b h.0 h.4 k))
      (λ (none : (k : ℕ) → k < length xs → wrote_of (at xs k) b ≡ false). ⊎_elim
      (λ (w : wrote_of x b ≡ true). inl (
        0,
        omega arith,
        w,
        wrote_is o laws t x f.0 (owner o b) ∙ laws.gone t x.batch (request_of x).op b f.0.fits f.0.is_op (sym (wrote_is o laws t x f.0 b) ∙ w)
            (ap (λ l. there o l b) (sym (laid_grown o laws t x)) ∙ sym (untouched xs (grown t x) b f.1 none) ∙ absent),
        λ k. after_first x xs b none k,
      ))
      (λ (w : wrote_of x b ≡ false). inr (all_of x xs b w none)) (by_bool (wrote_of x b)))
      (last_gone xs (grown t x) b f.1 absent)
    where
      later : (x : Accepted) (xs : List Accepted) (b : Fid) (l : ℕ) → ((k : ℕ) → l < k → k < length xs → wrote_of (at xs k) b ≡ false) → (k : ℕ) → suc l < k → k < length (x ∷ xs) → wrote_of (at (x ∷ xs) k) b ≡ false
      later x xs b l h zero p q = absurd (omega (arith, p))
      later x xs b l h (suc k) p q = h k (omega (arith, p)) (omega (arith, q))

      after_first : (x : Accepted) (xs : List Accepted) (b : Fid) → ((k : ℕ) → k < length xs → wrote_of (at xs k) b ≡ false) → (k : ℕ) → 0 < k → k < length (x ∷ xs) → wrote_of (at (x ∷ xs) k) b ≡ false
      after_first x xs b h zero p q = absurd (omega (arith, p))
      after_first x xs b h (suc k) p q = h k (omega (arith, q))

      all_of : (x : Accepted) (xs : List Accepted) (b : Fid) → wrote_of x b ≡ false → ((k : ℕ) → k < length xs → wrote_of (at xs k) b ≡ false) → (k : ℕ) → k < length (x ∷ xs) → wrote_of (at (x ∷ xs) k) b ≡ false
      all_of x xs b w h zero q = w
      all_of x xs b w h (suc k) q = h k (omega (arith, q))

  -- what an item writes without being told its writer stands with an object whose writer it was told: the last writer wrote both
  abbrev pub Beside : List Accepted → Accepted → Fid → Type 0
  Beside since x b = (saw_of x b ≡ true) ⊎ ((p : Fid) × (saw_of x p ≡ true) × ((k : ℕ) → k < length since → wrote_of (at since k) b ≡ true
      → wrote_of (at since k) p ≡ true ⊎ ((l : ℕ) × (k < l) × (l < length since) × (wrote_of (at since l) b ≡ true) × (wrote_of (at since l) p ≡ true))))

  pub beside_of : (since : List Accepted) (t : History) (x : Accepted) (b : Fid) → Follows o t since → Matches o (after_items t since) x → wrote_of x b ≡ true → Beside since x b
  beside_of since t x b f m w = ⊎_elim (λ (saw : is_among (saw o (laid o (after_items t since)) (request_of x).op) b ≡ true). inl (saw_is o laws (after_items t since) x m b ∙ saw))
      (λ (new : (there o (laid o (after_items t since)) b ≡ false) × (is_among (saw o (laid o (after_items t since)) (request_of x).op) (owner o b) ≡ true)). inr (
        owner o b,
        saw_is o laws (after_items t since) x m (owner o b) ∙ new.1,
        λ k l wrote. ⊎_elim
            (λ (h : (l : ℕ) × (l < length since) × (wrote_of (at since l) b ≡ true) × (wrote_of (at since l) (owner o b) ≡ true) × ((k : ℕ) → l < k → k < length since → wrote_of (at since k) b ≡ false)).
            elim (eqb_tells k h.0) [
              | inl q ↦ inl (subst (λ n. wrote_of (at since n) (owner o b) ≡ true) (sym q.1) h.3)
              | inr q ↦ ⊎_elim (λ (lt : k < h.0). inr (h.0, lt, h.1, h.2, h.3)) (λ (gt : h.0 < k). absurd (true≢false (sym wrote ∙ h.4 k gt l))) (let ne : k ≢ h.0 = q.1 in grind arith)
            ])
            (λ (none : (k : ℕ) → k < length since → wrote_of (at since k) b ≡ false). absurd (true≢false (sym wrote ∙ none k l)))
            (last_gone since t b f new.0),
      ))
      (laws.beside (after_items t since) x.batch (request_of x).op b m.fits m.is_op (sym (wrote_is o laws (after_items t since) x m b) ∙ w))
