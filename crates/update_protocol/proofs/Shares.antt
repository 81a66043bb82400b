-- A share is what the parts of its items make, in their order.
use Rattle.tree_shares.specs.Parts.{named_in}
use Rattle.fid_space.specs.declared.fid.Fid.{Fid}
use Rattle.object_store.specs.Meaning.{after_all}
use Rattle.object_store.specs.Objects.{ObjectMap}
use Rattle.op_laws.specs.Objects.{is_among, saw}
use Rattle.std.proofs.Common.{Bool, List, None, Some, [], add-zero, ap, arith, false, inl, inr, length, refl, subst, suc, sym, true, true≢false, zero, zero-add, ℕ, ⊎_elim, ◌++◌, ◌+◌, ◌<◌, ◌∙◌, ◌∷◌, ◌≡◌, ◌⊎◌}
use Rattle.std.proofs.lemmas.Bool.Decides.{eqb_tells}
use Rattle.std.specs.FinMap.{empty, insert}
use Rattle.std.specs.Option.{unwrap_or}
use Rattle.std.specs.Prelude.{if◌then◌else◌, ◌==◌, ◌||◌}
use Rattle.tree_model.specs.History.{Item}
use Rattle.tree_model.specs.Kept.{laid_from, laid_step}
use Rattle.tree_model.specs.Keys.{Laid, laid_base}
use Rattle.tree_shares.specs.Shares.{is_at, share}
use Rattle.update_protocol.proofs.Basics.{by_bool, mem_last, mem_left}
use Rattle.update_protocol.proofs.Invariant.{Invariant}
use Rattle.update_protocol.proofs.Setting.{Setting}
use Rattle.update_protocol.specs.Events.{has_now}
use Rattle.update_protocol.specs.Facts.{Parts, laid}
use Rattle.update_protocol.specs.Laws.{Laws, has_written}
use Rattle.update_protocol.specs.Lists.{IsIn, Rising}
use Rattle.tree_shares.specs.Seats.{Seats, Share, seated, seats_from, share_of}
use Rattle.update_protocol.specs.World.{Accepted, Each, Follows, History, Matches, World, after_items, applied, at, entry, grown, is_on, made, master, request_of, saw_of, wrote_of}
use Rattle.update_record.specs.Spelling.{has_target, part_for}

-- two rising lists with the same members are one
pub rising_same : (xs ys : List ℕ) → Rising xs → Rising ys → ((n : ℕ) → IsIn n xs → IsIn n ys) → ((n : ℕ) → IsIn n ys → IsIn n xs) → xs ≡ ys
rising_same [] [] r q to from = refl
rising_same [] (y ∷ ys) r q to from = absurd (from y (inl refl))
rising_same (x ∷ xs) [] r q to from = absurd (to x (inl refl))
rising_same (x ∷ xs) (y ∷ ys) r q to from =
    let e : x ≡ y = ⊎_elim (λ (e : x ≡ y). e)
    (λ (h : IsIn x ys). ⊎_elim (λ (e : y ≡ x). sym e) (λ (g : IsIn y xs). absurd (let a = q.0 x h in let b = r.0 y g in omega (arith, a, b))) (from y (inl refl)))
    (to x (inl refl)) in
    ap (λ k. k ∷ xs) e ∙ ap (λ l. y ∷ l) (rising_same xs ys r.1 q.1
    (λ n h. ⊎_elim (λ (f : n ≡ y). absurd (let a = r.0 n h in omega (arith, a, f, e))) (λ g. g) (to n (inr h)))
    (λ n h. ⊎_elim (λ (f : n ≡ x). absurd (let a = q.0 n h in omega (arith, a, f, e))) (λ g. g) (from n (inr h))))

abbrev pub placed : Bool → ℕ → List ℕ → List ℕ
placed true k l = k ∷ l
placed false k l = l

-- the places of the items that pass the test, counted from k
abbrev pub places_from : (ℕ → Accepted → Bool) → ℕ → List Accepted → List ℕ
places_from test k [] = []
places_from test k (x ∷ xs) = placed (test k x) k (places_from test (suc k) xs)

placed_member : (b : Bool) (k n : ℕ) (l : List ℕ) → IsIn n (placed b k l) → ((b ≡ true) × (n ≡ k)) ⊎ IsIn n l
placed_member true k n l h = ⊎_elim (λ e. inl (refl, e)) (λ g. inr g) h
placed_member false k n l h = inr h

placed_rest : (b : Bool) (k n : ℕ) (l : List ℕ) → IsIn n l → IsIn n (placed b k l)
placed_rest true k n l h = inr h
placed_rest false k n l h = h

placed_rising : (b : Bool) (k : ℕ) (l : List ℕ) → ((n : ℕ) → IsIn n l → k < n) → Rising l → Rising (placed b k l)
placed_rising true k l above r = (above, r)
placed_rising false k l above r = r

pub member_of : (test : ℕ → Accepted → Bool) (xs : List Accepted) (k n : ℕ) → IsIn n (places_from test k xs) → (j : ℕ) × (n ≡ k + j) × (j < length xs) × (test n (at xs j) ≡ true)
unfolding at
member_of test [] k n h = absurd h
member_of test (x ∷ xs) k n h = ⊎_elim
    (λ (q : (test k x ≡ true) × (n ≡ k)). (0, omega (arith, q.1), omega arith, subst (λ m. test m x ≡ true) (sym q.1) q.0))
    (λ (g : IsIn n (places_from test (suc k) xs)). let old = member_of test xs (suc k) n g in (suc old.0, omega (arith, old.1), omega (arith, old.2), old.3))
    (placed_member (test k x) k n (places_from test (suc k) xs) h)

pub member_in : (test : ℕ → Accepted → Bool) (xs : List Accepted) (k j : ℕ) → j < length xs → test (k + j) (at xs j) ≡ true → IsIn (k + j) (places_from test k xs)
unfolding at
member_in test [] k j l t = absurd (omega (arith, l))
member_in test (x ∷ xs) k zero l t = let e : k + 0 ≡ k = omega arith in
    subst (λ n. IsIn n (placed (test k x) k (places_from test (suc k) xs))) (sym e) (subst (λ b. IsIn k (placed b k (places_from test (suc k) xs))) (sym (subst (λ n. test n x ≡ true) e t)) (inl refl))
member_in test (x ∷ xs) k (suc j) l t = let e : k + suc j ≡ suc k + j = omega arith in
    subst (λ n. IsIn n (placed (test k x) k (places_from test (suc k) xs))) (sym e)
    (placed_rest (test k x) k (suc k + j) (places_from test (suc k) xs) (member_in test xs (suc k) j (omega (arith, l)) (subst (λ n. test n (at xs j) ≡ true) e t)))

pub places_rising : (test : ℕ → Accepted → Bool) (xs : List Accepted) (k : ℕ) → Rising (places_from test k xs)
places_rising test [] k = tt
places_rising test (x ∷ xs) k = placed_rising (test k x) k (places_from test (suc k) xs)
    (λ n h. let m = member_of test xs (suc k) n h in omega (arith, m.1)) (places_rising test xs (suc k))

-- histories that grow
pub laid_push : (targets : ℕ) (l : Laid) (h : List Item) (i : Item) → laid_from targets l (h ++ i ∷ []) ≡ laid_step targets (laid_from targets l h) i.request.op
laid_push targets l [] i = refl
laid_push targets l (j ∷ h) i = laid_push targets (laid_step targets l j.request.op) h i

pub seats_push : (o : ℕ) (t : ℕ) (s : Seats) (h : List Item) (i : Item) → seats_from o t s (h ++ i ∷ []) ≡ seated o t (seats_from o t s h) i
seats_push o t s [] i = refl
seats_push o t s (j ∷ h) i = seats_push o t (seated o t s j) h i

pub tree_push : (xs : List Accepted) (h : History) (x : Accepted) → after_items h (xs ++ x ∷ []) ≡ grown (after_items h xs) x
tree_push [] h x = refl
tree_push (y ∷ xs) h x = tree_push xs (grown h y) x

mem_old : (xs : List Accepted) (h : History) (i : Item) → IsIn i h → IsIn i (after_items h xs)
mem_old [] h i m = m
mem_old (x ∷ xs) h i m = mem_old xs (grown h x) i (mem_left h (entry x) i m)

pub entry_in : (h : History) (xs : List Accepted) (n : ℕ) → n < length xs → IsIn (entry (at xs n)) (after_items h xs)
unfolding at
entry_in h [] n l = absurd (omega (arith, l))
entry_in h (x ∷ xs) zero l = mem_old xs (grown h x) (entry x) (mem_last h (entry x))
entry_in h (x ∷ xs) (suc n) l = entry_in (grown h x) xs n (omega (arith, l))

no_part : (t : ℕ) (parts : Parts) → has_target t parts ≡ false → part_for t parts ≡ None
no_part t [] e = refl
no_part t (part ∷ parts) e = ⊎_elim
    (λ (yes' : (part.0 == t) ≡ true). absurd (true≢false (sym (ap (λ b. b || has_target t parts) yes') ∙ e)))
    (λ (no' : (part.0 == t) ≡ false). ap (λ b. if b then Some part.1 else part_for t parts) no' ∙ no_part t parts (sym (ap (λ b. b || has_target t parts) no') ∙ e))
    (by_bool (part.0 == t))

module _ (o : ℕ) (laws : Laws o) where
  abbrev on_at : ℕ → ℕ → Accepted → Bool
  on_at r n x = is_on x r

  abbrev share_with : ObjectMap → Seats → Share
  share_with a s = record { objects = a; seats = s }

  both_same : (a b : ObjectMap) (s r : Seats) → a ≡ b → s ≡ r → share_with a s ≡ share_with b r
  both_same a b s r e f = ap (λ a. share_with a s) e ∙ ap (λ s. share_with b s) f

  pub laid_grown : (h : History) (x : Accepted) → laid o (grown h x) ≡ laid_step o (laid o h) (request_of x).op
  laid_grown h x = laid_push o laid_base h (entry x)

  pub wrote_is : (h : History) (x : Accepted) → Matches o h x → (f : Fid) → wrote_of x f ≡ has_written o (laid o h) x.batch (request_of x).op f
  wrote_is h x m f = ap (λ ps. is_among (named_in ps) f) m.parts

  pub saw_is : (h : History) (x : Accepted) → Matches o h x → (f : Fid) → saw_of x f ≡ is_among (saw o (laid o h) (request_of x).op) f
  saw_is h x m f = ap (λ l. is_among l f) m.saw

  -- a share takes the part of the item
  pub share_grown : (h : History) (x : Accepted) (t : ℕ) → Matches o h x → t < o → share_of o (grown h x) t ≡ applied o t x (share_of o h t)
  share_grown h x t m l = both_same (share o (laid o (grown h x)) t) (after_all (share o (laid o h) t) (unwrap_or (part_for t x.parts) [])) (seats_from o t empty (grown h x)) (seated o t (seats_from o t empty h) (entry x))
      (ap (λ l. share o l t) (laid_push o laid_base h (entry x)) ∙ laws.takes_part h x.batch (request_of x).op t m.fits m.is_op l
      ∙ ap (λ ps. after_all (share o (laid o h) t) (unwrap_or (part_for t ps) [])) (sym m.parts))
      (seats_push o t empty h (entry x))

  pub home_part : (h : History) (x : Accepted) → Matches o h x → is_on x (master x) ≡ true
  home_part h x m = ap (λ ps. has_target (master x) ps) m.parts ∙ laws.home_in h x.batch (request_of x).op (master x) m.fits m.is_op m.home

  no_seat : (h : History) (x : Accepted) (t : ℕ) (s : Seats) → Matches o h x → is_on x t ≡ false → seated o t s (entry x) ≡ s
  no_seat h x t s m out = ap (λ p. if is_at t p then insert s (request_of x).client ((request_of x).number, x.reply) else s) m.home
      ∙ elim (eqb_tells (master x) t) [
        | inl q ↦ absurd (true≢false (sym (home_part h x m) ∙ ap (is_on x) q.1 ∙ out))
        | inr q ↦ ap (λ b. if b then insert s (request_of x).client ((request_of x).number, x.reply) else s) q.0
      ]

  -- another share stays
  pub share_still : (h : History) (x : Accepted) (t : ℕ) → Matches o h x → t < o → is_on x t ≡ false → share_of o (grown h x) t ≡ share_of o h t
  share_still h x t m l out = share_grown h x t m l
      ∙ both_same (after_all (share o (laid o h) t) (unwrap_or (part_for t x.parts) [])) (share o (laid o h) t) (seated o t (seats_from o t empty h) (entry x)) (seats_from o t empty h)
      (ap (λ p. after_all (share o (laid o h) t) (unwrap_or p [])) (no_part t x.parts out))
      (no_seat h x t (seats_from o t empty h) m out)

  pub took_part : (h : History) (r : ℕ) (x : Accepted) → Matches o h x → r < o → (b : Bool) → is_on x r ≡ b → (since : List Accepted) (k : ℕ) → at since k ≡ x → (l : List ℕ)
      → made o since r (placed b k l) (share_of o h r) ≡ made o since r l (share_of o (grown h x) r)
  took_part h r x m lt true e since k is l = ap (λ s. made o since r l s) (ap (λ y. applied o r y (share_of o h r)) is ∙ sym (share_grown h x r m lt))
  took_part h r x m lt false e since k is l = ap (λ s. made o since r l s) (sym (share_still h x r m lt e))

  -- the parts of all items at r, one after another, make the share of the history
  pub all_made : (xs : List Accepted) (h : History) (r k : ℕ) → Follows o h xs → r < o → (since : List Accepted) → ((j : ℕ) → j < length xs → at since (k + j) ≡ at xs j)
      → made o since r (places_from (on_at r) k xs) (share_of o h r) ≡ share_of o (after_items h xs) r
  unfolding at
  all_made [] h r k follows lt since same = refl
  all_made (x ∷ xs) h r k follows lt since same =
      took_part h r x follows.0 lt (is_on x r) refl since k (subst (λ n. at since n ≡ x) (add-zero k) (same 0 (omega arith))) (places_from (on_at r) (suc k) xs)
      ∙ all_made xs (grown h x) r (suc k) follows.1 lt since (λ j l. let e : k + suc j ≡ suc k + j = omega arith in subst (λ n. at since n ≡ at xs j) e (same (suc j) (omega (arith, l))))

  pub follows_push : (xs : List Accepted) (h : History) (x : Accepted) → Follows o h xs → Matches o (after_items h xs) x → Follows o h (xs ++ x ∷ [])
  follows_push [] h x f m = (m, tt)
  follows_push (y ∷ xs) h x f m = (f.0, follows_push xs (grown h y) x f.1 m)

module _ (σ : Setting) where
  -- where nothing waits, a target's objects are the share of the history
  pub share_made : (w : World) → Invariant σ.targets w → (t : ℕ) → t < σ.targets → Each (λ n x. is_on x t ≡ true → IsIn n (w.done t)) w.since
      → has_now σ.targets w t ≡ share_of σ.targets (after_items w.base w.since) t
  share_made w i t lt all =
      let test : ℕ → Accepted → Bool = λ n x. is_on x t in
      let same : w.done t ≡ places_from test 0 w.since = rising_same (w.done t) (places_from test 0 w.since) (i.executed.in_order t) (places_rising test w.since 0)
      (λ n h. let k = i.executed.known_done t n h in subst (λ m. IsIn m (places_from test 0 w.since)) (zero-add n) (member_in test w.since 0 n k.0 k.1))
      (λ n h. let m = member_of test w.since 0 n h in let e : n ≡ m.0 = m.1 ∙ zero-add m.0 in all n (subst (λ k. k < length w.since) (sym e) m.2) (subst (λ k. is_on (at w.since k) t ≡ true) (sym e) m.3)) in
      ap (λ l. made σ.targets w.since t l (share_of σ.targets w.base t)) same
      ∙ all_made σ.targets σ.laws w.since w.base t 0 i.follows lt w.since (λ j l. ap (at w.since) (zero-add j))
