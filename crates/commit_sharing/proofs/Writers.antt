-- Writers: what is noted and put back is as before, and the writer of an object is the last that was noted.
use Rattle.std.proofs.Common.{◌≡◌, ℕ, ◌≤◌, IfSome, Bool, true, false, ◌||◌, cond, List, [], ◌∷◌, ◌++◌, Option, Some, None, IsSome, refl, sym, ap, ◌∙◌, subst}
use Rattle.std.specs.List.{AllByRecursion}
use Rattle.std.specs.Ordering.{eq_by_cmp}
use Rattle.std.specs.Cmp.{eq_by_cmp_equiv}
use Rattle.std.specs.FinMap.{get, insert, remove, empty, from_entries, get-insert, get-remove, get-empty, same_map}
use Rattle.std.proofs.lemmas.List.{append-nil, append_assoc}
use Rattle.fid_space.specs.declared.fid.Fid.{Fid}
use Rattle.tree_model.specs.Fids.{fid_cmp, same_fid}
use Rattle.tree_model.proofs.Maps.{fids_total, exact_fids}
use Rattle.tree_model.proofs.Fids.{fid_ties, told_same}
use Rattle.commit_sharing.specs.Pending.{Writers, AreRequests, noted, put_back}
use Rattle.commit_sharing.specs.WriterLaws.{Note, after_notes, wrote, IsLastWriter, WritersAreLast}

-- what was put in place of a value and then put back is that value
back : {A : Type 0} (b : Bool) (o v g : A) → (b ≡ true → o ≡ g) → cond b o (cond b v g) ≡ g
back true o v g h = h refl
back false o v g h = refl

module _ (m : Writers) (f : Fid) (w : ℕ × ℕ) where
  at : (before : Option (ℕ × ℕ)) → before ≡ get m f → (q : Fid) → get (put_back (insert m f w) f before) q ≡ get m q
  at None e q =
      get-remove fids_total (insert m f w) f q ∙ ap (λ g. cond (eq_by_cmp fid_cmp q f) None g) (get-insert fids_total m f w q)
      ∙ back (eq_by_cmp fid_cmp q f) None (Some w) (get m q) (λ h. e ∙ ap (λ k. get m k) (sym (told_same q f h)))
  at (Some v) e q =
      get-insert fids_total (insert m f w) f v q ∙ ap (λ g. cond (eq_by_cmp fid_cmp q f) (Some v) g) (get-insert fids_total m f w q)
      ∙ back (eq_by_cmp fid_cmp q f) (Some v) (Some w) (get m q) (λ h. e ∙ ap (λ k. get m k) (sym (told_same q f h)))

  pub restored : (before : Option (ℕ × ℕ)) → before ≡ get m f → put_back (insert m f w) f before ≡ m
  restored before e = same_map fids_total exact_fids _ _ (at before e)

  put_at : (q : Fid) → get (insert m f w) q ≡ cond (same_fid q f) (Some w) (get m q)
  put_at q = get-insert fids_total m f w q ∙ ap (λ b. cond b (Some w) (get m q)) (sym (fid_ties q f))

pub is_noted : (m : Writers) (f : Fid) (w : ℕ × ℕ) → IsSome (get (insert m f w) f)
is_noted m f w = subst (λ o. IsSome o) (sym (get-insert fids_total m f w f ∙ ap (λ b. cond b (Some w) (get m f)) ((eq_by_cmp_equiv fids_total).refl f))) refl

-- ---- each is a request

one_of : (b : Bool) (o g : Option (ℕ × ℕ)) → IfSome o (λ w. 1 ≤ w.0) → IfSome g (λ w. 1 ≤ w.0) → IfSome (cond b o g) (λ w. 1 ≤ w.0)
one_of true o g h k = h
one_of false o g h k = k

pub no_requests : (es : List (Fid × (ℕ × ℕ))) → es ≡ [] → AreRequests (from_entries es)
no_requests es is = subst (λ (l : List (Fid × (ℕ × ℕ))). AreRequests (from_entries l)) (sym is) (λ f. subst (λ o. IfSome o (λ w. 1 ≤ w.0)) (sym (get-empty fid_cmp f)) tt)

pub more_requests : (m : Writers) (f : Fid) (w : ℕ × ℕ) → AreRequests m → 1 ≤ w.0 → AreRequests (insert m f w)
more_requests m f w all set q = subst (λ o. IfSome o (λ w. 1 ≤ w.0)) (sym (get-insert fids_total m f w q)) (one_of (eq_by_cmp fid_cmp q f) (Some w) (get m q) set (all q))

pub less_requests : (m : Writers) (f : Fid) → AreRequests m → AreRequests (remove m f)
less_requests m f all q = subst (λ o. IfSome o (λ w. 1 ≤ w.0)) (sym (get-remove fids_total m f q)) (one_of (eq_by_cmp fid_cmp q f) None (get m q) tt (all q))

-- ---- the last one

either : {A : Type 0} (a b : Bool) (v g : A) → cond b v (cond a v g) ≡ cond (a || b) v g
either true true v g = refl
either true false v g = refl
either false b v g = refl

-- the writer of an object after a request was noted
noted_at : (number on : ℕ) (fs : List Fid) (m : Writers) (q : Fid) → get (noted number on m fs) q ≡ cond (wrote fs q) (Some (number, on)) (get m q)
noted_at number on [] m q = refl
noted_at number on (f ∷ fs) m q =
    noted_at number on fs (insert m f (number, on)) q ∙ ap (λ g. cond (wrote fs q) (Some (number, on)) g) (put_at m f (number, on) q)
    ∙ either (same_fid q f) (wrote fs q) (Some (number, on)) (get m q)

all_push : {A : Type 0} (P : A → Type 0) (xs : List A) (x : A) → AllByRecursion P xs → P x → AllByRecursion P (xs ++ x ∷ [])
all_push P [] x a p = (p, tt)
all_push P (y ∷ ys) x a p = (a.0, all_push P ys x a.1 p)

module _ (fid : Fid) where
  one_more : (notes : List Note) (n : Note) (o : Option (ℕ × ℕ)) (b : Bool) → wrote n.written fid ≡ b → IsLastWriter fid notes o
      → IsLastWriter fid (notes ++ n ∷ []) (cond b (Some (n.number, n.on)) o)
  one_more notes n o true is last = (notes, n, [], refl, is, refl, refl, tt)
  one_more notes n None false is none = all_push (λ k. wrote k.written fid ≡ false) notes n none is
  one_more notes n (Some w) false is (before, k, after, e, did, number, on, none) =
      (before, k, after ++ n ∷ [], ap (λ xs. xs ++ n ∷ []) e ∙ append_assoc before (k ∷ after) (n ∷ []), did, number, on, all_push (λ k. wrote k.written fid ≡ false) after n none is)

  all_more : (ns notes : List Note) (m : Writers) → IsLastWriter fid notes (get m fid) → IsLastWriter fid (notes ++ ns) (get (after_notes m ns) fid)
  all_more [] notes m last = subst (λ xs. IsLastWriter fid xs (get m fid)) (sym (append-nil notes)) last
  all_more (n ∷ ns) notes m last =
      let next = noted n.number n.on m n.written in
      let more = subst (λ o. IsLastWriter fid (notes ++ n ∷ []) o) (sym (noted_at n.number n.on n.written m fid)) (one_more notes n (get m fid) (wrote n.written fid) refl last) in
      subst (λ xs. IsLastWriter fid xs (get (after_notes next ns) fid)) (append_assoc notes (n ∷ []) ns) (all_more ns (notes ++ n ∷ []) next more)

pub writers_are_last : WritersAreLast
writers_are_last notes fid = all_more fid notes [] empty (subst (λ o. IsLastWriter fid [] o) (sym (get-empty fid_cmp fid)) tt)
