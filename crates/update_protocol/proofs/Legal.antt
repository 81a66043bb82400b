-- What follows is a legal history, and a part that lacks nothing on which its items depend is kept as the tree model says.
use Rattle.std.proofs.Common.{Bool, List, [], add-zero, ap, arith, false, inl, inr, length, refl, subst, suc, sym, true, true≢false, zero-add, ℕ, ⊎_elim, ◌++◌, ◌<◌, ◌∙◌, ◌∷◌, ◌≡◌, ◌≢◌}
use Rattle.std.specs.List.{AllByRecursion}
use Rattle.tree_model.specs.History.{IsLegal, IsLegalFrom, Item, tree_from, tree_of}
use Rattle.tree_model.specs.Kept.{AreFree, HasNumber, IsClosedFrom, IsKept, Misses, chosen, laid_from, laid_step}
use Rattle.tree_model.specs.Keys.{Laid, laid_base, meets}
use Rattle.tree_model.specs.Step.{step}
use Rattle.tree_model.specs.Tree.{Tree, base as base_tree}
use Rattle.tree_model.specs.declared.op.Request.{Request}
use Rattle.update_protocol.proofs.Basics.{by_bool}
use Rattle.update_protocol.proofs.Kept.{Rest, kept_legal, rest_on}
use Rattle.update_protocol.proofs.Seating.{all_mem, mem_all, ordered_after}
use Rattle.update_protocol.proofs.Shares.{laid_grown}
use Rattle.update_protocol.specs.Facts.{laid}
use Rattle.update_protocol.specs.Laws.{Laws}
use Rattle.update_protocol.specs.Lists.{IsIn}
use Rattle.update_protocol.specs.Parts.{IsSent, all_of, entries_of, numbers_of, passing}
use Rattle.update_protocol.specs.Recovery.{Depends, before_item, kept_items, looks_over, put_if, writes_over}
use Rattle.tree_shares.specs.Seats.{Ordered, SameSeat}
use Rattle.update_protocol.specs.World.{Accepted, Follows, History, after_items, at, entry, grown, request_of}

append_nil : (h : History) → h ++ [] ≡ h
append_nil [] = refl
append_nil (i ∷ is) = ap (λ t. i ∷ t) (append_nil is)

append_one : (h : History) (i : Item) (k : History) → (h ++ i ∷ []) ++ k ≡ h ++ i ∷ k
append_one [] i k = refl
append_one (j ∷ h) i k = ap (λ t. j ∷ t) (append_one h i k)

pub after_joined : (h : History) (xs : List Accepted) → after_items h xs ≡ h ++ entries_of xs
after_joined h [] = sym (append_nil h)
after_joined h (x ∷ xs) = after_joined (grown h x) xs ∙ append_one h (entry x) (entries_of xs)

tree_push : (targets : ℕ) (t : Tree) (h : History) (i : Item) → tree_from targets t (h ++ i ∷ []) ≡ (step targets (tree_from targets t h) i.request.op).0
tree_push targets t [] i = refl
tree_push targets t (j ∷ h) i = tree_push targets (step targets t j.request.op).0 h i

-- the reply of each item is that of its tree
abbrev pub Replies : ℕ → Tree → History → Type 0
Replies targets t [] = Unit {0}
Replies targets t (i ∷ is) = (i.reply ≡ (step targets t i.request.op).1) × Replies targets (step targets t i.request.op).0 is

replies_join : (targets : ℕ) (t : Tree) (h k : History) → Replies targets t h → Replies targets (tree_from targets t h) k → Replies targets t (h ++ k)
replies_join targets t [] k a b = b
replies_join targets t (i ∷ h) k a b = (a.0, replies_join targets (step targets t i.request.op).0 h k a.1 b)

pub legal_replies : (targets : ℕ) (t : Tree) (h : History) → IsLegalFrom targets t h → Replies targets t h
legal_replies targets t [] l = tt
legal_replies targets t (i ∷ is) l = (l.0, legal_replies targets (step targets t i.request.op).0 is l.2)

numbers_in : (h : History) (n : ℕ) → IsIn n (numbers_of h) → HasNumber n h
numbers_in [] n m = absurd m
numbers_in (i ∷ h) n (inl e) = inl (sym e)
numbers_in (i ∷ h) n (inr m) = inr (numbers_in h n m)

pub chosen_base : (base : History) (bs : List Bool) (h : History) → chosen (all_of base ++ bs) (base ++ h) ≡ base ++ chosen bs h
chosen_base [] bs h = refl
chosen_base (i ∷ base) bs h = ap (λ t. i ∷ t) (chosen_base base bs h)

pub chosen_kept : (kept : ℕ → Bool) (xs : List Accepted) (k : ℕ) → chosen (passing kept k xs) (entries_of xs) ≡ entries_of (kept_items kept k xs)
chosen_kept kept [] k = refl
chosen_kept kept (x ∷ xs) k = ⊎_elim
    (λ (yes' : kept k ≡ true). ap (λ b. chosen (b ∷ passing kept (suc k) xs) (entry x ∷ entries_of xs)) yes' ∙ ap (λ t. entry x ∷ t) (chosen_kept kept xs (suc k)) ∙ ap (λ b. entries_of (put_if b x (kept_items kept (suc k) xs))) (sym yes'))
    (λ (no' : kept k ≡ false). ap (λ b. chosen (b ∷ passing kept (suc k) xs) (entry x ∷ entries_of xs)) no' ∙ chosen_kept kept xs (suc k) ∙ ap (λ b. entries_of (put_if b x (kept_items kept (suc k) xs))) (sym no'))
    (by_bool (kept k))

closed_base : (targets : ℕ) (l : Laid) (base : History) (bs : List Bool) (h : History) → IsClosedFrom targets (laid_from targets l base) bs h → IsClosedFrom targets l (all_of base ++ bs) (base ++ h)
closed_base targets l [] bs h c = c
closed_base targets l (i ∷ base) bs h c = ((λ e. absurd (true≢false e)), closed_base targets (laid_step targets l i.request.op) base bs h c)

module _ (o : ℕ) (laws : Laws o) where
  -- in an ordered history whose numbers have one request each, no number stands twice
  pub legal_from : (sent : ℕ → Request) (t : Tree) (h : History) → IsSent sent h → Ordered o h → Replies o t h → IsLegalFrom o t h
  legal_from sent t [] known ord r = tt
  legal_from sent t (i ∷ is) known ord r = (
    r.0,
    mem_all (λ j. j.request.number ≢ i.request.number) is (λ j here same.
        let one : i.request ≡ j.request = known.0 ∙ ap sent (sym same) ∙ sym (all_mem (λ k. k.request ≡ sent k.request.number) is j known.1 here) in
        let lt : i.request.number < j.request.number = all_mem (λ k. SameSeat o i.request k.request → i.request.number < k.request.number) is j ord.0 here (subst (λ q. SameSeat o i.request q) one (refl, refl)) in
        omega (arith, lt, same)),
    legal_from sent (step o t i.request.op).0 is known.1 ord.1 r.1,
  )

  follows_replies : (h : History) (xs : List Accepted) → Follows o h xs → Replies o (tree_of o h) (entries_of xs)
  follows_replies h [] f = tt
  follows_replies h (x ∷ xs) f = (
    f.0.reply ∙ ap (λ t. (step o t (request_of x).op).1) (laws.beside_tree o h),
    subst (λ t. Replies o t (entries_of xs)) (tree_push o base_tree h (entry x)) (follows_replies (grown h x) xs f.1),
  )

  pub replies_after : (h : History) (xs : List Accepted) → Replies o base_tree h → Follows o h xs → Replies o base_tree (h ++ entries_of xs)
  replies_after h xs r f = replies_join o base_tree h (entries_of xs) r (follows_replies h xs f)

  module _ (kept : ℕ → Bool) (base : History) (since : List Accepted) (closed : (n m : ℕ) → Depends o base since n m → kept m ≡ true → kept n ≡ true) where
    abbrev From : List Accepted → History → ℕ → Type 0
    From xs t j = Rest o laws kept base since closed xs t j

    free_from : (xs : List Accepted) (t : History) (j : ℕ) → From xs t j → (n : ℕ) → n < j → kept n ≡ false
        → AreFree o (laid o (before_item base since n)).tree (request_of (at since n)).op (laid o t) (passing kept j xs) (entries_of xs)
    unfolding at
    free_from [] t j r n lt gone = tt
    free_from (x ∷ xs) t j r n lt gone =
        let item : at since j ≡ x = subst (λ n. at since n ≡ x) (add-zero j) (r.items 0 (omega arith)) in
        let tree : before_item base since j ≡ t = subst (λ n. before_item base since n ≡ t) (add-zero j) (r.trees 0 (omega arith)) in (
          (λ here. mem_all (λ k. Misses (writes_over o (before_item base since n) (at since n)) k) (looks_over o t x) (λ k l.
              mem_all (λ v. meets v k ≡ false) (writes_over o (before_item base since n) (at since n)) (λ v w. ⊎_elim
              (λ (meet : meets v k ≡ true). absurd (true≢false (sym (closed n j (record {
                before = lt;
                inside = omega (arith, r.ends);
                written = v;
                looked = k;
                writes = w;
                meet = meet;
                looks = subst (λ (y : Accepted). IsIn k (looks_over o (before_item base since j) y)) (sym item) (subst (λ s. IsIn k (looks_over o s x)) (sym tree) l);
              }) here) ∙ gone)))
              (λ e. e) (by_bool (meets v k))))),
          subst (λ l. AreFree o (laid o (before_item base since n)).tree (request_of (at since n)).op l (passing kept (suc j) xs) (entries_of xs)) (laid_grown o laws t x)
              (free_from xs (grown t x) (suc j) (rest_on o laws kept base since closed x xs t j r) n (omega (arith, lt)) gone),
        )

    closed_from : (xs : List Accepted) (t : History) (j : ℕ) → From xs t j → IsClosedFrom o (laid o t) (passing kept j xs) (entries_of xs)
    unfolding at
    closed_from [] t j r = tt
    closed_from (x ∷ xs) t j r =
        let item : at since j ≡ x = subst (λ n. at since n ≡ x) (add-zero j) (r.items 0 (omega arith)) in
        let tree : before_item base since j ≡ t = subst (λ n. before_item base since n ≡ t) (add-zero j) (r.trees 0 (omega arith)) in
        let rest : From xs (grown t x) (suc j) = rest_on o laws kept base since closed x xs t j r in (
          (λ gone. subst (λ l. AreFree o (laid o t).tree (request_of x).op l (passing kept (suc j) xs) (entries_of xs)) (laid_grown o laws t x)
              (subst (λ (y : Accepted). AreFree o (laid o t).tree (request_of y).op (laid o (grown t x)) (passing kept (suc j) xs) (entries_of xs)) item
              (subst (λ s. AreFree o (laid o s).tree (request_of (at since j)).op (laid o (grown t x)) (passing kept (suc j) xs) (entries_of xs)) tree
              (free_from xs (grown t x) (suc j) rest j (omega arith) gone)))),
          subst (λ l. IsClosedFrom o l (passing kept (suc j) xs) (entries_of xs)) (laid_grown o laws t x) (closed_from xs (grown t x) (suc j) rest),
        )

    -- the part is kept by the tree model's words
    pub is_kept : (sent : ℕ → Request) → IsSent sent (base ++ entries_of (kept_items kept 0 since)) → Ordered o base → Replies o base_tree base → Follows o base since
        → IsKept o (base ++ entries_of since) (numbers_of (base ++ entries_of (kept_items kept 0 since))) (all_of base ++ passing kept 0 since)
    is_kept sent known ord replies f =
        let k : List Accepted = kept_items kept 0 since in
        let g : Follows o base k = kept_legal o laws kept base since closed f in
        let same : chosen (all_of base ++ passing kept 0 since) (base ++ entries_of since) ≡ base ++ entries_of k = chosen_base base (passing kept 0 since) (entries_of since) ∙ ap (λ t. base ++ t) (chosen_kept kept since 0) in
        record {
          legal = subst (λ h. IsLegal o h) (sym same) (legal_from sent base_tree (base ++ entries_of k) known (subst (Ordered o) (after_joined base k) (ordered_after o base k ord g)) (replies_after base k replies g));
          holds = subst (λ h. AllByRecursion (λ number. HasNumber number h) (numbers_of (base ++ entries_of k))) (sym same) (mem_all (λ number. HasNumber number (base ++ entries_of k)) (numbers_of (base ++ entries_of k)) (λ n m. numbers_in (base ++ entries_of k) n m));
          closed = closed_base o laid_base base (passing kept 0 since) (entries_of since)
              (closed_from since base 0 (record { items = λ i l. ap (at since) (zero-add i); trees = λ i l. ap (before_item base since) (zero-add i); ends = zero-add (length since) }));
        }
