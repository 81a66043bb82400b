-- The kept items are a legal history, and their parts make its shares.
use Rattle.std.proofs.Common.{Bool, List, [], add-zero, ap, arith, false, le_refl, length, refl, subst, suc, sym, true, true≢false, zero-add, ℕ, ⊎_elim, ◌+◌, ◌<◌, ◌∙◌, ◌∷◌, ◌≡◌, ◌≤◌}
use Rattle.tree_model.specs.Changes.{Change}
use Rattle.tree_model.specs.History.{Item}
use Rattle.tree_model.specs.Kept.{Misses, laid_step}
use Rattle.tree_model.specs.Keys.{Key, Laid, Value, at as value_at, meets}
use Rattle.tree_model.specs.Laws.{Agree, outcome}
use Rattle.tree_model.specs.OpText.{IsOp}
use Rattle.tree_model.specs.Step.{step}
use Rattle.tree_model.specs.Tree.{Tree}
use Rattle.tree_model.specs.declared.op.Op.{Op}
use Rattle.tree_model.specs.declared.reply.Reply.{Reply}
use Rattle.update_protocol.proofs.Basics.{by_bool, length-push, mem_last, mem_left, mem_push}
use Rattle.update_protocol.proofs.Seating.{all_mem, mem_all}
use Rattle.update_protocol.proofs.Shares.{laid_grown, placed, places_from, took_part}
use Rattle.update_protocol.specs.Facts.{laid}
use Rattle.update_protocol.specs.Laws.{Laws}
use Rattle.update_protocol.specs.Lists.{IsIn}
use Rattle.update_protocol.specs.Recovery.{Depends, before_item, kept_items, looks_over, put_if, writes_over}
use Rattle.tree_shares.specs.Seats.{SameSeat, share_of}
use Rattle.update_protocol.specs.World.{Accepted, Follows, History, Matches, after_items, at, entry, grown, is_on, made, request_of}

abbrev pub both : Bool → Bool → Bool
both true b = b
both false b = false

module _ (o : ℕ) (laws : Laws o) (kept : ℕ → Bool) where
  abbrev value : History → Key → Value
  value h key = value_at (laid o h) key

  -- what a kept item looks at is met by no earlier item that isn't kept
  abbrev pub ClosedFrom : History → (Key → Type 0) → ℕ → List Accepted → Type 0
  ClosedFrom s clean k [] = Unit
  ClosedFrom s clean k (x ∷ xs) = ((key : Key) → kept k ≡ true → IsIn key (looks_over o s x) → clean key)
      × ClosedFrom (grown s x) (λ key. clean key × (kept k ≡ false → Misses (writes_over o s x) key)) (suc k) xs

  step_reply : (l : Laid) (op : Op) → (step o l.tree op).1 ≡ (outcome o l.tree op).0
  step_reply l op = ap (λ (p : Tree × Reply). p.1) (laws.decided o l.tree op)

  -- part of a history
  pub record Within (s t : History) : Type 0 where
    pub each : (i : Item) → IsIn i t → IsIn i s
    pub shorter : length t ≤ length s

  both_grow : (s t : History) (x : Accepted) → Within s t → Within (grown s x) (grown t x)
  both_grow s t x v = record {
    each = λ i h. ⊎_elim (λ (g : IsIn i t). mem_left s (entry x) i (v.each i g)) (λ (e : i ≡ entry x). subst (λ i. IsIn i (grown s x)) (sym e) (mem_last s (entry x))) (mem_push t (entry x) i h);
    shorter = let a = length-push s (entry x) in let b = length-push t (entry x) in omega (arith, a, b, v.shorter);
  }

  one_grows : (s t : History) (x : Accepted) → Within s t → Within (grown s x) t
  one_grows s t x v = record { each = λ i h. mem_left s (entry x) i (v.each i h); shorter = let a = length-push s (entry x) in omega (arith, a, v.shorter) }

  matches_again : (s t : History) (x : Accepted) → Within s t → Agree o (laid o s) (laid o t) (request_of x).op → Matches o s x → Matches o t x
  matches_again s t x v agree m = record {
    fits = record {
      each = mem_all (λ i. IsOp o i.request.op) t (λ i h. all_mem (λ i. IsOp o i.request.op) s i m.fits.each (v.each i h));
      few = omega (arith, v.shorter, m.fits.few);
    };
    is_op = m.is_op;
    changes = m.changes;
    home = m.home;
    newest = mem_all (λ i. SameSeat o i.request (request_of x) → i.request.number < (request_of x).number) t (λ i h. all_mem (λ i. SameSeat o i.request (request_of x) → i.request.number < (request_of x).number) s i m.newest (v.each i h));
    reply = m.reply ∙ step_reply (laid o s) (request_of x).op ∙ ap (λ (p : Reply × List Change). p.0) (laws.looks_matter o (laid o s) (laid o t) (request_of x).op agree).0 ∙ sym (step_reply (laid o t) (request_of x).op);
    parts = m.parts ∙ laws.same_parts (laid o s) (laid o t) x.batch (request_of x).op agree;
    saw = m.saw ∙ laws.same_saw (laid o s) (laid o t) (request_of x).op agree;
  }

  grown_value : (h : History) (x : Accepted) (key : Key) → value (grown h x) key ≡ value_at (laid_step o (laid o h) (request_of x).op) key
  grown_value h x key = ap (λ l. value_at l key) (laid_grown o laws h x)

  pub kept_follows : (xs : List Accepted) (s t : History) (k : ℕ) (clean : Key → Type 0) → Within s t → ((key : Key) → clean key → value s key ≡ value t key)
      → Follows o s xs → ClosedFrom s clean k xs → Follows o t (kept_items kept k xs)
  kept_follows [] s t k clean v same f c = tt
  kept_follows (x ∷ xs) s t k clean v same f c = ⊎_elim
      (λ (yes' : kept k ≡ true).
      let agree : Agree o (laid o s) (laid o t) (request_of x).op = mem_all (λ key. value s key ≡ value t key) (looks_over o s x) (λ key l. same key (c.0 key yes' l)) in
      subst (λ b. Follows o t (put_if b x (kept_items kept (suc k) xs))) (sym yes') (
        matches_again s t x v agree f.0,
        kept_follows xs (grown s x) (grown t x) (suc k) (λ key. clean key × (kept k ≡ false → Misses (writes_over o s x) key)) (both_grow s t x v)
            (λ key q. grown_value s x key ∙ laws.same_change o (laid o s) (laid o t) (request_of x).op agree key (same key q.0) ∙ sym (grown_value t x key)) f.1 c.1,
      ))
      (λ (no' : kept k ≡ false).
      subst (λ b. Follows o t (put_if b x (kept_items kept (suc k) xs))) (sym no')
      (kept_follows xs (grown s x) t (suc k) (λ key. clean key × (kept k ≡ false → Misses (writes_over o s x) key)) (one_grows s t x v)
      (λ key q. grown_value s x key ∙ laws.only_written o (laid o s) (request_of x).op key (q.1 no') ∙ same key q.0) f.1 c.1))
      (by_bool (kept k))

  module _ (base : History) (since : List Accepted) (closed : (n m : ℕ) → Depends o base since n m → kept m ≡ true → kept n ≡ true) where
    -- xs is what stands from j on, and t the tree there
    pub record Rest (xs : List Accepted) (t : History) (j : ℕ) : Type 0 where
      pub items : (i : ℕ) → i < length xs → at since (j + i) ≡ at xs i
      pub trees : (i : ℕ) → i < length xs → before_item base since (j + i) ≡ before_item t xs i
      pub ends : j + length xs ≡ length since

    pub rest_on : (x : Accepted) (xs : List Accepted) (t : History) (j : ℕ) → Rest (x ∷ xs) t j → Rest xs (grown t x) (suc j)
    unfolding at
    rest_on x xs t j r = record {
      items = λ i l. subst (λ n. at since n ≡ at xs i) (omega arith) (r.items (suc i) (omega (arith, l)));
      trees = λ i l. subst (λ n. before_item base since n ≡ before_item (grown t x) xs i) (omega arith) (r.trees (suc i) (omega (arith, l)));
      ends = omega (arith, r.ends);
    }

    abbrev Untouched : ℕ → Key → Type 0
    Untouched j key = (n : ℕ) → n < j → kept n ≡ false → Misses (writes_over o (before_item base since n) (at since n)) key

    closed_rest : (xs : List Accepted) (t : History) (j : ℕ) (clean : Key → Type 0) → Rest xs t j → ((key : Key) → Untouched j key → clean key) → ClosedFrom t clean j xs
    unfolding at
    closed_rest [] t j clean r cl = tt
    closed_rest (x ∷ xs) t j clean r cl =
        let item : at since j ≡ x = subst (λ n. at since n ≡ x) (add-zero j) (r.items 0 (omega arith)) in
        let tree : before_item base since j ≡ t = subst (λ n. before_item base since n ≡ t) (add-zero j) (r.trees 0 (omega arith)) in (
          (λ key k l. cl key (λ n lt gone. mem_all (λ v. meets v key ≡ false) (writes_over o (before_item base since n) (at since n)) (λ v w. ⊎_elim
              (λ (meet : meets v key ≡ true). absurd (true≢false (sym (closed n j (record {
                before = lt;
                inside = omega (arith, r.ends);
                written = v;
                looked = key;
                writes = w;
                meet = meet;
                looks = subst (λ (y : Accepted). IsIn key (looks_over o (before_item base since j) y)) (sym item) (subst (λ s. IsIn key (looks_over o s x)) (sym tree) l);
              }) k) ∙ gone)))
              (λ e. e) (by_bool (meets v key))))),
          closed_rest xs (grown t x) (suc j) (λ key. clean key × (kept j ≡ false → Misses (writes_over o t x) key)) (rest_on x xs t j r)
              (λ key u. (
                cl key (λ n lt. u n (omega (arith, lt))),
                λ gone. subst (λ s. Misses (writes_over o s x) key) tree (subst (λ (y : Accepted). Misses (writes_over o (before_item base since j) y) key) item (u j (omega arith) gone)),
              )),
        )

    pub kept_legal : Follows o base since → Follows o base (kept_items kept 0 since)
    kept_legal f = kept_follows since base base 0 (λ _. Unit) (record { each = λ i h. h; shorter = le_refl _ }) (λ key u. refl) f
        (closed_rest since base 0 (λ _. Unit) (record { items = λ i l. ap (at since) (zero-add i); trees = λ i l. ap (before_item base since) (zero-add i); ends = zero-add (length since) }) (λ key u. tt))

  -- the kept parts at r, in the order of the history, make the share of the kept history
  abbrev pub kept_on : ℕ → ℕ → Accepted → Bool
  kept_on r n x = both (kept n) (is_on x r)

  pub kept_made : (xs : List Accepted) (t : History) (r k : ℕ) → r < o → Follows o t (kept_items kept k xs) → (since : List Accepted) → ((j : ℕ) → j < length xs → at since (k + j) ≡ at xs j)
      → made o since r (places_from (kept_on r) k xs) (share_of o t r) ≡ share_of o (after_items t (kept_items kept k xs)) r
  unfolding at
  kept_made [] t r k lt f since same = refl
  kept_made (x ∷ xs) t r k lt f since same =
      let on : (j : ℕ) → j < length xs → at since (suc k + j) ≡ at xs j = λ j l. let e : k + suc j ≡ suc k + j = omega arith in subst (λ n. at since n ≡ at xs j) e (same (suc j) (omega (arith, l))) in
      ⊎_elim
      (λ (yes' : kept k ≡ true).
      let g : Follows o t (x ∷ kept_items kept (suc k) xs) = subst (λ b. Follows o t (put_if b x (kept_items kept (suc k) xs))) yes' f in
      subst (λ b. made o since r (placed (both b (is_on x r)) k (places_from (kept_on r) (suc k) xs)) (share_of o t r) ≡ share_of o (after_items t (put_if b x (kept_items kept (suc k) xs))) r) (sym yes')
      (took_part o laws t r x g.0 lt (is_on x r) refl since k (subst (λ n. at since n ≡ x) (add-zero k) (same 0 (omega arith))) (places_from (kept_on r) (suc k) xs)
      ∙ kept_made xs (grown t x) r (suc k) lt g.1 since on))
      (λ (no' : kept k ≡ false).
      let g : Follows o t (kept_items kept (suc k) xs) = subst (λ b. Follows o t (put_if b x (kept_items kept (suc k) xs))) no' f in
      subst (λ b. made o since r (placed (both b (is_on x r)) k (places_from (kept_on r) (suc k) xs)) (share_of o t r) ≡ share_of o (after_items t (put_if b x (kept_items kept (suc k) xs))) r) (sym no')
      (kept_made xs t r (suc k) lt g since on))
      (by_bool (kept k))
