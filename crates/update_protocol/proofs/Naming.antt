-- Places and numbers: of the items of an epoch no two have one number, so numbers say what places say.
use Rattle.std.proofs.Common.{◌≡◌, ◌≢◌, ◌<◌, ◌⊎◌, inl, inr, ⊎_elim, ℕ, zero, suc, Bool, true, false, if◌then◌else◌, ◌||◌, ◌++◌, ◌+◌, List, [], ◌∷◌, length, refl, sym, ap, ◌∙◌, subst, arith, zero-add}
use Rattle.std.specs.Prelude.{◌==◌, map}
use Rattle.std.proofs.lemmas.Bool.Decides.{eqb_tells}
use Rattle.tree_model.specs.History.{IsLegalFrom, Item}
use Rattle.tree_model.specs.Step.{step}
use Rattle.tree_model.specs.Tree.{Tree}
use Rattle.update_protocol.specs.Lists.{IsIn, put}
use Rattle.update_protocol.specs.Machine.{named_too, names}
use Rattle.update_protocol.specs.Parts.{entries_of}
use Rattle.update_protocol.specs.Rows.{has}
use Rattle.update_protocol.specs.States.{entries_at, entry_at, number_at, numbers_at}
use Rattle.update_protocol.specs.World.{Accepted, History, Pairs, at, entry, request_of}
use Rattle.update_record.specs.Spelling.{targets_from}
use Rattle.update_protocol.proofs.Seating.{all_mem}

-- ---- distinct numbers

legal_behind : (targets : ℕ) (t : Tree) (h k : History) → IsLegalFrom targets t (h ++ k) → (u : Tree) × IsLegalFrom targets u k
legal_behind targets t [] k l = (t, l)
legal_behind targets t (i ∷ h) k l = legal_behind targets (step targets t i.request.op).0 h k l.2

item_in : (xs : List Accepted) (n : ℕ) → n < length xs → IsIn (entry (at xs n)) (entries_of xs)
unfolding at
item_in [] n l = absurd (omega (arith, l))
item_in (x ∷ xs) zero l = inl refl
item_in (x ∷ xs) (suc n) l = inr (item_in xs n (omega (arith, l)))

abbrev pub Apart : List Accepted → Type 0
Apart since = Pairs (λ n m a b. (request_of b).number ≢ (request_of a).number) since

legal_apart : (targets : ℕ) (t : Tree) (xs : List Accepted) → IsLegalFrom targets t (entries_of xs) → Apart xs
unfolding at
legal_apart targets t [] l n m lt in_xs = absurd (omega (arith, in_xs))
legal_apart targets t (x ∷ xs) l zero zero lt in_xs = absurd (omega (arith, lt))
legal_apart targets t (x ∷ xs) l zero (suc m) lt in_xs = all_mem (λ (j : Item). j.request.number ≢ (request_of x).number) (entries_of xs) (entry (at xs m)) l.1 (item_in xs m (omega (arith, in_xs)))
legal_apart targets t (x ∷ xs) l (suc n) zero lt in_xs = absurd (omega (arith, lt))
legal_apart targets t (x ∷ xs) l (suc n) (suc m) lt in_xs = legal_apart targets (step targets t (request_of x).op).0 xs l.2 n m (omega (arith, lt)) (omega (arith, in_xs))

pub apart : (targets : ℕ) (t : Tree) (h : History) (xs : List Accepted) → IsLegalFrom targets t (h ++ entries_of xs) → Apart xs
apart targets t h xs l = let b = legal_behind targets t h (entries_of xs) l in legal_apart targets b.0 xs b.1

order : (n m : ℕ) → (n < m) ⊎ ((n ≡ m) ⊎ (m < n))
order n m = grind arith

pub one_place : (since : List Accepted) → Apart since → (n m : ℕ) → n < length since → m < length since → number_at since n ≡ number_at since m → n ≡ m
one_place since far n m ln lm e = ⊎_elim (λ lt. absurd (far n m lt lm (sym e))) (λ r. ⊎_elim (λ same. same) (λ gt. absurd (far m n gt ln e)) r) (order n m)

-- ---- numbers of places

module _ (since : List Accepted) (far : Apart since) where
  pub has_number : (n : ℕ) → n < length since → (ns : List ℕ) → ((k : ℕ) → IsIn k ns → k < length since) → has (number_at since n) (numbers_at since ns) ≡ has n ns
  has_number n l [] known = refl
  has_number n l (k ∷ ns) known =
      let rest = has_number n l ns (λ j m. known j (inr m)) in
      elim (eqb_tells n k) [
        | inl w ↦ ap (λ j. (number_at since n == number_at since j) || has (number_at since n) (numbers_at since ns)) (sym w.1) ∙ same_here ∙ sym (ap (λ b. b || has n ns) w.0)
        | inr w ↦ elim (eqb_tells (number_at since n) (number_at since k)) [
          | inl v ↦ absurd (w.1 (one_place since far n k l (known k (inl refl)) v.1))
          | inr v ↦ ap (λ b. b || has (number_at since n) (numbers_at since ns)) v.0 ∙ rest ∙ sym (ap (λ b. b || has n ns) w.0)
        ]
      ]
    where
      same_here : ((number_at since n == number_at since n) || has (number_at since n) (numbers_at since ns)) ≡ true
      same_here = elim (eqb_tells (number_at since n) (number_at since n)) [ inl v ↦ ap (λ b. b || has (number_at since n) (numbers_at since ns)) v.0 | inr v ↦ absurd (v.1 refl) ]

  pub number_in : (ns : List ℕ) (n : ℕ) → IsIn n ns → IsIn (number_at since n) (numbers_at since ns)
  number_in [] n m = absurd m
  number_in (k ∷ ns) n m = ⊎_elim (λ (e : n ≡ k). inl (ap (number_at since) e)) (λ m. inr (number_in ns n m)) m

  pub in_numbers : (ns : List ℕ) (number : ℕ) → IsIn number (numbers_at since ns) → (n : ℕ) × IsIn n ns × (number ≡ number_at since n)
  in_numbers [] number m = absurd m
  in_numbers (k ∷ ns) number m = ⊎_elim (λ (e : number ≡ number_at since k). (k, inl refl, e)) (λ m. let r = in_numbers ns number m in (r.0, inr r.1, r.2)) m

pub has_join : (n : ℕ) (xs ys : List ℕ) → has n (xs ++ ys) ≡ (has n xs || has n ys)
has_join n [] ys = refl
has_join n (x ∷ xs) ys = ap (λ b. (n == x) || b) (has_join n xs ys) ∙ or_join (n == x) (has n xs) (has n ys)
  where
    or_join : (a b c : Bool) → (a || (b || c)) ≡ ((a || b) || c)
    or_join true b c = refl
    or_join false b c = refl

pub numbers_join : (since : List Accepted) (xs ys : List ℕ) → numbers_at since (xs ++ ys) ≡ numbers_at since xs ++ numbers_at since ys
numbers_join since [] ys = refl
numbers_join since (x ∷ xs) ys = ap (λ l. number_at since x ∷ l) (numbers_join since xs ys)

pub many_numbers : (since : List Accepted) (xs : List ℕ) → length (numbers_at since xs) ≡ length xs
many_numbers since [] = refl
many_numbers since (x ∷ xs) = ap suc (many_numbers since xs)

-- ---- functions that are changed at one point

pub lifted : {A B : Type 0} (F : ℕ → A → B) (f : ℕ → A) (t : ℕ) (v : A) (s : ℕ) → F s (put f t v s) ≡ put (λ r. F r (f r)) t (F t v) s
lifted F f t v s = elim (eqb_tells s t) [
  | inl w ↦ ap (λ b. F s (if b then v else f s)) w.0 ∙ ap (λ r. F r v) w.1 ∙ sym (ap (λ b. if b then F t v else F s (f s)) w.0)
  | inr w ↦ ap (λ b. F s (if b then v else f s)) w.0 ∙ sym (ap (λ b. if b then F t v else F s (f s)) w.0)
]

-- ---- entries whose disks name more

module _ (disk : ℕ → List ℕ) (t : ℕ) (numbers more : List ℕ) where
  entry_named : (k : ℕ) (x : Accepted) → (has k (disk t) || has (request_of x).number numbers) ≡ has k more → named_too t numbers (entry_at disk k x) ≡ entry_at (put disk t more) k x
  entry_named k x e = ap (λ (named : ℕ → Bool). record { item = entry x; on = targets_from 0 x.parts; named = named })
      (λ i s. (ap (λ b. put (λ r. has k (disk r)) t b s) e ∙ sym (lifted (λ r d. has k d) disk t more s)) i)

  entries_named : (xs : List Accepted) (k : ℕ) → ((j : ℕ) → j < length xs → (has (k + j) (disk t) || has (request_of (at xs j)).number numbers) ≡ has (k + j) more)
      → map (named_too t numbers) (entries_at disk k xs) ≡ entries_at (put disk t more) k xs
  unfolding at
  entries_named [] k each = refl
  entries_named (x ∷ xs) k each =
      let first : k + 0 ≡ k = omega arith in
      ap (λ e. e ∷ map (named_too t numbers) (entries_at disk (suc k) xs)) (entry_named k x (subst (λ n. (has n (disk t) || has (request_of x).number numbers) ≡ has n more) first (each 0 (omega arith))))
      ∙ ap (λ es. entry_at (put disk t more) k x ∷ es)
      (entries_named xs (suc k) (λ j l. let next : k + suc j ≡ suc k + j = omega arith in subst (λ n. (has n (disk t) || has (request_of (at xs j)).number numbers) ≡ has n more) next (each (suc j) (omega (arith, l)))))

  pub all_named_too : (since : List Accepted) → ((n : ℕ) → n < length since → (has n (disk t) || has (number_at since n) numbers) ≡ has n more)
      → names t numbers (entries_at disk 0 since) ≡ entries_at (put disk t more) 0 since
  all_named_too since each = entries_named since 0 (λ j l. subst (λ n. (has n (disk t) || has (number_at since j) numbers) ≡ has n more) (sym (zero-add j)) (each j l))
