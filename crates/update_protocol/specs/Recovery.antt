-- Recovery: what is left out, what is redone and in which order.
use Rattle.std.specs.Prelude.{Bool, List, [], false, length, suc, true, zero, ℕ, ◌<◌, ◌∷◌, ◌≡◌, ◌≤◌}
use Rattle.tree_model.specs.Keys.{Key, meets}
use Rattle.tree_model.specs.Looks.{looks, writes}
use Rattle.update_protocol.specs.Facts.{laid}
use Rattle.update_protocol.specs.Lists.{IsIn, Rising}
use Rattle.update_protocol.specs.World.{Accepted, Each, Full, History, Named, Pairs, at, grown, is_on, master, request_of}

-- the history before the item at a place
abbrev pub before_item : History → List Accepted → ℕ → History
before_item h [] i = h
before_item h (x ∷ xs) zero = h
before_item h (x ∷ xs) (suc i) = before_item (grown h x) xs i

-- what an item wrote and looked at over a history
abbrev pub writes_over : ℕ → History → Accepted → List Key
writes_over targets h x = writes targets (laid targets h).tree (request_of x).op

abbrev pub looks_over : ℕ → History → Accepted → List Key
looks_over targets h x = looks targets (laid targets h).tree (request_of x).op

-- a key that the earlier item wrote meets a key that the later looked at
pub record Depends (targets : ℕ) (base : History) (since : List Accepted) (n m : ℕ) : Type 0 where
  pub before : n < m
  pub inside : m < length since
  pub written : Key
  pub looked : Key
  pub writes : IsIn written (writes_over targets (before_item base since n) (at since n))
  pub looks : IsIn looked (looks_over targets (before_item base since m) (at since m))
  pub meet : meets written looked ≡ true

abbrev pub put_if : Bool → Accepted → List Accepted → List Accepted
put_if true x xs = x ∷ xs
put_if false x xs = xs

-- the items that are kept, in their order
abbrev pub kept_items : (ℕ → Bool) → ℕ → List Accepted → List Accepted
kept_items kept k [] = []
kept_items kept k (x ∷ xs) = put_if (kept k) x (kept_items kept (suc k) xs)

-- by stamp, each before those after it
abbrev pub ByStamp : List Accepted → List ℕ → Type 0
ByStamp since [] = Unit
ByStamp since (n ∷ ns) = ((m : ℕ) → IsIn m ns → (at since n).stamp ≤ (at since m).stamp) × ((m : ℕ) → IsIn m ns → (m ≡ n → ⊥)) × ByStamp since ns

-- live records, the union of those above their masters' marks, and what a log lacks
abbrev pub LiveAt : (ℕ → List ℕ) → (ℕ → List ℕ) → ℕ → ℕ → Type 0
LiveAt disk gone t n = IsIn n (disk t) × (IsIn n (gone t) → ⊥)

abbrev pub InUnion : List Accepted → (ℕ → List ℕ) → (ℕ → ℕ) → (ℕ → List ℕ) → ℕ → Type 0
InUnion since disk mark gone n = ((t : ℕ) × LiveAt disk gone t n) × (mark (master (at since n)) < (at since n).batch)

-- what is redone at t: the records of the union that name it and that its log lacks, by stamp
pub record Redo (since : List Accepted) (disk : ℕ → List ℕ) (mark : ℕ → ℕ) (gone : ℕ → List ℕ) (t : ℕ) (extra : List ℕ) : Type 0 where
  pub only : (n : ℕ) → IsIn n extra → InUnion since disk mark gone n × (is_on (at since n) t ≡ true) × (LiveAt disk gone t n → ⊥)
  pub all : (n : ℕ) → n < length since → InUnion since disk mark gone n → is_on (at since n) t ≡ true → (LiveAt disk gone t n → ⊥) → IsIn n extra
  pub order : ByStamp since extra

module _ (targets : ℕ) where
  -- the disks of an epoch once everything is committed that will be; `kept` are the items that some disk names
  pub record Gathered (base : History) (since : List Accepted) (disk : ℕ → List ℕ) (mark : ℕ → ℕ) (gone : ℕ → List ℕ) (kept : ℕ → Bool) : Type 0 where
    pub named : Each (λ n a. (kept n ≡ true → Named disk n) × (Named disk n → kept n ≡ true)) since
    pub rising : (t : ℕ) → Rising (disk t)
    pub known : (t n : ℕ) → IsIn n (disk t) → (n < length since) × (is_on (at since n) t ≡ true)
    -- of the kept items a disk names a front
    pub prefix : Pairs (λ n m a b. (t : ℕ) → IsIn m (disk t) → kept n ≡ true → is_on a t ≡ true → IsIn n (disk t)) since
    pub stamps : Pairs (λ n m a b. (t : ℕ) → is_on a t ≡ true → is_on b t ≡ true → a.stamp < b.stamp) since
    pub under : Each (λ n a. a.batch ≤ mark (master a) → Full disk n a) since
    pub cancelled : (t n : ℕ) → IsIn n (gone t) → (n < length since) × ((at since n).batch ≤ mark (master (at since n)))
    pub closed : (n m : ℕ) → Depends targets base since n m → kept m ≡ true → kept n ≡ true
