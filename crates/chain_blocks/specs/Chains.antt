-- Blocks in chains, by their links.
use Rattle.std.specs.Prelude.{◌≡◌, ◌<◌, ◌≤◌, ◌+◌, ◌==◌, ℕ, zero, suc, List, [], ◌∷◌, ◌++◌, if◌then◌else◌, length, slice_index_or, Result, Ok, Err}

-- the link behind which no block stands
abbrev pub last_link : ℕ
last_link = 4294967295

-- the bytes of a block
abbrev pub block_len : ℕ
block_len = 4096

-- the link of each block, and the first free block
pub record Linked : Type 0 where
  pub links : List ℕ
  pub free : ℕ

-- the blocks that come one after another from a link to the last one
abbrev pub IsTrail : List ℕ → ℕ → List ℕ → Type 0
IsTrail links at [] = at ≡ last_link
IsTrail links at (b ∷ bs) = (at ≡ b) × (b < length links) × IsTrail links (slice_index_or links b last_link) bs

-- a chain, which is named by its first block
abbrev pub IsChain : List ℕ → List ℕ → Type 0
IsChain links [] = ⊥
IsChain links (b ∷ bs) = IsTrail links b (b ∷ bs)

abbrev pub AreChains : List ℕ → List (List ℕ) → Type 0
AreChains links [] = Unit
AreChains links (c ∷ cs) = IsChain links c × AreChains links cs

-- how often a block stands in a list
abbrev pub times : ℕ → List ℕ → ℕ
times k [] = 0
times k (x ∷ xs) = (if x == k then 1 else 0) + times k xs

-- so many numbers from one on
abbrev pub numbers : ℕ → ℕ → List ℕ
numbers at zero = []
numbers at (suc n) = at ∷ numbers (at + 1) n

-- the blocks of all chains
abbrev pub joined : List (List ℕ) → List ℕ
joined [] = []
joined (c ∷ cs) = c ++ joined cs

-- the blocks hold a list of free ones and a list of chains: each block below the count in exactly one, once
pub record Holds (blocks : Linked) (free : List ℕ) (chains : List (List ℕ)) : Type 0 where
  pub few : length blocks.links ≤ last_link
  pub free_trail : IsTrail blocks.links blocks.free free
  pub chains_stand : AreChains blocks.links chains
  pub size : length free + length (joined chains) ≡ length blocks.links
  pub inside : (k : ℕ) → k < length blocks.links → times k free + times k (joined chains) ≡ 1
  pub outside : (k : ℕ) → length blocks.links ≤ k → times k free + times k (joined chains) ≡ 0

-- the fields of blocks: the links, the first free block, and how many are free
abbrev pub Sound : List ℕ → ℕ → ℕ → Type 0
Sound links first spare = (free : List ℕ) × (chains : List (List ℕ)) × Holds (record { links = links; free = first }) free chains × (spare ≡ length free)

-- a block is the first of a chain
abbrev pub IsHead : Linked → ℕ → Type 0
IsHead blocks head = (free : List ℕ) × (behind : List ℕ) × (chains : List (List ℕ)) × Holds blocks free ((head ∷ behind) ∷ chains)

-- and the last one
abbrev pub IsTail : Linked → ℕ → Type 0
IsTail blocks tail = (free : List ℕ) × (before : List ℕ) × (chains : List (List ℕ)) × Holds blocks free ((before ++ tail ∷ []) ∷ chains)

-- the first free block becomes a chain of one
abbrev pub Takes : {E : Type 0} → Linked → Linked → Result ℕ E → List ℕ → List (List ℕ) → Type 0
Takes old new (Ok block) [] chains = ⊥
Takes old new (Err e) [] chains = new ≡ old
Takes old new (Ok block) (b ∷ free) chains = (block ≡ b) × Holds new free ((b ∷ []) ∷ chains)
Takes old new (Err e) (b ∷ free) chains = ⊥

-- the first free block comes behind a chain
abbrev pub LinksBehind : {E : Type 0} → Linked → Linked → Result ℕ E → List ℕ → List ℕ → List (List ℕ) → Type 0
LinksBehind old new (Ok block) [] chain chains = ⊥
LinksBehind old new (Err e) [] chain chains = new ≡ old
LinksBehind old new (Ok block) (b ∷ free) chain chains = (block ≡ b) × Holds new free ((chain ++ b ∷ []) ∷ chains)
LinksBehind old new (Err e) (b ∷ free) chain chains = ⊥
