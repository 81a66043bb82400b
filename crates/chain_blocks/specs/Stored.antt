-- Bytes of a disk in the blocks of chains, where the blocks begin at a place.
use Rattle.std.specs.Prelude.{◌≡◌, ◌<◌, ◌≤◌, ◌+◌, ◌-◌, ◌*◌, ℕ, List, [], ◌∷◌, ◌++◌, Bool, true, false, IsTrue, length, take, drop, replicate, slice_index_or, Result, Ok, Err, OnOk, MatchResult}
use Rattle.outside.specs.Disk.{Shown, Stays, part}
use Rattle.chain_blocks.specs.Chains.{Linked, Holds, block_len, last_link, times}
use Rattle.chain_blocks.specs.declared.chain.ChainWriteFault.{ChainWriteFault}
use Rattle.chain_blocks.specs.declared.chain.ChainWriteFault.TheVariants as write_fault
use Rattle.chain_blocks.specs.declared.chain.ChainReadFault.{ChainReadFault}
use Rattle.chain_blocks.specs.declared.chain.ChainReadFault.TheVariants as read_fault

-- the place of a block
abbrev pub place : ℕ → ℕ → ℕ
place at block = at + block_len * block

-- what stands in the blocks of a chain
abbrev pub stored : {A : Type 0} → List A → ℕ → List ℕ → List A
stored xs at [] = []
stored xs at (b ∷ bs) = part (place at b) block_len xs ++ stored xs at bs

-- so many blocks, and no fewer, hold so many bytes
pub record IsCount (blocks len : ℕ) : Type 0 where
  pub most : len ≤ block_len * blocks
  pub least : block_len * blocks < len + block_len

-- bytes in so many blocks, with zeros behind them
abbrev pub filled : ℕ → List ℕ → List ℕ
filled blocks bytes = bytes ++ replicate (block_len * blocks - length bytes) 0

-- new is old but for the blocks of a chain
pub record KeepsOthers {A : Type 0} (at : ℕ) (chain : List ℕ) (old new : List A) : Type 0 where
  pub size : length new ≡ length old
  pub before : take at new ≡ take at old
  pub others : (b : ℕ) → times b chain ≡ 0 → part (place at b) block_len new ≡ part (place at b) block_len old

-- bytes are written into the blocks of a chain, or some of these are torn
pub record Wrote {T E : Type 0} (at blocks : ℕ) (bytes chain : List ℕ) (result : Result T E) (old new : Shown) : Type 0 where
  pub settled : KeepsOthers at chain old.settled new.settled
  pub content : KeepsOthers at chain old.content new.content
  pub written : OnOk result (stored new.content at chain ≡ filled blocks bytes)

-- the first free blocks become a chain
pub record Took (count : ℕ) (free : List ℕ) (chains : List (List ℕ)) (head : ℕ) (new : Linked) : Type 0 where
  pub first : head ≡ slice_index_or free 0 last_link
  pub holds : Holds new (drop count free) (take count free ∷ chains)

-- the chain that was written; nothing stays taken where it wasn't
abbrev pub WritesChain : Linked → Linked → Result ℕ ChainWriteFault → List ℕ → List (List ℕ) → ℕ → Type 0
WritesChain old new (Ok head) free chains len = (n : ℕ) × IsCount n len × (n ≤ length free) × Took n free chains head new
WritesChain old new (Err write_fault.Disk) free chains len = (n : ℕ) × IsCount n len × (n ≤ length free) × Holds new free chains
WritesChain old new (Err (write_fault.Full needed)) free chains len = IsCount needed len × (length free < needed) × (new ≡ old)

-- the failed flags of a disk before and after
abbrev pub WriteFlag : {T : Type 0} → Bool → Bool → Result T ChainWriteFault → Type 0
WriteFlag before now (Ok x) = (before ≡ false) × (now ≡ false)
WriteFlag before now (Err write_fault.Disk) = now ≡ true
WriteFlag before now (Err (write_fault.Full needed)) = now ≡ before

abbrev pub ReadFlag : {T : Type 0} → Bool → Bool → Result T ChainReadFault → Type 0
ReadFlag before now (Ok x) = (before ≡ false) × (now ≡ false)
ReadFlag before now (Err read_fault.Disk) = now ≡ true
ReadFlag before now (Err read_fault.Memory) = now ≡ false

-- nothing that a disk holds has changed
pub record ReadsOnly (old new : Shown) : Type 0 where
  pub stays : Stays old new
  pub later : old.faults ≤ new.faults
  pub content : IsTrue old.tells → new.content ≡ old.content
  pub settled : IsTrue old.honest → new.settled ≡ old.settled

-- bytes came behind others, or a front of them
abbrev pub Appends : {T E : Type 0} → Result T E → List ℕ → List ℕ → List ℕ → Type 0
Appends result old new bytes = MatchResult result (λ _. new ≡ old ++ bytes) (λ _. (n : ℕ) × (new ≡ old ++ take n bytes))
