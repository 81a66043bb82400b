-- The walk along links that tells whether they are those of chains, and the first fault that it meets.
use Rattle.std.specs.Prelude.{◌+◌, ◌==◌, nat_lt, ℕ, zero, suc, List, [], ◌∷◌, ◌++◌, Option, Some, None, if◌then◌else◌, length, slice_index_or, Result, Ok, Err}
use Rattle.chain_blocks.specs.Chains.{last_link, times, joined}
use Rattle.chain_blocks.specs.declared.blocks.ChainFault.{ChainFault}
use Rattle.chain_blocks.specs.declared.blocks.ChainFault.TheVariants.{OutOfRange, Loop, Shared, Lost}

-- the fault of a link that is read as a block: not below the count, met before in this chain, or in an earlier one
unfoldable pub met : ℕ → List ℕ → List ℕ → ℕ → Option ChainFault
met count seen here at = if nat_lt at count then (if times at here == 0 then (if times at seen == 0 then None else Some (Shared at)) else Some (Loop at)) else Some (OutOfRange at)

abbrev pub unless : {A : Type 0} → Option ChainFault → Result A ChainFault → Result A ChainFault
unless None rest = rest
unless (Some fault) rest = Err fault

-- the blocks of a chain, where the earlier chains have those of a list. More steps than there are blocks are never made
unfoldable pub walk : ℕ → List ℕ → List ℕ → List ℕ → ℕ → Result (List ℕ) ChainFault
walk zero links seen here at = Ok here
walk (suc n) links seen here at = if at == last_link then Ok here else unless (met (length links) seen here at) (walk n links seen (here ++ at ∷ []) (slice_index_or links at last_link))

abbrev pub then_ok : {A B : Type 0} → Result A ChainFault → (A → Result B ChainFault) → Result B ChainFault
then_ok (Ok a) f = f a
then_ok (Err fault) f = Err fault

-- chains before those that are still to come
abbrev pub behind : List (List ℕ) → Result (List (List ℕ)) ChainFault → Result (List (List ℕ)) ChainFault
behind chains (Ok others) = Ok (chains ++ others)
behind chains (Err fault) = Err fault

-- the chains of the heads, in their order
unfoldable pub walk_heads : List ℕ → List ℕ → List ℕ → Result (List (List ℕ)) ChainFault
walk_heads links seen [] = Ok []
walk_heads links seen (head ∷ heads) = if head == last_link then Err (OutOfRange head) else then_ok (walk (suc (length links)) links seen [] head) (λ chain. behind (chain ∷ []) (walk_heads links (seen ++ chain) heads))

-- the first block from one on that stands in no list
unfoldable pub first_lost : ℕ → ℕ → List ℕ → Option ℕ
first_lost zero at blocks = None
first_lost (suc n) at blocks = if times at blocks == 0 then Some at else first_lost n (at + 1) blocks

-- the free blocks and the chains of links
pub record Judged : Type 0 where
  pub free : List ℕ
  pub chains : List (List ℕ)

abbrev pub unless_lost : Option ℕ → Judged → Result Judged ChainFault
unless_lost None judged = Ok judged
unless_lost (Some block) judged = Err (Lost block)

-- the chains of the heads, then the free blocks, then all blocks by number
unfoldable pub judged : List ℕ → List ℕ → ℕ → Result Judged ChainFault
judged links heads free = then_ok (walk_heads links [] heads) (λ chains. then_ok (walk (suc (length links)) links (joined chains) [] free) (λ frees. unless_lost (first_lost (length links) 0 (joined chains ++ frees)) (record { free = frees; chains = chains })))

-- the first blocks of chains
abbrev pub heads_of : List (List ℕ) → List ℕ
heads_of [] = []
heads_of ([] ∷ chains) = heads_of chains
heads_of ((b ∷ bs) ∷ chains) = b ∷ heads_of chains
