-- What marks say of the blocks that a walk has met.
use Rattle.std.specs.Prelude.{◌≡◌, ◌≢◌, ◌⊎◌, ◌<◌, ◌≤◌, ◌+◌, ◌==◌, ℕ, suc, List, [], ◌∷◌, ◌++◌, Some, None, MatchResult, if◌then◌else◌, length, slice_index_or, Result, Ok, Err}
use Rattle.chain_blocks.specs.Chains.{Linked, Holds, IsTrail, AreChains, times, joined}
use Rattle.chain_blocks.specs.Walk.{Judged, met, walk, walk_heads, first_lost, judged}
use Rattle.chain_blocks.specs.declared.blocks.ChainFault.{ChainFault}
use Rattle.chain_blocks.specs.declared.blocks.ChainFault.TheVariants.{Lost, Memory}

-- how many blocks aren't marked
abbrev pub unmarked : List ℕ → ℕ
unmarked [] = 0
unmarked (m ∷ ms) = (if m == 0 then 1 else 0) + unmarked ms

-- the blocks of this chain have its mark, those of earlier chains a smaller one, and all others none
pub record Marked (marks : List ℕ) (mark : ℕ) (seen here : List ℕ) : Type 0 where
  pub bound : (k : ℕ) → slice_index_or marks k 0 ≤ mark
  pub none : (k : ℕ) → slice_index_or marks k 0 ≡ 0 → (times k seen ≡ 0) × (times k here ≡ 0)
  pub mine : (k : ℕ) → slice_index_or marks k 0 ≡ mark → (times k seen ≡ 0) × (times k here ≡ 1)
  pub other : (k : ℕ) → slice_index_or marks k 0 ≢ 0 → slice_index_or marks k 0 ≢ mark → (times k seen ≡ 1) × (times k here ≡ 0)
  pub size : unmarked marks + length seen + length here ≡ length marks

abbrev pub Meets : {T : Type 0} → List ℕ → List ℕ → ℕ → ℕ → Result T ChainFault → List ℕ → List ℕ → Type 0
Meets old new mark block result seen here = MatchResult result (λ _. (met (length old) seen here block ≡ None) × (block < length old) × Marked new mark seen (here ++ block ∷ [])) (λ fault. met (length old) seen here block ≡ Some fault)

-- a chain was walked
pub record Chained (links new : List ℕ) (mark head count : ℕ) (seen : List ℕ) : Type 0 where
  pub here : List ℕ
  pub walked : walk (suc (length links)) links seen [] head ≡ Ok here
  pub marked : Marked new mark seen here
  pub trail : IsTrail links head here
  pub counted : count ≡ length here

abbrev pub Chains : List ℕ → List ℕ → ℕ → ℕ → Result ℕ ChainFault → List ℕ → Type 0
Chains links new mark head result seen = MatchResult result (λ count. Chained links new mark head count seen) (λ fault. walk (suc (length links)) links seen [] head ≡ Err fault)

-- the chains of all heads were walked
pub record Headed (links heads new : List ℕ) : Type 0 where
  pub chains : List (List ℕ)
  pub walked : walk_heads links [] heads ≡ Ok chains
  pub marked : Marked new (length heads + 1) (joined chains) []
  pub stand : AreChains links chains

abbrev pub Heads : {T : Type 0} → List ℕ → List ℕ → List ℕ → Result T ChainFault → Type 0
Heads links heads new result = MatchResult result (λ _. Headed links heads new) (λ fault. walk_heads links [] heads ≡ Err fault)

abbrev pub Loses : {T : Type 0} → List ℕ → Result T ChainFault → List ℕ → Type 0
Loses marks result blocks = MatchResult result (λ _. (first_lost (length marks) 0 blocks ≡ None) × ((k : ℕ) → k < length marks → slice_index_or marks k 0 ≢ 0)) (λ fault. (block : ℕ) × (first_lost (length marks) 0 blocks ≡ Some block) × (fault ≡ Lost block))

-- what links are taken for: the chains of the heads, and the free blocks
pub record IsJudged (links heads : List ℕ) (free : ℕ) (blocks : Linked) : Type 0 where
  pub links_are : blocks.links ≡ links
  pub free_is : blocks.free ≡ free
  pub found : Judged
  pub judged_so : judged links heads free ≡ Ok found
  pub holds : Holds blocks found.free found.chains

abbrev pub Judges : List ℕ → List ℕ → ℕ → Result Linked ChainFault → Type 0
Judges links heads free (Ok blocks) = IsJudged links heads free blocks
Judges links heads free (Err fault) = (fault ≡ Memory) ⊎ (judged links heads free ≡ Err fault)
