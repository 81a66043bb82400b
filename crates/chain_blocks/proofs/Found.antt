-- The lists that blocks hold are those that a walk finds.
use Rattle.std.proofs.Common.{◌≡◌, ⊎_elim, ◌<◌, ◌≤◌, ◌+◌, ℕ, zero, suc, List, [], ◌∷◌, ◌++◌, Some, None, length, get_or, cond, eqb, sym, ◌∙◌, ap, subst, arith, append_assoc, append-nil, length-append}
use Rattle.std.specs.Prelude.{Result, Ok}
use Rattle.std.proofs.lemmas.Bool.{cases_lt, cond-true, eq-eqb}
use Rattle.chain_blocks.specs.Chains.{Linked, IsTrail, AreChains, Holds, times, joined, last_link}
use Rattle.chain_blocks.specs.Walk.{met, walk, walk_heads, judged, then_ok, behind, heads_of}
use Rattle.chain_blocks.specs.declared.blocks.ChainFault.{ChainFault}
use Rattle.chain_blocks.specs.declared.blocks.ChainFault.TheVariants.{Loop, Shared}
use Rattle.chain_blocks.proofs.Counting.{times-append, times_here}
use Rattle.chain_blocks.proofs.Marking.{met_in, walk_end, walk_more, walk_head, walk_no_head, judged_lost, lost_none}

met_none : (count : ℕ) (seen here : List ℕ) (at : ℕ) → at < count → times at here ≡ 0 → times at seen ≡ 0 → met count seen here at ≡ None
met_none count seen here at lt one two = met_in count seen here at lt ∙ cond-true (eqb (times at here) 0) (cond (eqb (times at seen) 0) None (Some (Shared at))) (Some (Loop at)) (eq-eqb (times at here) 0 one) ∙ cond-true (eqb (times at seen) 0) None (Some (Shared at)) (eq-eqb (times at seen) 0 two)

-- a walk along a trail, none of whose blocks was met
pub walk_trail : (links seen : List ℕ) → length links ≤ last_link → (here rest : List ℕ) (at fuel : ℕ) → length rest < fuel → IsTrail links at rest → ((k : ℕ) → times k seen + times k here + times k rest ≤ 1) → walk fuel links seen here at ≡ Ok (here ++ rest)
walk_trail links seen few here rest at zero short trail each = absurd (omega arith)
walk_trail links seen few here [] at (suc fuel) short is each = walk_end links seen here at fuel is ∙ ap Ok (sym (append-nil here))
walk_trail links seen few here (b ∷ bs) at (suc fuel) short (same, lt, trail) each = subst (λ (j : ℕ). walk (suc fuel) links seen here j ≡ Ok (here ++ b ∷ bs)) (sym same)
    (walk_more links seen here b fuel (λ e. omega arith) (met_none (length links) seen here b lt (omega (arith, each b, times_here b bs)) (omega (arith, each b, times_here b bs)))
    ∙ walk_trail links seen few (here ++ b ∷ []) bs (get_or links b last_link) fuel (omega arith) trail (λ k. omega (arith, each k, times-append k here (b ∷ [])))
    ∙ ap Ok (append_assoc here (b ∷ []) bs))

-- a walk along all chains
pub walk_all : (links : List ℕ) → length links ≤ last_link → (seen : List ℕ) (chains : List (List ℕ)) → AreChains links chains → length (joined chains) ≤ length links → ((k : ℕ) → times k seen + times k (joined chains) ≤ 1) → walk_heads links seen (heads_of chains) ≡ Ok chains
walk_all links few seen [] stand short each = walk_no_head links seen
walk_all links few seen ([] ∷ chains) (none, stand) short each = absurd none
walk_all links few seen ((b ∷ bs) ∷ chains) (chain, stand) short each =
    let inside : b < length links = chain.1 in
    let sizes = length-append (b ∷ bs) (joined chains) in
    walk_head links seen b (heads_of chains) (λ e. omega arith)
    ∙ ap (λ (r : Result (List ℕ) ChainFault). then_ok r (λ c. behind (c ∷ []) (walk_heads links (seen ++ c) (heads_of chains)))) (walk_trail links seen few [] (b ∷ bs) b (suc (length links)) (omega (arith, sizes)) chain (λ k. omega (arith, each k, times-append k (b ∷ bs) (joined chains))))
    ∙ ap (behind ((b ∷ bs) ∷ [])) (walk_all links few (seen ++ b ∷ bs) chains stand (omega (arith, sizes)) (λ k. omega (arith, each k, times-append k (b ∷ bs) (joined chains), times-append k seen (b ∷ bs))))

pub at_most_once : (blocks : Linked) (free : List ℕ) (chains : List (List ℕ)) → Holds blocks free chains → (k : ℕ) → times k free + times k (joined chains) ≤ 1
at_most_once blocks free chains h k = ⊎_elim (λ lt. omega (arith, h.inside k lt)) (λ le. omega (arith, h.outside k le)) (cases_lt k (length blocks.links))

pub found_lists : (blocks : Linked) (free : List ℕ) (chains : List (List ℕ)) → Holds blocks free chains → judged blocks.links (heads_of chains) blocks.free ≡ Ok (record { free = free; chains = chains })
found_lists blocks free chains h =
    let links = blocks.links in
    let size = h.size in
    judged_lost links (heads_of chains) blocks.free chains (walk_all links h.few [] chains h.chains_stand (omega arith) (λ k. omega (arith, at_most_once blocks free chains h k))) free None
    (walk_trail links (joined chains) h.few [] free blocks.free (suc (length links)) (omega arith) h.free_trail (λ k. omega (arith, at_most_once blocks free chains h k)))
    (lost_none (length links) 0 (joined chains ++ free) (λ k low high e. omega (arith, h.inside k (omega arith), times-append k (joined chains) free)))
