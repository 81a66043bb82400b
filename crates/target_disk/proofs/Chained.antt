-- The chains that a store keeps by their first blocks.
use Rattle.std.proofs.Common.{◌≡◌, ◌≢◌, ◌≤◌, ◌+◌, ◌*◌, ℕ, zero, suc, List, [], ◌∷◌, ◌++◌, Option, Some, None, length, get_or, eqb, refl, sym, ◌∙◌, ap, subst, arith, append-nil, length-append}
use Rattle.std.proofs.lemmas.Bool.{cond-true, cond-false, eq-eqb, ne_eqb}
use Rattle.chain_blocks.specs.Chains.{Linked, Holds, IsTrail, IsChain, AreChains, joined, block_len, last_link}
use Rattle.chain_blocks.proofs.Counting.{joined-append}
use Rattle.target_disk.specs.Consistent.{Fits, IsDraft, IsTaken, full_blocks, image_chain, trail_from}
use Rattle.target_disk.specs.declared.book.Book.{Book}
use Rattle.target_disk.specs.declared.book.Draft.{Draft}
use Rattle.target_disk.specs.declared.book.Ends.{Ends}

-- a trail is found by its first block
pub trail_is : (links : List ℕ) → length links ≤ last_link → (fuel at : ℕ) (xs : List ℕ) → IsTrail links at xs → length xs ≤ fuel → trail_from fuel links at ≡ xs
trail_is links few zero at [] trail le = refl
trail_is links few zero at (b ∷ bs) trail le = absurd (omega arith)
trail_is links few (suc n) at [] trail le = cond-true (eqb at last_link) [] (at ∷ trail_from n links (get_or links at last_link)) (eq-eqb at last_link trail)
trail_is links few (suc n) at (b ∷ bs) (same, inside, trail) le =
    let ne : at ≢ last_link = λ e. omega arith in
    cond-false (eqb at last_link) [] (at ∷ trail_from n links (get_or links at last_link)) (ne_eqb at last_link ne)
    ∙ ap (λ (l : List ℕ). at ∷ l) (trail_is links few n (get_or links at last_link) bs (subst (λ (j : ℕ). IsTrail links (get_or links j last_link) bs) (sym same) trail) (omega arith))
    ∙ ap (λ (j : ℕ). j ∷ bs) same

pub are_behind : (links : List ℕ) (cs : List (List ℕ)) (d : List ℕ) (ds : List (List ℕ)) → AreChains links (cs ++ d ∷ ds) → IsChain links d
are_behind links [] d ds (one, rest) = one
are_behind links (c ∷ cs) d ds (one, rest) = are_behind links cs d ds rest

-- a chain has no more blocks than there are
pub short_chain : (blocks : Linked) (free : List ℕ) (cs : List (List ℕ)) (d : List ℕ) (ds : List (List ℕ)) → Holds blocks free (cs ++ d ∷ ds) → length d ≤ length blocks.links
short_chain blocks free cs d ds h = omega (arith, h.size, ap length (joined-append cs (d ∷ ds)), length-append (joined cs) (d ++ joined ds), length-append d (joined ds))

pub chain_from : (blocks : Linked) (free : List ℕ) (cs : List (List ℕ)) (head : ℕ) (behind : List ℕ) (ds : List (List ℕ)) → Holds blocks free (cs ++ (head ∷ behind) ∷ ds) → trail_from (length blocks.links) blocks.links head ≡ head ∷ behind
chain_from blocks free cs head behind ds h = trail_is blocks.links h.few (length blocks.links) head (head ∷ behind) (are_behind blocks.links cs (head ∷ behind) ds h.chains_stand) (short_chain blocks free cs (head ∷ behind) ds h)

pub image_is : (most : ℕ) (book : Book) → (f : Fits most book) → image_chain book ≡ book.head ∷ f.behind
image_is most book f = chain_from book.blocks f.free f.taken book.head f.behind [] f.holds

-- the blocks that a commit has taken
pub full_taken : (blocks : Linked) (free : List ℕ) (ends : Option Ends) (taken cs : List (List ℕ)) (full : ℕ) → Holds blocks free (taken ++ cs) → IsTaken ends taken full → (full_blocks blocks.links ends ≡ joined taken) × (length (joined taken) ≡ full)
full_taken blocks free None taken cs full h (none, zero_is) = (ap joined (sym none), ap (λ (l : List (List ℕ)). length (joined l)) none ∙ sym zero_is)
full_taken blocks free (Some ends) taken cs full h (before, behind, split, is, size) =
    let one : joined taken ≡ ends.head ∷ behind = ap joined is ∙ append-nil (ends.head ∷ behind) in
    (chain_from blocks free [] ends.head behind cs (subst (λ (l : List (List ℕ)). Holds blocks free (l ++ cs)) is h) ∙ sym one, ap length one ∙ sym size)

pub draft_is : (most : ℕ) (book : Book) (d : Draft) → (f : Fits most book) → book.draft ≡ Some d → IsTaken d.ends f.taken d.full × (d.fill ≤ most) × (block_len * d.full + d.fill ≤ 32768000)
draft_is most book d f is = subst (λ (o : Option Draft). IsDraft most o f.taken) is f.draft

pub full_is : (most : ℕ) (book : Book) (d : Draft) → (f : Fits most book) → book.draft ≡ Some d → (full_blocks book.blocks.links d.ends ≡ joined f.taken) × (length (joined f.taken) ≡ d.full)
full_is most book d f is = full_taken book.blocks f.free d.ends f.taken ((book.head ∷ f.behind) ∷ []) d.full f.holds (draft_is most book d f is).0
