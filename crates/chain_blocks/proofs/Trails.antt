-- Trails, and links that are set.
use Rattle.std.proofs.Common.{◌≡◌, ◌≢◌, ◌⊎◌, ⊎_elim, ◌<◌, ◌≤◌, ◌+◌, ◌-◌, ℕ, zero, suc, List, [], ◌∷◌, ◌++◌, length, get_or, set, refl, sym, ◌∙◌, ap, subst, arith, append_assoc, length-append, get_or-set_same, get_or-set_other, inl, inr, cond, ltb}
use Rattle.std.specs.Prelude.{Result, Ok, Err}
use Rattle.std.proofs.lemmas.List.{length-set}
use Rattle.std.proofs.lemmas.Bool.{cases_eq, cond-true, cond-false, le-ltb, lt-ltb}
use Rattle.chain_blocks.specs.Chains.{Linked, Sound, IsHead, IsTail, IsTrail, IsChain, AreChains, Holds, Takes, LinksBehind, times, joined, numbers, last_link}
use Rattle.chain_blocks.proofs.Counting.{times-append, times_here, times_there}

-- a block that stands in no list with others before it
apart : (x b : ℕ) (xs : List ℕ) → times b (x ∷ xs) ≡ 0 → (x ≢ b) × (times b xs ≡ 0)
apart x b xs none = ⊎_elim
    (λ same. absurd (omega (arith, ap (λ (j : ℕ). times j (x ∷ xs)) same, times_here x xs)))
    (λ ne. (ne, omega (arith, times_there x b xs ne)))
    (cases_eq x b)

pub trail_set : (links : List ℕ) (b v at : ℕ) (xs : List ℕ) → times b xs ≡ 0 → IsTrail links at xs → IsTrail (set links b v) at xs
trail_set links b v at [] none is = is
trail_set links b v at (x ∷ xs) none (same, lt, behind) =
    let far = apart x b xs none in
    (same, omega (arith, length-set links b v), subst (λ (j : ℕ). IsTrail (set links b v) j xs) (sym (get_or-set_other links b x v last_link far.0)) (trail_set links b v (get_or links x last_link) xs far.1 behind))

chain_set : (links : List ℕ) (b v : ℕ) (c : List ℕ) → times b c ≡ 0 → IsChain links c → IsChain (set links b v) c
chain_set links b v [] none is = is
chain_set links b v (x ∷ xs) none is = trail_set links b v x (x ∷ xs) none is

pub chains_set : (links : List ℕ) (b v : ℕ) (cs : List (List ℕ)) → times b (joined cs) ≡ 0 → AreChains links cs → AreChains (set links b v) cs
chains_set links b v [] none is = is
chains_set links b v (c ∷ cs) none (first, others) = (chain_set links b v c (omega (arith, times-append b c (joined cs))) first, chains_set links b v cs (omega (arith, times-append b c (joined cs))) others)

-- a trail whose last block is linked to another trail
pub trail_join : (links : List ℕ) (at : ℕ) (before : List ℕ) (tail v : ℕ) (ys : List ℕ) → times tail before ≡ 0 → IsTrail links at (before ++ tail ∷ []) → IsTrail (set links tail v) v ys → IsTrail (set links tail v) at (before ++ tail ∷ ys)
trail_join links at [] tail v ys none (same, lt, end) behind = (same, omega (arith, length-set links tail v), subst (λ (j : ℕ). IsTrail (set links tail v) j ys) (sym (get_or-set_same links tail v last_link lt)) behind)
trail_join links at (x ∷ before) tail v ys none (same, lt, rest) behind =
    let far = apart x tail before none in
    (same, omega (arith, length-set links tail v), subst (λ (j : ℕ). IsTrail (set links tail v) j (before ++ tail ∷ ys)) (sym (get_or-set_other links tail x v last_link far.0)) (trail_join links (get_or links x last_link) before tail v ys far.1 rest behind))

-- one trail leads from a link
pub trail_unique : (links : List ℕ) (at : ℕ) (xs ys : List ℕ) → length links ≤ last_link → IsTrail links at xs → IsTrail links at ys → xs ≡ ys
trail_unique links at [] [] few one two = refl
trail_unique links at [] (y ∷ ys) few one (same, lt, rest) = absurd (omega arith)
trail_unique links at (x ∷ xs) [] few (same, lt, rest) two = absurd (omega arith)
trail_unique links at (x ∷ xs) (y ∷ ys) few (same, lt, rest) (also, lt2, rest2) =
    let e : x ≡ y = sym same ∙ also in
    ap (λ (j : ℕ). j ∷ xs) e ∙ ap (λ (l : List ℕ). y ∷ l) (trail_unique links (get_or links y last_link) xs ys few (subst (λ (j : ℕ). IsTrail links (get_or links j last_link) xs) e rest) rest2)

-- the first free block is taken
pub takes_none : {E : Type 0} (links : List ℕ) (e : E) (free : List ℕ) (chains : List (List ℕ)) (first : ℕ) → first ≡ last_link → Holds (record { links = links; free = first }) free chains → Takes (record { links = links; free = first }) (record { links = links; free = first }) (Err e) free chains
takes_none links e [] chains first is holds = refl
takes_none links e (b ∷ free) chains first is holds = let t = holds.free_trail in let few = holds.few in let lt : b < length links = t.1 in let same : first ≡ b = t.0 in absurd (omega arith)

pub took : (links : List ℕ) (first b : ℕ) (free : List ℕ) (chains : List (List ℕ)) → Holds (record { links = links; free = first }) (b ∷ free) chains → first ≡ b → Holds (record { links = set links first last_link; free = get_or links first last_link }) free ((b ∷ []) ∷ chains)
took links first b free chains holds same =
    let lt : b < length links = holds.free_trail.1 in
    let once = holds.inside b lt in
    let here = times_here b free in
    subst (λ (j : ℕ). Holds (record { links = set links j last_link; free = get_or links j last_link }) free ((b ∷ []) ∷ chains)) (sym same) (record {
      few = let few = holds.few in omega (arith, length-set links b last_link);
      free_trail = trail_set links b last_link (get_or links b last_link) free (omega arith) holds.free_trail.2;
      chains_stand = ((refl, omega (arith, length-set links b last_link), get_or-set_same links b last_link last_link lt), chains_set links b last_link chains (omega arith) holds.chains_stand);
      size = let size = holds.size in omega (arith, length-set links b last_link);
      inside = λ k less. let was = holds.inside k (omega (arith, length-set links b last_link)) in omega (arith, times-append k (b ∷ []) (joined chains), times-append k (b ∷ []) free);
      outside = λ k past. let was = holds.outside k (omega (arith, length-set links b last_link)) in omega (arith, times-append k (b ∷ []) (joined chains), times-append k (b ∷ []) free);
    })

pub takes_one : (E : Type 0) (links : List ℕ) (free : List ℕ) (chains : List (List ℕ)) (first next : ℕ) → first ≢ last_link → next ≡ get_or links first last_link → Holds (record { links = links; free = first }) free chains → Takes {E = E} (record { links = links; free = first }) (record { links = set links first last_link; free = next }) (Ok first) free chains
takes_one E links [] chains first next ne is holds = absurd (ne holds.free_trail)
takes_one E links (b ∷ free) chains first next ne is holds = (holds.free_trail.0, subst (λ (j : ℕ). Holds (record { links = set links first last_link; free = j }) free ((b ∷ []) ∷ chains)) (sym is) (took links first b free chains holds holds.free_trail.0))

in_trail : (links : List ℕ) (at : ℕ) (before : List ℕ) (tail : ℕ) → IsTrail links at (before ++ tail ∷ []) → tail < length links
in_trail links at [] tail (same, lt, end) = lt
in_trail links at (x ∷ before) tail (same, lt, rest) = in_trail links (get_or links x last_link) before tail rest

in_chain : (links : List ℕ) (before : List ℕ) (tail : ℕ) → IsChain links (before ++ tail ∷ []) → tail < length links
in_chain links [] tail is = in_trail links tail [] tail is
in_chain links (x ∷ before) tail is = in_trail links x (x ∷ before) tail is

-- a chain is longer by a block
pub linked : (links : List ℕ) (first b tail : ℕ) (free before : List ℕ) (chains : List (List ℕ)) → Holds (record { links = links; free = first }) free ((b ∷ []) ∷ ((before ++ tail ∷ []) ∷ chains)) → Holds (record { links = set links tail b; free = first }) free (((before ++ tail ∷ []) ++ b ∷ []) ∷ chains)
linked links first b tail free before chains holds =
    let stand = holds.chains_stand in
    let whole = before ++ tail ∷ [] in
    let all : (k : ℕ) → times k (joined ((b ∷ []) ∷ (whole ∷ chains))) ≡ times k (b ∷ []) + (times k before + times k (tail ∷ []) + times k (joined chains)) =
    λ k. times-append k (b ∷ []) (whole ++ joined chains) ∙ ap (λ (n : ℕ). times k (b ∷ []) + n) (times-append k whole (joined chains) ∙ ap (λ (n : ℕ). n + times k (joined chains)) (times-append k before (tail ∷ []))) in
    let now : (k : ℕ) → times k (joined ((whole ++ b ∷ []) ∷ chains)) ≡ times k (b ∷ []) + (times k before + times k (tail ∷ []) + times k (joined chains)) =
    λ k. times-append k (whole ++ b ∷ []) (joined chains) ∙ ap (λ (n : ℕ). n + times k (joined chains)) (times-append k whole (b ∷ []) ∙ ap (λ (n : ℕ). n + times k (b ∷ [])) (times-append k before (tail ∷ []))) ∙ omega arith in
    let inside_tail : tail < length links = in_chain links before tail stand.1.0 in
    let once = holds.inside tail inside_tail in
    let sum = all tail in
    let here = times_here tail [] in
    record {
      few = let few = holds.few in omega (arith, length-set links tail b);
      free_trail = trail_set links tail b first free (omega arith) holds.free_trail;
      chains_stand = (subst (IsChain (set links tail b)) (sym (append_assoc before (tail ∷ []) (b ∷ []))) (longer links before tail b (omega arith) (omega arith) stand.0 stand.1.0), chains_set links tail b chains (omega arith) stand.1.1);
      size = let size = holds.size in omega (arith, length-set links tail b, length-append whole (joined chains), length-append (whole ++ b ∷ []) (joined chains), length-append whole (b ∷ []));
      inside = λ k less. let was = holds.inside k (omega (arith, length-set links tail b)) in omega (arith, all k, now k);
      outside = λ k past. let was = holds.outside k (omega (arith, length-set links tail b)) in omega (arith, all k, now k);
    }
  where
    longer : (links : List ℕ) (before : List ℕ) (tail b : ℕ) → times tail before ≡ 0 → times tail (b ∷ []) ≡ 0 → IsTrail links b (b ∷ []) → IsChain links (before ++ tail ∷ []) → IsChain (set links tail b) (before ++ tail ∷ (b ∷ []))
    longer links [] tail b none far one is = trail_join links tail [] tail b (b ∷ []) none is (trail_set links tail b b (b ∷ []) far one)
    longer links (x ∷ before) tail b none far one is = trail_join links x (x ∷ before) tail b (b ∷ []) none is (trail_set links tail b b (b ∷ []) far one)

-- a chain is given back
pub given : (links : List ℕ) (first head tail : ℕ) (free before : List ℕ) (behind : List ℕ) (chains : List (List ℕ)) → Holds (record { links = links; free = first }) free ((head ∷ behind) ∷ chains) → head ∷ behind ≡ before ++ tail ∷ [] → Holds (record { links = set links tail first; free = head }) ((head ∷ behind) ++ free) chains
given links first head tail free before behind chains holds is =
    let stand = holds.chains_stand in
    let chain : IsTrail links head (before ++ tail ∷ []) = subst (IsTrail links head) is stand.0 in
    let all : (k : ℕ) → times k (joined ((head ∷ behind) ∷ chains)) ≡ times k before + times k (tail ∷ []) + times k (joined chains) =
    λ k. times-append k (head ∷ behind) (joined chains) ∙ ap (λ (n : ℕ). n + times k (joined chains)) (ap (times k) is ∙ times-append k before (tail ∷ [])) in
    let now : (k : ℕ) → times k ((head ∷ behind) ++ free) ≡ times k before + times k (tail ∷ []) + times k free =
    λ k. times-append k (head ∷ behind) free ∙ ap (λ (n : ℕ). n + times k free) (ap (times k) is ∙ times-append k before (tail ∷ [])) in
    let inside_tail : tail < length links = in_trail links head before tail chain in
    let once = holds.inside tail inside_tail in
    let sum = all tail in
    let here = times_here tail [] in
    record {
      few = let few = holds.few in omega (arith, length-set links tail first);
      free_trail = subst (IsTrail (set links tail first) head) (sym (ap (λ (l : List ℕ). l ++ free) is ∙ append_assoc before (tail ∷ []) free)) (trail_join links head before tail first free (omega arith) chain (trail_set links tail first first free (omega arith) holds.free_trail));
      chains_stand = chains_set links tail first chains (omega arith) stand.1;
      size = let size = holds.size in omega (arith, length-set links tail first, length-append (head ∷ behind) (joined chains), length-append (head ∷ behind) free);
      inside = λ k less. let was = holds.inside k (omega (arith, length-set links tail first)) in omega (arith, all k, now k);
      outside = λ k past. let was = holds.outside k (omega (arith, length-set links tail first)) in omega (arith, all k, now k);
    }

-- how far a walk along a chain has come
pub record Reaches (links chain : List ℕ) (last count : ℕ) : Type 0 where
  pub before : List ℕ
  pub rest : List ℕ
  pub is : chain ≡ before ++ last ∷ rest
  pub trail : IsTrail links last (last ∷ rest)
  pub counted : length before + 1 ≡ count

pub reaches_first : (links : List ℕ) (head : ℕ) (behind : List ℕ) → IsTrail links head (head ∷ behind) → Reaches links (head ∷ behind) head 1
reaches_first links head behind is = record { before = []; rest = behind; is = refl; trail = is; counted = refl }

pub reaches_next : (links chain : List ℕ) (last count : ℕ) → Reaches links chain last count → get_or links last last_link ≢ last_link → Reaches links chain (get_or links last last_link) (count + 1)
reaches_next links chain last count r ne = by_rest r.before r.rest r.is r.trail r.counted
  where
    by_rest : (before rest : List ℕ) → chain ≡ before ++ last ∷ rest → IsTrail links last (last ∷ rest) → length before + 1 ≡ count → Reaches links chain (get_or links last last_link) (count + 1)
    by_rest before [] is (same, lt, end) counted = absurd (ne end)
    by_rest before (y ∷ rest) is (same, lt, (that, less, behind)) counted = subst (λ (j : ℕ). Reaches links chain j (count + 1)) (sym that) (record {
      before = before ++ last ∷ [];
      rest = rest;
      is = is ∙ sym (append_assoc before (last ∷ []) (y ∷ rest));
      trail = (refl, less, behind);
      counted = omega (arith, length-append before (last ∷ []));
    })

pub reaches_end : (links chain : List ℕ) (last count : ℕ) → length links ≤ last_link → Reaches links chain last count → get_or links last last_link ≡ last_link → (before : List ℕ) × (chain ≡ before ++ last ∷ []) × (length chain ≡ count)
reaches_end links chain last count few r end = by_rest r.before r.rest r.is r.trail r.counted
  where
    by_rest : (before rest : List ℕ) → chain ≡ before ++ last ∷ rest → IsTrail links last (last ∷ rest) → length before + 1 ≡ count → (before : List ℕ) × (chain ≡ before ++ last ∷ []) × (length chain ≡ count)
    by_rest before [] is (same, lt, at) counted = (before, is, omega (arith, ap length is, length-append before (last ∷ [])))
    by_rest before (y ∷ rest) is (same, lt, (that, less, behind)) counted = absurd (omega arith)

-- and it is inside the blocks
pub reaches_inside : (links chain : List ℕ) (last count : ℕ) → Reaches links chain last count → (last < length links) × (count ≤ length chain)
reaches_inside links chain last count r = let counted = r.counted in (r.trail.1, omega (arith, ap length r.is, length-append r.before (last ∷ r.rest)))

-- all blocks free, as they are made
pub length-numbers : (at n : ℕ) → length (numbers at n) ≡ n
length-numbers at zero = refl
length-numbers at (suc n) = omega (arith, length-numbers (at + 1) n)

times_numbers_out : (k at n : ℕ) → (k < at) ⊎ (at + n ≤ k) → times k (numbers at n) ≡ 0
times_numbers_out k at zero far = refl
times_numbers_out k at (suc n) far = times_there at k (numbers (at + 1) n) (λ same. ⊎_elim (λ lt. absurd (omega arith)) (λ le. absurd (omega arith)) far) ∙ times_numbers_out k (at + 1) n (⊎_elim (λ lt. inl (omega arith)) (λ le. inr (omega arith)) far)

times_numbers_in : (k at n : ℕ) → at ≤ k → k < at + n → times k (numbers at n) ≡ 1
times_numbers_in k at zero le lt = absurd (omega arith)
times_numbers_in k at (suc n) le lt = ⊎_elim
    (λ same. subst (λ (j : ℕ). times j (at ∷ numbers (at + 1) n) ≡ 1) same (omega (arith, times_here at (numbers (at + 1) n), times_numbers_out at (at + 1) n (inl (omega arith)))))
    (λ ne. times_there at k (numbers (at + 1) n) ne ∙ times_numbers_in k (at + 1) n (omega arith) (omega arith))
    (cases_eq at k)

trail_numbers : (links : List ℕ) (at n : ℕ) → at + suc n ≡ length links → ((k : ℕ) → k < length links → get_or links k last_link ≡ cond (ltb (k + 1) (length links)) (k + 1) last_link) → IsTrail links at (numbers at (suc n))
trail_numbers links at zero all each = (refl, omega arith, each at (omega arith) ∙ cond-false (ltb (at + 1) (length links)) (at + 1) last_link (le-ltb (at + 1) (length links) (omega arith)))
trail_numbers links at (suc n) all each = (refl, omega arith, subst (λ (j : ℕ). IsTrail links j (numbers (at + 1) (suc n))) (sym (each at (omega arith) ∙ cond-true (ltb (at + 1) (length links)) (at + 1) last_link (lt-ltb (at + 1) (length links) (omega arith)))) (trail_numbers links (at + 1) n (omega arith) each))

pub holds_new : (links : List ℕ) (count first : ℕ) → length links ≡ count → count ≤ last_link → ((k : ℕ) → k < count → get_or links k last_link ≡ cond (ltb (k + 1) count) (k + 1) last_link) → first ≡ cond (ltb 0 count) 0 last_link → Holds (record { links = links; free = first }) (numbers 0 count) []
holds_new links count first size few each is = record {
  few = omega arith;
  free_trail = by_count count size each is;
  chains_stand = tt;
  size = omega (arith, length-numbers 0 count);
  inside = λ k lt. omega (arith, times_numbers_in k 0 count (omega arith) (omega arith));
  outside = λ k le. omega (arith, times_numbers_out k 0 count (inr (omega arith)));
}
  where
    by_count : (count : ℕ) → length links ≡ count → ((k : ℕ) → k < count → get_or links k last_link ≡ cond (ltb (k + 1) count) (k + 1) last_link) → first ≡ cond (ltb 0 count) 0 last_link → IsTrail links first (numbers 0 count)
    by_count zero size each is = is
    by_count (suc n) size each is = subst (λ (j : ℕ). IsTrail links j (numbers 0 (suc n))) (sym (is ∙ cond-true (ltb 0 (suc n)) 0 last_link (lt-ltb 0 (suc n) (omega arith)))) (trail_numbers links 0 n (omega arith) (λ k lt. each k (omega arith) ∙ ap (λ (m : ℕ). cond (ltb (k + 1) m) (k + 1) last_link) (sym size)))

-- what the fields of blocks say
pub sound_first : (links : List ℕ) (first spare : ℕ) → Sound links first spare → first ≢ last_link → (first < length links) × (0 < spare)
sound_first links first spare ([], chains, holds, is) ne = absurd (ne holds.free_trail)
sound_first links first spare (b ∷ free, chains, holds, is) ne = let t = holds.free_trail in let same : first ≡ b = t.0 in let lt : b < length links = t.1 in (omega arith, omega arith)

pub sound_took : (links : List ℕ) (first next spare : ℕ) → first ≢ last_link → next ≡ get_or links first last_link → Sound links first spare → Sound (set links first last_link) next (spare - 1)
sound_took links first next spare ne next_is ([], chains, holds, is) = absurd (ne holds.free_trail)
sound_took links first next spare ne next_is (b ∷ free, chains, holds, is) = (free, (b ∷ []) ∷ chains, subst (λ (j : ℕ). Holds (record { links = set links first last_link; free = j }) free ((b ∷ []) ∷ chains)) (sym next_is) (took links first b free chains holds holds.free_trail.0), omega arith)

-- after a block was taken for a chain
pub after_take : {E : Type 0} (old new : Linked) (r : Result ℕ E) (block tail : ℕ) → r ≡ Ok block → IsTail old tail → ((free : List ℕ) → (chains : List (List ℕ)) → Holds old free chains → Takes old new r free chains) → (free : List ℕ) × (before : List ℕ) × (chains : List (List ℕ)) × Holds new free ((block ∷ []) ∷ ((before ++ tail ∷ []) ∷ chains))
after_take {E} old new r block tail is (free, before, chains, holds) takes = by_free free (subst (λ (q : Result ℕ E). Takes old new q free ((before ++ tail ∷ []) ∷ chains)) is (takes free ((before ++ tail ∷ []) ∷ chains) holds))
  where
    by_free : (free : List ℕ) → Takes {E = E} old new (Ok block) free ((before ++ tail ∷ []) ∷ chains) → (free : List ℕ) × (before : List ℕ) × (chains : List (List ℕ)) × Holds new free ((block ∷ []) ∷ ((before ++ tail ∷ []) ∷ chains))
    by_free [] none = absurd none
    by_free (b ∷ free) (same, holds) = (free, before, chains, subst (λ (j : ℕ). Holds new free ((j ∷ []) ∷ ((before ++ tail ∷ []) ∷ chains))) (sym same) holds)

pub tail_inside : (new : Linked) (block tail : ℕ) → (free : List ℕ) × (before : List ℕ) × (chains : List (List ℕ)) × Holds new free ((block ∷ []) ∷ ((before ++ tail ∷ []) ∷ chains)) → tail < length new.links
tail_inside new block tail (free, before, chains, holds) = let stand = holds.chains_stand in in_chain new.links before tail stand.1.0

pub sound_linked : (links : List ℕ) (first spare block tail : ℕ) → Sound links first spare → (free : List ℕ) × (before : List ℕ) × (chains : List (List ℕ)) × Holds (record { links = links; free = first }) free ((block ∷ []) ∷ ((before ++ tail ∷ []) ∷ chains)) → Sound (set links tail block) first spare
sound_linked links first spare block tail (own, others, was, is) (free, before, chains, holds) =
    (free, ((before ++ tail ∷ []) ++ block ∷ []) ∷ chains, linked links first block tail free before chains holds, is ∙ ap length (trail_unique links first own free was.few was.free_trail holds.free_trail))

pub links_behind : {E : Type 0} (old : Linked) (links : List ℕ) (first : ℕ) (r : Result ℕ E) (block tail : ℕ) (free before : List ℕ) (chains : List (List ℕ)) → r ≡ Ok block → Takes old (record { links = links; free = first }) r free ((before ++ tail ∷ []) ∷ chains) → LinksBehind {E = E} old (record { links = set links tail block; free = first }) (Ok block) free (before ++ tail ∷ []) chains
links_behind {E} old links first r block tail free before chains is takes = by_free free (subst (λ (q : Result ℕ E). Takes old (record { links = links; free = first }) q free ((before ++ tail ∷ []) ∷ chains)) is takes)
  where
    by_free : (free : List ℕ) → Takes {E = E} old (record { links = links; free = first }) (Ok block) free ((before ++ tail ∷ []) ∷ chains) → LinksBehind {E = E} old (record { links = set links tail block; free = first }) (Ok block) free (before ++ tail ∷ []) chains
    by_free [] none = absurd none
    by_free (b ∷ free) (same, holds) = (same, linked_same b free same holds)
      where
        linked_same : (b : ℕ) (free : List ℕ) → block ≡ b → Holds (record { links = links; free = first }) free ((b ∷ []) ∷ ((before ++ tail ∷ []) ∷ chains)) → Holds (record { links = set links tail block; free = first }) free (((before ++ tail ∷ []) ++ b ∷ []) ∷ chains)
        linked_same b free same holds = subst (λ (j : ℕ). Holds (record { links = set links tail j; free = first }) free (((before ++ tail ∷ []) ++ b ∷ []) ∷ chains)) (sym same) (linked links first b tail free before chains holds)

pub links_none : {E : Type 0} (old new : Linked) (r : Result ℕ E) (e : E) (free chain : List ℕ) (chains : List (List ℕ)) → r ≡ Err e → Takes old new r free (chain ∷ chains) → LinksBehind old new (Err e) free chain chains
links_none {E} old new r e free chain chains is takes = by_free free (subst (λ (q : Result ℕ E). Takes old new q free (chain ∷ chains)) is takes)
  where
    by_free : (free : List ℕ) → Takes old new (Err e) free (chain ∷ chains) → LinksBehind old new (Err e) free chain chains
    by_free [] same = same
    by_free (b ∷ free) none = none

-- a chain is given back, by the last of its blocks
pub record Gives (links : List ℕ) (first spare head last count : ℕ) : Type 0 where
  pub inside : last < length links
  pub room : spare + count ≤ last_link
  pub sound : Sound (set links last first) head (spare + count)
  pub each : (free behind : List ℕ) (chains : List (List ℕ)) → Holds (record { links = links; free = first }) free ((head ∷ behind) ∷ chains) → Holds (record { links = set links last first; free = head }) ((head ∷ behind) ++ free) chains

pub gives : (links : List ℕ) (first spare head last count : ℕ) → Sound links first spare → IsHead (record { links = links; free = first }) head
    → ((behind : List ℕ) → IsTrail links head (head ∷ behind) → (before : List ℕ) × (head ∷ behind ≡ before ++ last ∷ []) × (length (head ∷ behind) ≡ count))
    → Gives links first spare head last count
gives links first spare head last count (own, others, was, spare_is) (free, behind, chains, holds) found =
    let chain = holds.chains_stand.0 in
    let there = found behind chain in
    let same : own ≡ free = trail_unique links first own free was.few was.free_trail holds.free_trail in
    let size = holds.size in
    let few = holds.few in
    let long : spare ≡ length free = spare_is ∙ ap length same in
    let each : (free behind : List ℕ) (chains : List (List ℕ)) → Holds (record { links = links; free = first }) free ((head ∷ behind) ∷ chains) → Holds (record { links = set links last first; free = head }) ((head ∷ behind) ++ free) chains =
    λ f b cs h. let at = found b h.chains_stand.0 in given links first head last f at.0 b cs h at.1 in
    record {
      inside = in_trail links head there.0 last (subst (IsTrail links head) there.1 chain);
      room = omega (arith, length-append (head ∷ behind) (joined chains), there.2);
      sound = ((head ∷ behind) ++ free, chains, each free behind chains holds, omega (arith, length-append (head ∷ behind) free, there.2));
      each = each;
    }

pub last_next : (links : List ℕ) (head last next count : ℕ) → (behind : List ℕ) × IsTrail links head (head ∷ behind) × (length behind < length links) → ((behind : List ℕ) → IsTrail links head (head ∷ behind) → Reaches links (head ∷ behind) last count) → next ≢ last_link → next ≡ get_or links last last_link
    → (next < length links) × (count + 1 ≤ length links) × ((behind : List ℕ) → IsTrail links head (head ∷ behind) → Reaches links (head ∷ behind) next (count + 1))
last_next links head last next count (behind, trail, short) reaches ne is =
    let go : (behind : List ℕ) → IsTrail links head (head ∷ behind) → Reaches links (head ∷ behind) next (count + 1) = λ b t. subst (λ (j : ℕ). Reaches links (head ∷ b) j (count + 1)) (sym is) (reaches_next links (head ∷ b) last count (reaches b t) (λ e. ne (is ∙ e))) in
    let there = reaches_inside links (head ∷ behind) next (count + 1) (go behind trail) in
    (there.0, omega (arith, there.1), go)

pub last_end : (links : List ℕ) (head last next count : ℕ) → length links ≤ last_link → ((behind : List ℕ) → IsTrail links head (head ∷ behind) → Reaches links (head ∷ behind) last count) → next ≡ last_link → next ≡ get_or links last last_link
    → (behind : List ℕ) → IsTrail links head (head ∷ behind) → (before : List ℕ) × (head ∷ behind ≡ before ++ last ∷ []) × (length (head ∷ behind) ≡ count)
last_end links head last next count few reaches end is behind trail = reaches_end links (head ∷ behind) last count few (reaches behind trail) (sym is ∙ end)

-- two chains in the other order
pub holds_swap : (blocks : Linked) (free c d : List ℕ) (chains : List (List ℕ)) → Holds blocks free (c ∷ (d ∷ chains)) → Holds blocks free (d ∷ (c ∷ chains))
holds_swap blocks free c d chains h =
    let stand = h.chains_stand in
    let size = h.size in
    let old : (k : ℕ) → times k (joined (c ∷ (d ∷ chains))) ≡ times k c + (times k d + times k (joined chains)) = λ k. times-append k c (d ++ joined chains) ∙ ap (λ (n : ℕ). times k c + n) (times-append k d (joined chains)) in
    let new : (k : ℕ) → times k (joined (d ∷ (c ∷ chains))) ≡ times k d + (times k c + times k (joined chains)) = λ k. times-append k d (c ++ joined chains) ∙ ap (λ (n : ℕ). times k d + n) (times-append k c (joined chains)) in
    record {
      few = h.few;
      free_trail = h.free_trail;
      chains_stand = (stand.1.0, (stand.0, stand.1.1));
      size = omega (arith, length-append c (d ++ joined chains), length-append d (joined chains), length-append d (c ++ joined chains), length-append c (joined chains));
      inside = λ k lt. let was = h.inside k lt in omega (arith, old k, new k);
      outside = λ k le. let was = h.outside k le in omega (arith, old k, new k);
    }

-- the first of two blocks that were taken is a head
pub taken_two : {E F : Type 0} (one two three : Linked) (r : Result ℕ E) (q : Result ℕ F) (x y a b : ℕ) (free : List ℕ) → Holds one (a ∷ (b ∷ free)) [] → r ≡ Ok x → ((free : List ℕ) → (chains : List (List ℕ)) → Holds one free chains → Takes one two r free chains) → q ≡ Ok y → ((free : List ℕ) → (chains : List (List ℕ)) → Holds two free chains → Takes two three q free chains) → IsHead three x
taken_two {E} {F} one two three r q x y a b free holds first takes second also =
    let t : Takes {E = E} one two (Ok x) (a ∷ (b ∷ free)) [] = subst (λ (p : Result ℕ E). Takes one two p (a ∷ (b ∷ free)) []) first (takes (a ∷ (b ∷ free)) [] holds) in
    let mid : Holds two (b ∷ free) ((x ∷ []) ∷ []) = subst (λ (j : ℕ). Holds two (b ∷ free) ((j ∷ []) ∷ [])) (sym t.0) t.1 in
    let u : Takes {E = F} two three (Ok y) (b ∷ free) ((x ∷ []) ∷ []) = subst (λ (p : Result ℕ F). Takes two three p (b ∷ free) ((x ∷ []) ∷ [])) second (also (b ∷ free) ((x ∷ []) ∷ []) mid) in
    (free, [], (b ∷ []) ∷ [], holds_swap three free (b ∷ []) (x ∷ []) [] u.1)
