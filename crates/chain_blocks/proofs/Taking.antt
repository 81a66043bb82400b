-- Blocks that are taken one after another.
use Rattle.std.proofs.Common.{◌≡◌, ◌<◌, ◌≤◌, ◌+◌, ℕ, zero, suc, List, [], ◌∷◌, ◌++◌, length, get_or, take, drop, refl, sym, ◌∙◌, ap, subst, arith}
use Rattle.std.specs.Prelude.{Result, Ok, Err}
use Rattle.chain_blocks.specs.Chains.{Linked, Holds, Takes, LinksBehind, last_link}
use Rattle.chain_blocks.specs.Stored.{Took}
use Rattle.chain_blocks.proofs.Trails.{trail_unique}

-- so many free blocks were taken for a chain
pub record Taking (i : ℕ) (free : List ℕ) (chains : List (List ℕ)) (head tail : ℕ) (new : Linked) : Type 0 where
  pub first : head ≡ get_or free 0 last_link
  pub before : List ℕ
  pub is : take i free ≡ before ++ tail ∷ []
  pub holds : Holds new (drop i free) (take i free ∷ chains)

pub taking_none : {E : Type 0} (old new : Linked) (r : Result ℕ E) (e : E) (free : List ℕ) (chains : List (List ℕ)) → r ≡ Err e → 1 ≤ length free → Takes old new r free chains → ⊥
taking_none {E} old new r e free chains is some takes = by_free free some (subst (λ (q : Result ℕ E). Takes old new q free chains) is takes)
  where
    by_free : (free : List ℕ) → 1 ≤ length free → Takes old new (Err e) free chains → ⊥
    by_free [] some t = absurd (omega arith)
    by_free (b ∷ free) some none = none

pub taking_first : {E : Type 0} (old new : Linked) (r : Result ℕ E) (head : ℕ) (free : List ℕ) (chains : List (List ℕ)) → r ≡ Ok head → 1 ≤ length free → Takes old new r free chains → Taking 1 free chains head head new
taking_first {E} old new r head free chains is some takes = by_free free some (subst (λ (q : Result ℕ E). Takes old new q free chains) is takes)
  where
    by_free : (free : List ℕ) → 1 ≤ length free → Takes {E = E} old new (Ok head) free chains → Taking 1 free chains head head new
    by_free [] some t = absurd (omega arith)
    by_free (b ∷ free) some (same, holds) = record { first = same; before = []; is = ap (λ (j : ℕ). j ∷ []) (sym same); holds = holds }

pub drop_one : (xs : List ℕ) (i : ℕ) → i < length xs → drop i xs ≡ get_or xs i 0 ∷ drop (i + 1) xs
drop_one [] i lt = absurd (omega arith)
drop_one (x ∷ xs) zero lt = refl
drop_one (x ∷ xs) (suc i) lt = let e : suc (i + 1) ≡ suc i + 1 = omega arith in drop_one xs i (omega arith) ∙ ap (λ (j : ℕ). get_or xs i 0 ∷ drop j (x ∷ xs)) e

pub take_one : (xs : List ℕ) (i : ℕ) → i < length xs → take (i + 1) xs ≡ take i xs ++ get_or xs i 0 ∷ []
take_one [] i lt = absurd (omega arith)
take_one (x ∷ xs) zero lt = refl
take_one (x ∷ xs) (suc i) lt = let e : suc i + 1 ≡ suc (i + 1) = omega arith in ap (λ (j : ℕ). take j (x ∷ xs)) e ∙ ap (λ (l : List ℕ). x ∷ l) (take_one xs i (omega arith))

-- the blocks with the next free one in front
at_tail : (i : ℕ) (free : List ℕ) (chains : List (List ℕ)) (head tail : ℕ) (old : Linked) → i < length free → (t : Taking i free chains head tail old) → Holds old (get_or free i 0 ∷ drop (i + 1) free) ((t.before ++ tail ∷ []) ∷ chains)
at_tail i free chains head tail old lt t = subst (λ (l : List ℕ). Holds old l ((t.before ++ tail ∷ []) ∷ chains)) (drop_one free i lt) (subst (λ (l : List ℕ). Holds old (drop i free) (l ∷ chains)) t.is t.holds)

pub taking_full : {E : Type 0} (i : ℕ) (free : List ℕ) (chains : List (List ℕ)) (head tail : ℕ) (e : E) (old new : Linked) (r : Result ℕ E) → r ≡ Err e → i < length free → (t : Taking i free chains head tail old)
    → ((free before : List ℕ) (chains : List (List ℕ)) → Holds old free ((before ++ tail ∷ []) ∷ chains) → LinksBehind old new r free (before ++ tail ∷ []) chains) → ⊥
taking_full {E} i free chains head tail e old new r is lt t links = subst (λ (q : Result ℕ E). LinksBehind old new q (get_or free i 0 ∷ drop (i + 1) free) (t.before ++ tail ∷ []) chains) is (links (get_or free i 0 ∷ drop (i + 1) free) t.before chains (at_tail i free chains head tail old lt t))

pub taking_next : {E : Type 0} (i : ℕ) (free : List ℕ) (chains : List (List ℕ)) (head tail block : ℕ) (old new : Linked) (r : Result ℕ E) → r ≡ Ok block → i < length free → (t : Taking i free chains head tail old)
    → ((free before : List ℕ) (chains : List (List ℕ)) → Holds old free ((before ++ tail ∷ []) ∷ chains) → LinksBehind old new r free (before ++ tail ∷ []) chains) → Taking (i + 1) free chains head block new
taking_next {E} i free chains head tail block old new r is lt t links =
    let b = get_or free i 0 in
    let behind = t.before ++ tail ∷ [] in
    let done : LinksBehind {E = E} old new (Ok block) (b ∷ drop (i + 1) free) behind chains = subst (λ (q : Result ℕ E). LinksBehind old new q (b ∷ drop (i + 1) free) behind chains) is (links (b ∷ drop (i + 1) free) t.before chains (at_tail i free chains head tail old lt t)) in
    let all : take (i + 1) free ≡ behind ++ b ∷ [] = take_one free i lt ∙ ap (λ (l : List ℕ). l ++ b ∷ []) t.is in
    record { first = t.first; before = behind; is = all ∙ ap (λ (j : ℕ). behind ++ j ∷ []) (sym done.0); holds = subst (λ (l : List ℕ). Holds new (drop (i + 1) free) (l ∷ chains)) (sym all) done.1 }

-- the free blocks are one list
pub same_free : (blocks : Linked) (free other : List ℕ) (chains others : List (List ℕ)) → Holds blocks free chains → Holds blocks other others → free ≡ other
same_free blocks free other chains others one two = trail_unique blocks.links blocks.free free other one.few one.free_trail two.free_trail

pub took_all : (count i : ℕ) (free : List ℕ) (chains : List (List ℕ)) (head tail : ℕ) (new : Linked) → i ≡ count → Taking i free chains head tail new → Took count free chains head new
took_all count i free chains head tail new is t = subst (λ (n : ℕ). Took n free chains head new) is (record { first = t.first; holds = t.holds })
