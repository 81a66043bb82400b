-- The greatest batches of masters.
use Rattle.std.proofs.Common.{◌≡◌, ℕ, suc, ◌+◌, ◌-◌, ◌<◌, ◌≤◌, List, [], ◌∷◌, ◌++◌, Option, Some, None, refl, sym, ap, ◌∙◌, arith, inl, inr, append_assoc, append-nil, ◌⊎◌, Contains, IfSome, subst, ◌≢◌}
use Rattle.std.specs.List.{AllByRecursion}
use Rattle.std.proofs.lemmas.Bool.Decides.{eqb_tells, leb_tells}
use Rattle.std.proofs.lemmas.List.Elements.{All-from_recursion, All-contains}
use Rattle.std.proofs.lemmas.Option.{none-some, same_Some}
use Rattle.target_state.specs.Commit.{later, mark_of}
use Rattle.target_state.specs.Marking.{greatest_batch, greatest_batches, IsGreatest}

-- ---- what is told

pub told_step : (master : ℕ) (ids ms : List (ℕ × ℕ)) → master < 16
    → (ms ++ mark_of master (greatest_batch master None ids)) ++ greatest_batches (16 - (master + 1)) (master + 1) ids ≡ ms ++ greatest_batches (16 - master) master ids
unfolding greatest_batches
told_step master ids ms low =
    let split : suc (16 - (master + 1)) ≡ 16 - master = omega (arith, low) in
    append_assoc ms (mark_of master (greatest_batch master None ids)) (greatest_batches (16 - (master + 1)) (master + 1) ids)
    ∙ ap (λ (k : ℕ). ms ++ greatest_batches k master ids) split

pub all_told : (master : ℕ) (ids ms : List (ℕ × ℕ)) → 16 ≤ master → ms ++ greatest_batches (16 - master) master ids ≡ greatest_batches 16 0 ids → ms ≡ greatest_batches 16 0 ids
unfolding greatest_batches
all_told master ids ms high is =
    let none : 16 - master ≡ 0 = omega (arith, high) in
    sym (append-nil ms) ∙ ap (λ (k : ℕ). ms ++ greatest_batches k master ids) (sym none) ∙ is

-- ---- the greatest of all

-- of a batch and those of a master
abbrev Holds : ℕ → Option ℕ → List (ℕ × ℕ) → Option ℕ → Type 0
Holds master most ids None = (most ≡ None) × AllByRecursion (λ (id : ℕ × ℕ). id.0 ≡ master → ⊥) ids
Holds master most ids (Some batch) = ((most ≡ Some batch) ⊎ Contains ids (master, batch)) × IfSome most (λ m. m ≤ batch) × AllByRecursion (λ (id : ℕ × ℕ). id.0 ≡ master → id.1 ≤ batch) ids

first_in : (master : ℕ) (id : ℕ × ℕ) (ids : List (ℕ × ℕ)) → id.0 ≡ master → Contains (id ∷ ids) (master, id.1)
first_in master id ids same = (0, omega arith, ap (λ (m : ℕ). (m, id.1)) same)

later_in : (id x : ℕ × ℕ) (ids : List (ℕ × ℕ)) → Contains ids x → Contains (id ∷ ids) x
later_in id x ids h = let low = h.1 in (suc h.0, omega (arith, low), h.2)

from_later : (master : ℕ) (most : Option ℕ) (id : ℕ × ℕ) (ids : List (ℕ × ℕ)) (batch : ℕ) → id.0 ≡ master → later most id.1 ≡ batch → (most ≡ Some batch) ⊎ Contains (id ∷ ids) (master, batch)
from_later master None id ids batch same is = inr (subst (λ (b : ℕ). Contains (id ∷ ids) (master, b)) is (first_in master id ids same))
from_later master (Some m) id ids batch same is =
    elim (leb_tells id.1 m) [
      | inl t ↦ inl (ap (λ (b : ℕ). Some b) (let low = t.1 in let e : m ≡ batch = omega (arith, low, is) in e))
      | inr t ↦ inr (subst (λ (b : ℕ). Contains (id ∷ ids) (master, b)) (let low = t.1 in let e : id.1 ≡ batch = omega (arith, low, is) in e) (first_in master id ids same))
    ]

later_least : (most : Option ℕ) (b batch : ℕ) → later most b ≤ batch → IfSome most (λ m. m ≤ batch) × (b ≤ batch)
later_least None b batch low = (tt, low)
later_least (Some m) b batch low = (omega (arith, low), omega (arith, low))

with_own : (master : ℕ) (most : Option ℕ) (id : ℕ × ℕ) (ids : List (ℕ × ℕ)) (o : Option ℕ) → id.0 ≡ master → Holds master (Some (later most id.1)) ids o → Holds master most (id ∷ ids) o
with_own master most id ids None same h = absurd (none-some (later most id.1) (sym h.0))
with_own master most id ids (Some batch) same h =
    let low = later_least most id.1 batch h.1 in
    let from : (most ≡ Some batch) ⊎ Contains (id ∷ ids) (master, batch) = elim h.0 [
      | inl is ↦ from_later master most id ids batch same (same_Some (later most id.1) batch is)
      | inr there ↦ inr (later_in id (master, batch) ids there)
    ] in
    (from, low.0, ((λ _. low.1), h.2))

with_other : (master : ℕ) (most : Option ℕ) (id : ℕ × ℕ) (ids : List (ℕ × ℕ)) (o : Option ℕ) → id.0 ≢ master → Holds master most ids o → Holds master most (id ∷ ids) o
with_other master most id ids None differ h = (h.0, (differ, h.1))
with_other master most id ids (Some batch) differ h =
    let from : (most ≡ Some batch) ⊎ Contains (id ∷ ids) (master, batch) = elim h.0 [ inl is ↦ inl is | inr there ↦ inr (later_in id (master, batch) ids there) ] in
    (from, h.1, ((λ same. absurd (differ same)), h.2))

holds : (master : ℕ) (most : Option ℕ) (ids : List (ℕ × ℕ)) → Holds master most ids (greatest_batch master most ids)
holds master None [] = (refl, tt)
holds master (Some m) [] = (inl refl, omega arith, tt)
holds master most (id ∷ ids) =
    elim (eqb_tells id.0 master) [
      | inl t ↦ rw t.0 (with_own master most id ids (greatest_batch master (Some (later most id.1)) ids) t.1 (holds master (Some (later most id.1)) ids))
      | inr t ↦ rw t.0 (with_other master most id ids (greatest_batch master most ids) t.1 (holds master most ids))
    ]

told_of : (master : ℕ) (ids : List (ℕ × ℕ)) (o : Option ℕ) → Holds master None ids o → IsGreatest master ids o
told_of master ids None h = h.1
told_of master ids (Some batch) h = (elim h.0 [ inl is ↦ absurd (none-some batch is) | inr there ↦ there ], h.2)

pub is_greatest : (master : ℕ) (ids : List (ℕ × ℕ)) → IsGreatest master ids (greatest_batch master None ids)
is_greatest master ids = told_of master ids (greatest_batch master None ids) (holds master None ids)

in_all : (P : ℕ × ℕ → Type 0) (ids : List (ℕ × ℕ)) (id : ℕ × ℕ) → AllByRecursion P ids → Contains ids id → P id
in_all P ids id all there = All-contains P ids id (All-from_recursion P ids all) there

-- there is one answer
pub one_greatest : (master : ℕ) (ids : List (ℕ × ℕ)) (a b : Option ℕ) → IsGreatest master ids a → IsGreatest master ids b → a ≡ b
one_greatest master ids None None f g = refl
one_greatest master ids None (Some b) f g = absurd (in_all (λ (id : ℕ × ℕ). id.0 ≡ master → ⊥) ids (master, b) f g.0 refl)
one_greatest master ids (Some a) None f g = absurd (in_all (λ (id : ℕ × ℕ). id.0 ≡ master → ⊥) ids (master, a) g f.0 refl)
one_greatest master ids (Some a) (Some b) f g =
    let low = in_all (λ (id : ℕ × ℕ). id.0 ≡ master → id.1 ≤ b) ids (master, a) g.1 f.0 refl in
    let high = in_all (λ (id : ℕ × ℕ). id.0 ≡ master → id.1 ≤ a) ids (master, b) f.1 g.0 refl in
    ap (λ (n : ℕ). Some n) (let e : a ≡ b = omega (arith, low, high) in e)
