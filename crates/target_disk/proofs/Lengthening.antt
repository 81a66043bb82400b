-- A block behind those that were taken for a commit.
use Rattle.std.proofs.Common.{◌≡◌, ◌<◌, ℕ, List, [], ◌∷◌, ◌++◌, Option, Some, None, length, refl, sym, ◌∙◌, ap, subst, arith, append-nil, length-append}
use Rattle.std.specs.Prelude.{Result, Ok, Err}
use Rattle.chain_blocks.specs.Chains.{Linked, Holds, LinksBehind, Takes, joined}
use Rattle.chain_blocks.proofs.Taking.{taking_none}
use Rattle.target_disk.specs.Consistent.{IsTaken}
use Rattle.target_disk.specs.Steps.{Lengthens}
use Rattle.target_disk.specs.declared.book.Ends.{Ends}

-- the chain that was taken, by its last block
held_tail : (old : Linked) (e : Ends) (ends : Option Ends) (free : List ℕ) (taken rest : List (List ℕ)) (full : ℕ) → ends ≡ Some e → IsTaken ends taken full → Holds old free (taken ++ rest) → (before : List ℕ) × Holds old free ((before ++ e.tail ∷ []) ∷ rest)
held_tail old e ends free taken rest full some t h =
    let u : IsTaken (Some e) taken full = subst (λ (o : Option Ends). IsTaken o taken full) some t in
    (u.0, subst (λ (l : List ℕ). Holds old free (l ∷ rest)) (sym u.2) (subst (λ (l : List (List ℕ)). Holds old free (l ++ rest)) u.3 h))

abbrev pub Lends : Linked → Option Ends → Type 0
Lends old ends = (free : List ℕ) × (taken : List (List ℕ)) × (rest : List (List ℕ)) × (full : ℕ) × IsTaken ends taken full × Holds old free (taken ++ rest) × (0 < length free)

pub never_full : {E : Type 0} (old new : Linked) (r : Result ℕ E) (x : E) (ends : Option Ends) → Lends old ends → r ≡ Err x → ((free : List ℕ) (chains : List (List ℕ)) → Holds old free chains → Takes old new r free chains) → ⊥
never_full old new r x ends (free, taken, rest, full, t, h, lt) is takes = taking_none old new r x free (taken ++ rest) is (omega arith) (takes free (taken ++ rest) h)

pub never_full_behind : {E : Type 0} (old new : Linked) (r : Result ℕ E) (x : E) (e : Ends) (ends : Option Ends) → ends ≡ Some e → Lends old ends → r ≡ Err x
    → ((free before : List ℕ) (chains : List (List ℕ)) → Holds old free ((before ++ e.tail ∷ []) ∷ chains) → LinksBehind old new r free (before ++ e.tail ∷ []) chains) → ⊥
never_full_behind {E} old new r x e ends some (free, taken, rest, full, t, h, lt) is links =
    let b = held_tail old e ends free taken rest full some t h in
    by_free free (b.0 ++ e.tail ∷ []) rest lt (subst (λ (q : Result ℕ E). LinksBehind old new q free (b.0 ++ e.tail ∷ []) rest) is (links free b.0 rest b.1))
  where
    by_free : (free chain : List ℕ) (chains : List (List ℕ)) → 0 < length free → LinksBehind {E = E} old new (Err x) free chain chains → ⊥
    by_free [] chain chains lt same = absurd (omega arith)
    by_free (c ∷ cs) chain chains lt none = none

pub lengthens_first : {E : Type 0} (old new : Linked) (r : Result ℕ E) (x : ℕ) (ends : Option Ends) → ends ≡ None → r ≡ Ok x → ((free : List ℕ) (chains : List (List ℕ)) → Holds old free chains → Takes old new r free chains)
    → (block : ℕ) (free : List ℕ) (taken rest : List (List ℕ)) (full : ℕ) → IsTaken ends taken full → Holds old (block ∷ free) (taken ++ rest) → Lengthens block free taken rest full (record { head = x; tail = x }) new
lengthens_first {E} old new r x ends none is takes block free taken rest full t h =
    let u : IsTaken None taken full = subst (λ (o : Option Ends). IsTaken o taken full) none t in
    let before : Holds old (block ∷ free) rest = subst (λ (l : List (List ℕ)). Holds old (block ∷ free) (l ++ rest)) u.0 h in
    let done : Takes {E = E} old new (Ok x) (block ∷ free) rest = subst (λ (q : Result ℕ E). Takes old new q (block ∷ free) rest) is (takes (block ∷ free) rest before) in
    let all : joined taken ++ block ∷ [] ≡ block ∷ [] = ap (λ (l : List (List ℕ)). joined l ++ block ∷ []) u.0 in
    record {
      tail = done.0;
      chain = ([], [], refl, ap (λ (l : List ℕ). l ∷ []) (all ∙ ap (λ (j : ℕ). j ∷ []) (sym done.0)), omega (arith, u.1));
      holds = subst (λ (l : List ℕ). Holds new free (l ∷ rest)) (sym all) done.1;
    }

pub lengthens_next : {E : Type 0} (old new : Linked) (r : Result ℕ E) (x : ℕ) (e : Ends) (ends : Option Ends) → ends ≡ Some e → r ≡ Ok x
    → ((free before : List ℕ) (chains : List (List ℕ)) → Holds old free ((before ++ e.tail ∷ []) ∷ chains) → LinksBehind old new r free (before ++ e.tail ∷ []) chains)
    → (block : ℕ) (free : List ℕ) (taken rest : List (List ℕ)) (full : ℕ) → IsTaken ends taken full → Holds old (block ∷ free) (taken ++ rest) → Lengthens block free taken rest full (record { head = e.head; tail = x }) new
lengthens_next {E} old new r x e ends some is links block free taken rest full t h =
    let u : IsTaken (Some e) taken full = subst (λ (o : Option Ends). IsTaken o taken full) some t in
    let behind = u.1 in
    let held : Holds old (block ∷ free) ((u.0 ++ e.tail ∷ []) ∷ rest) = subst (λ (l : List ℕ). Holds old (block ∷ free) (l ∷ rest)) (sym u.2) (subst (λ (l : List (List ℕ)). Holds old (block ∷ free) (l ++ rest)) u.3 h) in
    let done : LinksBehind {E = E} old new (Ok x) (block ∷ free) (u.0 ++ e.tail ∷ []) rest = subst (λ (q : Result ℕ E). LinksBehind old new q (block ∷ free) (u.0 ++ e.tail ∷ []) rest) is (links (block ∷ free) u.0 rest held) in
    let all : joined taken ++ block ∷ [] ≡ (e.head ∷ behind) ++ block ∷ [] = ap (λ (l : List (List ℕ)). joined l ++ block ∷ []) u.3 ∙ ap (λ (l : List ℕ). l ++ block ∷ []) (append-nil (e.head ∷ behind)) in
    let count = u.4 in
    record {
      tail = done.0;
      chain = (e.head ∷ behind, behind ++ block ∷ [], ap (λ (j : ℕ). (e.head ∷ behind) ++ j ∷ []) done.0, ap (λ (l : List ℕ). l ∷ []) all, omega (arith, length-append behind (block ∷ [])));
      holds = subst (λ (l : List ℕ). Holds new free (l ∷ rest)) (ap (λ (l : List ℕ). l ++ block ∷ []) u.2 ∙ sym all) done.1;
    }
