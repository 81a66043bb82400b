-- How often a block stands in a list.
use Rattle.std.proofs.Common.{◌≡◌, ◌≢◌, ◌+◌, ℕ, List, [], ◌∷◌, ◌++◌, eqb, refl, sym, ◌∙◌, ap, arith, append_assoc}
use Rattle.std.proofs.lemmas.Bool.{cond-true, cond-false, eq-eqb, ne_eqb}
use Rattle.chain_blocks.specs.Chains.{times, joined}

pub times-append : (k : ℕ) (xs ys : List ℕ) → times k (xs ++ ys) ≡ times k xs + times k ys
times-append k [] ys = omega arith
times-append k (x ∷ xs) ys = omega (arith, times-append k xs ys)

pub times_here : (k : ℕ) (xs : List ℕ) → times k (k ∷ xs) ≡ 1 + times k xs
times_here k xs = ap (λ (n : ℕ). n + times k xs) (cond-true (eqb k k) 1 0 (eq-eqb k k refl))

pub times_there : (x k : ℕ) (xs : List ℕ) → x ≢ k → times k (x ∷ xs) ≡ times k xs
times_there x k xs ne = ap (λ (n : ℕ). n + times k xs) (cond-false (eqb x k) 1 0 (ne_eqb x k ne)) ∙ omega arith

pub joined-append : (cs ds : List (List ℕ)) → joined (cs ++ ds) ≡ joined cs ++ joined ds
joined-append [] ds = refl
joined-append (c ∷ cs) ds = ap (λ (l : List ℕ). c ++ l) (joined-append cs ds) ∙ sym (append_assoc c (joined cs) (joined ds))
