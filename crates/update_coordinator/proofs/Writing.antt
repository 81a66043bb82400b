-- A loop that writes each item of a list from the front.
use Rattle.std.proofs.Common.{◌≡◌, ℕ, ◌+◌, ◌<◌, List, [], ◌∷◌, ◌++◌, length, map, take, drop, set, get_or, sym, ap, ◌∙◌, arith, append_assoc, add-one}
use Rattle.std.proofs.Math.Seq.{drop-cons}
use Rattle.std.proofs.lemmas.List.{take_more_set, drop-set-lt}

pub written : {X : Type 0} → (f : X → X) (xs whole : List X) (i : ℕ) (d v : X) → i < length xs → v ≡ f (get_or xs i d) → take i xs ++ map f (drop i xs) ≡ whole
    → take (i + 1) (set xs i v) ++ map f (drop (i + 1) (set xs i v)) ≡ whole
written {X} f xs whole i d v h e before =
    let lt : i < i + 1 = omega arith in
    ap (λ (ys : List X). ys ++ map f (drop (i + 1) (set xs i v))) (take_more_set xs i v h)
    ∙ ap (λ (ys : List X). (take i xs ++ v ∷ []) ++ map f ys) (drop-set-lt (i + 1) xs i v lt)
    ∙ append_assoc (take i xs) (v ∷ []) (map f (drop (i + 1) xs))
    ∙ ap (λ (w : X). take i xs ++ w ∷ map f (drop (i + 1) xs)) e
    ∙ ap (λ (n : ℕ). take i xs ++ f (get_or xs i d) ∷ map f (drop n xs)) (add-one i)
    ∙ ap (λ (ys : List X). take i xs ++ map f ys) (sym (drop-cons xs i d h))
    ∙ before
