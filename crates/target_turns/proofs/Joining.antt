-- A loop that sends what each item of a list asks for.
use Rattle.std.proofs.Common.{◌≡◌, ℕ, ◌+◌, ◌<◌, List, ◌∷◌, ◌++◌, length, map, drop, get_or, sym, ap, ◌∙◌, append_assoc, add-one}
use Rattle.std.specs.List.{flat_map}
use Rattle.std.proofs.Math.Seq.{drop-cons}
use Rattle.std.proofs.lemmas.List.{map-append}

-- the rest with one item before it
rest_at : {X : Type 0} (xs : List X) (i : ℕ) (d : X) → i < length xs → drop i xs ≡ get_or xs i d ∷ drop (i + 1) xs
rest_at {X} xs i d h = drop-cons xs i d h ∙ ap (λ (n : ℕ). get_or xs i d ∷ drop n xs) (sym (add-one i))

pub joined : {X Y Z : Type 0} (g : X → List Y) (f : Y → Z) (out : List Z) (xs : List X) (i : ℕ) (d : X) (whole : List Z) → i < length xs → out ++ map f (flat_map g (drop i xs)) ≡ whole
    → (out ++ map f (g (get_or xs i d))) ++ map f (flat_map g (drop (i + 1) xs)) ≡ whole
joined {X} {Y} {Z} g f out xs i d whole h e =
    append_assoc out (map f (g (get_or xs i d))) (map f (flat_map g (drop (i + 1) xs)))
    ∙ ap (λ (zs : List Z). out ++ zs) (sym (map-append f (g (get_or xs i d)) (flat_map g (drop (i + 1) xs))))
    ∙ ap (λ (ys : List X). out ++ map f (flat_map g ys)) (sym (rest_at xs i d h))
    ∙ e
