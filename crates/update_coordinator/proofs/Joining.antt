-- A loop that adds what each item of a list gives.
use Rattle.std.proofs.Common.{◌≡◌, ℕ, ◌+◌, ◌<◌, List, ◌∷◌, ◌++◌, length, drop, get_or, sym, ap, ◌∙◌, append_assoc, add-one}
use Rattle.std.specs.List.{flat_map}
use Rattle.std.proofs.Math.Seq.{drop-cons}

-- the rest with one item before it
rest_at : {X : Type 0} (xs : List X) (i : ℕ) (d : X) → i < length xs → drop i xs ≡ get_or xs i d ∷ drop (i + 1) xs
rest_at {X} xs i d h = drop-cons xs i d h ∙ ap (λ (n : ℕ). get_or xs i d ∷ drop n xs) (sym (add-one i))

pub joined : {X Y : Type 0} (g : X → List Y) (out : List Y) (xs : List X) (i : ℕ) (d : X) (whole : List Y) → i < length xs → out ++ flat_map g (drop i xs) ≡ whole
    → (out ++ g (get_or xs i d)) ++ flat_map g (drop (i + 1) xs) ≡ whole
joined {X} {Y} g out xs i d whole h e =
    append_assoc out (g (get_or xs i d)) (flat_map g (drop (i + 1) xs)) ∙ ap (λ (ys : List X). out ++ flat_map g ys) (sym (rest_at xs i d h)) ∙ e
