-- A loop that sends the messages of a list.
use Rattle.std.proofs.Common.{◌≡◌, ℕ, ◌+◌, ◌<◌, List, [], ◌∷◌, ◌++◌, length, map, drop, get_or, sym, ap, ◌∙◌, append_assoc, add-one}
use Rattle.std.proofs.Math.Seq.{drop-cons}

pub posted : {X Y : Type 0} (f : X → Y) (out : List Y) (xs : List X) (i : ℕ) (d : X) (whole : List Y) → i < length xs → out ++ map f (drop i xs) ≡ whole
    → (out ++ f (get_or xs i d) ∷ []) ++ map f (drop (i + 1) xs) ≡ whole
posted {X} {Y} f out xs i d whole h e =
    append_assoc out (f (get_or xs i d) ∷ []) (map f (drop (i + 1) xs))
    ∙ ap (λ (ys : List X). out ++ map f ys) (sym (drop-cons xs i d h ∙ ap (λ (n : ℕ). get_or xs i d ∷ drop n xs) (sym (add-one i))))
    ∙ e
