-- A place that is found in the rest of a list.
use Rattle.std.proofs.Common.{◌≡◌, ℕ, suc, ◌+◌, ◌<◌, List, ◌∷◌, length, get_or, drop, Option, Some, None, sym, ap, ◌∙◌, arith, refl, drop-cons, add-one}
use Rattle.std.specs.Option.{option_map}
use Rattle.llog_store.specs.Numbers.{first_set}

abbrev pub shift : ℕ → Option ℕ → Option ℕ
shift k None = None
shift k (Some i) = Some (k + i)

pub shift_one : (i : ℕ) (o : Option ℕ) → shift i (option_map (λ j. suc j) o) ≡ shift (i + 1) o
shift_one i None = refl
shift_one i (Some j) = ap (λ (n : ℕ). Some n) (let e : i + suc j ≡ i + 1 + j = omega arith in e)

pub set_next : (bytes : List ℕ) (i b : ℕ) → i < length bytes → b ≡ get_or bytes i 0 → b ≡ 0 → shift i (first_set (drop i bytes)) ≡ shift (i + 1) (first_set (drop (i + 1) bytes))
set_next bytes i b lt is z =
    let e : drop i bytes ≡ 0 ∷ drop (i + 1) bytes = drop-cons bytes i 0 lt ∙ ap (λ (x : ℕ). x ∷ drop (suc i) bytes) (sym is ∙ z) ∙ ap (λ (x : ℕ). 0 ∷ drop x bytes) (sym (add-one i)) in
    ap (λ (x : List ℕ). shift i (first_set x)) e ∙ shift_one i (first_set (drop (i + 1) bytes))
