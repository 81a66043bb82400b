-- Lists of cells, mapped.
use Rattle.std.proofs.Common.{◌≡◌, ◌<◌, ◌≤◌, ◌+◌, ℕ, zero, suc, List, [], ◌∷◌, ◌++◌, Option, Some, None, length, get_or, drop, map, refl, sym, ◌∙◌, ap, arith}
use Rattle.std.proofs.lemmas.List.{length-map, get_or-map, get_or-take, get_or-drop, get_or_default, same_lists, map-append, length-take-le, length-drop}
use Rattle.outside.specs.Disk.{disk_len, part, FitsWhole, settles}
use Rattle.outside.specs.Cells.{Cell, blank, blanks, settle_cell, content_of, kept_of, Cycled}
use Rattle.outside.specs.Pages.{page_cells, cells}
use Rattle.outside.specs.declared.page.Page.{Page}

pub map_is : {X Y : Type 0} (f : X → Y) (xs : List X) (ys : List Y) (d : X) (e : Y) → length ys ≡ length xs → ((k : ℕ) → k < length xs → get_or ys k e ≡ f (get_or xs k d)) → ys ≡ map f xs
map_is f xs ys d e same each = same_lists ys (map f xs) (same ∙ sym (length-map xs f))
    (λ k x lt. get_or_default ys k x e lt ∙ each k (omega arith) ∙ sym (get_or-map f xs k d x (omega arith)))

settle_blanks : (n : ℕ) → map settle_cell (blanks n) ≡ blanks n
unfolding blanks
settle_blanks zero = refl
settle_blanks (suc n) = ap (λ (l : List Cell). blank ∷ l) (settle_blanks n)

pub settle_none : (n : ℕ) → blanks n ≡ map settle_cell (blanks n)
settle_none n = sym (settle_blanks n)

pub settle-cells : (old new : List (Option Page)) → length new ≡ length old → ((p : ℕ) → p < length old → page_cells (get_or new p None) ≡ map settle_cell (page_cells (get_or old p None))) → cells new ≡ map settle_cell (cells old)
settle-cells [] [] same each = refl
settle-cells [] (y ∷ new) same each = absurd (omega arith)
settle-cells (x ∷ old) [] same each = absurd (omega arith)
settle-cells (x ∷ old) (y ∷ new) same each =
    ap (λ (l : List Cell). l ++ cells new) (each 0 (omega arith)) ∙ ap (λ (l : List Cell). map settle_cell (page_cells x) ++ l) (settle-cells old new (omega arith) (λ p lt. each (suc p) (omega arith)))
    ∙ sym (map-append settle_cell (page_cells x) (cells old))

pub content_settled : (xs : List Cell) → map content_of (map settle_cell xs) ≡ map content_of xs
content_settled [] = refl
content_settled (x ∷ xs) = ap (λ (l : List ℕ). x.content ∷ l) (content_settled xs)

pub kept_settled : (xs : List Cell) → map kept_of (map settle_cell xs) ≡ settles (map content_of xs)
kept_settled [] = refl
kept_settled (x ∷ xs) = ap (λ (l : List (Option ℕ)). Some x.content ∷ l) (kept_settled xs)

pub part_read : (xs : List Cell) (into : List ℕ) (at n : ℕ) → length into ≡ n → at + n ≤ length xs → ((k : ℕ) → k < n → get_or into k 0 ≡ content_of (get_or xs (at + k) blank)) → into ≡ part at n (map content_of xs)
part_read xs into at n size fits each =
    let long : length (part at n (map content_of xs)) ≡ n = length-take-le n (drop at (map content_of xs)) (omega (arith, length-drop at (map content_of xs), length-map xs content_of)) in
    same_lists into (part at n (map content_of xs)) (size ∙ sym long)
    (λ k d lt. get_or_default into k d 0 lt ∙ each k (omega arith) ∙ sym (get_or-take n (drop at (map content_of xs)) k d (omega arith) ∙ get_or-drop at (map content_of xs) k d ∙ get_or-map content_of xs (at + k) blank d (omega arith)))

settled_at : (bytes : List ℕ) (k b : ℕ) → get_or (settles bytes) k None ≡ Some b → get_or bytes k 0 ≡ b
settled_at [] k b is = cc
settled_at (x ∷ bytes) zero b is = cc
settled_at (x ∷ bytes) (suc k) b is = settled_at bytes k b is

-- a content, all of it settled
pub fits_whole : (bytes : List ℕ) → length bytes ≡ disk_len → FitsWhole bytes
fits_whole bytes size = record { size = size; image = record { size = sym (length-map bytes (λ b. Some b)); same = settled_at bytes } }

-- what is settled stays so
pub settled_again : (xs : List Cell) → map settle_cell (map settle_cell xs) ≡ map settle_cell xs
settled_again [] = refl
settled_again (x ∷ xs) = ap (λ (l : List Cell). settle_cell x ∷ l) (settled_again xs)

-- a power cycle leaves nothing dirty
pub cycled_settled : (choice : ℕ) (old new : List Cell) → Cycled choice old new → map settle_cell new ≡ new
cycled_settled choice old new c =
    let size = c.size in
    sym (map_is settle_cell new new blank blank refl (λ k lt. let e = c.each k (omega arith) in e ∙ sym (ap settle_cell e)))
