-- Places in pages.
use Rattle.std.proofs.Common.{◌≡◌, ⊎_elim, ◌<◌, ◌≤◌, ◌+◌, ◌*◌, ◌-◌, ◌/◌, ◌%◌, ℕ, zero, suc, List, [], ◌∷◌, ◌++◌, Option, Some, None, length, get_or, set, refl, sym, ◌∙◌, ap, arith, zero-add, length-append}
use Rattle.std.specs.Prelude.{Bool, true, not, is_some}
use Rattle.std.proofs.lemmas.Bool.{true≢false, cases_lt}
use Rattle.std.proofs.lemmas.List.{get_or_append_left, get_or-append-add, set-append_left, set-append_right, length-replicate, get_or-replicate}
use Rattle.outside.specs.Cells.{Cell, zipped, blank, blanks, page_len}
use Rattle.outside.specs.Pages.{page_cells, cells, HasPages, HasRange, MakesOnly}
use Rattle.outside.specs.declared.page.Page.{Page}

pub length-blanks : (n : ℕ) → length (blanks n) ≡ n
unfolding blanks
length-blanks n = length-replicate n blank

pub length-zipped : (n : ℕ) (content settled : List ℕ) (dirty : List Bool) → length content ≡ n → length settled ≡ n → length dirty ≡ n → length (zipped content settled dirty) ≡ n
length-zipped n [] settled dirty one two three = one
length-zipped n (c ∷ content) [] dirty one two three = absurd (omega arith)
length-zipped n (c ∷ content) (s ∷ settled) [] one two three = absurd (omega arith)
length-zipped n (c ∷ content) (s ∷ settled) (d ∷ dirty) one two three = omega (arith, length-zipped (length content) content settled dirty refl (omega arith) (omega arith))

pub length-page_cells : (page : Option Page) → length (page_cells page) ≡ page_len
length-page_cells None = length-blanks page_len
length-page_cells (Some page) = length-zipped page_len page.content.items page.settled.items page.dirty.items page.fits.content_size page.fits.settled_size page.fits.dirty_size

pub length-cells : (pages : List (Option Page)) → length (cells pages) ≡ length pages * page_len
length-cells [] = refl
length-cells (page ∷ pages) = omega (arith, length-append (page_cells page) (cells pages), length-page_cells page, length-cells pages)

-- a cell, by its page and its place there
pub get_or-cells : (pages : List (Option Page)) (p o : ℕ) (d : Cell) → p < length pages → o < page_len → get_or (cells pages) (p * page_len + o) d ≡ get_or (page_cells (get_or pages p None)) o d
get_or-cells [] p o d lt inside = absurd (omega arith)
get_or-cells (page ∷ pages) zero o d lt inside = ap (λ (k : ℕ). get_or (page_cells page ++ cells pages) k d) (zero-add o) ∙ get_or_append_left (page_cells page) (cells pages) d o (omega (arith, length-page_cells page))
get_or-cells (page ∷ pages) (suc p) o d lt inside =
    let far : suc p * page_len + o ≡ length (page_cells page) + (p * page_len + o) = omega (arith, length-page_cells page) in
    ap (λ (k : ℕ). get_or (page_cells page ++ cells pages) k d) far ∙ get_or-append-add (page_cells page) (cells pages) (p * page_len + o) d ∙ get_or-cells pages p o d (omega arith) inside

-- and where it is set
pub set-cells : (pages : List (Option Page)) (p o : ℕ) (page : Option Page) (c : Cell) → p < length pages → o < page_len → page_cells page ≡ set (page_cells (get_or pages p None)) o c → cells (set pages p page) ≡ set (cells pages) (p * page_len + o) c
set-cells [] p o page c lt inside is = absurd (omega arith)
set-cells (first ∷ pages) zero o page c lt inside is = ap (λ (l : List Cell). l ++ cells pages) is ∙ sym (set-append_left (page_cells first) (cells pages) o c (omega (arith, length-page_cells first))) ∙ sym (ap (λ (k : ℕ). set (page_cells first ++ cells pages) k c) (zero-add o))
set-cells (first ∷ pages) (suc p) o page c lt inside is =
    let far : suc p * page_len + o - page_len ≡ p * page_len + o = omega arith in
    ap (λ (l : List Cell). page_cells first ++ l) (set-cells pages p o page c (omega arith) inside is ∙ ap (λ (k : ℕ). set (cells pages) k c) (sym far))
    ∙ sym (set-append_right (page_cells first) (cells pages) page_len (suc p * page_len + o) c (length-page_cells first) (omega arith))

pub get_or-blanks : (n k : ℕ) → k < n → get_or (blanks n) k blank ≡ blank
unfolding blanks
get_or-blanks n k lt = get_or-replicate n k blank blank lt

pub cell_place : (pages : List (Option Page)) (at : ℕ) (page : Option Page) → at < length pages * page_len → page ≡ get_or pages (at / page_len) None → get_or (cells pages) at blank ≡ get_or (page_cells page) (at % page_len) blank
cell_place pages at page within is =
    let split : at ≡ at / page_len * page_len + at % page_len = omega arith in
    ap (λ (k : ℕ). get_or (cells pages) k blank) split
    ∙ get_or-cells pages (at / page_len) (at % page_len) blank (omega arith) (omega arith)
    ∙ ap (λ (o : Option Page). get_or (page_cells o) (at % page_len) blank) (sym is)

pub set_place : (pages : List (Option Page)) (at : ℕ) (page new : Option Page) (c : Cell) → at < length pages * page_len → page ≡ get_or pages (at / page_len) None → page_cells new ≡ set (page_cells page) (at % page_len) c → cells (set pages (at / page_len) new) ≡ set (cells pages) at c
set_place pages at page new c within is same =
    let split : at / page_len * page_len + at % page_len ≡ at = omega arith in
    set-cells pages (at / page_len) (at % page_len) new c (omega arith) (omega arith) (same ∙ ap (λ (o : Option Page). set (page_cells o) (at % page_len) c) is)
    ∙ ap (λ (k : ℕ). set (cells pages) k c) split

pub same_cells : (pages : List (Option Page)) (p : ℕ) (new : Option Page) → page_cells new ≡ page_cells (get_or pages p None) → cells (set pages p new) ≡ cells pages
same_cells [] p new is = refl
same_cells (page ∷ pages) zero new is = ap (λ (l : List Cell). l ++ cells pages) is
same_cells (page ∷ pages) (suc p) new is = ap (λ (l : List Cell). page_cells page ++ l) (same_cells pages p new is)

pub none_from : {X : Type 0} (o : Option X) (b : Bool) → is_some o ≡ not b → b ≡ true → o ≡ None
none_from None b is e = refl
none_from (Some x) b is e = absurd (true≢false (is ∙ ap not e))

pub has_more : (old cur new : List (Option Page)) → HasPages old cur → HasPages cur new → HasPages old new
has_more old cur new first then = record { count = then.count ∙ first.count; each = λ p h. then.each p (first.each p h) }

-- a page of a range
pub page_there : (pages : List (Option Page)) (at n p : ℕ) → HasRange pages at n → 0 < n → at / page_len ≤ p → p < (at + n - 1) / page_len + 1 → is_some (get_or pages p None) ≡ true
page_there pages at n p there some low high = ⊎_elim
    (λ lt. let here : at / page_len ≡ p = omega arith in ap (λ (q : ℕ). is_some (get_or pages q None)) (sym here) ∙ there at (omega arith) (omega arith))
    (λ le. let here : p * page_len / page_len ≡ p = omega arith in ap (λ (q : ℕ). is_some (get_or pages q None)) (sym here) ∙ there (p * page_len) le (omega arith))
    (cases_lt (p * page_len) at)

-- a page that has no place of a range is in front of its pages or behind them
pub page_apart : (at n p : ℕ) → ((k : ℕ) → at ≤ k → k < at + n → k / page_len ≡ p → ⊥) → 0 < n → at / page_len ≤ p → p < (at + n - 1) / page_len + 1 → ⊥
page_apart at n p far some low high = ⊎_elim
    (λ lt. far at (omega arith) (omega arith) (omega arith))
    (λ le. far (p * page_len) le (omega arith) (omega arith))
    (cases_lt (p * page_len) at)

pub only_made : (old new : List (Option Page)) (at n q : ℕ) → 0 < n → q ≤ (at + n - 1) / page_len + 1 → ((p : ℕ) → p < at / page_len → is_some (get_or new p None) ≡ is_some (get_or old p None)) → ((p : ℕ) → q ≤ p → is_some (get_or new p None) ≡ is_some (get_or old p None)) → MakesOnly at n old new
only_made old new at n q some high below above p far = ⊎_elim
    (λ lt. below p lt)
    (λ le. ⊎_elim
    (λ lt. absurd (page_apart at n p far some le (omega arith)))
    (λ past. above p past)
    (cases_lt p q))
    (cases_lt p (at / page_len))
