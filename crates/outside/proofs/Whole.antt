-- The pages of a disk in memory are a whole disk, and stay one.
use Rattle.std.specs.Prelude.{is_err, Result, Ok, Err, OnOk, OnErr}
use Rattle.std.proofs.Common.{◌≡◌, ⊎_elim, ◌<◌, ◌≤◌, ◌+◌, ◌-◌, ◌*◌, ℕ, suc, List, [], ◌∷◌, ◌++◌, true, false, Option, Some, None, length, get_or, take, drop, map, refl, sym, ◌∙◌, ap, subst, arith, append_assoc, take-append-drop}
use Rattle.std.proofs.lemmas.List.{length-map, get_or-map, get_or_past, get_or-take, get_or-drop, get_or_default, same_lists, take-map, drop-map, drop-drop, length-take-le, length-drop, get_or_append_left, get_or-append_right}
use Rattle.std.proofs.lemmas.Bool.{true≢false, cases_lt, cases_Bool, cond-true, cond-false, both_ways}
use Rattle.outside.specs.Disk.{disk_len, part, put, ChangesOnly, IsImage, settles}
use Rattle.outside.specs.Cells.{Cell, blank, blanks, page_len, written, settle_cell, content_of, kept_of, settled_of, FitsCell}
use Rattle.outside.specs.Pages.{cells, page_cells, FitsPages}
use Rattle.outside.specs.Cells.{Overwrites}
use Rattle.outside.specs.declared.page.Page.{Page}
use Rattle.outside.proofs.Parts.{get_or_below, get_or_above}
use Rattle.outside.proofs.Places.{length-cells, length-blanks, get_or-blanks}
use Rattle.outside.proofs.Mapped.{map_is, content_settled, kept_settled}

pub size_of_pages : (pages : List (Option Page)) → length pages ≡ 1024 → length (map content_of (cells pages)) ≡ disk_len
size_of_pages pages count = length-map (cells pages) content_of ∙ length-cells pages ∙ ap (λ (n : ℕ). n * 65536) count

none_is_some : {X : Type 0} (b : X) → None ≡ Some b → ⊥
none_is_some b e = cc

kept_some : (c : Cell) (b : ℕ) → FitsCell c → kept_of c ≡ Some b → c.content ≡ b
kept_some c b fits is = ⊎_elim
    (λ dirty. absurd (none_is_some b (sym (cond-true c.dirty None (Some c.settled) dirty) ∙ is)))
    (λ clean. let same : Some c.settled ≡ Some b = sym (cond-false c.dirty None (Some c.settled) clean) ∙ is in let that : c.settled ≡ b = cc in fits clean ∙ that)
    (cases_Bool c.dirty)

image_of_cells : (xs : List Cell) → ((k : ℕ) → FitsCell (get_or xs k blank)) → IsImage (map kept_of xs) (map content_of xs)
image_of_cells xs each = record {
  size = length-map xs content_of ∙ sym (length-map xs kept_of);
  same = λ k b is. ⊎_elim
      (λ lt. get_or-map content_of xs k blank 0 lt ∙ kept_some (get_or xs k blank) b (each k) (sym (get_or-map kept_of xs k blank None lt) ∙ is))
      (λ past. absurd (none_is_some b (sym (get_or_past (map kept_of xs) k None (omega (arith, length-map xs kept_of))) ∙ is)))
      (cases_lt k (length xs));
}

pub whole_pages : (pages : List (Option Page)) → length pages ≡ 1024 → ((k : ℕ) → FitsCell (get_or (cells pages) k blank)) → FitsPages pages
whole_pages pages count each = record { count = count; each = each; size = size_of_pages pages count; image = image_of_cells (cells pages) each }

-- what is mapped changes where the cells do
pub changes-map : {X : Type 0} (f : Cell → X) (at n : ℕ) (xs ys : List Cell) → ChangesOnly at n xs ys → ChangesOnly at n (map f xs) (map f ys)
changes-map f at n xs ys changes = record {
  size = length-map ys f ∙ changes.size ∙ sym (length-map xs f);
  before = take-map f at ys ∙ ap (map f) changes.before ∙ sym (take-map f at xs);
  after = drop-map f (at + n) ys ∙ ap (map f) changes.after ∙ sym (drop-map f (at + n) xs);
}

-- a list that changes only in a part, by that part
pub put_from : {X : Type 0} (at : ℕ) (xs ys zs : List X) → ChangesOnly at (length zs) xs ys → part at (length zs) ys ≡ zs → ys ≡ put xs at zs
put_from at xs ys zs changes is =
    sym (take-append-drop at ys) ∙ ap (λ l. take at ys ++ l) (sym (take-append-drop (length zs) (drop at ys)) ∙ ap (λ l. l ++ drop (length zs) (drop at ys)) is ∙ ap (λ l. zs ++ l) (drop-drop (length zs) at ys ∙ changes.after))
    ∙ ap (λ l. l ++ (zs ++ drop (at + length zs) xs)) changes.before
    ∙ sym (append_assoc (take at xs) zs (drop (at + length zs) xs))

module _ (at : ℕ) (bytes : List ℕ) (old new : List Cell) (over : Overwrites at bytes old new) (fits : at + length bytes ≤ length old) where
  pub content_put : map content_of new ≡ put (map content_of old) at bytes
  content_put = put_from at (map content_of old) (map content_of new) bytes (changes-map content_of at (length bytes) old new over.changes)
      (let whole : at + length bytes ≤ length (map content_of new) = omega (arith, length-map new content_of, over.changes.size, fits) in
      let long : length (part at (length bytes) (map content_of new)) ≡ length bytes = length-take-le (length bytes) (drop at (map content_of new)) (omega (arith, length-drop at (map content_of new))) in
      same_lists (part at (length bytes) (map content_of new)) bytes long
      (λ k d lt. get_or-take (length bytes) (drop at (map content_of new)) k d (omega arith) ∙ get_or-drop at (map content_of new) k d ∙ get_or-map content_of new (at + k) blank d (omega (arith, length-map new content_of))
      ∙ ap content_of (over.inside k (omega arith)) ∙ get_or_default bytes k 0 d (omega arith)))

  pub fits_over : ((k : ℕ) → FitsCell (get_or old k blank)) → (k : ℕ) → FitsCell (get_or new k blank)
  fits_over each k = ⊎_elim
      (λ lt. subst FitsCell (sym (get_or_below at (length bytes) old new k blank over.changes lt)) (each k))
      (λ le. ⊎_elim
      (λ lt. let j : at + (k - at) ≡ k = omega arith in let is : get_or new k blank ≡ written (get_or old k blank) (get_or bytes (k - at) 0) = ap (λ (i : ℕ). get_or new i blank) (sym j) ∙ over.inside (k - at) (omega arith) ∙ ap (λ (i : ℕ). written (get_or old i blank) (get_or bytes (k - at) 0)) j in
      subst FitsCell (sym is) (λ clean. absurd (both_ways true clean refl)))
      (λ past. subst FitsCell (sym (get_or_above at (length bytes) old new k blank over.changes past)) (each k))
      (cases_lt k (at + length bytes)))
      (cases_lt k at)

-- settled cells fit
pub fits_settled : (xs : List Cell) (k : ℕ) → FitsCell (get_or (map settle_cell xs) k blank)
fits_settled xs k = ⊎_elim
    (λ lt. subst FitsCell (sym (get_or-map settle_cell xs k blank blank lt)) (λ clean. refl))
    (λ past. subst FitsCell (sym (get_or_past (map settle_cell xs) k blank (omega (arith, length-map xs settle_cell)))) (λ clean. refl))
    (cases_lt k (length xs))

-- pages whose cells are all settled
pub settled_pages : (old new : List (Option Page)) → FitsPages old → length new ≡ length old → cells new ≡ map settle_cell (cells old) → FitsPages new
settled_pages old new fits count is = whole_pages new (count ∙ fits.count) (λ k. subst (λ (l : List Cell). FitsCell (get_or l k blank)) (sym is) (fits_settled (cells old) k))

pub settled_content : (old new : List Cell) → new ≡ map settle_cell old → map content_of new ≡ map content_of old
settled_content old new is = ap (map content_of) is ∙ content_settled old

pub settled_kept : (old new : List Cell) → new ≡ map settle_cell old → map kept_of new ≡ settles (map content_of new)
settled_kept old new is = ap (map kept_of) is ∙ kept_settled old ∙ ap settles (sym (settled_content old new is))

-- pages of which none was written
pub cells_none : (pages : List (Option Page)) → ((p : ℕ) → get_or pages p None ≡ None) → (k : ℕ) → get_or (cells pages) k blank ≡ blank
cells_none [] each k = refl
cells_none (page ∷ pages) each k =
    let first : page ≡ None = each 0 in
    ap (λ o. get_or (page_cells o ++ cells pages) k blank) first
    ∙ ⊎_elim
    (λ lt. get_or_append_left (blanks page_len) (cells pages) blank k (omega (arith, length-blanks page_len)) ∙ get_or-blanks page_len k lt)
    (λ past. get_or-append_right (blanks page_len) (cells pages) page_len k blank (length-blanks page_len) past ∙ cells_none pages (λ p. each (suc p)) (k - page_len))
    (cases_lt k page_len)

blank_fits : FitsCell blank
blank_fits = λ clean. refl

pub new_pages : (pages : List (Option Page)) → length pages ≡ 1024 → ((p : ℕ) → get_or pages p None ≡ None) → FitsPages pages
new_pages pages count each = whole_pages pages count (λ k. subst FitsCell (sym (cells_none pages each k)) blank_fits)

-- where each cell is blank, it reads 0 and is settled
pub blank_content : (xs : List Cell) → ((k : ℕ) → get_or xs k blank ≡ blank) → (k : ℕ) → get_or (map content_of xs) k 0 ≡ 0
blank_content xs each k = ⊎_elim (λ lt. get_or-map content_of xs k blank 0 lt ∙ ap content_of (each k)) (λ past. get_or_past (map content_of xs) k 0 (omega (arith, length-map xs content_of))) (cases_lt k (length xs))

pub blank_settled : (xs : List Cell) → ((k : ℕ) → get_or xs k blank ≡ blank) → map kept_of xs ≡ settles (map content_of xs)
blank_settled [] each = refl
blank_settled (x ∷ xs) each =
    let first : x ≡ blank = each 0 in
    ap (λ (c : Cell). kept_of c ∷ map kept_of xs) first ∙ ap (λ (l : List (Option ℕ)). Some 0 ∷ l) (blank_settled xs (λ k. each (suc k))) ∙ sym (ap (λ (c : Cell). Some c.content ∷ settles (map content_of xs)) first)

pub on_ok : {T E P : Type 0} (r : Result T E) → P → OnOk r P
on_ok (Ok x) p = p
on_ok (Err e) p = tt

pub on_err : {T E P : Type 0} (r : Result T E) → P → OnErr r P
on_err (Ok x) p = tt
on_err (Err e) p = p

pub blank_under : (xs : List Cell) → ((k : ℕ) → get_or xs k blank ≡ blank) → map settled_of xs ≡ map content_of xs
blank_under [] each = refl
blank_under (x ∷ xs) each =
    let first : x ≡ blank = each 0 in
    ap (λ (c : Cell). settled_of c ∷ map settled_of xs) first ∙ ap (λ (l : List ℕ). 0 ∷ l) (blank_under xs (λ k. each (suc k))) ∙ sym (ap (λ (c : Cell). content_of c ∷ map content_of xs) first)

-- a write changes no settled byte
module _ (at : ℕ) (bytes : List ℕ) (old new : List Cell) (over : Overwrites at bytes old new) (fits : at + length bytes ≤ length old) where
  inside_at : (k : ℕ) → at ≤ k → k < at + length bytes → get_or new k blank ≡ written (get_or old k blank) (get_or bytes (k - at) 0)
  inside_at k le lt =
      let j : at + (k - at) ≡ k = omega arith in
      ap (λ (i : ℕ). get_or new i blank) (sym j) ∙ over.inside (k - at) (omega arith) ∙ ap (λ (i : ℕ). written (get_or old i blank) (get_or bytes (k - at) 0)) j

  under_at : (k : ℕ) → settled_of (get_or new k blank) ≡ settled_of (get_or old k blank)
  under_at k = ⊎_elim
      (λ lt. ap settled_of (get_or_below at (length bytes) old new k blank over.changes lt))
      (λ le. ⊎_elim
      (λ lt. ap settled_of (inside_at k le lt))
      (λ past. ap settled_of (get_or_above at (length bytes) old new k blank over.changes past))
      (cases_lt k (at + length bytes)))
      (cases_lt k at)

  pub under_over : map settled_of new ≡ map settled_of old
  under_over = sym (map_is settled_of new (map settled_of old) blank 0 (length-map old settled_of ∙ sym over.changes.size)
      (λ k lt. get_or-map settled_of old k blank 0 (omega (arith, over.changes.size)) ∙ sym (under_at k)))

  pub dirty_over : (k : ℕ) → at ≤ k → k < at + length bytes → get_or (map kept_of new) k None ≡ None
  dirty_over k le lt = get_or-map kept_of new k blank None (omega (arith, over.changes.size)) ∙ ap kept_of (inside_at k le lt)

-- a sync settles each byte as it reads
pub settled_under : (old new : List Cell) → new ≡ map settle_cell old → map settled_of new ≡ map content_of new
settled_under old new is = ap (map settled_of) is ∙ each old ∙ sym (ap (map content_of) is)
  where
    each : (xs : List Cell) → map settled_of (map settle_cell xs) ≡ map content_of (map settle_cell xs)
    each [] = refl
    each (x ∷ xs) = ap (λ (l : List ℕ). x.content ∷ l) (each xs)

pub ok_at : {T E P : Type 0} (r : Result T E) → is_err r ≡ false → OnOk r P → P
ok_at (Ok x) is p = p
ok_at (Err e) is p = absurd (true≢false is)
