-- Cells after a power cycle.
use Rattle.std.specs.Prelude.{◌^◌, ◌==◌, is_some, not, ◌||◌, if◌then◌else◌}
use Rattle.std.proofs.Common.{◌≡◌, ⊎_elim, ◌<◌, ◌*◌, ◌/◌, ◌%◌, ℕ, List, Bool, true, false, Option, Some, None, length, get_or, map, refl, sym, ◌∙◌, ap, subst, arith}
use Rattle.std.proofs.lemmas.List.{length-map, get_or-map, get_or_past}
use Rattle.std.proofs.lemmas.Bool.{cases_lt}
use Rattle.outside.specs.Disk.{IsImage, settles}
use Rattle.outside.specs.Cells.{Cell, blank, blanks, page_len, keeps, chosen, cycle_cell, content_of, kept_of, settled_of, FitsCell, Cycled}
use Rattle.outside.specs.Pages.{cells, page_cells, FitsPages}
use Rattle.outside.specs.declared.page.Page.{Page}
use Rattle.outside.proofs.Places.{length-cells, length-blanks, get_or-blanks, length-page_cells, cell_place}
use Rattle.outside.proofs.Mapped.{map_is}
use Rattle.outside.proofs.Whole.{whole_pages}

-- cells that were never written
pub cycled_none : (choice : ℕ) → Cycled choice (blanks page_len) (blanks page_len)
cycled_none choice = record {
  size = refl;
  each = λ k lt. get_or-blanks page_len k (omega (arith, length-blanks page_len)) ∙ sym (ap (cycle_cell (keeps choice k)) (get_or-blanks page_len k (omega (arith, length-blanks page_len))));
}

-- a place's bit is that of its place in the page
keeps_there : (choice k : ℕ) → keeps choice (k % page_len) ≡ keeps choice k
keeps_there choice k = let same : k % page_len % 8 ≡ k % 8 = omega arith in ap (λ (o : ℕ). choice / 2 ^ o % 2 == 1) same

-- pages, by each page
pub cycled_cells : (choice : ℕ) (old new : List (Option Page)) → length new ≡ length old → ((p : ℕ) → p < length old → Cycled choice (page_cells (get_or old p None)) (page_cells (get_or new p None))) → Cycled choice (cells old) (cells new)
cycled_cells choice old new same each = record {
  size = length-cells new ∙ ap (λ (n : ℕ). n * page_len) same ∙ sym (length-cells old);
  each = λ k lt.
      let in_old : k < length old * page_len = omega (arith, length-cells old) in
      let here : Cycled choice (page_cells (get_or old (k / page_len) None)) (page_cells (get_or new (k / page_len) None)) = each (k / page_len) (omega arith) in
      let was = cell_place old k (get_or old (k / page_len) None) in_old refl in
      cell_place new k (get_or new (k / page_len) None) (omega arith) refl
      ∙ here.each (k % page_len) (omega (arith, length-page_cells (get_or old (k / page_len) None)))
      ∙ ap (λ (b : Bool). cycle_cell b (get_or (page_cells (get_or old (k / page_len) None)) (k % page_len) blank)) (keeps_there choice k)
      ∙ sym (ap (cycle_cell (keeps choice k)) was);
}

-- a cell that isn't dirty keeps its byte
chosen_clean : (stays : Bool) (c : Cell) (b : ℕ) → FitsCell c → kept_of c ≡ Some b → chosen stays c ≡ b
chosen_clean stays c b fits is = by_dirty c.dirty c.content c.settled fits is
  where
    by_dirty : (dirty : Bool) (content settled : ℕ) → (dirty ≡ false → content ≡ settled) → (if dirty then None else Some settled) ≡ Some b → (if not dirty || stays then content else settled) ≡ b
    by_dirty true content settled fits is = cc
    by_dirty false content settled fits is = let same : settled ≡ b = cc in fits refl ∙ same

-- the byte by what is settled
chosen_by : (stays : Bool) (c : Cell) → chosen stays c ≡ (if is_some (kept_of c) || stays then c.content else c.settled)
chosen_by stays c = by_dirty c.dirty c.content c.settled
  where
    by_dirty : (dirty : Bool) (content settled : ℕ) → (if not dirty || stays then content else settled) ≡ (if is_some (if dirty then None else Some settled) || stays then content else settled)
    by_dirty true content settled = refl
    by_dirty false content settled = refl

none_is_some : {X : Type 0} (b : X) → None ≡ Some b → ⊥
none_is_some b e = cc

module _ (choice : ℕ) (old new : List Cell) (is : Cycled choice old new) where
  content_at : (k : ℕ) → k < length old → get_or (map content_of new) k 0 ≡ chosen (keeps choice k) (get_or old k blank)
  content_at k lt = get_or-map content_of new k blank 0 (omega (arith, is.size)) ∙ ap content_of (is.each k lt)

  pub cycled_fits : (k : ℕ) → FitsCell (get_or new k blank)
  cycled_fits k = ⊎_elim
      (λ lt. subst FitsCell (sym (is.each k lt)) (λ clean. refl))
      (λ past. subst FitsCell (sym (get_or_past new k blank (omega (arith, is.size)))) (λ clean. refl))
      (cases_lt k (length old))

  pub cycled_image : ((k : ℕ) → FitsCell (get_or old k blank)) → IsImage (map kept_of old) (map content_of new)
  cycled_image fits = record {
    size = length-map new content_of ∙ is.size ∙ sym (length-map old kept_of);
    same = λ k b here. ⊎_elim
        (λ lt. content_at k lt ∙ chosen_clean (keeps choice k) (get_or old k blank) b (fits k) (sym (get_or-map kept_of old k blank None lt) ∙ here))
        (λ past. absurd (none_is_some b (sym (get_or_past (map kept_of old) k None (omega (arith, length-map old kept_of))) ∙ here)))
        (cases_lt k (length old));
  }

  pub cycled_settled : map kept_of new ≡ settles (map content_of new)
  cycled_settled = map_is (λ (b : ℕ). Some b) (map content_of new) (map kept_of new) 0 None (length-map new kept_of ∙ sym (length-map new content_of))
      (λ k lt. let inside : k < length old = omega (arith, length-map new content_of, is.size) in
      get_or-map kept_of new k blank None (omega (arith, is.size)) ∙ ap kept_of (is.each k inside) ∙ sym (ap (λ (b : ℕ). Some b) (content_at k inside)))

  pub cycled_under : map settled_of new ≡ map content_of new
  cycled_under = sym (map_is settled_of new (map content_of new) blank 0 (length-map new content_of)
      (λ k lt. let inside : k < length old = omega (arith, is.size) in
      content_at k inside ∙ sym (ap settled_of (is.each k inside))))

  pub cycled_chosen : (k : ℕ) → k < length old → get_or (map content_of new) k 0 ≡ (if is_some (get_or (map kept_of old) k None) || keeps choice k then get_or (map content_of old) k 0 else get_or (map settled_of old) k 0)
  cycled_chosen k lt =
      content_at k lt ∙ chosen_by (keeps choice k) (get_or old k blank)
      ∙ ap (λ (o : Option ℕ). if is_some o || keeps choice k then content_of (get_or old k blank) else settled_of (get_or old k blank)) (sym (get_or-map kept_of old k blank None lt))
      ∙ ap (λ (b : ℕ). if is_some (get_or (map kept_of old) k None) || keeps choice k then b else settled_of (get_or old k blank)) (sym (get_or-map content_of old k blank 0 lt))
      ∙ ap (λ (b : ℕ). if is_some (get_or (map kept_of old) k None) || keeps choice k then get_or (map content_of old) k 0 else b) (sym (get_or-map settled_of old k blank 0 lt))

-- pages after a power cycle
pub cycled_pages : (choice : ℕ) (old new : List (Option Page)) → FitsPages old → length new ≡ length old → Cycled choice (cells old) (cells new) → FitsPages new
cycled_pages choice old new fits count is = whole_pages new (count ∙ fits.count) (cycled_fits choice (cells old) (cells new) is)
