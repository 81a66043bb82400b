-- Cells by their contents, their settled bytes and their flags.
use Rattle.std.specs.Prelude.{replicate, not, ◌||◌, if◌then◌else◌}
use Rattle.std.proofs.Common.{◌≡◌, ◌⊎◌, inl, inr, ⊎_elim, ◌<◌, ◌≤◌, ◌+◌, ◌-◌, ◌*◌, ◌/◌, ◌%◌, ◌++◌, ℕ, zero, suc, List, [], ◌∷◌, Bool, true, false, Option, Some, None, length, get_or, set, take, drop, map, refl, sym, ◌∙◌, ap, subst, arith, length-take, length-drop, length-append, get_or-set_same, get_or-set_other}
use Rattle.std.proofs.lemmas.List.{length-set, length-map, length-replicate, get_or-replicate, get_or-take, get_or-drop, get_or_default, get_or_past, get_or_append_left, get_or-append_right, get_or-map, drop-drop, length-take-le, same_lists}
use Rattle.std.proofs.lemmas.Bool.{cases_lt, cases_eq}
use Rattle.outside.specs.Disk.{put, part, ChangesOnly}
use Rattle.outside.specs.Cells.{Cell, zipped, FitsPage, blank, blanks, page_len, written, content_of, settle_cell, cycle_cell, keeps, Cycled}
use Rattle.outside.specs.Pages.{cells, page_cells}
use Rattle.outside.specs.Cells.{Overwrites}
use Rattle.outside.specs.declared.page.Page.{Page}
use Rattle.outside.proofs.Parts.{length-put, put_changes, get_or_below, get_or_above, part_put}
use Rattle.outside.proofs.Places.{length-zipped, length-cells, length-blanks, get_or-blanks, cell_place}
use Rattle.std.proofs.Math.Seq.{take-add}
use Rattle.std.proofs.lemmas.Slice.{take-put_mid}
use borrow.Rule.Slice.PartMut.{put_mid}
use Rattle.outside.proofs.Mapped.{map_is, part_read}

pub get_or-zipped : (content settled : List ℕ) (dirty : List Bool) (k : ℕ) → length settled ≡ length content → length dirty ≡ length content → get_or (zipped content settled dirty) k blank ≡ record { content = get_or content k 0; settled = get_or settled k 0; dirty = get_or dirty k false }
get_or-zipped [] [] [] k two three = refl
get_or-zipped [] [] (d ∷ dirty) k two three = absurd (omega arith)
get_or-zipped [] (s ∷ settled) dirty k two three = absurd (omega arith)
get_or-zipped (c ∷ content) [] dirty k two three = absurd (omega arith)
get_or-zipped (c ∷ content) (s ∷ settled) [] k two three = absurd (omega arith)
get_or-zipped (c ∷ content) (s ∷ settled) (d ∷ dirty) zero two three = refl
get_or-zipped (c ∷ content) (s ∷ settled) (d ∷ dirty) (suc k) two three = get_or-zipped content settled dirty k (omega arith) (omega arith)

-- equal cells from equal parts
pub same_cell : (a b c d : ℕ) (e f : Bool) → a ≡ b → c ≡ d → e ≡ f → ◌≡◌ {A = Cell} (record { content = a; settled = c; dirty = e }) (record { content = b; settled = d; dirty = f })
same_cell a b c d e f one two three = cc

module _ {A : Type 0} (xs : List A) (at : ℕ) (ys : List A) (fits : at + length ys ≤ length xs) (d : A) where
  pub put_out : (k : ℕ) → (k < at) ⊎ (at + length ys ≤ k) → get_or (put xs at ys) k d ≡ get_or xs k d
  put_out k far = ⊎_elim
      (λ lt. get_or_below at (length ys) xs (put xs at ys) k d (put_changes xs at ys fits) lt)
      (λ le. get_or_above at (length ys) xs (put xs at ys) k d (put_changes xs at ys fits) le)
      far

  pub put_in : (k : ℕ) → k < length ys → get_or (put xs at ys) (at + k) d ≡ get_or ys k d
  put_in k lt =
      sym (get_or-drop at (put xs at ys) k d) ∙ sym (get_or-take (length ys) (drop at (put xs at ys)) k d lt)
      ∙ ap (λ (l : List A). get_or l k d) (part_put xs at ys fits)

  pub put_at : (k : ℕ) → at ≤ k → k < at + length ys → get_or (put xs at ys) k d ≡ get_or ys (k - at) d
  put_at k le lt =
      let j : at + (k - at) ≡ k = omega arith in
      ap (λ (i : ℕ). get_or (put xs at ys) i d) (sym j) ∙ put_in (k - at) (omega arith)

-- a list that differs only at places of a range
pub changes_each : {A : Type 0} (at n : ℕ) (xs ys : List A) (d : A) → length ys ≡ length xs → ((k : ℕ) → k < at → get_or ys k d ≡ get_or xs k d) → ((k : ℕ) → at + n ≤ k → get_or ys k d ≡ get_or xs k d) → ChangesOnly at n xs ys
changes_each {A} at n xs ys d size low high = record {
  size = size;
  before = same_lists (take at ys) (take at xs) (omega (arith, length-take at ys, length-take at xs))
      (λ k e lt. let in_front : k < at = omega (arith, length-take at ys) in let inside : k < length ys = omega (arith, length-take at ys) in
      get_or-take at ys k e in_front ∙ get_or_default ys k e d inside ∙ low k in_front ∙ get_or_default xs k d e (omega arith) ∙ sym (get_or-take at xs k e in_front));
  after = same_lists (drop (at + n) ys) (drop (at + n) xs) (omega (arith, length-drop (at + n) ys, length-drop (at + n) xs))
      (λ k e lt. let inside : at + n + k < length ys = omega (arith, length-drop (at + n) ys) in
      get_or-drop (at + n) ys k e ∙ get_or_default ys (at + n + k) e d inside ∙ high (at + n + k) (omega arith) ∙ get_or_default xs (at + n + k) d e (omega arith) ∙ sym (get_or-drop (at + n) xs k e));
}

-- a range settled
module _ (content settled : List ℕ) (dirty : List Bool) (low high : ℕ) (fits : FitsPage content settled dirty low high) where
  piece_size : length (take (high - low) (drop low content)) ≡ high - low
  piece_size = omega (arith, length-take (high - low) (drop low content), length-drop low content, fits.content_size, fits.inside, fits.order)

  flags_size : length (replicate (high - low) false) ≡ high - low
  flags_size = length-replicate (high - low) false

  settled_fits : low + length (take (high - low) (drop low content)) ≤ length settled
  settled_fits = omega (arith, piece_size, fits.settled_size, fits.inside, fits.order)

  dirty_fits : low + length (replicate (high - low) false) ≤ length dirty
  dirty_fits = omega (arith, flags_size, fits.dirty_size, fits.inside, fits.order)

  settled_at : (k : ℕ) → get_or (put settled low (take (high - low) (drop low content))) k 0 ≡ get_or content k 0
  settled_at k = ⊎_elim
      (λ lt. put_out settled low (take (high - low) (drop low content)) settled_fits 0 k (inl lt) ∙ sym (fits.below k lt).1)
      (λ le. ⊎_elim
      (λ lt. put_at settled low (take (high - low) (drop low content)) settled_fits 0 k le (omega (arith, piece_size)) ∙ get_or-take (high - low) (drop low content) (k - low) 0 (omega arith) ∙ get_or-drop low content (k - low) 0 ∙ ap (λ (i : ℕ). get_or content i 0) (omega arith))
      (λ past. put_out settled low (take (high - low) (drop low content)) settled_fits 0 k (inr (omega (arith, piece_size, fits.order))) ∙ sym (fits.above k past).1)
      (cases_lt k high))
      (cases_lt k low)

  dirty_at : (k : ℕ) → get_or (put dirty low (replicate (high - low) false)) k false ≡ false
  dirty_at k = ⊎_elim
      (λ lt. put_out dirty low (replicate (high - low) false) dirty_fits false k (inl lt) ∙ (fits.below k lt).0)
      (λ le. ⊎_elim
      (λ lt. put_at dirty low (replicate (high - low) false) dirty_fits false k le (omega (arith, flags_size)) ∙ get_or-replicate (high - low) (k - low) false false (omega arith))
      (λ past. put_out dirty low (replicate (high - low) false) dirty_fits false k (inr (omega (arith, flags_size, fits.order))) ∙ (fits.above k past).0)
      (cases_lt k high))
      (cases_lt k low)

  pub range_fits : FitsPage content (put settled low (take (high - low) (drop low content))) (put dirty low (replicate (high - low) false)) 0 0
  range_fits = record {
    content_size = fits.content_size;
    settled_size = length-put settled low _ settled_fits ∙ fits.settled_size;
    dirty_size = length-put dirty low _ dirty_fits ∙ fits.dirty_size;
    order = omega arith;
    inside = omega arith;
    below = λ k lt. absurd (omega arith);
    above = λ k le. (dirty_at k, sym (settled_at k));
  }

  pub range_cells : zipped content (put settled low (take (high - low) (drop low content))) (put dirty low (replicate (high - low) false)) ≡ map settle_cell (zipped content settled dirty)
  range_cells =
      let size = length-zipped 65536 content settled dirty fits.content_size fits.settled_size fits.dirty_size in
      let new = range_fits in
      map_is settle_cell (zipped content settled dirty) (zipped content (put settled low (take (high - low) (drop low content))) (put dirty low (replicate (high - low) false))) blank blank
      (length-zipped 65536 content (put settled low (take (high - low) (drop low content))) (put dirty low (replicate (high - low) false)) new.content_size new.settled_size new.dirty_size ∙ sym size)
      (λ k lt. get_or-zipped content (put settled low (take (high - low) (drop low content))) (put dirty low (replicate (high - low) false)) k (new.settled_size ∙ sym new.content_size) (new.dirty_size ∙ sym new.content_size)
      ∙ same_cell _ _ _ _ _ _ refl (settled_at k) (dirty_at k)
      ∙ sym (ap settle_cell (get_or-zipped content settled dirty k (fits.settled_size ∙ sym fits.content_size) (fits.dirty_size ∙ sym fits.content_size))))

-- a page as it is made
pub fits_zeros : (content settled : List ℕ) (dirty : List Bool) → length content ≡ page_len → length settled ≡ page_len → length dirty ≡ page_len → ((k : ℕ) → get_or content k 0 ≡ 0) → ((k : ℕ) → get_or settled k 0 ≡ 0) → ((k : ℕ) → get_or dirty k false ≡ false) → FitsPage content settled dirty 0 0
fits_zeros content settled dirty one two three zero_content zero_settled unset = record {
  content_size = one;
  settled_size = two;
  dirty_size = three;
  order = omega arith;
  inside = omega arith;
  below = λ k lt. absurd (omega arith);
  above = λ k le. (unset k, zero_content k ∙ sym (zero_settled k));
}

pub zeros_cells : (content settled : List ℕ) (dirty : List Bool) → length content ≡ page_len → length settled ≡ page_len → length dirty ≡ page_len → ((k : ℕ) → get_or content k 0 ≡ 0) → ((k : ℕ) → get_or settled k 0 ≡ 0) → ((k : ℕ) → get_or dirty k false ≡ false) → zipped content settled dirty ≡ blanks page_len
zeros_cells content settled dirty one two three zero_content zero_settled unset =
    let size = length-zipped page_len content settled dirty one two three in
    same_lists (zipped content settled dirty) (blanks page_len) (size ∙ sym (length-blanks page_len))
    (λ k d lt. get_or_default (zipped content settled dirty) k d blank lt ∙ get_or-zipped content settled dirty k (two ∙ sym one) (three ∙ sym one) ∙ same_cell _ _ _ _ _ _ (zero_content k) (zero_settled k) (unset k)
    ∙ sym (get_or-blanks page_len k (omega arith)) ∙ get_or_default (blanks page_len) k blank d (omega (arith, length-blanks page_len)))

-- bytes chosen, and then settled
pub cycled_from : (choice : ℕ) (old content settled : List ℕ) (dirty : List Bool) (low high : ℕ) (new : List Cell) → FitsPage old settled dirty low high → FitsPage content settled dirty low high → ((k : ℕ) → get_or content k 0 ≡ (if not (get_or dirty k false) || keeps choice k then get_or old k 0 else get_or settled k 0)) → new ≡ map settle_cell (zipped content settled dirty) → Cycled choice (zipped old settled dirty) new
cycled_from choice old content settled dirty low high new was fits each is =
    let before = length-zipped 65536 old settled dirty was.content_size was.settled_size was.dirty_size in
    let mid = length-zipped 65536 content settled dirty fits.content_size fits.settled_size fits.dirty_size in
    record {
      size = ap length is ∙ length-map (zipped content settled dirty) settle_cell ∙ mid ∙ sym before;
      each = λ k lt.
          ap (λ (l : List Cell). get_or l k blank) is ∙ get_or-map settle_cell (zipped content settled dirty) k blank blank (omega arith)
          ∙ ap settle_cell (get_or-zipped content settled dirty k (fits.settled_size ∙ sym fits.content_size) (fits.dirty_size ∙ sym fits.content_size))
          ∙ same_cell _ _ _ _ _ _ (each k) (each k) refl
          ∙ sym (ap (cycle_cell (keeps choice k)) (get_or-zipped old settled dirty k (was.settled_size ∙ sym was.content_size) (was.dirty_size ∙ sym was.content_size)));
    }

-- bytes written over a page
module _ (content settled : List ℕ) (dirty : List Bool) (low high : ℕ) (at : ℕ) (from : List ℕ) (fits : FitsPage content settled dirty low high) (within : at + length from ≤ 65536) where
  in_content : at + length from ≤ length content
  in_content = omega (arith, fits.content_size)

  in_dirty : at + length (replicate (length from) true) ≤ length dirty
  in_dirty = omega (arith, fits.dirty_size, length-replicate (length from) true)

  pub page_fits : (down up : ℕ) → down ≤ up → up ≤ 65536 → down ≤ at → at + length from ≤ up → ((k : ℕ) → k < down → (k < low) ⊎ (high ≤ k)) → ((k : ℕ) → up ≤ k → high ≤ k) → FitsPage (put content at from) settled (put dirty at (replicate (length from) true)) down up
  page_fits down up order inside start end below above = record {
    content_size = length-put content at from in_content ∙ fits.content_size;
    settled_size = fits.settled_size;
    dirty_size = length-put dirty at (replicate (length from) true) in_dirty ∙ fits.dirty_size;
    order = order;
    inside = inside;
    below = λ k lt. clean k (inl (omega arith)) (below k lt);
    above = λ k le. clean k (inr (omega arith)) (inr (above k le));
  }
    where
      clean : (k : ℕ) → (k < at) ⊎ (at + length from ≤ k) → (k < low) ⊎ (high ≤ k) → (get_or (put dirty at (replicate (length from) true)) k false ≡ false) × (get_or (put content at from) k 0 ≡ get_or settled k 0)
      clean k far out =
          let was : (get_or dirty k false ≡ false) × (get_or content k 0 ≡ get_or settled k 0) = ⊎_elim (λ lt. fits.below k lt) (λ le. fits.above k le) out in
          (put_out dirty at (replicate (length from) true) in_dirty false k (⊎_elim (λ lt. inl lt) (λ le. inr (omega (arith, length-replicate (length from) true))) far) ∙ was.0, put_out content at from in_content 0 k far ∙ was.1)

  pub page_over : Overwrites at from (zipped content settled dirty) (zipped (put content at from) settled (put dirty at (replicate (length from) true)))
  page_over =
      let old = zipped content settled dirty in
      let new = zipped (put content at from) settled (put dirty at (replicate (length from) true)) in
      let put_size : length (put content at from) ≡ 65536 = length-put content at from in_content ∙ fits.content_size in
      let flag_size : length (put dirty at (replicate (length from) true)) ≡ 65536 = length-put dirty at (replicate (length from) true) in_dirty ∙ fits.dirty_size in
      let long = length-replicate (length from) true in
      let was : (k : ℕ) → get_or old k blank ≡ record { content = get_or content k 0; settled = get_or settled k 0; dirty = get_or dirty k false } = λ k. get_or-zipped content settled dirty k (fits.settled_size ∙ sym fits.content_size) (fits.dirty_size ∙ sym fits.content_size) in
      let is : (k : ℕ) → get_or new k blank ≡ record { content = get_or (put content at from) k 0; settled = get_or settled k 0; dirty = get_or (put dirty at (replicate (length from) true)) k false } = λ k. get_or-zipped (put content at from) settled (put dirty at (replicate (length from) true)) k (fits.settled_size ∙ sym put_size) (flag_size ∙ sym put_size) in
      let out : (k : ℕ) → (k < at) ⊎ (at + length from ≤ k) → get_or new k blank ≡ get_or old k blank = λ k far.
      is k ∙ same_cell _ _ _ _ _ _ (put_out content at from in_content 0 k far) refl (put_out dirty at (replicate (length from) true) in_dirty false k (⊎_elim (λ lt. inl lt) (λ le. inr (omega (arith, long))) far)) ∙ sym (was k) in
      record {
        changes = changes_each at (length from) old new blank
            (length-zipped 65536 (put content at from) settled (put dirty at (replicate (length from) true)) put_size fits.settled_size flag_size ∙ sym (length-zipped 65536 content settled dirty fits.content_size fits.settled_size fits.dirty_size))
            (λ k lt. out k (inl lt)) (λ k le. out k (inr le));
        inside = λ k lt. is (at + k)
            ∙ same_cell _ _ _ _ _ _ (put_in content at from in_content 0 k lt) (sym (ap (λ (c : Cell). c.settled) (was (at + k)))) (put_in dirty at (replicate (length from) true) in_dirty false k (omega (arith, long)) ∙ get_or-replicate (length from) k true false lt);
      }

-- bytes written over one of the pages
pub over_place : (pages : List (Option Page)) (at : ℕ) (page new : Option Page) (from : List ℕ) → at < length pages * page_len → at % page_len + length from ≤ page_len → page ≡ get_or pages (at / page_len) None → Overwrites (at % page_len) from (page_cells page) (page_cells new) → Overwrites at from (cells pages) (cells (set pages (at / page_len) new))
over_place pages at page new from within one is over =
    let p = at / page_len in
    let o = at % page_len in
    let after = set pages p new in
    let count : length after ≡ length pages = length-set pages p new in
    let here : get_or after p None ≡ new = get_or-set_same pages p new None (omega arith) in
    let out : (k : ℕ) → (k < at) ⊎ (at + length from ≤ k) → get_or (cells after) k blank ≡ get_or (cells pages) k blank = λ k far. ⊎_elim
    (λ lt. cell_place after k (get_or after (k / page_len) None) (omega (arith, count)) refl
    ∙ by_page k far lt
    ∙ sym (cell_place pages k (get_or pages (k / page_len) None) lt refl))
    (λ past. get_or_past (cells after) k blank (omega (arith, length-cells after, count)) ∙ sym (get_or_past (cells pages) k blank (omega (arith, length-cells pages))))
    (cases_lt k (length pages * page_len)) in
    record {
      changes = changes_each at (length from) (cells pages) (cells after) blank (length-cells after ∙ ap (λ (n : ℕ). n * page_len) count ∙ sym (length-cells pages)) (λ k lt. out k (inl lt)) (λ k le. out k (inr le));
      inside = λ k lt.
          let there : (at + k) / page_len ≡ p = omega arith in
          let place : (at + k) % page_len ≡ o + k = omega arith in
          cell_place after (at + k) new (omega (arith, count)) (sym (ap (λ (q : ℕ). get_or after q None) there ∙ here))
          ∙ ap (λ (j : ℕ). get_or (page_cells new) j blank) place
          ∙ over.inside k lt
          ∙ sym (ap (λ (c : Cell). written c (get_or from k 0)) (cell_place pages (at + k) page (omega arith) (is ∙ ap (λ (q : ℕ). get_or pages q None) (sym there)) ∙ ap (λ (j : ℕ). get_or (page_cells page) j blank) place));
    }
  where
    by_page : (k : ℕ) → (k < at) ⊎ (at + length from ≤ k) → k < length pages * page_len → get_or (page_cells (get_or (set pages (at / page_len) new) (k / page_len) None)) (k % page_len) blank ≡ get_or (page_cells (get_or pages (k / page_len) None)) (k % page_len) blank
    by_page k far lt = ⊎_elim
        (λ same. let there : k / page_len ≡ at / page_len = same in
        ap (λ (q : ℕ). get_or (page_cells (get_or (set pages (at / page_len) new) q None)) (k % page_len) blank) there
        ∙ ap (λ (q : Option Page). get_or (page_cells q) (k % page_len) blank) (get_or-set_same pages (at / page_len) new None (omega arith))
        ∙ ⊎_elim
        (λ low. get_or_below (at % page_len) (length from) (page_cells page) (page_cells new) (k % page_len) blank over.changes (omega arith))
        (λ high. get_or_above (at % page_len) (length from) (page_cells page) (page_cells new) (k % page_len) blank over.changes (omega arith))
        far
        ∙ ap (λ (q : Option Page). get_or (page_cells q) (k % page_len) blank) is
        ∙ sym (ap (λ (q : ℕ). get_or (page_cells (get_or pages q None)) (k % page_len) blank) there))
        (λ ne. ap (λ (q : Option Page). get_or (page_cells q) (k % page_len) blank) (get_or-set_other pages (at / page_len) (k / page_len) new None ne))
        (cases_eq (k / page_len) (at / page_len))

-- one piece behind another
pub over_more : (at : ℕ) (xs ys : List ℕ) (old mid new : List Cell) → Overwrites at xs old mid → Overwrites (at + length xs) ys mid new → Overwrites at (xs ++ ys) old new
over_more at xs ys old mid new one two =
    let total = length-append xs ys in
    record {
      changes = changes_each at (length (xs ++ ys)) old new blank (two.changes.size ∙ one.changes.size)
          (λ k lt. get_or_below (at + length xs) (length ys) mid new k blank two.changes (omega arith) ∙ get_or_below at (length xs) old mid k blank one.changes lt)
          (λ k le. get_or_above (at + length xs) (length ys) mid new k blank two.changes (omega arith) ∙ get_or_above at (length xs) old mid k blank one.changes (omega arith));
      inside = λ k lt. ⊎_elim
          (λ low. get_or_below (at + length xs) (length ys) mid new (at + k) blank two.changes (omega arith) ∙ one.inside k low
          ∙ ap (λ (b : ℕ). written (get_or old (at + k) blank) b) (sym (get_or_append_left xs ys 0 k low)))
          (λ high. let j : at + length xs + (k - length xs) ≡ at + k = omega arith in
          ap (λ (i : ℕ). get_or new i blank) (sym j) ∙ two.inside (k - length xs) (omega arith)
          ∙ ap (λ (i : ℕ). written (get_or mid i blank) (get_or ys (k - length xs) 0)) j
          ∙ ap (λ (c : Cell). written c (get_or ys (k - length xs) 0)) (get_or_above at (length xs) old mid (at + k) blank one.changes (omega arith))
          ∙ ap (λ (b : ℕ). written (get_or old (at + k) blank) b) (sym (get_or-append_right xs ys (length xs) k 0 refl high)))
          (cases_lt k (length xs));
    }

pub over_none : (at : ℕ) (xs : List Cell) → Overwrites at [] xs xs
over_none at xs = record { changes = record { size = refl; before = refl; after = refl }; inside = λ k lt. absurd (omega arith) }

pub part_more : (at n m : ℕ) (xs : List ℕ) → part at n xs ++ part (at + n) m xs ≡ part at (n + m) xs
part_more at n m xs = sym (take-add n m (drop at xs) ∙ ap (λ l. take n (drop at xs) ++ take m l) (drop-drop n at xs))

-- what is read of one page
pub read_page : (pages : List (Option Page)) (at : ℕ) (page : Option Page) (into : List ℕ) (n : ℕ) → at < length pages * page_len → at % page_len + n ≤ page_len → page ≡ get_or pages (at / page_len) None → length into ≡ n → ((k : ℕ) → k < n → get_or into k 0 ≡ content_of (get_or (page_cells page) (at % page_len + k) blank)) → into ≡ part at n (map content_of (cells pages))
read_page pages at page into n within one is size each =
    part_read (cells pages) into at n size (omega (arith, length-cells pages))
    (λ k lt. let there : (at + k) / page_len ≡ at / page_len = omega arith in
    let place : (at + k) % page_len ≡ at % page_len + k = omega arith in
    each k lt ∙ sym (ap content_of (cell_place pages (at + k) page (omega arith) (is ∙ ap (λ (q : ℕ). get_or pages q None) (sym there)) ∙ ap (λ (j : ℕ). get_or (page_cells page) j blank) place)))

pub read_none : (pages : List (Option Page)) (at n : ℕ) → at < length pages * page_len → at % page_len + n ≤ page_len → None ≡ get_or pages (at / page_len) None → replicate n 0 ≡ part at n (map content_of (cells pages))
read_none pages at n within one is = read_page pages at None (replicate n 0) n within one is (length-replicate n 0)
    (λ k lt. get_or-replicate n k 0 0 lt ∙ sym (ap content_of (get_or-blanks page_len (at % page_len + k) (omega arith))))

pub read_some : (pages : List (Option Page)) (at n m : ℕ) (page : Page) → at < length pages * page_len → at % page_len + n ≤ page_len → Some page ≡ get_or pages (at / page_len) None → m ≡ n → take m (drop (at % page_len) page.content.items) ≡ part at n (map content_of (cells pages))
read_some pages at n m page within one is same =
    let fits = page.fits in
    ap (λ (j : ℕ). take j (drop (at % page_len) page.content.items)) same ∙
    read_page pages at (Some page) (take n (drop (at % page_len) page.content.items)) n within one is
    (omega (arith, length-take n (drop (at % page_len) page.content.items), length-drop (at % page_len) page.content.items, fits.content_size))
    (λ k lt. get_or-take n (drop (at % page_len) page.content.items) k 0 lt ∙ get_or-drop (at % page_len) page.content.items k 0
    ∙ sym (ap content_of (get_or-zipped page.content.items page.settled.items page.dirty.items (at % page_len + k) (fits.settled_size ∙ sym fits.content_size) (fits.dirty_size ∙ sym fits.content_size))))

pub over_next : (at done n m : ℕ) (from : List ℕ) (old mid new : List Cell) → done + n ≤ length from → m ≡ n → Overwrites at (take done from) old mid → Overwrites (at + done) (take m (drop done from)) mid new → Overwrites at (take (done + n) from) old new
over_next at done n m from old mid new fits same one part_of =
    let two : Overwrites (at + done) (take n (drop done from)) mid new = subst (λ (j : ℕ). Overwrites (at + done) (take j (drop done from)) mid new) same part_of in
    let size : length (take done from) ≡ done = omega (arith, length-take done from) in
    subst (λ (l : List ℕ). Overwrites at l old new) (sym (take-add done n from))
    (over_more at (take done from) (take n (drop done from)) old mid new one (subst (λ (j : ℕ). Overwrites (at + j) (take n (drop done from)) mid new) (sym size) two))

length-put_mid : (done n m : ℕ) (into piece : List ℕ) → m ≡ n → done + n ≤ length into → length piece ≡ n → length (put_mid done m into piece) ≡ length into
length-put_mid done n m into piece same fits size = omega (arith, length-append (take done into) (piece ++ drop m (drop done into)), length-append piece (drop m (drop done into)), length-take done into, length-drop m (drop done into), length-drop done into)

-- and one piece read behind another
pub read_next : (at done n m q : ℕ) (xs into : List ℕ) (piece : List ℕ) → done + n ≤ length into → at + done + n ≤ length xs → q ≡ n → take done into ≡ part at done xs → piece ≡ part (at + done) q xs → take (done + n) (put_mid done m into piece) ≡ part at (done + n) xs
read_next at done n m q xs into piece fits inside same is next =
    let got : piece ≡ part (at + done) n xs = next ∙ ap (λ (j : ℕ). part (at + done) j xs) same in
    let size : length piece ≡ n = ap length got ∙ length-take-le n (drop (at + done) xs) (omega (arith, length-drop (at + done) xs)) in
    take-put_mid done m into piece (done + n) (omega arith) (omega arith)
    ∙ ap (λ (l : List ℕ). l ++ piece) is ∙ ap (λ (l : List ℕ). part at done xs ++ l) got ∙ part_more at done n xs

pub length_read : (at done n m q : ℕ) (xs into : List ℕ) (piece : List ℕ) → done + n ≤ length into → at + done + n ≤ length xs → q ≡ n → m ≡ n → piece ≡ part (at + done) q xs → length (put_mid done m into piece) ≡ length into
length_read at done n m q xs into piece fits inside same also next =
    let got : piece ≡ part (at + done) n xs = next ∙ ap (λ (j : ℕ). part (at + done) j xs) same in
    let size : length piece ≡ n = ap length got ∙ length-take-le n (drop (at + done) xs) (omega (arith, length-drop (at + done) xs)) in
    length-put_mid done n m into piece also fits size
