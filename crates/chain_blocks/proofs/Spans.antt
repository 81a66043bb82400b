-- Bytes in the blocks of chains.
use Rattle.std.proofs.Common.{◌≡◌, ◌≢◌, ⊎_elim, inl, inr, ◌⊎◌, ◌<◌, ◌+◌, ℕ, zero, suc, List, [], ◌∷◌, ◌++◌, Option, Some, None, length, get_or, take, drop, refl, sym, ◌∙◌, ap, arith, append_assoc, length-take, length-drop}
use Rattle.std.proofs.lemmas.List.{take_at, drop_at, take-append-drop, take-map, drop-map, get_or-take, get_or-drop, get_or-map, get_or_default, same_lists, length-map}
use Rattle.std.proofs.lemmas.Bool.{cases_eq, cases_lt}
use Rattle.outside.specs.Disk.{part, settles, IsImage, ChangesOnly}
use Rattle.outside.proofs.Parts.{part_below, part_above}
use Rattle.chain_blocks.specs.Chains.{times, block_len}
use Rattle.chain_blocks.specs.Stored.{KeepsOthers, place, stored}
use Rattle.chain_blocks.proofs.Counting.{times-append, times_here}

length-part : {A B : Type 0} (a m : ℕ) (xs : List A) (ys : List B) → length xs ≡ length ys → length (part a m xs) ≡ length (part a m ys)
length-part a m xs ys same = omega (arith, length-take m (drop a xs), length-take m (drop a ys), length-drop a xs, length-drop a ys)

-- settled bytes stand on each image
pub image_part : (settled : List (Option ℕ)) (image bytes : List ℕ) (a m : ℕ) → part a m settled ≡ settles bytes → IsImage settled image → part a m image ≡ bytes
image_part settled image bytes a m is here =
    let sizes : length (part a m image) ≡ length bytes = length-part a m image settled here.size ∙ ap length is ∙ length-map bytes (λ (b : ℕ). Some b) in
    same_lists (part a m image) bytes sizes (λ k d lt.
    let front : k < m = omega (arith, length-take m (drop a image)) in
    let inside : a + k < length image = omega (arith, length-take m (drop a image), length-drop a image) in
    let stands : get_or settled (a + k) None ≡ Some (get_or bytes k 0) =
    sym (get_or-drop a settled k None) ∙ sym (get_or-take m (drop a settled) k None front) ∙ ap (λ (l : List (Option ℕ)). get_or l k None) is ∙ get_or-map (λ (b : ℕ). Some b) bytes k 0 None (omega arith) in
    get_or-take m (drop a image) k d front ∙ get_or-drop a image k d ∙ get_or_default image (a + k) d 0 inside ∙ here.same (a + k) (get_or bytes k 0) stands ∙ get_or_default bytes k 0 d (omega arith))

pub reads_back : (settled : List (Option ℕ)) (image bytes : List ℕ) (at : ℕ) (chain : List ℕ) → stored settled at chain ≡ settles bytes → IsImage settled image → stored image at chain ≡ bytes
reads_back settled image [] at [] is here = refl
reads_back settled image (x ∷ xs) at [] is here = absurd (zero_not (length xs) (ap length is ∙ ap (λ (n : ℕ). suc n) (length-map xs (λ (b : ℕ). Some b))))
  where
    zero_not : (n : ℕ) → zero ≡ suc n → ⊥
    zero_not n e = omega arith
reads_back settled image bytes at (b ∷ bs) is here =
    let f = λ (v : ℕ). Some v in
    let p = part (place at b) block_len settled in
    let rest = stored settled at bs in
    let n = length p in
    let one : p ≡ settles (take n bytes) = sym (take_at p rest n refl) ∙ ap (take n) is ∙ take-map f n bytes in
    let two : rest ≡ settles (drop n bytes) = sym (drop_at p rest n refl) ∙ ap (drop n) is ∙ drop-map f n bytes in
    ap (λ (l : List ℕ). l ++ stored image at bs) (image_part settled image (take n bytes) (place at b) block_len one here) ∙ ap (λ (l : List ℕ). take n bytes ++ l) (reads_back settled image (drop n bytes) at bs two here) ∙ take-append-drop n bytes

module _ {A : Type 0} where
  pub keeps_none : (at : ℕ) (xs : List A) → KeepsOthers at [] xs xs
  keeps_none at xs = record { size = refl; before = refl; others = λ b none. refl }

  pub keeps_on : (at : ℕ) (c d : List ℕ) (xs ys zs : List A) → KeepsOthers at c xs ys → KeepsOthers at d ys zs → KeepsOthers at (c ++ d) xs zs
  keeps_on at c d xs ys zs one two = record {
    size = two.size ∙ one.size;
    before = two.before ∙ one.before;
    others = λ b none. two.others b (omega (arith, times-append b c d)) ∙ one.others b (omega (arith, times-append b c d));
  }

  pub keeps_in : (at : ℕ) (c d : List ℕ) (xs ys : List A) → ((b : ℕ) → times b d ≡ 0 → times b c ≡ 0) → KeepsOthers at c xs ys → KeepsOthers at d xs ys
  keeps_in at c d xs ys within one = record { size = one.size; before = one.before; others = λ b none. one.others b (within b none) }

  -- a block that was written
  pub keeps_block : (at c : ℕ) (xs ys : List A) → ChangesOnly (place at c) block_len xs ys → KeepsOthers at (c ∷ []) xs ys
  keeps_block at c xs ys changes = record {
    size = changes.size;
    before = part_below (place at c) block_len xs ys 0 at changes (omega arith);
    others = λ b none. ⊎_elim
        (λ same. absurd (omega (arith, times_here c [], ap (λ (j : ℕ). times j (c ∷ [])) same)))
        (λ ne. apart b (cases_order b c ne))
        (cases_eq b c);
  }
    where
      cases_order : (b c : ℕ) → b ≢ c → (b < c) ⊎ (c < b)
      cases_order b c ne = ⊎_elim (λ lt. inl lt) (λ le. inr (omega arith)) (cases_lt b c)

      apart : (b : ℕ) → (b < c) ⊎ (c < b) → part (place at b) block_len ys ≡ part (place at b) block_len xs
      apart b (inl lt) = part_below (place at c) block_len xs ys (place at b) block_len changes (omega arith)
      apart b (inr gt) = part_above (place at c) block_len xs ys (place at b) block_len changes (omega arith)

  -- what stands in other blocks
  pub stored_others : (at : ℕ) (chain other : List ℕ) (xs ys : List A) → ((b : ℕ) → times b other ≢ 0 → times b chain ≡ 0) → KeepsOthers at chain xs ys → stored ys at other ≡ stored xs at other
  stored_others at chain [] xs ys apart keeps = refl
  stored_others at chain (b ∷ bs) xs ys apart keeps =
      ap (λ (l : List A). l ++ stored ys at bs) (keeps.others b (apart b (λ e. omega (arith, times_here b bs))))
      ∙ ap (λ (l : List A). part (place at b) block_len xs ++ l) (stored_others at chain bs xs ys (λ k ne. apart k (λ e. ne (omega arith))) keeps)

  pub stored-append : (xs : List A) (at : ℕ) (c d : List ℕ) → stored xs at (c ++ d) ≡ stored xs at c ++ stored xs at d
  stored-append xs at [] d = refl
  stored-append xs at (b ∷ bs) d = ap (λ (l : List A). part (place at b) block_len xs ++ l) (stored-append xs at bs d) ∙ sym (append_assoc (part (place at b) block_len xs) (stored xs at bs) (stored xs at d))
