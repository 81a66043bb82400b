-- Parts of a list, and changes of one part.
use Rattle.std.proofs.Common.{◌≡◌, ◌<◌, ◌≤◌, ◌+◌, ◌-◌, ℕ, List, ◌++◌, Option, Some, None, length, get_or, take, drop, refl, sym, ◌∙◌, ap, arith, append_assoc, length-take, length-append, length-drop}
use Rattle.std.proofs.lemmas.List.{take_at, drop_at, take-take, drop-drop, drop-take, length-take-le, length-map, take-map, drop-map, get_or-take, get_or-drop, get_or-map, same_lists, get_or_default}
use Rattle.outside.specs.Disk.{part, put, ChangesOnly, IsImage, settles}

module _ {A : Type 0} where
  pub length-put : (xs : List A) (at : ℕ) (ys : List A) → at + length ys ≤ length xs → length (put xs at ys) ≡ length xs
  length-put xs at ys fits = omega (arith, length-append (take at xs ++ ys) (drop (at + length ys) xs), length-append (take at xs) ys, length-take at xs, length-drop (at + length ys) xs)

  pub put_changes : (xs : List A) (at : ℕ) (ys : List A) → at + length ys ≤ length xs → ChangesOnly at (length ys) xs (put xs at ys)
  put_changes xs at ys fits = record {
    size = length-put xs at ys fits;
    before = ap (take at) (append_assoc (take at xs) ys (drop (at + length ys) xs)) ∙ take_at (take at xs) (ys ++ drop (at + length ys) xs) at (length-take-le at xs (omega arith));
    after = drop_at (take at xs ++ ys) (drop (at + length ys) xs) (at + length ys) (omega (arith, length-append (take at xs) ys, length-take-le at xs (omega arith)));
  }

  pub part_put : (xs : List A) (at : ℕ) (ys : List A) → at + length ys ≤ length xs → part at (length ys) (put xs at ys) ≡ ys
  part_put xs at ys fits =
      ap (take (length ys)) (ap (drop at) (append_assoc (take at xs) ys (drop (at + length ys) xs)) ∙ drop_at (take at xs) (ys ++ drop (at + length ys) xs) at (length-take-le at xs (omega arith)))
      ∙ take_at ys (drop (at + length ys) xs) (length ys) refl

  pub drop_put : (xs : List A) (at : ℕ) (ys : List A) → at ≤ length xs → drop at (put xs at ys) ≡ ys ++ drop (at + length ys) xs
  drop_put xs at ys fits = ap (drop at) (append_assoc (take at xs) ys (drop (at + length ys) xs)) ∙ drop_at (take at xs) (ys ++ drop (at + length ys) xs) at (length-take-le at xs fits)

  -- a head put before a body
  pub part_put_two : (xs : List A) (at h n : ℕ) (head body : List A) → length head ≡ h → at + h + length body ≤ length xs → part at n (put (put xs (at + h) body) at head) ≡ take n (head ++ (body ++ drop (at + h + length body) xs))
  part_put_two xs at h n head body is fits =
      let mid = put xs (at + h) body in
      ap (take n) (drop_put mid at head (omega (arith, length-put xs (at + h) body fits)) ∙ ap (λ (l : List A). head ++ l) (ap (λ (k : ℕ). drop (at + k) mid) is ∙ drop_put xs (at + h) body (omega arith)))

  -- a part before the change, or behind it
  pub part_below : (at n : ℕ) (xs ys : List A) (a m : ℕ) → ChangesOnly at n xs ys → a + m ≤ at → part a m ys ≡ part a m xs
  part_below at n xs ys a m changes le =
      sym (drop-take a m ys) ∙ ap (drop a) (sym (take-take (a + m) at ys le) ∙ ap (take (a + m)) changes.before ∙ take-take (a + m) at xs le) ∙ drop-take a m xs

  pub part_above : (at n : ℕ) (xs ys : List A) (a m : ℕ) → ChangesOnly at n xs ys → at + n ≤ a → part a m ys ≡ part a m xs
  part_above at n xs ys a m changes le =
      let far : (at + n) + (a - (at + n)) ≡ a = omega arith in
      let behind : (zs : List A) → drop a zs ≡ drop (a - (at + n)) (drop (at + n) zs) = λ zs. ap (λ (i : ℕ). drop i zs) (sym far) ∙ sym (drop-drop (a - (at + n)) (at + n) zs) in
      ap (take m) (behind ys ∙ ap (drop (a - (at + n))) changes.after ∙ sym (behind xs))

  pub get_or_below : (at n : ℕ) (xs ys : List A) (k : ℕ) (d : A) → ChangesOnly at n xs ys → k < at → get_or ys k d ≡ get_or xs k d
  get_or_below at n xs ys k d changes lt = sym (get_or-take at ys k d lt) ∙ ap (λ (l : List A). get_or l k d) changes.before ∙ get_or-take at xs k d lt

  pub get_or_above : (at n : ℕ) (xs ys : List A) (k : ℕ) (d : A) → ChangesOnly at n xs ys → at + n ≤ k → get_or ys k d ≡ get_or xs k d
  get_or_above at n xs ys k d changes le =
      let far : (at + n) + (k - (at + n)) ≡ k = omega arith in
      let behind : (zs : List A) → get_or zs k d ≡ get_or (drop (at + n) zs) (k - (at + n)) d = λ zs. ap (λ (i : ℕ). get_or zs i d) (sym far) ∙ sym (get_or-drop (at + n) zs (k - (at + n)) d) in
      behind ys ∙ ap (λ (l : List A). get_or l (k - (at + n)) d) changes.after ∙ sym (behind xs)

  pub changes_none : (at n : ℕ) (xs : List A) → ChangesOnly at n xs xs
  changes_none at n xs = record { size = refl; before = refl; after = refl }

  -- a change lies in a wider range too
  pub changes_widen : (a n b m : ℕ) (xs ys : List A) → ChangesOnly a n xs ys → b ≤ a → a + n ≤ b + m → ChangesOnly b m xs ys
  changes_widen a n b m xs ys changes le far =
      let rest : (a + n) + ((b + m) - (a + n)) ≡ b + m = omega arith in
      let behind : (zs : List A) → drop (b + m) zs ≡ drop ((b + m) - (a + n)) (drop (a + n) zs) = λ zs. ap (λ (i : ℕ). drop i zs) (sym rest) ∙ sym (drop-drop ((b + m) - (a + n)) (a + n) zs) in
      record {
        size = changes.size;
        before = sym (take-take b a ys le) ∙ ap (take b) changes.before ∙ take-take b a xs le;
        after = behind ys ∙ ap (drop ((b + m) - (a + n))) changes.after ∙ sym (behind xs);
      }

  pub changes_on : (a n : ℕ) (xs ys zs : List A) → ChangesOnly a n xs ys → ChangesOnly a n ys zs → ChangesOnly a n xs zs
  changes_on a n xs ys zs one two = record { size = two.size ∙ one.size; before = two.before ∙ one.before; after = two.after ∙ one.after }

-- what is settled changes where the content does
pub changes-settles : (at n : ℕ) (xs ys : List ℕ) → ChangesOnly at n xs ys → ChangesOnly at n (settles xs) (settles ys)
changes-settles at n xs ys changes =
    let f = λ (b : ℕ). Some b in
    record {
      size = length-map ys f ∙ changes.size ∙ sym (length-map xs f);
      before = take-map f at ys ∙ ap settles changes.before ∙ sym (take-map f at xs);
      after = drop-map f (at + n) ys ∙ ap settles changes.after ∙ sym (drop-map f (at + n) xs);
    }

settles_at : (bytes : List ℕ) (k : ℕ) → k < length bytes → get_or (settles bytes) k None ≡ Some (get_or bytes k 0)
settles_at bytes k lt = get_or-map (λ (b : ℕ). Some b) bytes k 0 None lt

-- The images of a disk where a range was torn: the content from before, but for that range.
pub image_torn : (at n : ℕ) (content : List ℕ) (settled : List (Option ℕ)) (image : List ℕ) → ChangesOnly at n (settles content) settled → IsImage settled image → ChangesOnly at n content image
image_torn at n content settled image changes is =
    let sizes : length image ≡ length content = is.size ∙ changes.size ∙ length-map content (λ (b : ℕ). Some b) in
    record {
      size = sizes;
      before = same_lists (take at image) (take at content) (omega (arith, length-take at image, length-take at content))
          (λ k d lt. let in_front : k < at = omega (arith, length-take at image) in let inside : k < length content = omega (arith, length-take at image) in
          get_or-take at image k d in_front ∙ get_or_default image k d 0 (omega arith) ∙ is.same k (get_or content k 0) (get_or_below at n (settles content) settled k None changes in_front ∙ settles_at content k inside) ∙ get_or_default content k 0 d inside ∙ sym (get_or-take at content k d in_front));
      after = same_lists (drop (at + n) image) (drop (at + n) content) (omega (arith, length-drop (at + n) image, length-drop (at + n) content))
          (λ k d lt. let inside : at + n + k < length content = omega (arith, length-drop (at + n) image) in
          get_or-drop (at + n) image k d ∙ get_or_default image (at + n + k) d 0 (omega arith) ∙ is.same (at + n + k) (get_or content (at + n + k) 0) (get_or_above at n (settles content) settled (at + n + k) None changes (omega arith) ∙ settles_at content (at + n + k) inside) ∙ get_or_default content (at + n + k) 0 d inside ∙ sym (get_or-drop (at + n) content k d));
    }

-- with nothing dirty the one image is the content
pub image_only : (content image : List ℕ) → IsImage (settles content) image → image ≡ content
image_only content image is =
    let sizes : length image ≡ length content = is.size ∙ length-map content (λ (b : ℕ). Some b) in
    same_lists image content sizes (λ k d lt. get_or_default image k d 0 lt ∙ is.same k (get_or content k 0) (settles_at content k (omega arith)) ∙ get_or_default content k 0 d (omega arith))
