-- Numbers read one after another.
use Rattle.std.proofs.Common.{◌≡◌, ◌<◌, ◌≤◌, ◌+◌, ◌-◌, ℕ, suc, zero, List, [], ◌∷◌, ◌++◌, Option, Some, None, Result, Ok, Err, length, take, drop, refl, sym, ◌∙◌, ap, arith, append_assoc, append-nil, cond, eqb, ltb, ◌≢◌}
use Rattle.std.specs.Prelude.{OnOk, is_err, false}
use Rattle.byteorder.specs.Endian.{little_number}
use Rattle.std.specs.Option.{option_map}
use Rattle.std.proofs.lemmas.List.{take_rest}
use Rattle.std.proofs.lemmas.Bool.{false≢true, cond-true, cond-false, lt-ltb, le-ltb, ne_eqb, eq-eqb}
use Rattle.dne_cli.specs.Image.{image_magic, number_at, item_len, with_number, after_item, numbers_from, numbers_in}

pub at_no_error : {T E P : Type 0} (result : Result T E) → is_err result ≡ false → OnOk result P → P
at_no_error (Ok x) none here = here
at_no_error (Err e) none here = absurd (false≢true (sym none))

-- what was read already, in front
abbrev pub after : List ℕ → Result (List ℕ) ℕ → Result (List ℕ) ℕ
after front (Ok ns) = Ok (front ++ ns)
after front (Err place) = Err place

pub after_none : (read : Result (List ℕ) ℕ) → after [] read ≡ read
after_none (Ok ns) = refl
after_none (Err place) = refl

after_one : (front : List ℕ) (n : ℕ) (read : Result (List ℕ) ℕ) → after front (with_number n read) ≡ after (front ++ n ∷ []) read
after_one front n (Ok ns) = ap (λ (l : List ℕ). Ok l) (sym (append_assoc front (n ∷ []) ns))
after_one front n (Err place) = refl

step_from : (end count : ℕ) (bytes : List ℕ) → numbers_from end (suc count) bytes ≡ after_item end (number_at 0 bytes) (option_map (λ (len : ℕ). numbers_from end count (drop len bytes)) (item_len bytes))
unfolding numbers_from
step_from end count bytes = refl

pub reads_one : (end count len : ℕ) (front bytes : List ℕ) → item_len bytes ≡ Some len → after front (numbers_from end (suc count) bytes) ≡ after (front ++ number_at 0 bytes ∷ []) (numbers_from end count (drop len bytes))
reads_one end count len front bytes is =
    ap (after front) (step_from end count bytes ∙ ap (λ (o : Option ℕ). after_item end (number_at 0 bytes) (option_map (λ (len : ℕ). numbers_from end count (drop len bytes)) o)) is)
    ∙ after_one front (number_at 0 bytes) (numbers_from end count (drop len bytes))

pub reads_none : (end count : ℕ) (front bytes : List ℕ) → item_len bytes ≡ None → after front (numbers_from end (suc count) bytes) ≡ Err end
reads_none end count front bytes is =
    ap (after front) (step_from end count bytes ∙ ap (λ (o : Option ℕ). after_item end (number_at 0 bytes) (option_map (λ (len : ℕ). numbers_from end count (drop len bytes)) o)) is)

pub reads_all : (end : ℕ) (front bytes : List ℕ) → length bytes ≡ 0 → after front (numbers_from end zero bytes) ≡ Ok front
unfolding numbers_from
reads_all end front [] is = ap (λ (l : List ℕ). Ok l) (append-nil front)
reads_all end front (b ∷ bytes) is = absurd (omega (arith, is))

pub reads_left : (end : ℕ) (front bytes : List ℕ) → 0 < length bytes → after front (numbers_from end zero bytes) ≡ Err end
unfolding numbers_from
reads_left end front [] lt = absurd (omega (arith, lt))
reads_left end front (b ∷ bytes) lt = ap (after front) (cond-false (eqb (length (b ∷ bytes)) 0) (Ok []) (Err end) (ne_eqb (length (b ∷ bytes)) 0 (λ e. omega (arith, e))))

-- a number in a part from a place to the end
pub number_part : (at : ℕ) (bytes : List ℕ) → little_number 4 (take (length bytes - at) (drop at bytes)) ≡ number_at at bytes
unfolding number_at
number_part at bytes = ap (little_number 4) (take_rest bytes at)

pub number_front : (bytes : List ℕ) → little_number 4 bytes ≡ number_at 0 bytes
unfolding number_at
number_front bytes = refl

-- the length of an operation
module _ (bytes : List ℕ) where
  abbrev len : ℕ
  len = 48 + number_at 12 bytes

  abbrev within : Option ℕ
  within = cond (ltb (length bytes) len) None (Some len)

  item : item_len bytes ≡ cond (ltb (length bytes) 48) None within
  unfolding item_len
  item = refl

  item_fixed : 48 ≤ length bytes → item_len bytes ≡ within
  item_fixed le = item ∙ cond-false (ltb (length bytes) 48) None within (le-ltb (length bytes) 48 le)

  pub item_short : length bytes < 48 → item_len bytes ≡ None
  item_short lt = item ∙ cond-true (ltb (length bytes) 48) None within (lt-ltb (length bytes) 48 lt)

  pub item_cut : (n : ℕ) → number_at 12 bytes ≡ n → 48 ≤ length bytes → length bytes < 48 + n → item_len bytes ≡ None
  item_cut n is le lt = item_fixed le ∙ cond-true (ltb (length bytes) len) None (Some len) (lt-ltb (length bytes) len (omega (arith, is)))

  pub item_len_is : (n : ℕ) → number_at 12 bytes ≡ n → 48 + n ≤ length bytes → item_len bytes ≡ Some (48 + n)
  item_len_is n is le = item_fixed (omega arith) ∙ cond-false (ltb (length bytes) len) None (Some len) (le-ltb (length bytes) len (omega (arith, is))) ∙ ap (λ (k : ℕ). Some (48 + k)) is

-- the head of an image
module _ (image : List ℕ) where
  abbrev items : Result (List ℕ) ℕ
  items = numbers_from (length image) (number_at 4 image) (drop 8 image)

  abbrev behind : Result (List ℕ) ℕ
  behind = cond (ltb (length image) 8) (Err (length image)) items

  abbrev read : Result (List ℕ) ℕ
  read = cond (eqb (number_at 0 image) image_magic) behind (Err 0)

  whole : numbers_in image ≡ cond (ltb (length image) 4) (Err (length image)) read
  unfolding numbers_in
  whole = refl

  begun : 4 ≤ length image → numbers_in image ≡ read
  begun le = whole ∙ cond-false (ltb (length image) 4) (Err (length image)) read (le-ltb (length image) 4 le)

  pub in_short : length image < 4 → numbers_in image ≡ Err (length image)
  in_short lt = whole ∙ cond-true (ltb (length image) 4) (Err (length image)) read (lt-ltb (length image) 4 lt)

  pub in_other : 4 ≤ length image → number_at 0 image ≢ image_magic → numbers_in image ≡ Err 0
  in_other le ne = begun le ∙ cond-false (eqb (number_at 0 image) image_magic) behind (Err 0) (ne_eqb (number_at 0 image) image_magic ne)

  pub in_head : 4 ≤ length image → number_at 0 image ≡ image_magic → length image < 8 → numbers_in image ≡ Err (length image)
  in_head le is lt = begun le ∙ cond-true (eqb (number_at 0 image) image_magic) behind (Err 0) (eq-eqb (number_at 0 image) image_magic is) ∙ cond-true (ltb (length image) 8) (Err (length image)) items (lt-ltb (length image) 8 lt)

  pub in_items : 8 ≤ length image → number_at 0 image ≡ image_magic → numbers_in image ≡ numbers_from (length image) (number_at 4 image) (drop 8 image)
  in_items le is = begun (omega arith) ∙ cond-true (eqb (number_at 0 image) image_magic) behind (Err 0) (eq-eqb (number_at 0 image) image_magic is) ∙ cond-false (ltb (length image) 8) (Err (length image)) items (le-ltb (length image) 8 le)
