-- Images: their lengths, and what is read back of them.
use Rattle.std.proofs.Common.{◌≡◌, ◌<◌, ◌≤◌, ◌+◌, ◌*◌, ◌^◌, ℕ, true, List, [], ◌∷◌, ◌++◌, Option, Some, Ok, length, take, drop, map, refl, sym, ◌∙◌, ap, arith, append_assoc, append-nil, length-append}
use Rattle.std.specs.List.{AllByRecursion}
use Rattle.std.specs.Option.{option_map}
use Rattle.std.proofs.lemmas.List.{take_at, drop_at}
use Rattle.byteorder.specs.Endian.{little_number}
use Rattle.byteorder.specs.Numbers.{length-bytes_low_first, little_number-reads_back}
use Rattle.fid_space.specs.declared.fid.Fid.{Fid}
use Rattle.tree_model.specs.declared.op.Op.{Op}
use Rattle.tree_model.specs.declared.op.Op.TheVariants as ops
use Rattle.scenario_text.specs.Spelling.{is_create}
use Rattle.tree_model.specs.History.{Item}
use Rattle.dne_cli.specs.Image.{image_magic, word32, word64, fid_bytes, reply_code, op_bytes, item_bytes, items_bytes, head_bytes, image_of, number_at, item_len, with_number, after_item, numbers_from, numbers_in}
use Rattle.dne_cli.proofs.Reading.{in_items, item_len_is}

pub length-word32 : (n : ℕ) → length (word32 n) ≡ 4
unfolding word32
length-word32 n = length-bytes_low_first 0 4 n

pub length-word64 : (n : ℕ) → length (word64 n) ≡ 8
unfolding word64
length-word64 n = length-bytes_low_first 0 8 n

pub length-fid : (f : Fid) → length (fid_bytes f) ≡ 16
length-fid f = omega (arith, length-append (word64 f.seq) (word32 f.oid ++ word32 f.ver), length-append (word32 f.oid) (word32 f.ver), length-word64 f.seq, length-word32 f.oid, length-word32 f.ver)

pub length-head : (count : ℕ) → length (head_bytes count) ≡ 8
unfolding head_bytes
length-head count = omega (arith, length-append (word32 image_magic) (word32 count), length-word32 image_magic, length-word32 count)

-- the name of what an operation makes
abbrev pub name_of : Op → List ℕ
name_of (ops.Create parent name fid) = name
name_of _ = []

pub length-op : (op : Op) → is_create op ≡ true → length (op_bytes op) ≡ 36 + length (name_of op)
length-op (ops.Create parent name fid) is = omega (arith, length-append (word32 (length name)) (fid_bytes parent ++ (fid_bytes fid ++ name)), length-append (fid_bytes parent) (fid_bytes fid ++ name), length-append (fid_bytes fid) name, length-word32 (length name), length-fid parent, length-fid fid)
length-op _ is = cc

pub length-item : (i : Item) → is_create i.request.op ≡ true → length (item_bytes i) ≡ 48 + length (name_of i.request.op)
unfolding item_bytes
length-item i is =
    let number = word32 i.request.number in
    let client = word32 i.request.client in
    let code = word32 (reply_code i.reply) in
    let op = op_bytes i.request.op in
    omega (arith, length-append number (client ++ (code ++ op)), length-append client (code ++ op), length-append code op, length-word32 i.request.number, length-word32 i.request.client, length-word32 (reply_code i.reply), length-op i.request.op is)

-- READ BACK

pub number_back : (n : ℕ) (rest : List ℕ) → n < 2 ^ 32 → number_at 0 (word32 n ++ rest) ≡ n
unfolding number_at word32
number_back n rest lt = little_number-reads_back 4 n rest lt

pub number_behind : (at : ℕ) (front rest : List ℕ) → length front ≡ at → number_at at (front ++ rest) ≡ number_at 0 rest
unfolding number_at
number_behind at front rest is = ap (little_number 4) (drop_at front rest at is)

-- the number of an operation stands first in its bytes
pub item_number : (i : Item) (rest : List ℕ) → i.request.number < 2 ^ 32 → number_at 0 (item_bytes i ++ rest) ≡ i.request.number
unfolding item_bytes
item_number i rest lt =
    let number = word32 i.request.number in
    let behind = word32 i.request.client ++ (word32 (reply_code i.reply) ++ op_bytes i.request.op) in
    ap (number_at 0) (append_assoc number behind rest) ∙ number_back i.request.number (behind ++ rest) lt

name_number : (op : Op) (rest : List ℕ) → is_create op ≡ true → length (name_of op) < 2 ^ 32 → number_at 0 (op_bytes op ++ rest) ≡ length (name_of op)
name_number (ops.Create parent name fid) rest is lt =
    ap (number_at 0) (append_assoc (word32 (length name)) (fid_bytes parent ++ (fid_bytes fid ++ name)) rest) ∙ number_back (length name) ((fid_bytes parent ++ (fid_bytes fid ++ name)) ++ rest) lt
name_number _ rest is lt = cc

-- the length of its name stands at byte 12
item_name : (i : Item) (rest : List ℕ) → is_create i.request.op ≡ true → length (name_of i.request.op) < 2 ^ 32 → number_at 12 (item_bytes i ++ rest) ≡ length (name_of i.request.op)
unfolding item_bytes
item_name i rest is lt =
    let number = word32 i.request.number in
    let client = word32 i.request.client in
    let code = word32 (reply_code i.reply) in
    let op = op_bytes i.request.op in
    let front = number ++ (client ++ code) in
    let wide : length front ≡ 12 = omega (arith, length-append number (client ++ code), length-append client code, length-word32 i.request.number, length-word32 i.request.client, length-word32 (reply_code i.reply)) in
    let apart : (number ++ (client ++ (code ++ op))) ++ rest ≡ front ++ (op ++ rest) =
    ap (λ (l : List ℕ). (number ++ l) ++ rest) (sym (append_assoc client code op))
    ∙ ap (λ (l : List ℕ). l ++ rest) (sym (append_assoc number (client ++ code) op))
    ∙ append_assoc front op rest in
    ap (number_at 12) apart ∙ number_behind 12 front (op ++ rest) wide ∙ name_number i.request.op rest is lt

pub item_whole : (i : Item) (rest : List ℕ) → is_create i.request.op ≡ true → length (name_of i.request.op) < 2 ^ 32 → item_len (item_bytes i ++ rest) ≡ Some (length (item_bytes i))
item_whole i rest is lt =
    item_len_is (item_bytes i ++ rest) (length (name_of i.request.op)) (item_name i rest is lt) (omega (arith, length-append (item_bytes i) rest, length-item i is))
    ∙ ap (λ (k : ℕ). Some k) (sym (length-item i is))

-- what is kept of an operation can be read back
pub record Fits (i : Item) : Type 0 where
  pub number : i.request.number < 2 ^ 32
  pub client : i.request.client < 256
  pub name : length (name_of i.request.op) < 256
  pub create : is_create i.request.op ≡ true

pub numbers_of : List Item → List ℕ
numbers_of items = map (λ (i : Item). i.request.number) items

items_again : (end : ℕ) (items : List Item) → AllByRecursion Fits items → numbers_from end (length items) (items_bytes items) ≡ Ok (map (λ (i : Item). i.request.number) items)
unfolding numbers_from
items_again end [] fits = refl
items_again end (i ∷ items) fits =
    let here : Fits i = fits.0 in
    let rest = items_bytes items in
    let name : length (name_of i.request.op) < 2 ^ 32 = omega (arith, here.name) in
    ap (λ (n : ℕ). after_item end n (option_map (λ (len : ℕ). numbers_from end (length items) (drop len (item_bytes i ++ rest))) (item_len (item_bytes i ++ rest)))) (item_number i rest here.number)
    ∙ ap (λ (o : Option ℕ). after_item end i.request.number (option_map (λ (len : ℕ). numbers_from end (length items) (drop len (item_bytes i ++ rest))) o)) (item_whole i rest here.create name)
    ∙ ap (λ (l : List ℕ). with_number i.request.number (numbers_from end (length items) l)) (drop_at (item_bytes i) rest (length (item_bytes i)) refl)
    ∙ ap (with_number i.request.number) (items_again end items fits.1)

-- what was accepted is read back from its image
pub numbers_again : (items : List Item) → AllByRecursion Fits items → length items < 2 ^ 32 → numbers_in (image_of items) ≡ Ok (map (λ (i : Item). i.request.number) items)
unfolding head_bytes
numbers_again items fits lt =
    let magic = word32 image_magic in
    let count = word32 (length items) in
    let rest = items_bytes items in
    let image = image_of items in
    let apart : image ≡ magic ++ (count ++ rest) = append_assoc magic count rest in
    let first : number_at 0 image ≡ image_magic = ap (number_at 0) apart ∙ number_back image_magic (count ++ rest) (omega arith) in
    let second : number_at 4 image ≡ length items = ap (number_at 4) apart ∙ number_behind 4 magic (count ++ rest) (length-word32 image_magic) ∙ number_back (length items) rest lt in
    let wide : 8 ≤ length image = omega (arith, length-append (head_bytes (length items)) rest, length-head (length items)) in
    in_items image wide first
    ∙ ap (λ (n : ℕ). numbers_from (length image) n (drop 8 image)) second
    ∙ ap (numbers_from (length image) (length items)) (drop_at (head_bytes (length items)) rest 8 (length-head (length items)))
    ∙ items_again (length image) items fits

-- KEPT

pub head_front : (count : ℕ) (bytes rest : List ℕ) → bytes ≡ head_bytes count ++ rest → drop 8 bytes ≡ rest
head_front count bytes rest is = ap (drop 8) is ∙ drop_at (head_bytes count) rest 8 (length-head count)

pub head_alone : (bytes : List ℕ) → bytes ≡ word32 image_magic ++ word32 0 → (bytes ≡ head_bytes 0 ++ drop 8 bytes) × (length (drop 8 bytes) ≤ 0)
unfolding head_bytes
head_alone bytes is =
    let whole : bytes ≡ head_bytes 0 ++ [] = is ∙ sym (append-nil (head_bytes 0)) in
    let none : drop 8 bytes ≡ [] = head_front 0 bytes [] whole in
    (whole ∙ ap (λ (l : List ℕ). head_bytes 0 ++ l) (sym none), omega (arith, ap (λ (l : List ℕ). length l) none))

-- an operation behind the others, and the count changed
pub counted : (count : ℕ) (old item longer new : List ℕ) → old ≡ head_bytes count ++ drop 8 old → longer ≡ old ++ item → new ≡ take 4 longer ++ (word32 (count + 1) ++ drop 8 longer) → new ≡ head_bytes (count + 1) ++ (drop 8 old ++ item)
unfolding head_bytes
counted count old item longer new is added changed =
    let magic = word32 image_magic in
    let rest = drop 8 old ++ item in
    let behind : longer ≡ head_bytes count ++ rest = added ∙ ap (λ (l : List ℕ). l ++ item) is ∙ append_assoc (head_bytes count) (drop 8 old) item in
    let apart : longer ≡ magic ++ (word32 count ++ rest) = behind ∙ append_assoc magic (word32 count) rest in
    changed
    ∙ ap (λ (l : List ℕ). l ++ (word32 (count + 1) ++ drop 8 longer)) (ap (take 4) apart ∙ take_at magic (word32 count ++ rest) 4 (length-word32 image_magic))
    ∙ ap (λ (l : List ℕ). magic ++ (word32 (count + 1) ++ l)) (head_front count longer rest behind)
    ∙ sym (append_assoc magic (word32 (count + 1)) rest)

pub head_kept : (count : ℕ) (old item new : List ℕ) → new ≡ head_bytes (count + 1) ++ (drop 8 old ++ item) → length (drop 8 old) ≤ 303 * count → length item ≤ 303 → (new ≡ head_bytes (count + 1) ++ drop 8 new) × (length (drop 8 new) ≤ 303 * (count + 1))
head_kept count old item new is short small =
    let rest : drop 8 new ≡ drop 8 old ++ item = head_front (count + 1) new (drop 8 old ++ item) is in
    (is ∙ ap (λ (l : List ℕ). head_bytes (count + 1) ++ l) (sym rest), omega (arith, ap (λ (l : List ℕ). length l) rest, length-append (drop 8 old) item))

pub length-first : length (image_of []) ≡ 8
length-first = omega (arith, length-append (head_bytes 0) [], length-head 0)
