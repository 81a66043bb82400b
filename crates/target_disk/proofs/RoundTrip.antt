-- The bytes of a table: what is put is read.
use Rattle.std.proofs.Common.{◌≡◌, ◌≢◌, ◌⊎◌, inl, inr, Bool, false, ◌≤◌, ◌<◌, ◌+◌, ◌*◌, ◌^◌, ℕ, zero, suc, ◌&&◌, cond, eqb, List, [], ◌∷◌, ◌++◌, Option, Some, None, true, length, get_or, take, drop, refl, sym, ◌∙◌, ap, arith, append_assoc, append-nil, length-append, length-take, length-drop}
use Rattle.std.specs.Int.{w32, w64, to_le_bytes, from_le_bytes}
use Rattle.std.proofs.lemmas.List.{take_at, drop_at, drop-drop, drop_all, take_more, take_all}
use Rattle.std.proofs.lemmas.Bool.{ne_eqb}
use Rattle.std.proofs.lemmas.Nat.{from_le_bytes-to_le_bytes_4, from_le_bytes-to_le_bytes_8}
use Rattle.outside.specs.Disk.{part, put}
use Rattle.target_disk.specs.Tables.{Table, magic, block_count, table_len, front_bytes, table_bytes, table_in, word_bytes, words}

put_first : (xs bytes : List ℕ) → put xs 0 bytes ≡ bytes ++ drop (length bytes) xs
put_first xs bytes = let none : 0 + length bytes ≡ length bytes = omega arith in ap (λ (k : ℕ). bytes ++ drop k xs) none

-- what was put behind what was put
pub put_behind : (xs front back : List ℕ) (n : ℕ) → length front ≡ n → put (put xs 0 front) n back ≡ put xs 0 (front ++ back)
put_behind xs front back n is =
    let rest = drop (length front) xs in
    let one : take n (front ++ rest) ≡ front = take_at front rest n is in
    let two : drop (n + length back) (front ++ rest) ≡ drop (length (front ++ back)) xs =
    sym (drop-drop (length back) n (front ++ rest)) ∙ ap (drop (length back)) (drop_at front rest n is) ∙ drop-drop (length back) (length front) xs ∙ ap (λ (k : ℕ). drop k xs) (sym (length-append front back)) in
    ap (λ (l : List ℕ). put l n back) (put_first xs front)
    ∙ ap (λ (l : List ℕ). l ++ back ++ drop (n + length back) (front ++ rest)) one
    ∙ ap (λ (l : List ℕ). front ++ back ++ l) two
    ∙ sym (put_first xs (front ++ back))

pub length_kept : (at : ℕ) (xs ys bytes : List ℕ) → ys ≡ put xs at bytes → at + length bytes ≤ length xs → length ys ≡ length xs
length_kept at xs ys bytes is fits =
    let rest = drop (at + length bytes) xs in
    ap length is ∙ omega (arith, length-append (take at xs ++ bytes) rest, length-append (take at xs) bytes, length-take at xs, length-drop (at + length bytes) xs, fits)

pub put_all : (xs bytes : List ℕ) → length bytes ≡ length xs → put xs 0 bytes ≡ bytes
put_all xs bytes same = put_first xs bytes ∙ ap (λ (l : List ℕ). bytes ++ l) (drop_all (length bytes) xs (omega (arith, same))) ∙ append-nil bytes

-- the bytes before the links, put one behind the other
pub front_put : (x0 x1 x2 x3 x4 x5 x6 : List ℕ) (t : Table) → x1 ≡ put x0 0 (to_le_bytes w32 magic) → x2 ≡ put x1 4 (to_le_bytes w32 block_count) → x3 ≡ put x2 8 (to_le_bytes w64 t.generation)
    → x4 ≡ put x3 16 (to_le_bytes w64 t.len) → x5 ≡ put x4 24 (to_le_bytes w32 t.head) → x6 ≡ put x5 28 (to_le_bytes w32 t.free) → x6 ≡ put x0 0 (front_bytes t)
unfolding front_bytes
front_put x0 x1 x2 x3 x4 x5 x6 t e1 e2 e3 e4 e5 e6 =
    let a = to_le_bytes w32 magic in
    let b = to_le_bytes w32 block_count in
    let c = to_le_bytes w64 t.generation in
    let d = to_le_bytes w64 t.len in
    let e = to_le_bytes w32 t.head in
    let f = to_le_bytes w32 t.free in
    let f2 : x2 ≡ put x0 0 (a ++ b) = e2 ∙ ap (λ (l : List ℕ). put l 4 b) e1 ∙ put_behind x0 a b 4 refl in
    let f3 : x3 ≡ put x0 0 ((a ++ b) ++ c) = e3 ∙ ap (λ (l : List ℕ). put l 8 c) f2 ∙ put_behind x0 (a ++ b) c 8 refl in
    let f4 : x4 ≡ put x0 0 (((a ++ b) ++ c) ++ d) = e4 ∙ ap (λ (l : List ℕ). put l 16 d) f3 ∙ put_behind x0 ((a ++ b) ++ c) d 16 refl in
    let f5 : x5 ≡ put x0 0 ((((a ++ b) ++ c) ++ d) ++ e) = e5 ∙ ap (λ (l : List ℕ). put l 24 e) f4 ∙ put_behind x0 (((a ++ b) ++ c) ++ d) e 24 refl in
    e6 ∙ ap (λ (l : List ℕ). put l 28 f) f5 ∙ put_behind x0 ((((a ++ b) ++ c) ++ d) ++ e) f 28 refl

pub length-front_bytes : (t : Table) → length (front_bytes t) ≡ 32
unfolding front_bytes
length-front_bytes t = refl

-- one link more
pub word_bytes_push : (xs : List ℕ) (x : ℕ) → word_bytes (xs ++ x ∷ []) ≡ word_bytes xs ++ to_le_bytes w32 x
word_bytes_push [] x = refl
word_bytes_push (y ∷ xs) x = ap (λ (l : List ℕ). to_le_bytes w32 y ++ l) (word_bytes_push xs x)

pub length-word_bytes : (xs : List ℕ) → length (word_bytes xs) ≡ 4 * length xs
length-word_bytes [] = refl
length-word_bytes (x ∷ xs) = let e : length (word_bytes xs) ≡ 4 * length xs = length-word_bytes xs in omega arith

pub words_push : (n : ℕ) (bytes : List ℕ) → words (suc n) bytes ≡ words n bytes ++ from_le_bytes w32 (part (4 * n) 4 bytes) ∷ []
words_push zero bytes = refl
words_push (suc n) bytes =
    let place : 4 + 4 * n ≡ 4 * suc n = omega arith in
    ap (λ (l : List ℕ). from_le_bytes w32 (take 4 bytes) ∷ l) (words_push n (drop 4 bytes))
    ∙ ap (λ (l : List ℕ). from_le_bytes w32 (take 4 bytes) ∷ (words n (drop 4 bytes) ++ from_le_bytes w32 (take 4 l) ∷ [])) (drop-drop (4 * n) 4 bytes ∙ ap (λ (k : ℕ). drop k bytes) place)

pub words_back : (xs : List ℕ) → ((k : ℕ) → k < length xs → get_or xs k 4294967295 < 2 ^ 32) → words (length xs) (word_bytes xs) ≡ xs
words_back [] small = refl
words_back (x ∷ xs) small =
    ap (λ (v : ℕ). v ∷ words (length xs) (word_bytes xs)) (from_le_bytes-to_le_bytes_4 x (small 0 (omega arith)))
    ∙ ap (λ (l : List ℕ). x ∷ l) (words_back xs (λ k lt. small (suc k) (omega arith)))

-- one step of putting the links, behind the bytes before them
pub links_more : (t : Table) (xs table new : List ℕ) (k link : ℕ) → table ≡ put xs 0 (front_bytes t ++ word_bytes (take k t.links)) → k < length t.links → link ≡ get_or t.links k 0
    → new ≡ put table (32 + 4 * k) (to_le_bytes w32 link) → new ≡ put xs 0 (front_bytes t ++ word_bytes (take (k + 1) t.links))
links_more t xs table new k link before lt here is =
    let done = word_bytes (take k t.links) in
    let front = front_bytes t in
    let len : length (front ++ done) ≡ 32 + 4 * k = omega (arith, length-append front done, length-front_bytes t, length-word_bytes (take k t.links), length-take k t.links) in
    let more : done ++ to_le_bytes w32 link ≡ word_bytes (take (k + 1) t.links) =
    ap (λ (v : ℕ). done ++ to_le_bytes w32 v) here ∙ sym (word_bytes_push (take k t.links) (get_or t.links k 0)) ∙ ap word_bytes (sym (take_more t.links k 0 lt)) in
    is
    ∙ ap (λ (l : List ℕ). put l (32 + 4 * k) (to_le_bytes w32 link)) before
    ∙ put_behind xs (front ++ done) (to_le_bytes w32 link) (32 + 4 * k) len
    ∙ ap (λ (l : List ℕ). put xs 0 l) (append_assoc front done (to_le_bytes w32 link) ∙ ap (λ (l : List ℕ). front ++ l) more)

pub links_size : (t : Table) (xs table : List ℕ) (k : ℕ) → table ≡ put xs 0 (front_bytes t ++ word_bytes (take k t.links)) → k ≤ length t.links → length t.links ≡ block_count → length xs ≡ table_len → length table ≡ table_len
links_size t xs table k is le all size =
    let done = word_bytes (take k t.links) in
    let front = front_bytes t in
    length_kept 0 xs table (front ++ done) is (omega (arith, length-append front done, length-front_bytes t, length-word_bytes (take k t.links), length-take k t.links)) ∙ size

pub links_all : (t : Table) (xs table : List ℕ) (k : ℕ) → table ≡ put xs 0 (front_bytes t ++ word_bytes (take k t.links)) → block_count ≤ k → length t.links ≡ block_count → length xs ≡ table_len → table ≡ table_bytes t
unfolding table_bytes
links_all t xs table k is le all size =
    let whole : take k t.links ≡ t.links = take_all k t.links (omega arith) in
    is ∙ ap (λ (l : List ℕ). put xs 0 (front_bytes t ++ word_bytes l)) whole ∙ put_all xs (front_bytes t ++ word_bytes t.links) (omega (arith, length-append (front_bytes t) (word_bytes t.links), length-front_bytes t, length-word_bytes t.links))

-- one step of reading the links
pub words_more : (links new table : List ℕ) (k link : ℕ) → links ≡ words k (drop 32 table) → link ≡ from_le_bytes w32 (part (32 + 4 * k) 4 table) → new ≡ links ++ link ∷ [] → new ≡ words (k + 1) (drop 32 table)
words_more links new table k link before here is =
    let next : k + 1 ≡ suc k = omega arith in
    is
    ∙ ap (λ (l : List ℕ). l ++ link ∷ []) before
    ∙ ap (λ (v : ℕ). words k (drop 32 table) ++ v ∷ []) (here ∙ ap (λ (l : List ℕ). from_le_bytes w32 (take 4 l)) (sym (drop-drop (4 * k) 32 table)))
    ∙ sym (words_push k (drop 32 table))
    ∙ ap (λ (n : ℕ). words n (drop 32 table)) (sym next)

-- a table by what stands in its bytes
made : (a b g l h f : ℕ) (ls : List ℕ) (t : Table) → a ≡ magic → b ≡ block_count → g ≡ t.generation → l ≡ t.len → h ≡ t.head → f ≡ t.free → ls ≡ t.links
    → cond (eqb a magic && eqb b block_count) (Some (record { generation = g; len = l; head = h; free = f; links = ls })) None ≡ Some t
made a b g l h f ls t ea eb eg el eh ef els = rw ea (rw eb (rw eg (rw el (rw eh (rw ef (rw els refl))))))

pub table_from : (bytes : List ℕ) (t : Table) → from_le_bytes w32 (take 4 bytes) ≡ magic → from_le_bytes w32 (part 4 4 bytes) ≡ block_count → from_le_bytes w64 (part 8 8 bytes) ≡ t.generation
    → from_le_bytes w64 (part 16 8 bytes) ≡ t.len → from_le_bytes w32 (part 24 4 bytes) ≡ t.head → from_le_bytes w32 (part 28 4 bytes) ≡ t.free → words block_count (drop 32 bytes) ≡ t.links → table_in bytes ≡ Some t
unfolding table_in
table_from bytes t m n g l h f ls =
    made (from_le_bytes w32 (take 4 bytes)) (from_le_bytes w32 (part 4 4 bytes)) (from_le_bytes w64 (part 8 8 bytes)) (from_le_bytes w64 (part 16 8 bytes)) (from_le_bytes w32 (part 24 4 bytes)) (from_le_bytes w32 (part 28 4 bytes)) (words block_count (drop 32 bytes)) t m n g l h f ls

-- the bytes of a table, each number of which has room, are read as that table
pub table_back : (t : Table) → t.generation < 2 ^ 64 → t.len < 2 ^ 64 → t.head < 2 ^ 32 → t.free < 2 ^ 32 → length t.links ≡ block_count → ((k : ℕ) → k < block_count → get_or t.links k 4294967295 < 2 ^ 32) → table_in (table_bytes t) ≡ Some t
unfolding table_bytes front_bytes
table_back t g l h f all small =
    table_from (table_bytes t) t
    (from_le_bytes-to_le_bytes_4 magic (omega arith))
    (from_le_bytes-to_le_bytes_4 block_count (omega arith))
    (from_le_bytes-to_le_bytes_8 t.generation g)
    (from_le_bytes-to_le_bytes_8 t.len l)
    (from_le_bytes-to_le_bytes_4 t.head h)
    (from_le_bytes-to_le_bytes_4 t.free f)
    (ap (λ (n : ℕ). words n (word_bytes t.links)) (sym all) ∙ words_back t.links (λ k lt. small k (omega (arith, all))))

not_made : (a b : ℕ) (found : Option Table) → (a ≢ magic) ⊎ (b ≢ block_count) → cond (eqb a magic && eqb b block_count) found None ≡ None
not_made a b found (inl ne) = rw (ne_eqb a magic ne) refl
not_made a b found (inr ne) = rw (ne_eqb b block_count ne) (by_first (eqb a magic))
  where
    by_first : (first : Bool) → cond (first && false) found None ≡ None
    by_first true = refl
    by_first false = refl

-- bytes without the marks
pub table_none : (bytes : List ℕ) → (from_le_bytes w32 (take 4 bytes) ≢ magic) ⊎ (from_le_bytes w32 (part 4 4 bytes) ≢ block_count) → None ≡ table_in bytes
unfolding table_in
table_none bytes ne = sym (not_made (from_le_bytes w32 (take 4 bytes)) (from_le_bytes w32 (part 4 4 bytes)) (Some (record { generation = from_le_bytes w64 (part 8 8 bytes); len = from_le_bytes w64 (part 16 8 bytes); head = from_le_bytes w32 (part 24 4 bytes); free = from_le_bytes w32 (part 28 4 bytes); links = words block_count (drop 32 bytes) })) ne)

pub length-table : (t : Table) → length t.links ≡ block_count → length (table_bytes t) ≡ table_len
unfolding table_bytes
length-table t all = omega (arith, length-append (front_bytes t) (word_bytes t.links), length-front_bytes t, length-word_bytes t.links, all)
