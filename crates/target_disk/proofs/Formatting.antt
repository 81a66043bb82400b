-- An image in the blocks of a disk that is formatted.
use Rattle.std.proofs.Common.{◌≡◌, ◌<◌, ◌≤◌, ◌+◌, ◌-◌, ◌*◌, ℕ, zero, suc, List, [], ◌∷◌, false, Option, Some, length, get_or, take, drop, replicate, eqb, refl, sym, ◌∙◌, ap, subst, arith, length-append, length-take, length-drop}
use Rattle.std.specs.Prelude.{Result, Ok, Err, OnOk}
use Rattle.std.proofs.lemmas.List.{take_at}
use Rattle.outside.specs.Disk.{Shown, disk_len, part, put, settles, ChangesOnly}
use Rattle.outside.proofs.Parts.{get_or_below, part_put, put_changes}
use Rattle.chain_blocks.specs.Chains.{Linked, Holds, block_len, last_link, numbers}
use Rattle.chain_blocks.specs.Stored.{IsCount, KeepsOthers, Took, filled, stored}
use Rattle.chain_blocks.proofs.Trails.{length-numbers}
use Rattle.target_disk.specs.Tables.{Saved, Entry, data_at, entry_in, home_at, image_most, is_open, opened, table_bytes, table_len}
use Rattle.target_disk.specs.Calls.{Puts}
use Rattle.target_disk.specs.Consistent.{Fits, IsDraft, image_chain, trail_from}
use Rattle.target_disk.specs.Steps.{Fills, HoldsImage, IsBlank, TakesImage}
use Rattle.target_disk.specs.declared.book.Book.{Book}
use Rattle.target_disk.specs.declared.book.Draft.{Draft}
use Rattle.target_disk.proofs.Booked.{held_chain}
use Rattle.target_disk.proofs.Opening.{entry_from, gate_front, opened_from, stored_above}
use Rattle.target_disk.proofs.RoundTrip.{length-table}
use Rattle.target_disk.proofs.Turning.{entry_back}

pub blank_count : (blocks : Linked) (n : ℕ) → Holds blocks (numbers 0 n) [] → length blocks.links ≡ n
blank_count blocks n h = let size = h.size in omega (arith, length-numbers 0 n)

-- the first blocks of a list
pub front_of : (xs : List ℕ) (n : ℕ) → 1 ≤ n → n ≤ length xs → (rest : List ℕ) × (take n xs ≡ get_or xs 0 last_link ∷ rest)
front_of xs zero one le = absurd (omega arith)
front_of [] (suc n) one le = absurd (omega arith)
front_of (x ∷ xs) (suc n) one le = (take n xs, refl)

-- the chain that was written
pub chain_taken : (blocks : Linked) (free : List ℕ) (n head : ℕ) → 1 ≤ n → n ≤ length free → Took n free [] head blocks → (rest : List ℕ) × (take n free ≡ head ∷ rest) × Holds blocks (drop n free) ((head ∷ rest) ∷ [])
chain_taken blocks free n head one le took =
    let front = front_of free n one le in
    let is : take n free ≡ head ∷ front.0 = front.1 ∙ ap (λ (h : ℕ). h ∷ front.0) (sym took.first) in
    (front.0, is, subst (λ (c : List ℕ). Holds blocks (drop n free) (c ∷ [])) is took.holds)

abbrev pub with_head : Book → Linked → ℕ → Book
with_head old blocks head = record { blocks = blocks; head = head; generation = old.generation; table = old.table; block = old.block; draft = old.draft }

pub takes_image : (old : Book) (blocks : Linked) (head len n : ℕ) (b : IsBlank old) → 0 < len → IsCount n len → n ≤ length b.free → Took n b.free [] head blocks → TakesImage len old (with_head old blocks head)
takes_image old blocks head len n b some count le took =
    let most = count.most in
    let t = chain_taken blocks b.free n head (omega arith) le took in
    let was = b.holds.size in
    let size = took.holds.size in
    let all = b.count in
    let long : length (take n b.free) + length (drop n b.free) ≡ length b.free = length_cut n b.free in
    record {
      free = drop n b.free;
      behind = t.0;
      holds = t.2;
      ends = subst (λ (m : ℕ). IsCount m len) (taken_len n b.free le ∙ ap length t.1) count;
      count = omega (arith, length-append (take n b.free) []);
      table = refl;
      block = refl;
      generation = refl;
      draft = refl;
    }
  where
    length_cut : (n : ℕ) (xs : List ℕ) → length (take n xs) + length (drop n xs) ≡ length xs
    length_cut n xs = omega (arith, length-take n xs, length-drop n xs)

    taken_len : (n : ℕ) (xs : List ℕ) → n ≤ length xs → n ≡ length (take n xs)
    taken_len n xs le = omega (arith, length-take n xs)

-- no more blocks are needed than there are
pub never_short : (old : Book) (b : IsBlank old) (len needed : ℕ) → len ≤ image_most → IsCount needed len → length b.free < needed → ⊥
never_short old b len needed most count lt =
    let size = b.holds.size in
    let all = b.count in
    let least = count.least in
    omega arith

pub put_shut : (content : List ℕ) → is_open (put content 0 (0 ∷ [])) ≡ false
unfolding is_open
put_shut content = refl

pub holds_image : (old : Book) (blocks : Linked) (head n : ℕ) (bytes content shut new : List ℕ) (b : IsBlank old) → 0 < length bytes → IsCount n (length bytes) → n ≤ length b.free → Took n b.free [] head blocks
    → shut ≡ put content 0 (0 ∷ []) → KeepsOthers data_at (take n b.free) shut new → stored new data_at (take n b.free) ≡ filled n bytes → HoldsImage bytes (with_head old blocks head) new
holds_image old blocks head n bytes content shut new b some count le took is keeps written =
    let most = count.most in
    let t = chain_taken blocks b.free n head (omega arith) le took in
    let chain : image_chain (with_head old blocks head) ≡ take n b.free = held_chain blocks (drop n b.free) [] head t.0 [] t.2 ∙ sym t.1 in
    record {
      shut = gate_front shut new keeps.before ∙ ap is_open is ∙ put_shut content;
      written = ap (λ (c : List ℕ). take (length bytes) (stored new data_at c)) chain ∙ ap (take (length bytes)) written ∙ take_at bytes (replicate (block_len * n - length bytes) 0) (length bytes) refl;
    }

-- the home table is put
pub gate_below : (at n : ℕ) (xs ys : List ℕ) → ChangesOnly at n xs ys → 0 < at → is_open ys ≡ is_open xs
unfolding is_open
gate_below at n xs ys changes lt = ap (λ (v : ℕ). eqb v 1) (get_or_below at n xs ys 0 0 changes lt)

pub fits_taken : (len : ℕ) (old mid new : Book) → IsBlank old → len ≤ image_most → (t : TakesImage len old mid) → new.table.items ≡ table_bytes (record { generation = mid.generation; len = len; head = mid.head; free = mid.blocks.free; links = mid.blocks.links })
    → new.blocks ≡ mid.blocks → new.head ≡ mid.head → new.generation ≡ mid.generation → new.block.items ≡ mid.block.items → new.draft ≡ mid.draft → Fits 4095 new
fits_taken len old mid new b most t table blocks head generation block draft =
    let least = t.ends.least in
    let one = b.generation in
    let was = t.generation in
    record {
      free = t.free;
      behind = t.behind;
      taken = [];
      holds = subst (λ (h : ℕ). Holds new.blocks t.free ((h ∷ t.behind) ∷ [])) (sym head) (subst (λ (l : Linked). Holds l t.free ((mid.head ∷ t.behind) ∷ [])) (sym blocks) t.holds);
      draft = subst (λ (o : Option Draft). IsDraft 4095 o []) (sym (draft ∙ t.draft ∙ b.draft)) refl;
      count = ap (λ (l : Linked). length l.links) blocks ∙ t.count;
      short = omega arith;
      table = ap length table ∙ length-table (record { generation = mid.generation; len = len; head = mid.head; free = mid.blocks.free; links = mid.blocks.links }) t.count;
      block = ap length (block ∙ t.block) ∙ b.block;
      positive = omega arith;
    }

pub fills : (bytes : List ℕ) (old mid new : Book) (content : List ℕ) (disk : Shown) → IsBlank old → length bytes ≤ image_most → (t : TakesImage (length bytes) old mid) → HoldsImage bytes mid content → length content ≡ disk_len
    → new.table.items ≡ table_bytes (record { generation = mid.generation; len = length bytes; head = mid.head; free = mid.blocks.free; links = mid.blocks.links })
    → new.blocks ≡ mid.blocks → new.head ≡ mid.head → new.generation ≡ mid.generation → disk.content ≡ put content home_at new.table.items → disk.settled ≡ settles disk.content → Fills bytes new disk
fills bytes old mid new content disk b most t h size table blocks head generation put_so settled =
    let written = new.table.items in
    let long : length written ≡ table_len = ap length table ∙ length-table (record { generation = mid.generation; len = length bytes; head = mid.head; free = mid.blocks.free; links = mid.blocks.links }) t.count in
    let one : mid.generation ≡ 1 = t.generation ∙ b.generation in
    let changes = put_changes content home_at written (omega arith) in
    let now = put content home_at written in
    let shut : is_open now ≡ false = gate_below home_at (length written) content now changes (omega arith) ∙ h.shut in
    let chain : image_chain mid ≡ mid.head ∷ t.behind = held_chain mid.blocks t.free [] mid.head t.behind [] t.holds in
    let found : Entry = record { generation = mid.generation; len = length bytes; chain = mid.head ∷ t.behind } in
    let home : entry_in (part home_at table_len now) ≡ Some found =
    ap (λ (n : ℕ). entry_in (part home_at n now)) (sym long) ∙ ap entry_in (part_put content home_at written (omega arith) ∙ table)
    ∙ entry_back mid.blocks t.free mid.generation (length bytes) mid.head t.behind t.holds t.count (omega arith) (omega arith) (omega arith) most t.ends in
    let image : take (length bytes) (stored now data_at (mid.head ∷ t.behind)) ≡ bytes =
    ap (take (length bytes)) (stored_above home_at (length written) content now data_at (mid.head ∷ t.behind) changes (omega arith) ∙ ap (stored content data_at) (sym chain)) ∙ h.written in
    let opens : opened now ≡ Some (record { generation = 1; bytes = bytes }) =
    opened_from now found (entry_from false now found shut home)
    ∙ ap (λ (l : List ℕ). let s : Saved = record { generation = mid.generation; bytes = l } in Some s) image
    ∙ ap (λ (n : ℕ). let s : Saved = record { generation = n; bytes = bytes } in Some s) one in
    record {
      settled = settled;
      knows = record {
        shut = ap is_open put_so ∙ shut;
        found = found;
        home = ap (λ (l : List ℕ). entry_in (part home_at table_len l)) put_so ∙ home;
        generation = sym generation;
        chain = sym chain ∙ sym (ap (λ (l : Linked). trail_from (length l.links) l.links new.head) blocks ∙ ap (λ (h : ℕ). trail_from (length mid.blocks.links) mid.blocks.links h) head);
      };
      opens = ap opened put_so ∙ opens;
    }

pub on_ok : {T E P : Type 0} (r : Result T E) → P → OnOk r P
on_ok (Ok x) p = p
on_ok (Err e) p = tt

pub fills_put : {T E : Type 0} (r : Result T E) (bytes : List ℕ) (old mid new : Book) (before after : Shown) → IsBlank old → length bytes ≤ image_most → (t : TakesImage (length bytes) old mid) → HoldsImage bytes mid before.content → length before.content ≡ disk_len
    → new.table.items ≡ table_bytes (record { generation = mid.generation; len = length bytes; head = mid.head; free = mid.blocks.free; links = mid.blocks.links })
    → new.blocks ≡ mid.blocks → new.head ≡ mid.head → new.generation ≡ mid.generation → Puts home_at new.table.items r before after → OnOk r (Fills bytes new after)
fills_put (Ok x) bytes old mid new before after b most t h size table blocks head generation puts = fills bytes old mid new before.content after b most t h size table blocks head generation puts.content puts.settled
fills_put (Err e) bytes old mid new before after b most t h size table blocks head generation puts = tt

pub table_long : (len : ℕ) (old mid : Book) (items : List ℕ) → TakesImage len old mid → items ≡ table_bytes (record { generation = mid.generation; len = len; head = mid.head; free = mid.blocks.free; links = mid.blocks.links }) → length items ≡ table_len
table_long len old mid items t is = ap length is ∙ length-table (record { generation = mid.generation; len = len; head = mid.head; free = mid.blocks.free; links = mid.blocks.links }) t.count
