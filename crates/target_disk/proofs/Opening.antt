-- What a disk's bytes open as, after a change of a part of them.
use Rattle.std.proofs.Common.{◌≡◌, ◌⊎◌, ⊎_elim, ◌≤◌, ◌+◌, ℕ, List, [], ◌∷◌, ◌++◌, Bool, true, false, Option, Some, None, get_or, take, drop, eqb, refl, sym, ◌∙◌, ap, subst, arith, lit≤, lit<}
use Rattle.std.proofs.lemmas.List.{take-take, drop-take, take-map, drop-map, map-append, get_or-take}
use Rattle.outside.specs.Disk.{Shown, part, ChangesOnly, IsImage, settles}
use Rattle.outside.proofs.Parts.{part_below, part_above, image_only}
use Rattle.chain_blocks.specs.Chains.{block_len}
use Rattle.chain_blocks.specs.Stored.{place, stored}
use Rattle.chain_blocks.proofs.Spans.{image_part, reads_back}
use Rattle.target_disk.specs.Tables.{Saved, Entry, entry, entry_in, image_at, is_open, opened, saved_at, data_at, table_at, table_len}
use Rattle.target_disk.specs.Store.{IsSettled, OpensAs, Stands}

abbrev pub saved_of : List ℕ → Entry → Saved
saved_of image found = record { generation = found.generation; bytes = image_at image found }

-- the table that the gate names
pub entry_from : (second : Bool) (image : List ℕ) (found : Entry) → is_open image ≡ second → entry_in (part (table_at second) table_len image) ≡ Some found → entry image ≡ Some found
unfolding entry
entry_from second image found gate is = ap (λ (b : Bool). entry_in (part (table_at b) table_len image)) gate ∙ is

pub opened_from : (image : List ℕ) (found : Entry) → entry image ≡ Some found → opened image ≡ Some (saved_of image found)
unfolding opened
opened_from image found is = ap (saved_at image) is

pub opened_none : (image : List ℕ) → entry image ≡ None → opened image ≡ None
unfolding opened
opened_none image is = ap (saved_at image) is

-- what opens stands for a table that is readable
pub opened_entry : (image : List ℕ) (saved : Saved) → opened image ≡ Some saved → (found : Entry) × (entry image ≡ Some found) × (saved_of image found ≡ saved)
opened_entry image saved is = by_entry (entry image) refl
  where
    none_not : (s : Saved) → ◌≡◌ {A = Option Saved} None (Some s) → ⊥
    none_not s e = cc

    some_same : (s t : Saved) → Some s ≡ Some t → s ≡ t
    some_same s t e = cc

    by_entry : (o : Option Entry) → entry image ≡ o → (found : Entry) × (entry image ≡ Some found) × (saved_of image found ≡ saved)
    by_entry None e = absurd (none_not saved (sym (opened_none image e) ∙ is))
    by_entry (Some found) e = (found, e, some_same (saved_of image found) saved (sym (opened_from image found e) ∙ is))

-- the bytes of chains, where what lies before the blocks changed
pub stored_above : {A : Type 0} (a n : ℕ) (xs ys : List A) (at : ℕ) (chain : List ℕ) → ChangesOnly a n xs ys → a + n ≤ at → stored ys at chain ≡ stored xs at chain
stored_above a n xs ys at [] changes le = refl
stored_above {A} a n xs ys at (b ∷ bs) changes le = ap (λ (l : List A). l ++ stored ys at bs) (part_above a n xs ys (place at b) block_len changes (omega arith)) ∙ ap (λ (l : List A). part (place at b) block_len xs ++ l) (stored_above a n xs ys at bs changes le)

pub stored-settles : (xs : List ℕ) (at : ℕ) (chain : List ℕ) → stored (settles xs) at chain ≡ settles (stored xs at chain)
stored-settles xs at [] = refl
stored-settles xs at (b ∷ bs) =
    let f = λ (v : ℕ). Some v in
    ap (λ (l : List (Option ℕ)). l ++ stored (settles xs) at bs) (ap (take block_len) (drop-map f (place at b) xs) ∙ take-map f block_len (drop (place at b) xs))
    ∙ ap (λ (l : List (Option ℕ)). settles (part (place at b) block_len xs) ++ l) (stored-settles xs at bs)
    ∙ sym (map-append f (part (place at b) block_len xs) (stored xs at bs))

-- the gate and a table, where what lies before the blocks is the same
part_front : {A : Type 0} (a m n : ℕ) (xs : List A) → a + m ≤ n → part a m xs ≡ drop a (take (a + m) (take n xs))
part_front {A} a m n xs le = sym (drop-take a m xs) ∙ ap (λ (l : List A). drop a l) (sym (take-take (a + m) n xs le))

pub table_front : (second : Bool) (xs ys : List ℕ) → take data_at ys ≡ take data_at xs → part (table_at second) table_len ys ≡ part (table_at second) table_len xs
table_front second xs ys same = part_front (table_at second) table_len data_at ys (fits second) ∙ ap (λ (l : List ℕ). drop (table_at second) (take (table_at second + table_len) l)) same ∙ sym (part_front (table_at second) table_len data_at xs (fits second))
  where
    fits : (second : Bool) → table_at second + table_len ≤ data_at
    fits true = lit≤ tt
    fits false = lit≤ tt

pub gate_front : (xs ys : List ℕ) → take data_at ys ≡ take data_at xs → is_open ys ≡ is_open xs
unfolding is_open
gate_front xs ys same = ap (λ (v : ℕ). eqb v 1) (sym (get_or-take data_at ys 0 0 (lit< tt)) ∙ ap (λ (l : List ℕ). get_or l 0 0) same ∙ get_or-take data_at xs 0 0 (lit< tt))

pub entry_front : (xs ys : List ℕ) → take data_at ys ≡ take data_at xs → entry ys ≡ entry xs
unfolding entry
entry_front xs ys same = ap entry_in (table_front (is_open ys) xs ys same) ∙ ap (λ (b : Bool). entry_in (part (table_at b) table_len xs)) (gate_front xs ys same)

-- blocks changed, in which the image doesn't stand
pub opens_apart : (xs ys : List ℕ) (found : Entry) → take data_at ys ≡ take data_at xs → entry xs ≡ Some found → stored ys data_at found.chain ≡ stored xs data_at found.chain → opened ys ≡ Some (saved_of xs found)
opens_apart xs ys found same is kept = opened_from ys found (entry_front xs ys same ∙ is) ∙ ap (λ (l : List ℕ). let s : Saved = record { generation = found.generation; bytes = take found.len l } in Some s) kept

-- a range changed that lies apart from a table and before the blocks: where the gate names this table, it is what opens
pub opens_by : (second : Bool) (a n : ℕ) (xs ys : List ℕ) (found : Entry) → ChangesOnly a n xs ys → (a + n ≤ table_at second) ⊎ (table_at second + table_len ≤ a) → a + n ≤ data_at → is_open ys ≡ second → entry_in (part (table_at second) table_len xs) ≡ Some found → opened ys ≡ Some (saved_of xs found)
opens_by second a n xs ys found changes apart le gate is =
    let table : part (table_at second) table_len ys ≡ part (table_at second) table_len xs = ⊎_elim (λ below. part_above a n xs ys (table_at second) table_len changes below) (λ above. part_below a n xs ys (table_at second) table_len changes above) apart in
    opened_from ys found (entry_from second ys found gate (ap entry_in table ∙ is)) ∙ ap (λ (l : List ℕ). let s : Saved = record { generation = found.generation; bytes = take found.len l } in Some s) (stored_above a n xs ys data_at found.chain changes le)

-- each image of a disk that stands opens as its content
pub stands_opens : (disk : Shown) (saved : Saved) → Stands disk saved → OpensAs disk saved
stands_opens disk saved s = λ image here.
    let front : take data_at image ≡ take data_at disk.content = image_part disk.settled image (take data_at disk.content) 0 data_at s.tables here in
    let blocks : stored image data_at s.found.chain ≡ stored disk.content data_at s.found.chain = reads_back disk.settled image (stored disk.content data_at s.found.chain) data_at s.found.chain s.blocks here in
    opens_apart disk.content image s.found front s.named blocks ∙ sym (opened_from disk.content s.found s.named) ∙ s.opens

pub settled_stands : (disk : Shown) (saved : Saved) → IsSettled disk saved → Stands disk saved
settled_stands disk saved s =
    let f = λ (v : ℕ). Some v in
    let e = opened_entry disk.content saved s.opens in
    record {
      honest = s.honest;
      works = s.works;
      found = e.0;
      named = e.1;
      tables = ap (take data_at) s.clean ∙ take-map f data_at disk.content;
      blocks = ap (λ (l : List (Option ℕ)). stored l data_at e.0.chain) s.clean ∙ stored-settles disk.content data_at e.0.chain;
      opens = s.opens;
    }

pub settled_opens : (disk : Shown) (saved : Saved) → IsSettled disk saved → OpensAs disk saved
settled_opens disk saved s = λ image here. ap opened (image_only disk.content image (subst (λ l. IsImage l image) s.clean here)) ∙ s.opens
