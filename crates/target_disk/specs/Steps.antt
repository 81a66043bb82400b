-- The steps of a commit, by what a store keeps in memory and what the disk shows after each.
use Rattle.std.specs.Prelude.{◌≡◌, ◌+◌, ◌*◌, ◌<◌, ◌≤◌, ℕ, List, [], ◌∷◌, ◌++◌, false, Some, None, length, take, Result, OnOk, OnErr}
use Rattle.outside.specs.Disk.{Shown, settles}
use Rattle.chain_blocks.specs.Chains.{Linked, Holds, block_len, joined, times}
use Rattle.chain_blocks.specs.Stored.{IsCount, KeepsOthers, stored}
use Rattle.target_disk.specs.Tables.{Saved, Entry, data_at, entry_in, image_most, is_open, block_count, table_len, opened}
use Rattle.target_disk.specs.Consistent.{Fits, IsTaken, Knows, begun_of, draft_chain, image_chain}
use Rattle.target_disk.specs.Draft.{put_len}
use Rattle.target_disk.specs.Store.{HasPut, OpensAsEither, Stands, following, next}
use Rattle.target_disk.specs.declared.book.Book.{Book}
use Rattle.target_disk.specs.declared.book.Ends.{Ends}
use Rattle.target_disk.specs.declared.book.Verdict.{Verdict}
use Rattle.target_disk.specs.declared.book.Verdict.TheVariants.{Readable, Unreadable}

-- a book of a table's bytes
pub record IsBook (bytes : List ℕ) (book : Book) (len : ℕ) : Type 0 where
  pub fits : Fits 4095 book
  pub found : Entry
  pub named : entry_in bytes ≡ Some found
  pub generation : found.generation ≡ book.generation
  pub length : found.len ≡ len
  pub most : len ≤ image_most
  pub chain : found.chain ≡ image_chain book
  pub table : book.table.items ≡ bytes
  pub draft : book.draft ≡ None

abbrev pub IsVerdict : List ℕ → Verdict → Type 0
IsVerdict bytes (Readable book len) = IsBook bytes book len
IsVerdict bytes Unreadable = entry_in bytes ≡ None

-- a book of no image yet
pub record IsBlank (book : Book) : Type 0 where
  pub free : List ℕ
  pub holds : Holds book.blocks free []
  pub count : length book.blocks.links ≡ block_count
  pub table : length book.table.items ≡ table_len
  pub block : length book.block.items ≡ block_len
  pub generation : book.generation ≡ 1
  pub draft : book.draft ≡ None

-- a chain is taken for an image of so many bytes
pub record TakesImage (len : ℕ) (old new : Book) : Type 0 where
  pub free : List ℕ
  pub behind : List ℕ
  pub holds : Holds new.blocks free ((new.head ∷ behind) ∷ [])
  pub ends : IsCount (length (new.head ∷ behind)) len
  pub count : length new.blocks.links ≡ block_count
  pub table : new.table.items ≡ old.table.items
  pub block : new.block.items ≡ old.block.items
  pub generation : new.generation ≡ old.generation
  pub draft : new.draft ≡ old.draft

-- the gate is shut, and the image stands in its chain
pub record HoldsImage (bytes : List ℕ) (book : Book) (content : List ℕ) : Type 0 where
  pub shut : is_open content ≡ false
  pub written : take (length bytes) (stored content data_at (image_chain book)) ≡ bytes

-- the disk opens as the image, and nothing is dirty
pub record Fills (bytes : List ℕ) (book : Book) (disk : Shown) : Type 0 where
  pub settled : disk.settled ≡ settles disk.content
  pub knows : Knows book disk.content
  pub opens : opened disk.content ≡ Some (record { generation = 1; bytes = bytes })

-- the image stays where it is
pub record KeepsImage (old new : Book) : Type 0 where
  pub chain : image_chain new ≡ image_chain old
  pub head : new.head ≡ old.head
  pub generation : new.generation ≡ old.generation

-- a block stands behind those that were taken
pub record Lengthens (block : ℕ) (free : List ℕ) (taken rest : List (List ℕ)) (full : ℕ) (ends : Ends) (new : Linked) : Type 0 where
  pub tail : ends.tail ≡ block
  pub chain : IsTaken (Some ends) ((joined taken ++ block ∷ []) ∷ []) (full + 1)
  pub holds : Holds new free ((joined taken ++ block ∷ []) ∷ rest)

-- one more block is taken for the commit that was begun
pub record Extends (old new : Book) (block : ℕ) : Type 0 where
  pub fits : Fits 4095 new
  pub keeps : KeepsImage old new
  pub chain : draft_chain new ≡ draft_chain old ++ block ∷ []
  pub rest : put_len (begun_of new) ≡ block_len * length (draft_chain new)
  pub bytes : new.block.items ≡ old.block.items
  pub inside : block < block_count
  pub apart : times block (image_chain old) ≡ 0
  pub once : times block (draft_chain old) ≡ 0

-- the chain of the commit becomes that of the image, and the table says so
pub record Turns (old new : Book) (len : ℕ) : Type 0 where
  pub fits : Fits 4095 new
  pub draft : new.draft ≡ None
  pub generation : new.generation ≡ following old.generation
  pub chain : image_chain new ≡ draft_chain old
  pub table : entry_in new.table.items ≡ Some (record { generation = following old.generation; len = len; chain = draft_chain old })

-- pieces are written into blocks that were free, and behind them
pub record Pours {T E : Type 0} (piece : List ℕ) (result : Result T E) (before after : Book) (old new : Shown) : Type 0 where
  pub settled : KeepsOthers data_at (draft_chain after) old.settled new.settled
  pub content : KeepsOthers data_at (draft_chain after) old.content new.content
  pub put : (bytes : List ℕ) → HasPut old (begun_of before) bytes → OnOk result (HasPut new (begun_of after) (bytes ++ piece))

-- the bytes behind the blocks that are full are written with zeros behind them
pub record PoursRest {T E : Type 0} (result : Result T E) (before after : Book) (old new : Shown) : Type 0 where
  pub settled : KeepsOthers data_at (draft_chain after) old.settled new.settled
  pub content : KeepsOthers data_at (draft_chain after) old.content new.content
  pub put : (bytes : List ℕ) → HasPut old (begun_of before) bytes → OnOk result (take (length bytes) (stored new.content data_at (draft_chain after)) ≡ bytes)

-- the commit is finished, or a stop left it before or after
pub record Closes {T E : Type 0} (result : Result T E) (before after : Book) (old new : Shown) : Type 0 where
  pub torn : (s : Saved) → (bytes : List ℕ) → Stands old s → HasPut old (begun_of before) bytes → OnErr result (OpensAsEither new s (next s bytes))
  pub settled : OnOk result (new.settled ≡ settles new.content)
  pub knows : OnOk result (Knows after new.content)
  pub opens : (s : Saved) → (bytes : List ℕ) → Stands old s → HasPut old (begun_of before) bytes → OnOk result (opened new.content ≡ Some (next s bytes))
