-- A home table, a journal table and a gate before blocks of data: what a disk's bytes open as.
use Rattle.std.specs.Prelude.{◌+◌, ◌*◌, ◌&&◌, ◌==◌, nat_le, nat_lt, ℕ, zero, suc, List, [], ◌∷◌, ◌++◌, Bool, true, false, if◌then◌else◌, Option, Some, None, Result, Ok, Err, length, take, drop, slice_index}
use Rattle.std.specs.Int.{w32, w64, from_le_bytes, to_le_bytes}
use Rattle.outside.specs.Disk.{part}
use Rattle.chain_blocks.specs.Chains.{block_len, joined}
use Rattle.chain_blocks.specs.Walk.{Judged, judged}
use Rattle.chain_blocks.specs.Stored.{stored}
use Rattle.chain_blocks.specs.declared.blocks.ChainFault.{ChainFault}

-- one commit: its generation, and the image
pub record Saved : Type 0 where
  pub generation : ℕ
  pub bytes : List ℕ

abbrev pub magic : ℕ
magic = 1145979476

abbrev pub block_count : ℕ
block_count = 16000

abbrev pub table_len : ℕ
table_len = 64032

-- the most bytes of an image
abbrev pub image_most : ℕ
image_most = 32768000

-- the home table, and the journal table
abbrev pub home_at : ℕ
home_at = 4096

abbrev pub journal_at : ℕ
journal_at = 69632

-- the first block of data
abbrev pub data_at : ℕ
data_at = 135168

-- a table: the generation, the bytes of the image, the first block of its chain, the first free block, and the links
pub record Table : Type 0 where
  pub generation : ℕ
  pub len : ℕ
  pub head : ℕ
  pub free : ℕ
  pub links : List ℕ

-- the bytes of 32-bit numbers, and the numbers in bytes
abbrev pub word_bytes : List ℕ → List ℕ
word_bytes [] = []
word_bytes (w ∷ ws) = to_le_bytes w32 w ++ word_bytes ws

abbrev pub words : ℕ → List ℕ → List ℕ
words zero bytes = []
words (suc n) bytes = from_le_bytes w32 (take 4 bytes) ∷ words n (drop 4 bytes)

-- the bytes of a table before its links
unfoldable pub front_bytes : Table → List ℕ
front_bytes table = to_le_bytes w32 magic ++ to_le_bytes w32 block_count ++ to_le_bytes w64 table.generation ++ to_le_bytes w64 table.len ++ to_le_bytes w32 table.head ++ to_le_bytes w32 table.free

unfoldable pub table_bytes : Table → List ℕ
table_bytes table = front_bytes table ++ word_bytes table.links

-- the table in bytes that begin with its two marks
unfoldable pub table_in : List ℕ → Option Table
table_in bytes = if from_le_bytes w32 (take 4 bytes) == magic && from_le_bytes w32 (part 4 4 bytes) == block_count then Some (record { generation = from_le_bytes w64 (part 8 8 bytes); len = from_le_bytes w64 (part 16 8 bytes); head = from_le_bytes w32 (part 24 4 bytes); free = from_le_bytes w32 (part 28 4 bytes); links = words block_count (drop 32 bytes) }) else None

-- what a readable table stands for: the chain that holds the image, and how many bytes that has
pub record Entry : Type 0 where
  pub generation : ℕ
  pub len : ℕ
  pub chain : List ℕ

-- the image ends in the last block of its chain
abbrev pub ends_in : ℕ → ℕ → Bool
ends_in len blocks = nat_le len (block_len * blocks) && (nat_lt (block_len * blocks) (len + block_len) && nat_le len image_most)

abbrev pub if_chained : Table → Result Judged ChainFault → Option Entry
if_chained table (Ok found) = if ends_in table.len (length (joined found.chains)) then Some (record { generation = table.generation; len = table.len; chain = joined found.chains }) else None
if_chained table (Err fault) = None

-- the generation is at least 1, the links are those of one chain and of the free blocks, and the image ends in the chain
unfoldable pub entry_of : Table → Option Entry
entry_of table = if nat_le 1 table.generation then if_chained table (judged table.links (table.head ∷ []) table.free) else None

abbrev pub if_table : Option Table → Option Entry
if_table None = None
if_table (Some table) = entry_of table

-- what a table's bytes stand for, where they are readable
unfoldable pub entry_in : List ℕ → Option Entry
entry_in bytes = if_table (table_in bytes)

-- the gate
unfoldable pub is_open : List ℕ → Bool
is_open image = slice_index image 0 == 1

abbrev pub table_at : Bool → ℕ
table_at true = journal_at
table_at false = home_at

-- the journal table where the gate is open, and the home table where it isn't
unfoldable pub entry : List ℕ → Option Entry
entry image = entry_in (part (table_at (is_open image)) table_len image)

abbrev pub image_at : List ℕ → Entry → List ℕ
image_at image found = take found.len (stored image data_at found.chain)

abbrev pub saved_at : List ℕ → Option Entry → Option Saved
saved_at image None = None
saved_at image (Some found) = Some (record { generation = found.generation; bytes = image_at image found })

unfoldable pub opened : List ℕ → Option Saved
opened image = saved_at image (entry image)
