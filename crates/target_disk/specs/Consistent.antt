-- What a store keeps in memory, and what it knows by it of its disk.
use Rattle.std.specs.Prelude.{◌≡◌, ◌+◌, ◌*◌, ◌<◌, ◌≤◌, ℕ, zero, suc, List, [], ◌∷◌, ◌++◌, Bool, false, IsTrue, Option, Some, None, length, take, if◌then◌else◌, ◌==◌, slice_index_or}
use Rattle.outside.specs.Disk.{Shown, part}
use Rattle.chain_blocks.specs.Chains.{Holds, block_len, last_link}
use Rattle.target_disk.specs.Tables.{Entry, entry_in, is_open, block_count, home_at, image_most, table_len}
use Rattle.target_disk.specs.Draft.{Begun, put_len}
use Rattle.target_disk.specs.declared.book.Book.{Book}
use Rattle.target_disk.specs.declared.book.Draft.{Draft}
use Rattle.target_disk.specs.declared.book.Ends.{Ends}

-- the blocks that come one after another from a link, so many at most
abbrev pub trail_from : ℕ → List ℕ → ℕ → List ℕ
trail_from zero links at = []
trail_from (suc n) links at = if at == last_link then [] else at ∷ trail_from n links (slice_index_or links at last_link)

abbrev pub full_blocks : List ℕ → Option Ends → List ℕ
full_blocks links None = []
full_blocks links (Some ends) = trail_from (length links) links ends.head

abbrev pub full_of : List ℕ → Option Draft → List ℕ
full_of links None = []
full_of links (Some draft) = full_blocks links draft.ends

-- the commit that was begun: the chain of the blocks that are full, and the bytes behind them
abbrev pub begun_from : List ℕ → List ℕ → Option Draft → Option Begun
begun_from links block None = None
begun_from links block (Some draft) = Some (record { blocks = full_blocks links draft.ends; rest = take draft.fill block })

abbrev pub begun_of : Book → Option Begun
begun_of book = begun_from book.blocks.links book.block.items book.draft

-- the chains that a commit has taken: none, or one of which the ends are kept
abbrev pub IsTaken : Option Ends → List (List ℕ) → ℕ → Type 0
IsTaken None taken full = (taken ≡ []) × (full ≡ 0)
IsTaken (Some ends) taken full = (before : List ℕ) × (behind : List ℕ) × (before ++ ends.tail ∷ [] ≡ ends.head ∷ behind) × (taken ≡ (ends.head ∷ behind) ∷ []) × (full ≡ length (ends.head ∷ behind))

-- at most so many bytes stand behind the blocks that are full
abbrev pub IsDraft : ℕ → Option Draft → List (List ℕ) → Type 0
IsDraft most None taken = taken ≡ []
IsDraft most (Some draft) taken = IsTaken draft.ends taken draft.full × (draft.fill ≤ most) × (block_len * draft.full + draft.fill ≤ image_most)

-- each block is free, or in the chain of the image, or taken for the commit that was begun
pub record Fits (most : ℕ) (book : Book) : Type 0 where
  pub free : List ℕ
  pub behind : List ℕ
  pub taken : List (List ℕ)
  pub holds : Holds book.blocks free (taken ++ (book.head ∷ behind) ∷ [])
  pub draft : IsDraft most book.draft taken
  pub count : length book.blocks.links ≡ block_count
  pub short : block_len * length (book.head ∷ behind) < image_most + block_len
  pub table : length book.table.items ≡ table_len
  pub block : length book.block.items ≡ block_len
  pub positive : 1 ≤ book.generation

-- the chain of the image, and that of the commit that was begun
abbrev pub image_chain : Book → List ℕ
image_chain book = trail_from (length book.blocks.links) book.blocks.links book.head

abbrev pub draft_chain : Book → List ℕ
draft_chain book = full_of book.blocks.links book.draft

-- the gate is shut, and the home table stands for the generation and the chain that the store keeps
pub record Knows (book : Book) (content : List ℕ) : Type 0 where
  pub shut : is_open content ≡ false
  pub found : Entry
  pub home : entry_in (part home_at table_len content) ≡ Some found
  pub generation : found.generation ≡ book.generation
  pub chain : found.chain ≡ image_chain book

-- of an honest disk that works
abbrev pub IsConsistent : Book → Shown → Type 0
IsConsistent book disk = IsTrue disk.honest → disk.failed ≡ false → Knows book disk.content

-- of an honest disk a store minds whether it failed; then no byte of an image is put
pub record Minds (failed : Bool) (book : Book) (disk : Shown) : Type 0 where
  pub known : IsTrue disk.honest → disk.failed ≡ failed
  pub empty : IsTrue disk.honest → IsTrue disk.failed → put_len (begun_of book) ≡ 0
