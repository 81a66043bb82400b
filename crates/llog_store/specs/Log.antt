-- Update logs, and the one spelling of each. A log is its header, one chunk of 32,768 bytes, and then its
-- records. No record crosses the end of a chunk: where the next one doesn't fit, a pad fills the rest.
use Rattle.std.specs.Prelude.{ℕ, ◌≡◌, ◌+◌, ◌-◌, ◌%◌, ◌≤◌, ◌==◌, ◌&&◌, ◌||◌, nat_le, Bool, false, List, [], ◌∷◌, ◌++◌, length, if◌then◌else◌}
use Rattle.llog_store.specs.Numbers.{word, zeros, pad8}
use Rattle.llog_store.specs.Bitmap.{bitmap}

-- an update record: its index, whether it is live or was cancelled, and its payload
pub record Entry : Type 0 where
  pub index : ℕ
  pub live : Bool
  pub payload : List ℕ

-- the index that the next record takes, and the update records in their order
pub record Log : Type 0 where
  pub next : ℕ
  pub entries : List Entry

-- the rest of the chunk at a place
abbrev pub room : ℕ → ℕ
room place = 32768 - place % 32768

-- A record fits where it leaves nothing of the rest, or as much as a pad takes at least.
unfoldable pub fits_in : ℕ → ℕ → Bool
fits_in rest size = (rest == size) || nat_le (size + 24) rest

-- the length of an update record with a payload of so many bytes
abbrev pub record_size : ℕ → ℕ
record_size len = 32 + pad8 len

-- Where a record of that size stands, and its index, if a log ends at the place with the next index.
abbrev pub start_of : ℕ → ℕ → ℕ
start_of place size = if fits_in (room place) size then place else place + room place

abbrev pub index_of : ℕ → ℕ → ℕ → ℕ
index_of place index size = if fits_in (room place) size then index else index + 1

unfoldable pub record_text : ℕ → List ℕ → List ℕ
record_text index payload =
    word (record_size (length payload)) ++ (word index ++ (word 0x106a0000 ++ (zeros 4 ++ (word (length payload) ++ (zeros 4 ++ (payload ++ (zeros (pad8 (length payload) - length payload) ++ (word (record_size (length payload)) ++ word index))))))))

unfoldable pub pad_text : ℕ → ℕ → List ℕ
pad_text size index = word size ++ (word index ++ (word 0x10600000 ++ (zeros 4 ++ (zeros (size - 24) ++ (word size ++ word index)))))

-- a record at a place, behind a pad where it needs one
unfoldable pub entry_text : ℕ → Entry → List ℕ
entry_text place e =
    if fits_in (room place) (record_size (length e.payload))
    then record_text e.index e.payload
    else pad_text (room place) (e.index - 1) ++ record_text e.index e.payload

abbrev pub entry_end : ℕ → Entry → ℕ
entry_end place e = start_of place (record_size (length e.payload)) + record_size (length e.payload)

-- the records from a place on
unfoldable pub records_text : ℕ → List Entry → List ℕ
records_text place [] = []
records_text place (e ∷ es) = entry_text place e ++ records_text (entry_end place e) es

-- the header's length, its index and its type
unfoldable pub header_front : List ℕ
header_front = word 32768 ++ (word 0 ++ (word 0x10645539 ++ zeros 4))

-- its rest behind the bitmap, with length and index again
unfoldable pub header_back : List ℕ
header_back = zeros 736 ++ (word 32768 ++ word 0)

unfoldable pub header_text : ℕ → ℕ → List ℕ → List ℕ
header_text next live bits = header_front ++ (word next ++ (word live ++ (bits ++ header_back)))

-- whether a live record has the index
unfoldable pub is_live : List Entry → ℕ → Bool
is_live [] i = false
is_live (e ∷ es) i = (e.live && (e.index == i)) || is_live es i

unfoldable pub live_count : List Entry → ℕ
live_count [] = 0
live_count (e ∷ es) = (if e.live then 1 else 0) + live_count es

unfoldable pub log_text : Log → List ℕ
log_text log = header_text log.next (live_count log.entries) (bitmap (is_live log.entries)) ++ records_text 32768 log.entries

-- Indexes rise by one, from the first on; a pad takes one too. A payload has at most 24,576 bytes.
unfoldable pub Follows : ℕ → ℕ → List Entry → ℕ → Type 0
Follows place index [] next = next ≡ index
Follows place index (e ∷ es) next =
    (e.index ≡ index_of place index (record_size (length e.payload))) × (length e.payload ≤ 24576) × Follows (entry_end place e) (e.index + 1) es next

-- what has a spelling: indexes are below 256,000
pub record IsLog (log : Log) : Type 0 where
  pub follows : Follows 32768 1 log.entries log.next
  pub next : log.next ≤ 256000

-- the relation between logs and bytes
abbrev pub spells : Log → List ℕ → Type 0
spells log bytes = IsLog log × (bytes ≡ log_text log)

-- the log without records
abbrev pub empty_log : Log
empty_log = record { next = 1; entries = [] }
