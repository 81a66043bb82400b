-- Reading a log from left to right: its value, or the first field that can't stand, with its place.
use Rattle.std.specs.Prelude.{◌≡◌, ℕ, zero, suc, ◌+◌, ◌-◌, ◌%◌, ◌==◌, ◌&&◌, ◌||◌, nat_le, nat_lt, not, Bool, true, false, if◌then◌else◌, List, [], ◌∷◌, length, take, drop, map, Option, Some, None, Result, Ok, Err}
use Rattle.llog_store.specs.declared.fault.LlogFault.{LlogFault}
use Rattle.llog_store.specs.declared.fault.LlogFault.TheVariants as fault
use Rattle.llog_store.specs.Numbers.{worth, pad8, first_set}
use Rattle.llog_store.specs.Bitmap.{bitmap, bit_of, set_bits, first_other}
use Rattle.llog_store.specs.Log.{Entry, Log, room, fits_in, record_size, is_live, empty_log}

infixl 10 ◌>>=◌
abbrev pub ◌>>=◌ : {A B : Type 0} → Result A LlogFault → (A → Result B LlogFault) → Result B LlogFault
(Ok x) >>= f = f x
(Err e) >>= f = Err e

-- what a function returned, seen by view, is what reading gives
abbrev pub Sees : {X Y : Type 0} → (X → Y) → Result X LlogFault → Result Y LlogFault → Type 0
Sees view (Ok x) read = read ≡ Ok (view x)
Sees view (Err e) read = read ≡ Err e

-- the same, unless memory ran out
abbrev pub Fails : {Y : Type 0} → LlogFault → Result Y LlogFault → Type 0
Fails fault.Memory read = Unit {0}
Fails e read = read ≡ Err e

abbrev pub Gives : {X Y : Type 0} → (X → Y) → Result X LlogFault → Result Y LlogFault → Type 0
Gives view (Ok x) read = read ≡ Ok (view x)
Gives view (Err e) read = Fails e read

-- The place of what is left of an input of len bytes.
abbrev pub at : ℕ → List ℕ → ℕ
at len rest = len - length rest

-- A field of n bytes and what is left behind it, or the input ends inside it.
unfoldable pub field_at : ℕ → ℕ → List ℕ → Result (List ℕ × List ℕ) LlogFault
field_at len n rest = if nat_lt (length rest) n then Err (fault.Truncated len) else Ok (take n rest, drop n rest)

unfoldable pub number_at : ℕ → List ℕ → Result (ℕ × List ℕ) LlogFault
number_at len rest = do
  bytes ← field_at len 4 rest
  Ok (worth bytes.0, bytes.1)

-- a number that has to be this one, else it is the fault
unfoldable pub known_at : ℕ → ℕ → LlogFault → List ℕ → Result (List ℕ) LlogFault
known_at len wanted other rest = do
  n ← number_at len rest
  if n.0 == wanted then Ok n.1 else Err other

abbrev pub nothing_set : Option ℕ → ℕ → List ℕ → Result (List ℕ) LlogFault
nothing_set None place rest = Ok rest
nothing_set (Some i) place rest = Err (fault.BadPadding (place + i))

-- zeros: the fault stands at the first byte that isn't one
unfoldable pub zeros_at : ℕ → ℕ → List ℕ → Result (List ℕ) LlogFault
zeros_at len n rest = do
  bytes ← field_at len n rest
  nothing_set (first_set bytes.0) (at len rest) bytes.1

pub record Header : Type 0 where
  pub next : ℕ
  pub live : ℕ
  pub bits : List ℕ

unfoldable pub next_at : ℕ → List ℕ → Result (ℕ × List ℕ) LlogFault
next_at len rest = do
  n ← number_at len rest
  if nat_le 1 n.0 && nat_le n.0 256000 then Ok n else Err (fault.BadIndex (at len rest))

unfoldable pub front_at : ℕ → List ℕ → Result (List ℕ) LlogFault
front_at len bytes = do
  a ← known_at len 32768 (fault.BadLength (at len bytes)) bytes
  b ← known_at len 0 (fault.BadIndex (at len a)) a
  c ← known_at len 0x10645539 (fault.BadType (at len b)) b
  zeros_at len 4 c

unfoldable pub back_at : ℕ → List ℕ → Result (List ℕ) LlogFault
back_at len rest = do
  a ← zeros_at len 736 rest
  b ← known_at len 32768 (fault.BadTail (at len a)) a
  known_at len 0 (fault.BadTail (at len b)) b

unfoldable pub header_at : ℕ → List ℕ → Result (Header × List ℕ) LlogFault
header_at len bytes = do
  a ← front_at len bytes
  next ← next_at len a
  live ← number_at len next.1
  bits ← field_at len 32000 live.1
  b ← back_at len bits.1
  Ok (record { next = next.0; live = live.0; bits = bits.0 }, b)

-- what the length of a record can be in the rest of a chunk
abbrev pub size_stands : ℕ → ℕ → Bool
size_stands rest size = (size % 8 == 0) && nat_le 24 size && fits_in rest size

-- A pad fills the rest of its chunk; it follows no pad, and isn't the last record.
abbrev pub pad_stands : ℕ → ℕ → ℕ → ℕ → Bool
pad_stands rest size lost more = (rest == size) && (lost == 0) && nat_lt 0 more

-- a length that no update record has
abbrev pub is_pad_size : ℕ → Bool
is_pad_size size = (size == 24) || nat_lt 24608 size

-- The length of a record, which so many more follow, behind a pad that filled so many bytes: it can't be one
-- that had fitted there. Behind no pad these are 0. One that only a pad has stands where a pad does.
unfoldable pub size_at : ℕ → ℕ → ℕ → List ℕ → Result (ℕ × List ℕ) LlogFault
size_at len lost more rest = do
  n ← number_at len rest
  if size_stands (room (at len rest)) n.0 && not (fits_in lost n.0) && (not (is_pad_size n.0) || pad_stands (room (at len rest)) n.0 lost more) then Ok n else Err (fault.BadLength (at len rest))

-- A record is an update record or a pad; whether it is a pad.
unfoldable pub kind_at : ℕ → Bool → Bool → List ℕ → Result (Bool × List ℕ) LlogFault
kind_at len update_stands pad_stands rest = do
  n ← number_at len rest
  if (n.0 == 0x106a0000) && update_stands then Ok (false, n.1) else (if (n.0 == 0x10600000) && pad_stands then Ok (true, n.1) else Err (fault.BadType (at len rest)))

-- length and index again
unfoldable pub tail_at : ℕ → ℕ → ℕ → List ℕ → Result (List ℕ) LlogFault
tail_at len size index rest = do
  a ← known_at len size (fault.BadTail (at len rest)) rest
  known_at len index (fault.BadTail (at len a)) a

-- the length of a payload, in a record of that size
unfoldable pub payload_size_at : ℕ → ℕ → List ℕ → Result (ℕ × List ℕ) LlogFault
payload_size_at len size rest = do
  n ← number_at len rest
  if nat_le n.0 24576 && (size == record_size n.0) then Ok n else Err (fault.BadLength (at len rest))

-- what a record says behind its type
pub data Piece : Type 0 where
  Update : (payload : List ℕ) → Piece
  Pad : (size : ℕ) → Piece

unfoldable pub update_at : ℕ → ℕ → ℕ → List ℕ → Result (Piece × List ℕ) LlogFault
update_at len size index rest = do
  a ← zeros_at len 4 rest
  n ← payload_size_at len size a
  b ← zeros_at len 4 n.1
  payload ← field_at len n.0 b
  c ← zeros_at len (pad8 n.0 - n.0) payload.1
  d ← tail_at len size index c
  Ok (Update payload.0, d)

unfoldable pub pad_at : ℕ → ℕ → ℕ → List ℕ → Result (Piece × List ℕ) LlogFault
pad_at len size index rest = do
  a ← zeros_at len 4 rest
  b ← zeros_at len (size - 24) a
  c ← tail_at len size index b
  Ok (Pad size, c)

-- the record with this index, which so many more follow
unfoldable pub piece_at : ℕ → ℕ → ℕ → ℕ → List ℕ → Result (Piece × List ℕ) LlogFault
piece_at len index lost more rest = do
  size ← size_at len lost more rest
  a ← known_at len index (fault.BadIndex (at len size.1)) size.1
  pad ← kind_at len (not (is_pad_size size.0)) (pad_stands (room (at len rest)) size.0 lost more) a
  if pad.0 then pad_at len size.0 index pad.1 else update_at len size.0 index pad.1

-- an update record, and where it stands
pub record Found : Type 0 where
  pub index : ℕ
  pub at : ℕ
  pub payload : List ℕ

abbrev pub found_in : Piece → ℕ → ℕ → List Found → List Found
found_in (Update payload) index place others = record { index = index; at = place; payload = payload } ∷ others
found_in (Pad size) index place others = others

abbrev pub lost_in : Piece → ℕ
lost_in (Update payload) = 0
lost_in (Pad size) = size

-- Behind the last record nothing is left: it would be a further record, whose index can't stand.
unfoldable pub end_at : ℕ → List ℕ → Result (List Found) LlogFault
end_at len rest =
    if length rest == 0 then Ok []
    else (size_at len 0 0 rest >>= λ size. number_at len size.1 >>= λ n. Err (fault.BadIndex (at len size.1)))

-- so many records, the first with this index
unfoldable pub records_at : ℕ → ℕ → ℕ → ℕ → List ℕ → Result (List Found) LlogFault
records_at zero len index lost rest = end_at len rest
records_at (suc more) len index lost rest = do
  piece ← piece_at len index lost more rest
  others ← records_at more len (index + 1) (lost_in piece.0) piece.1
  Ok (found_in piece.0 index (at len rest) others)

-- an update record is live where its bit is set
abbrev pub entry_of : List ℕ → Found → Entry
entry_of bits f = record { index = f.index; live = bit_of bits f.index; payload = f.payload }

abbrev pub no_other : Option ℕ → Log → Result Log LlogFault
no_other None log = Ok log
no_other (Some i) log = Err (fault.BadBitmap (24 + i))

-- The set bits are counted, and then each has to be that of an update record. So the bitmap is that of the
-- live records, and the fault stands at the first byte where it isn't.
unfoldable pub marked_at : Header → List Entry → Result Log LlogFault
marked_at header entries =
    if header.live == set_bits header.bits
    then no_other (first_other header.bits (bitmap (is_live entries))) (record { next = header.next; entries = entries })
    else Err (fault.BadBitmap 20)

unfoldable pub log_at : List ℕ → Result Log LlogFault
log_at bytes = do
  header ← header_at (length bytes) bytes
  found ← records_at (header.0.next - 1) (length bytes) 1 0 header.1
  marked_at header.0 (map (entry_of header.0.bits) found)

-- the log that bytes say, which is empty where they spell none
abbrev pub ok_or_empty : Result Log LlogFault → Log
ok_or_empty (Ok log) = log
ok_or_empty (Err e) = empty_log

unfoldable pub log_of : List ℕ → Log
log_of bytes = ok_or_empty (log_at bytes)
