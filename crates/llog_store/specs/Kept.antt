-- What a log keeps beside its bytes, and how its calls answer.
use Rattle.std.specs.Prelude.{take, drop, set, get_or, bit_or, bit_and, ◌*◌, ◌/◌, ◌%◌, ◌^◌, ◌≡◌, ℕ, ◌≤◌, ◌<◌, ◌+◌, ◌-◌, ◌==◌, nat_le, nat_lt, false, ◌||◌, Bool, ◌&&◌, List, [], ◌∷◌, ◌++◌, length, if◌then◌else◌, Option, Some, None, Result, Ok, Err}
use Rattle.std.specs.Int.{bit_at, bit_not, w8}
use Rattle.llog_store.specs.Numbers.{word, zeros}
use Rattle.llog_store.specs.declared.append.AppendFault.{AppendFault}
use Rattle.llog_store.specs.declared.append.AppendFault.TheVariants as fault
use Rattle.llog_store.specs.declared.fault.LlogFault.{LlogFault}
use Rattle.llog_store.specs.declared.fault.LlogFault.TheVariants as read
use Rattle.llog_store.specs.declared.place.Place.{Place}
use Rattle.llog_store.specs.Bitmap.{bitmap, bit_of, set_bits, first_other}
use Rattle.llog_store.specs.Reading.{◌>>=◌, Header, header_at}
use Rattle.llog_store.specs.Views.{places_at}
use Rattle.llog_store.specs.Log.{Log, Entry, room, fits_in, record_text, pad_text, log_text, live_count, IsLog}
use Rattle.llog_store.specs.Places.{places_of}
use Rattle.llog_store.specs.Changes.{given_index}

-- the bytes are the spelling, and the places are those of the update records
pub record IsKept (log : Log) (bytes : List ℕ) (places : List Place) (next live : ℕ) : Type 0 where
  pub text : bytes ≡ log_text log
  pub is : IsLog log
  pub places_are : places ≡ places_of 32768 log.entries
  pub next_is : next ≡ log.next
  pub live_is : live ≡ live_count log.entries

-- whether the header's bit of an index is set
unfoldable pub marked : List ℕ → ℕ → Bool
marked bytes i = nat_lt i 256000 && (bit_at (get_or bytes (24 + i / 8) 0) (i % 8) == 1)

abbrev pub payload_in : List ℕ → Place → List ℕ
payload_in bytes p = take p.length (drop (p.at + 24) bytes)

-- the update record that stands at a place of the bytes
abbrev pub seen : List ℕ → Place → Entry
seen bytes p = record { index = p.index; live = marked bytes p.index; payload = payload_in bytes p }

-- a payload stands in bytes of that length, in one chunk
abbrev pub IsWithin : ℕ → Place → Type 0
IsWithin len p = (p.at + 24 + p.length < len) × (p.length ≤ 24576) × (p.at % 32768 + 24 + p.length ≤ 32768)

-- chunks one behind the other
unfoldable pub joined : List (List ℕ) → List ℕ
joined [] = []
joined (c ∷ cs) = c ++ joined cs

-- so many bytes are in chunks: each is full but the last, and those behind it are empty
unfoldable pub Fills : ℕ → List (List ℕ) → Type 0
Fills len [] = len ≡ 0
Fills len (c ∷ cs) = (length c ≡ len - (len - 32768)) × Fills (len - 32768) cs

-- how many bytes a pad fills before a record of that size, 0 where it needs none
abbrev pub lost_before : ℕ → ℕ → ℕ
lost_before place size = if fits_in (room place) size then 0 else room place

unfoldable pub behind_pad : ℕ → ℕ → List ℕ → List ℕ
behind_pad lost index payload = if lost == 0 then record_text index payload else pad_text lost (index - 1) ++ record_text index payload

-- what is written over the header: its two numbers, and one bit set or cleared
abbrev pub with_numbers : List ℕ → ℕ → ℕ → List ℕ
with_numbers bytes next live = take 16 bytes ++ (word next ++ (word live ++ drop 24 bytes))

abbrev pub with_bit : List ℕ → ℕ → List ℕ
with_bit bytes index = set bytes (24 + index / 8) (bit_or (get_or bytes (24 + index / 8) 0) (1 * 2 ^ (index % 8) % 256))

abbrev pub without_bit : List ℕ → ℕ → List ℕ
without_bit bytes index = set bytes (24 + index / 8) (bit_and (get_or bytes (24 + index / 8) 0) (bit_not w8 (1 * 2 ^ (index % 8) % 256)))

-- a header without a set bit
abbrev pub wiped : List ℕ → List ℕ
wiped bytes = take 24 bytes ++ (zeros 32000 ++ drop 32024 bytes)

-- why a payload can't be appended: its length first
unfoldable pub append_fault : Log → List ℕ → Option AppendFault
append_fault log payload =
    if nat_lt 24576 (length payload) then Some (fault.TooLong (length payload))
    else (if nat_le 256000 (given_index log payload) then Some (fault.Full log.next) else None)

-- the call answers that fault, or none but want of memory
abbrev pub Refuses : {X : Type 0} → Option AppendFault → Result X AppendFault → Type 0
Refuses (Some f) result = result ≡ Err f
Refuses None (Ok x) = Unit {0}
Refuses None (Err fault.Memory) = Unit {0}
Refuses None (Err (fault.TooLong n)) = ⊥
Refuses None (Err (fault.Full n)) = ⊥

-- whether an update record with the index is among these, and its bit is set
unfoldable pub listed : List ℕ → List Place → ℕ → Bool
listed bits [] i = false
listed bits (p ∷ ps) i = (bit_of bits p.index && (p.index == i)) || listed bits ps i

abbrev pub no_stray : Option ℕ → Result (Unit {0}) LlogFault
no_stray None = Ok tt
no_stray (Some i) = Err (read.BadBitmap (24 + i))

unfoldable pub listed_at : Header → List Place → Result (Unit {0}) LlogFault
listed_at header places =
    if header.live == set_bits header.bits
    then no_stray (first_other header.bits (bitmap (listed header.bits places)))
    else Err (read.BadBitmap 20)

-- next index, count of live records, and places of update records, of bytes that spell a log
unfoldable pub parts_at : List ℕ → Result (ℕ × ℕ × List Place) LlogFault
parts_at bytes = do
  header ← header_at (length bytes) bytes
  places ← places_at (header.0.next - 1) (length bytes) 1 0 header.1
  right ← listed_at header.0 places
  Ok (header.0.next, header.0.live, places)

-- the first of these update records that is live
unfoldable pub first_marked : List ℕ → List Place → Option Place
first_marked bytes [] = None
first_marked bytes (p ∷ ps) = if marked bytes p.index then Some p else first_marked bytes ps

-- the records were appended, or they would need an index from 256,000 on
abbrev pub Packs : Option Log → Log → Type 0
Packs (Some log) wanted = (log ≡ wanted) × (log.next ≤ 256000)
Packs None wanted = 256000 < wanted.next
