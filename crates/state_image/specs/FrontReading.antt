-- Reading the front of a state image from left to right: its value, or the place of the first field that isn't as
-- stated. A target reads its own image, so which one it is and of how many is known.
use Rattle.std.specs.Prelude.{ℕ, zero, suc, ◌+◌, List, Option, Some, None, Result, Ok, Err}
use Rattle.std.specs.Int.{w32, w64}
use Rattle.tree_model.specs.declared.reply.Reply.{Reply}
use Rattle.reply_cache.specs.declared.seats.Seat.{Seat}
use Rattle.reply_cache.specs.Seats.{no_seats, put_seat}
use Rattle.object_store.specs.declared.fault.ImageFault.{ImageFault}
use Rattle.object_store.specs.declared.fault.ImageFault.TheVariants as fault
use Rattle.object_store.specs.ImageReading.{◌>>=◌, at, number_at, zeros_at, most32}
use Rattle.update_record.specs.Values.{answer_at}
use Rattle.state_image.specs.declared.front.Front.{Front}
use Rattle.state_image.specs.declared.reading.Taken.{Taken}
use Rattle.state_image.specs.FrontText.{last_epoch, most}

-- the epoch, behind magic and format, and what is left behind which target it is
unfoldable pub names_at : ℕ → ℕ → ℕ → List ℕ → Result (ℕ × List ℕ) ImageFault
names_at targets index len rest = do
  magic ← number_at w32 0x444e4531 0x444e4531 len rest
  format ← number_at w32 1 1 len magic.1
  epoch ← number_at w32 1 last_epoch len format.1
  target ← number_at w32 index index len epoch.1
  count ← number_at w32 targets targets len target.1
  space ← zeros_at len 4 count.1
  Ok (epoch.0, space)

-- the answer with a code that was read at the place
abbrev pub known : Option Reply → ℕ → List ℕ → Result (Reply × List ℕ) ImageFault
known None place rest = Err (fault.BadImage place)
known (Some reply) place rest = Ok (reply, rest)

unfoldable pub reply_at : ℕ → List ℕ → Result (Reply × List ℕ) ImageFault
reply_at len rest = do
  code ← number_at w32 0 most32 len rest
  known (answer_at code.0) (at len rest) code.1

-- a seat whose client isn't below the least
unfoldable pub seat_at : ℕ → ℕ → List ℕ → Result (Taken × List ℕ) ImageFault
seat_at len least rest = do
  client ← number_at w32 least 63 len rest
  number ← number_at w32 1 65536 len client.1
  reply ← reply_at len number.1
  space ← zeros_at len 4 reply.1
  Ok (record { client = client.0; number = number.0; reply = reply.0 }, space)

-- so many seats, put by their rising clients
unfoldable pub taken_at : ℕ → ℕ → ℕ → List (Option Seat) → List ℕ → Result (List (Option Seat) × List ℕ) ImageFault
taken_at len zero least seats rest = Ok (seats, rest)
taken_at len (suc n) least seats rest = do
  seat ← seat_at len least rest
  taken_at len n (seat.0.client + 1) (put_seat seats seat.0.client seat.0.number seat.0.reply) seat.1

unfoldable pub seats_at : ℕ → List ℕ → Result (List (Option Seat) × List ℕ) ImageFault
seats_at len rest = do
  count ← number_at w32 0 most32 len rest
  space ← zeros_at len 4 count.1
  taken_at len count.0 0 no_seats space

-- the front, and what is left behind it, of an input of len bytes
unfoldable pub front_in : ℕ → ℕ → ℕ → List ℕ → Result (Front × List ℕ) ImageFault
front_in targets index len bytes = do
  epoch ← names_at targets index len bytes
  transno ← number_at w64 0 most len epoch.1
  clock ← number_at w64 0 most len transno.1
  next_batch ← number_at w64 1 most len clock.1
  mark ← number_at w64 0 most len next_batch.1
  seats ← seats_at len mark.1
  Ok (record { cluster = targets; index = index; epoch = epoch.0; transno = transno.0; clock = clock.0; next_batch = next_batch.0; mark = mark.0; seats = seats.0 }, seats.1)
