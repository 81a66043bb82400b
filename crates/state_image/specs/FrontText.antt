-- The front of a state image: the one spelling of which target it is, of its numbers and of its seats.
use Rattle.std.specs.Prelude.{◌≡◌, ℕ, ◌+◌, ◌^◌, ◌<◌, ◌≤◌, List, [], ◌∷◌, ◌++◌, length, Option, Some, None}
use Rattle.std.specs.Int.{w32, w64}
use Rattle.std.specs.List.{AllByRecursion}
use Rattle.byte_grammar.specs.Numbers.{word, zeros}
use Rattle.reply_cache.specs.declared.seats.Seat.{Seat}
use Rattle.reply_cache.specs.Seats.{answer_of}
use Rattle.update_record.specs.Spelling.{reply_code}
use Rattle.state_image.specs.declared.front.Front.{Front}

-- magic, format, epoch, target, targets and zeros
abbrev pub names_text : Front → List ℕ
names_text f = word w32 0x444e4531 ++ (word w32 1 ++ (word w32 f.epoch ++ (word w32 f.index ++ (word w32 f.cluster ++ zeros 4))))

-- transaction number, clock, next batch and mark
abbrev pub numbers_text : Front → List ℕ
numbers_text f = word w64 f.transno ++ (word w64 f.clock ++ (word w64 f.next_batch ++ word w64 f.mark))

-- a seat: the client, the number, the code of the answer, and zeros
unfoldable pub seat_text : ℕ → Seat → List ℕ
seat_text client seat = word w32 client ++ (word w32 seat.number ++ (word w32 (reply_code (answer_of seat.refused)) ++ zeros 4))

abbrev pub maybe_seat : ℕ → Option Seat → List ℕ
maybe_seat client None = []
maybe_seat client (Some seat) = seat_text client seat

-- the seats from a client on
abbrev pub seats_from : ℕ → List (Option Seat) → List ℕ
seats_from client [] = []
seats_from client (s ∷ ss) = maybe_seat client s ++ seats_from (client + 1) ss

abbrev pub one_if : Option Seat → ℕ
one_if None = 0
one_if (Some seat) = 1

-- how many seats have an answer
abbrev pub taken_count : List (Option Seat) → ℕ
taken_count [] = 0
taken_count (s ∷ ss) = one_if s + taken_count ss

-- their count, zeros, and the seats by their clients
unfoldable pub seats_text : List (Option Seat) → List ℕ
seats_text ss = word w32 (taken_count ss) ++ (zeros 4 ++ seats_from 0 ss)

unfoldable pub front_text : Front → List ℕ
front_text f = names_text f ++ (numbers_text f ++ seats_text f.seats)

-- ---- what has a front

abbrev pub last_epoch : ℕ
last_epoch = 1895048192

abbrev pub most : ℕ
most = 2 ^ 62

abbrev pub FitsSeat : Option Seat → Type 0
FitsSeat None = Unit {0}
FitsSeat (Some s) = (1 ≤ s.number) × (s.number ≤ 65536)

pub record FitsFront (f : Front) : Type 0 where
  pub epoch_set : 1 ≤ f.epoch
  pub epoch : f.epoch ≤ last_epoch
  pub index : f.index < 2 ^ 8
  pub targets : f.cluster < 2 ^ 8
  pub transno : f.transno ≤ most
  pub clock : f.clock ≤ most
  pub batch_set : 1 ≤ f.next_batch
  pub batch : f.next_batch ≤ most
  pub mark : f.mark ≤ most
  pub seats : length f.seats ≡ 64
  pub each : AllByRecursion FitsSeat f.seats
