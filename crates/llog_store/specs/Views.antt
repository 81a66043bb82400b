-- How contracts see what the reading functions hand on.
use Rattle.std.specs.Prelude.{ℕ, List, [], length, map, Result, Ok}
use Rattle.llog_store.specs.declared.fault.LlogFault.{LlogFault}
use Rattle.llog_store.specs.declared.place.Place.{Place}
use Rattle.llog_store.specs.declared.reading.Piece.{Piece}
use Rattle.llog_store.specs.declared.reading.Piece.TheVariants as piece
use Rattle.llog_store.specs.declared.reading.Header.{Header}
use Rattle.llog_store.specs.Reading as reading
use Rattle.llog_store.specs.Reading.{◌>>=◌, found_in, records_at}

abbrev pub header_view : Header → reading.Header
header_view h = record { next = h.next; live = h.live; bits = h.bits.now }

abbrev pub piece_view : Piece → reading.Piece
piece_view (piece.Update payload) = reading.Update payload.now
piece_view (piece.Pad size) = reading.Pad size

-- a record that was found, without its payload's bytes
abbrev pub place_of : reading.Found → Place
place_of f = record { index = f.index; at = f.at; length = length f.payload }

abbrev pub places_in : reading.Piece → ℕ → ℕ → List Place
places_in p index at = map place_of (found_in p index at [])

unfoldable pub places_at : ℕ → ℕ → ℕ → ℕ → List ℕ → Result (List Place) LlogFault
places_at count len index lost rest = records_at count len index lost rest >>= λ found. Ok (map place_of found)
