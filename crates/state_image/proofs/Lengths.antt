-- How long the front is.
use Rattle.std.proofs.Common.{◌≡◌, ℕ, ◌+◌, ◌*◌, ◌≤◌, List, [], ◌∷◌, ◌++◌, length, Option, Some, None, refl, ap, ◌∙◌, arith, length-append}
use Rattle.std.specs.Int.{w32, w64}
use Rattle.byte_grammar.specs.Numbers.{word, zeros}
use Rattle.byte_grammar.proofs.Bytes.{wide32, wide64, length-zeros}
use Rattle.reply_cache.specs.declared.seats.Seat.{Seat}
use Rattle.reply_cache.specs.Seats.{answer_of}
use Rattle.update_record.specs.Spelling.{reply_code}
use Rattle.state_image.specs.declared.front.Front.{Front}
use Rattle.state_image.specs.FrontText.{names_text, numbers_text, seat_text, maybe_seat, seats_from, one_if, taken_count, seats_text, front_text}

four : (n : ℕ) (rest : List ℕ) → length (word w32 n ++ rest) ≡ 4 + length rest
four n rest = length-append (word w32 n) rest ∙ ap (λ k. k + length rest) (wide32.len n)

eight : (n : ℕ) (rest : List ℕ) → length (word w64 n ++ rest) ≡ 8 + length rest
eight n rest = length-append (word w64 n) rest ∙ ap (λ k. k + length rest) (wide64.len n)

seat_length : (client : ℕ) (s : Seat) → length (seat_text client s) ≡ 16
unfolding seat_text
seat_length client s =
    let code = word w32 (reply_code (answer_of s.refused)) ++ zeros 4 in
    let a = four client (word w32 s.number ++ code) in
    let b = four s.number code in
    let c = four (reply_code (answer_of s.refused)) (zeros 4) in
    let z = length-zeros 4 in
    omega (arith, a, b, c, z)

maybe_length : (client : ℕ) (s : Option Seat) → length (maybe_seat client s) ≡ 16 * one_if s
maybe_length client None = refl
maybe_length client (Some s) = seat_length client s

from_length : (client : ℕ) (ss : List (Option Seat)) → length (seats_from client ss) ≡ 16 * taken_count ss
from_length client [] = refl
from_length client (s ∷ ss) =
    let a = length-append (maybe_seat client s) (seats_from (client + 1) ss) in
    let b = maybe_length client s in
    let c = from_length (client + 1) ss in
    omega (arith, a, b, c)

one_most : (s : Option Seat) → one_if s ≤ 1
one_most None = omega arith
one_most (Some s) = omega arith

pub count_most : (ss : List (Option Seat)) → taken_count ss ≤ length ss
count_most [] = omega arith
count_most (s ∷ ss) = let a = one_most s in let b = count_most ss in omega (arith, a, b)

pub names_length : (f : Front) → length (names_text f) ≡ 24
names_length f =
    let e = word w32 f.cluster ++ zeros 4 in
    let d = word w32 f.index ++ e in
    let c = word w32 f.epoch ++ d in
    let b = word w32 1 ++ c in
    let t1 = four 0x444e4531 b in
    let t2 = four 1 c in
    let t3 = four f.epoch d in
    let t4 = four f.index e in
    let t5 = four f.cluster (zeros 4) in
    let z = length-zeros 4 in
    omega (arith, t1, t2, t3, t4, t5, z)

pub numbers_length : (f : Front) → length (numbers_text f) ≡ 32
numbers_length f =
    let c = word w64 f.next_batch ++ word w64 f.mark in
    let b = word w64 f.clock ++ c in
    let t1 = eight f.transno b in
    let t2 = eight f.clock c in
    let t3 = eight f.next_batch (word w64 f.mark) in
    let z = wide64.len f.mark in
    omega (arith, t1, t2, t3, z)

seats_length : (ss : List (Option Seat)) → length (seats_text ss) ≡ 8 + 16 * taken_count ss
unfolding seats_text
seats_length ss =
    let a = four (taken_count ss) (zeros 4 ++ seats_from 0 ss) in
    let b = length-append (zeros 4) (seats_from 0 ss) in
    let z = length-zeros 4 in
    let c = from_length 0 ss in
    omega (arith, a, b, z, c)

pub front_length : (f : Front) → length (front_text f) ≡ 64 + 16 * taken_count f.seats
unfolding front_text
front_length f =
    let a = length-append (names_text f) (numbers_text f ++ seats_text f.seats) in
    let b = length-append (numbers_text f) (seats_text f.seats) in
    let x = names_length f in
    let y = numbers_length f in
    let z = seats_length f.seats in
    omega (arith, a, b, x, y, z)
