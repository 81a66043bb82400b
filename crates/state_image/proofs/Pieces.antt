-- Bytes put one behind the other.
use Rattle.byte_grammar.proofs.Bytes.{wide32, length-zeros}
use Rattle.state_image.proofs.Lengths.{names_length, numbers_length}
use Rattle.std.proofs.Common.{◌≡◌, ℕ, ◌+◌, ◌≤◌, List, [], ◌++◌, length, take, drop, sym, ap, ◌∙◌, arith, append_assoc, length-append, length-take}
use Rattle.std.proofs.lemmas.List.{take_at, length-take-le}
use Rattle.std.specs.Int.{w32}
use Rattle.byte_grammar.specs.Numbers.{word, zeros}
use Rattle.state_image.specs.declared.front.Front.{Front}
use Rattle.state_image.specs.FrontText.{names_text, numbers_text, seats_from, taken_count, seats_text, front_text}

pub room_behind : (bytes piece : List ℕ) (at : ℕ) → length bytes ≡ 1088 → at ≤ 1088 → length (take at bytes) + length piece ≤ 1088 → at + length piece ≤ 1088
room_behind bytes piece at whole low room = let a = length-take-le at bytes (omega (arith, whole, low)) in omega (arith, a, room)

pub put_behind : (bytes piece : List ℕ) (at : ℕ) → at + length piece ≤ length bytes → take (at + length piece) (take at bytes ++ (piece ++ drop (at + length piece) bytes)) ≡ take at bytes ++ piece
put_behind bytes piece at fits =
    ap (take (at + length piece)) (sym (append_assoc (take at bytes) piece (drop (at + length piece) bytes)))
    ∙ take_at (take at bytes ++ piece) (drop (at + length piece) bytes) (at + length piece) (omega (arith, length-append (take at bytes) piece, length-take-le at bytes (omega arith)))

-- a head, and the seats behind it

pub head_joined : (f : Front) (a b head : List ℕ) → a ≡ [] → head ≡ names_text f ++ (numbers_text f ++ (word w32 (taken_count f.seats) ++ zeros 4)) → b ≡ (a ++ head) ++ seats_from 0 f.seats → b ≡ front_text f
unfolding front_text seats_text
head_joined f a b head none is joined =
    let count = word w32 (taken_count f.seats) in
    let seats = seats_from 0 f.seats in
    joined
    ∙ ap (λ l. (l ++ head) ++ seats) none
    ∙ ap (λ l. l ++ seats) is
    ∙ append_assoc (names_text f) (numbers_text f ++ (count ++ zeros 4)) seats
    ∙ ap (λ l. names_text f ++ l) (append_assoc (numbers_text f) (count ++ zeros 4) seats ∙ ap (λ l. numbers_text f ++ l) (append_assoc count (zeros 4) seats))

pub head_length : (f : Front) (head : List ℕ) → head ≡ names_text f ++ (numbers_text f ++ (word w32 (taken_count f.seats) ++ zeros 4)) → length head ≡ 64
head_length f head is =
    let count = word w32 (taken_count f.seats) in
    let a = ap length is in
    let b = length-append (names_text f) (numbers_text f ++ (count ++ zeros 4)) in
    let c = length-append (numbers_text f) (count ++ zeros 4) in
    let d = length-append count (zeros 4) in
    let x = names_length f in
    let y = numbers_length f in
    let w = wide32.len (taken_count f.seats) in
    let z = length-zeros 4 in
    omega (arith, a, b, c, d, x, y, w, z)
