-- The last answer of each client: the seats of a target.
use Rattle.std.specs.Prelude.{ℕ, Bool, true, false, ◌==◌, nat_lt, if◌then◌else◌, List, replicate, slice_set, get_or, Option, Some, None}
use Rattle.tree_model.specs.declared.errno.Errno.{Errno}
use Rattle.tree_model.specs.declared.reply.Reply.{Reply}
use Rattle.tree_model.specs.declared.reply.Reply.TheVariants as replies
use Rattle.reply_cache.specs.declared.seats.Seat.{Seat}
use Rattle.reply_cache.specs.declared.seats.Judgement.{Judgement}
use Rattle.reply_cache.specs.declared.seats.Judgement.TheVariants as judgement

abbrev pub no_seats : List (Option Seat)
no_seats = replicate 64 None

abbrev pub answer_of : Option Errno → Reply
answer_of None = replies.Ok
answer_of (Some errno) = replies.Err errno

-- whether a seat can keep it: a read isn't kept
abbrev pub is_answer : Reply → Bool
is_answer replies.Ok = true
is_answer (replies.Err e) = true
is_answer _ = false

abbrev pub refusal_of : Reply → Option Errno
refusal_of (replies.Err e) = Some e
refusal_of _ = None

-- what a number is by its client's seat
abbrev pub judged : Option Seat → ℕ → Judgement
judged None number = judgement.New
judged (Some seat) number =
    if seat.number == number then judgement.Repeat (answer_of seat.refused)
    else (if nat_lt number seat.number then judgement.Stale seat.number else judgement.New)

-- whether a seat has a greater number
abbrev pub has_later : Option Seat → ℕ → Bool
has_later None number = false
has_later (Some seat) number = nat_lt number seat.number

-- the seat of a client after a reply to it
abbrev pub seated : Option Seat → ℕ → Reply → Option Seat
seated seat number reply = if has_later seat number then seat else Some (record { number = number; refused = refusal_of reply })

-- the seats after a reply
abbrev pub put_seat : List (Option Seat) → ℕ → ℕ → Reply → List (Option Seat)
put_seat seats client number reply =
    if has_later (get_or seats client None) number then seats
    else slice_set seats client (Some (record { number = number; refused = refusal_of reply }))
