-- What the seats say of all replies that were put.
use Rattle.std.specs.Prelude.{◌≡◌, ◌≢◌, ◌≤◌, ◌<◌, ℕ, List, [], ◌∷◌, ◌++◌, Option, Some, None, get_or}
use Rattle.std.specs.List.{AllByRecursion}
use Rattle.tree_model.specs.declared.reply.Reply.{Reply}
use Rattle.reply_cache.specs.declared.seats.Seat.{Seat}
use Rattle.reply_cache.specs.Seats.{no_seats, refusal_of, put_seat}

-- a reply that is put for a request
pub record Put : Type 0 where
  pub client : ℕ
  pub number : ℕ
  pub reply : Reply

abbrev pub after_puts : List (Option Seat) → List Put → List (Option Seat)
after_puts seats [] = seats
after_puts seats (p ∷ ps) = after_puts (put_seat seats p.client p.number p.reply) ps

-- A client's seat is empty where nothing was put for the client. Else it has the number and the reply of one that was put
-- for the client: no number of the client is greater, and none that was put later is as great.
abbrev pub IsGreatest : ℕ → List Put → Option Seat → Type 0
IsGreatest client puts None = AllByRecursion (λ p. p.client ≢ client) puts
IsGreatest client puts (Some s) =
    (before : List Put) × (p : Put) × (after : List Put) × (puts ≡ before ++ p ∷ after)
    × (p.client ≡ client) × (p.number ≡ s.number) × (refusal_of p.reply ≡ s.refused)
    × AllByRecursion (λ q. q.client ≡ client → q.number ≤ s.number) before
    × AllByRecursion (λ q. q.client ≡ client → q.number < s.number) after

abbrev pub SeatsHaveTheGreatest : Type 0
SeatsHaveTheGreatest = (puts : List Put) (client : ℕ) → client < 64 → IsGreatest client puts (get_or (after_puts no_seats puts) client None)
