-- The share of a target of a history: its objects, and the seats of the operations that are at home there.
use Rattle.std.specs.Prelude.{◌≡◌, ◌<◌, ◌≤◌, ◌⊎◌, ℕ, List, [], ◌∷◌, Option, Some, None, if◌then◌else◌}
use Rattle.std.specs.List.{AllByRecursion}
use Rattle.std.specs.Ordering.{nat_cmp}
use Rattle.std.specs.FinMap.{FinMap, empty, insert}
use Rattle.tree_model.specs.declared.op.Request.{Request}
use Rattle.tree_model.specs.declared.reply.Reply.{Reply}
use Rattle.tree_model.specs.History.{Item}
use Rattle.tree_model.specs.Kept.{laid_of}
use Rattle.tree_model.specs.Participants.{home_of}
use Rattle.out_update.specs.declared.update.Update.{Update}
use Rattle.object_store.specs.Objects.{ObjectMap}
use Rattle.object_store.specs.Meaning.{after_all}
use Rattle.tree_shares.specs.Shares.{is_at, share}

-- of each client the number and the reply of its last operation there
abbrev pub Seats : Type 0
Seats = FinMap nat_cmp (ℕ × Reply)

-- the home of an item sets its client's seat
abbrev pub seated : ℕ → ℕ → Seats → Item → Seats
seated targets target seats i =
    if is_at target (home_of targets i.request.op) then insert seats i.request.client (i.request.number, i.reply) else seats

abbrev pub seats_from : ℕ → ℕ → Seats → List Item → Seats
seats_from targets target seats [] = seats
seats_from targets target seats (i ∷ is) = seats_from targets target (seated targets target seats i) is

pub record Share : Type 0 where
  pub objects : ObjectMap
  pub seats : Seats

abbrev pub share_of : ℕ → List Item → ℕ → Share
share_of targets history target = record { objects = share targets (laid_of targets history) target; seats = seats_from targets target empty history }

-- a share after the updates of an item there, and its seat where the target is the home
abbrev pub share_after : ℕ → ℕ → Share → List Update → Item → Share
share_after targets target s us i = record { objects = after_all s.objects us; seats = seated targets target s.seats i }

-- ---- whose numbers rise

-- two requests have one seat
abbrev pub SameSeat : ℕ → Request → Request → Type 0
SameSeat targets a b = (a.client ≡ b.client) × (home_of targets a.op ≡ home_of targets b.op)

-- The numbers of a client at a home rise.
abbrev pub Ordered : ℕ → List Item → Type 0
Ordered targets [] = Unit {0}
Ordered targets (i ∷ is) = AllByRecursion (λ j. SameSeat targets i.request j.request → i.request.number < j.request.number) is × Ordered targets is

-- an item of this client with its home there
abbrev pub SitsAt : ℕ → ℕ → ℕ → Item → Type 0
SitsAt targets target client i = (i.request.client ≡ client) × (home_of targets i.request.op ≡ Some target)

-- an item that has the number and the reply of the seat
abbrev pub IsSeat : ℕ → ℕ → ℕ → ℕ × Reply → Item → Type 0
IsSeat targets target client seat i = SitsAt targets target client i × (i.request.number ≡ seat.0) × (i.reply ≡ seat.1)

abbrev pub HasSeat : ℕ → ℕ → ℕ → ℕ × Reply → List Item → Type 0
HasSeat targets target client seat [] = ⊥
HasSeat targets target client seat (i ∷ is) = IsSeat targets target client seat i ⊎ HasSeat targets target client seat is

-- a seat has the greatest number that its client has there, and the reply to it
abbrev pub IsLast : ℕ → ℕ → ℕ → List Item → Option (ℕ × Reply) → Type 0
IsLast targets target client history None = AllByRecursion (λ i. SitsAt targets target client i → ⊥) history
IsLast targets target client history (Some seat) =
    AllByRecursion (λ i. SitsAt targets target client i → i.request.number ≤ seat.0) history × HasSeat targets target client seat history
