-- Which requests have seats, and whose numbers are new.
use Rattle.std.specs.Prelude.{Bool, List, None, Option, Some, false, true, ℕ, ◌<◌}
use Rattle.std.specs.List.{AllByRecursion}
use Rattle.tree_model.specs.History.{Item}
use Rattle.tree_model.specs.declared.op.Op.{Op}
use Rattle.tree_model.specs.declared.op.Op.TheVariants as ops
use Rattle.tree_model.specs.declared.op.Request.{Request}
use Rattle.tree_model.specs.declared.reply.Reply.{Reply}
use Rattle.tree_shares.specs.Seats.{SameSeat}

-- a read is recorded nowhere and has no seat
abbrev pub is_read : Op → Bool
is_read (ops.Lookup parent name) = true
is_read (ops.GetAttr fid) = true
is_read (ops.GetXattr fid name) = true
is_read _ = false

-- the client has no seat there, or one of a smaller number
abbrev pub IsBelow : Option (ℕ × Reply) → ℕ → Type 0
IsBelow None number = Unit {0}
IsBelow (Some seat) number = seat.0 < number

-- of a request's seat all numbers are smaller
abbrev pub Newest : ℕ → List Item → Request → Type 0
Newest targets h r = AllByRecursion (λ i. SameSeat targets i.request r → i.request.number < r.number) h
