-- Which message each request was sent as.
use Rattle.std.specs.Prelude.{ℕ, ◌≤◌, Bool, IfSome, is_some}
use Rattle.std.specs.Ordering.{nat_cmp}
use Rattle.std.specs.FinMap.{FinMap, get}
use Rattle.std.specs.FinMap as map
use Rattle.std.specs.Coded.{Coded, coded_ℕ}

-- by the number of a request, that of the message by which it was sent
abbrev pub Messages : Type 0
Messages = FinMap nat_cmp ℕ

abbrev pub coded_messages : Coded Messages
coded_messages = map.code coded_ℕ coded_ℕ

-- whether a request had the number
abbrev pub was_sent : Messages → ℕ → Bool
was_sent messages number = is_some (get messages number)

-- each of them is a message, of so many that were sent
abbrev pub AreBelow : ℕ → Messages → Type 0
AreBelow count messages = (number : ℕ) → IfSome (get messages number) (λ k. (1 ≤ k) × (k ≤ count))
