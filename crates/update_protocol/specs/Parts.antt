-- Which part of a history is kept, as a list with true at each item that it has.
use Rattle.std.specs.List.{AllByRecursion}
use Rattle.std.specs.Prelude.{Bool, List, [], suc, true, ℕ, ◌∷◌, ◌≡◌}
use Rattle.tree_model.specs.declared.op.Request.{Request}
use Rattle.update_protocol.specs.World.{Accepted, History, entry}

-- all items of the history of earlier epochs
abbrev pub all_of : History → List Bool
all_of [] = []
all_of (i ∷ is) = true ∷ all_of is

-- those items of this epoch that pass the test, by their places
abbrev pub passing : (ℕ → Bool) → ℕ → List Accepted → List Bool
passing kept k [] = []
passing kept k (x ∷ xs) = kept k ∷ passing kept (suc k) xs

abbrev pub entries_of : List Accepted → History
entries_of [] = []
entries_of (x ∷ xs) = entry x ∷ entries_of xs

abbrev pub numbers_of : History → List ℕ
numbers_of [] = []
numbers_of (i ∷ is) = i.request.number ∷ numbers_of is

-- each number is sent with one request
abbrev pub IsSent : (ℕ → Request) → History → Type 0
IsSent sent h = AllByRecursion (λ i. i.request ≡ sent i.request.number) h
