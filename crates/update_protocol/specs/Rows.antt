-- What lines may show of a target: which items are pending, what an image has, what a log lists.
use Rattle.std.specs.Prelude.{Bool, List, [], drop, false, if◌then◌else◌, length, suc, take, true, ℕ, ◌++◌, ◌+◌, ◌<◌, ◌==◌, ◌||◌, ◌∷◌, ◌≡◌}
use Rattle.update_protocol.specs.Lists.{IsIn, Rising}
use Rattle.update_protocol.specs.World.{Accepted, Full, World, at, is_on}

-- executed and not listed yet
abbrev pub pending : World → ℕ → List ℕ
pending w t = drop (length (w.disk t)) (w.done t)

-- A cut takes a front of what is pending at each target, of the length that it says; it has these items, and those that are named.
abbrev pub cut_at : World → (ℕ → ℕ) → ℕ → List ℕ
cut_at w cut t = w.disk t ++ take (cut t) (pending w t)

-- the items of a cut: those that are named or taken
abbrev pub AreOfCut : World → (ℕ → ℕ) → (ℕ → Bool) → Type 0
AreOfCut w cut kept = (n : ℕ) → n < length w.since → (kept n ≡ true → (t : ℕ) × IsIn n (cut_at w cut t)) × (((t : ℕ) × IsIn n (cut_at w cut t)) → kept n ≡ true)

abbrev pub has : ℕ → List ℕ → Bool
has n [] = false
has n (x ∷ xs) = (n == x) || has n xs

-- the live records of an image: those that aren't cancelled
abbrev pub live : List ℕ → List ℕ → List ℕ
live [] gone = []
live (n ∷ ns) gone = if has n gone then live ns gone else n ∷ live ns gone

-- how many members of a list another one lacks
abbrev pub new_in : List ℕ → List ℕ → ℕ
new_in disk [] = 0
new_in disk (n ∷ ns) = if has n disk then new_in disk ns else suc (new_in disk ns)

-- A transaction number, counted from the epoch's start, and live items fit a target: each item that is named there and not
-- everywhere is among them, and the number is that of the last line and one more for each that wasn't named.
pub record FitsTarget (since : List Accepted) (disk : ℕ → List ℕ) (t : ℕ) (number : ℕ) (items : List ℕ) : Type 0 where
  pub distinct : Rising items
  pub known : (n : ℕ) → IsIn n items → (n < length since) × (is_on (at since n) t ≡ true)
  pub each : (n : ℕ) → IsIn n (disk t) → (Full disk n (at since n) → ⊥) → IsIn n items
  pub count : number ≡ length (disk t) + new_in (disk t) items

-- what a log lists
pub record FitsLog (w : World) (t : ℕ) (items : List ℕ) : Type 0 where
  pub distinct : Rising items
  pub known : (n : ℕ) → IsIn n items → (n < length w.since) × (is_on (at w.since n) t ≡ true) × IsIn n (w.done t)
  pub pends : (n : ℕ) → IsIn n (pending w t) → IsIn n items
  pub each : (n : ℕ) → IsIn n (w.disk t) → (Full w.disk n (at w.since n) → ⊥) → IsIn n items
