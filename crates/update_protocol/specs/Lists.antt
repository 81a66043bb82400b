-- Lists of places, and functions that are changed at one point.
use Rattle.std.specs.Prelude.{List, [], if◌then◌else◌, ℕ, ◌<◌, ◌==◌, ◌∷◌, ◌≡◌, ◌⊎◌}

-- the value stands in the list
abbrev pub IsIn : {A : Type 0} → A → List A → Type 0
IsIn x [] = ⊥
IsIn x (y ∷ ys) = (x ≡ y) ⊎ IsIn x ys

-- each number is above those before it
abbrev pub Rising : List ℕ → Type 0
Rising [] = Unit
Rising (x ∷ xs) = ((y : ℕ) → IsIn y xs → x < y) × Rising xs

-- the function with another value at one point
abbrev pub put : {A : Type 0} → (ℕ → A) → ℕ → A → ℕ → A
put f t v s = if s == t then v else f s

abbrev pub put_two : (ℕ → ℕ → ℕ) → ℕ → ℕ → ℕ → ℕ → ℕ → ℕ
put_two f t m v = put f t (put (f t) m v)
