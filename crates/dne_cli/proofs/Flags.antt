-- The flags of the numbers that requests had, counted.
use Rattle.std.proofs.Common.{◌≡◌, ◌<◌, ◌≤◌, ◌+◌, ℕ, zero, suc, Bool, true, false, List, [], ◌∷◌, length, get_or, set, refl, arith}
use Rattle.std.proofs.lemmas.List.{length-replicate}
use Rattle.dne_cli.specs.Kept.{no_flags}
use Rattle.dne_cli.specs.Session.{marks}

pub length-flags : (n : ℕ) → length (no_flags n) ≡ n
unfolding no_flags
length-flags n = length-replicate n false

-- there are no more than the flags
pub marks_most : (fs : List Bool) → marks fs ≤ length fs
marks_most [] = omega arith
marks_most (true ∷ fs) = let m = marks_most fs in omega (arith, m)
marks_most (false ∷ fs) = let m = marks_most fs in omega (arith, m)

-- a flag that is set counts one more
pub marks_more : (fs : List Bool) (i : ℕ) → i < length fs → get_or fs i false ≡ false → marks (set fs i true) ≡ marks fs + 1
marks_more [] i low off = absurd (omega (arith, low))
marks_more (true ∷ fs) zero low off = cc
marks_more (false ∷ fs) zero low off = refl
marks_more (true ∷ fs) (suc i) low off = let m = marks_more fs i (omega (arith, low)) off in omega (arith, m)
marks_more (false ∷ fs) (suc i) low off = marks_more fs i (omega (arith, low)) off
