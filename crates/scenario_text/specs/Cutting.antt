-- A line that is cut out of bytes which come in pieces.
use Rattle.std.specs.Prelude.{◌≡◌, ◌≤◌, ◌+◌, ℕ, Bool, true, false, length, take, List, [], ◌∷◌, ◌++◌, if◌then◌else◌, refl}
use Rattle.std.specs.Coded.{Coded, code_by, coded×, coded_ℕ, coded_list, coded_bool}
use Rattle.scenario_text.specs.Spelling.{NoFeed}
use Rattle.scenario_text.specs.declared.cutter.Cut.{Cut}
use Rattle.scenario_text.specs.declared.cutter.Cut.TheVariants as cuts

-- what came of a line so far, and whether its line feed came
pub record Cutting : Type 0 where
  pub line : List ℕ
  pub ended : Bool

abbrev pub coded_cutting : Coded Cutting
coded_cutting = code_by (List ℕ × Bool) (coded× (coded_list coded_ℕ) coded_bool) (λ c. (c.line, c.ended)) (λ p. record { line = p.0; ended = p.1 }) (λ _. refl)

-- what the next piece goes on with: a line that has ended is done with
abbrev pub open_line : Cutting → List ℕ
open_line c = if c.ended then [] else c.line

-- What a piece gives, where so much of a line came before it. It has no line feed; or the line ends in it;
-- or the line's byte 16,385 is the last that is used of it.
abbrev pub Cuts : List ℕ → List ℕ → Cut → Cutting → Type 0
Cuts before piece cuts.More new =
    NoFeed piece × (new ≡ record { line = before ++ piece; ended = false }) × (length (before ++ piece) ≤ 16384)
Cuts before piece (cuts.Line used) new =
    (front : List ℕ) × NoFeed front × (used ≡ length front + 1) × (take used piece ≡ front ++ 10 ∷ [])
    × (new ≡ record { line = before ++ front; ended = true }) × (length (before ++ front) ≤ 16384)
Cuts before piece (cuts.Long used) new =
    (used ≤ length piece) × NoFeed (take used piece) × (new ≡ record { line = before ++ take used piece; ended = false })
    × (length (before ++ take used piece) ≡ 16385)
