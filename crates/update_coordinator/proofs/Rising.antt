-- How far a mark rises.
use Rattle.std.proofs.Common.{◌≡◌, ◌≤◌, ◌+◌, ℕ, Bool, true, false, if◌then◌else◌, List, [], ◌∷◌, refl, ap, arith}
use Rattle.update_coordinator.specs.Marks.{is_stable, mark_from}
use Rattle.update_coordinator.specs.Laws.{IsMark}

more : (stable : List ℕ) (m on : ℕ) (ons : List ℕ) (n : ℕ) → is_stable stable (m + 1) on ≡ true → IsMark stable (m + 1) ons n → IsMark stable m (on ∷ ons) n
more stable m on ons n s r = record {
  front = on ∷ r.front;
  rest = r.rest;
  parts = ap (λ (xs : List ℕ). on ∷ xs) r.parts;
  count = let e = r.count in omega (arith, e);
  row = (s, r.row);
  stops = r.stops;
}

mark_next : (stable : List ℕ) (m on : ℕ) (ons : List ℕ) (b : Bool) → is_stable stable (m + 1) on ≡ b → IsMark stable (m + 1) ons (mark_from stable (m + 1) ons)
    → IsMark stable m (on ∷ ons) (if b then mark_from stable (m + 1) ons else m)
mark_next stable m on ons true s r = more stable m on ons (mark_from stable (m + 1) ons) s r
mark_next stable m on ons false s r = record { front = []; rest = on ∷ ons; parts = refl; count = omega arith; row = tt; stops = s }

pub marked : (stable : List ℕ) (m : ℕ) (ons : List ℕ) → IsMark stable m ons (mark_from stable m ons)
marked stable m [] = record { front = []; rest = []; parts = refl; count = omega arith; row = tt; stops = tt }
marked stable m (on ∷ ons) = mark_next stable m on ons (is_stable stable (m + 1) on) refl (marked stable (m + 1) ons)

pub never_falls : (stable : List ℕ) (m : ℕ) (ons : List ℕ) → m ≤ mark_from stable m ons
never_falls stable m ons = let e = (marked stable m ons).count in omega (arith, e)
