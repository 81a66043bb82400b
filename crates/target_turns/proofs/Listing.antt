-- The masters that are told are targets.
use Rattle.std.proofs.Common.{◌≡◌, ℕ, zero, suc, ◌+◌, ◌≤◌, ◌<◌, Bool, true, false, ◌==◌, if◌then◌else◌, List, [], ◌∷◌, ◌++◌, All, Option, Some, None, arith}
use Rattle.std.proofs.lemmas.List.Elements.{All-nil, All-cons, All-append}
use Rattle.target_state.specs.declared.waiting.Waiting.{Waiting}
use Rattle.target_state.specs.Commit.{greatest_from, mark_of, other_mark, marks_from}
use Rattle.target_state.specs.Marking.{greatest_batch, greatest_batches}

abbrev pub IsBelow : ℕ × ℕ → Type 0
IsBelow m = m.0 < 16

pub mark_below : (master : ℕ) (o : Option ℕ) → master < 16 → All IsBelow (mark_of master o)
mark_below master None h = All-nil IsBelow
mark_below master (Some batch) h = All-cons IsBelow (master, batch) [] h (All-nil IsBelow)

if_below : (b : Bool) (xs : List (ℕ × ℕ)) → All IsBelow xs → All IsBelow (if b then [] else xs)
if_below true xs h = All-nil IsBelow
if_below false xs h = h

pub marks_below : (n index master : ℕ) (ws : List Waiting) → n + master ≤ 16 → All IsBelow (marks_from n index master ws)
marks_below zero index master ws h = All-nil IsBelow
marks_below (suc n) index master ws h =
    All-append IsBelow (other_mark index master ws) (marks_from n index (master + 1) ws) (if_below (master == index) (mark_of master (greatest_from None master ws)) (mark_below master (greatest_from None master ws) (omega arith))) (marks_below n index (master + 1) ws (omega arith))
