-- Marks, the targets of batches, and what is awaited.
use Rattle.std.specs.Prelude.{ℕ, ◌+◌, Bool, true, false, not, nat_le, nat_lt, ◌==◌, ◌&&◌, ◌||◌, if◌then◌else◌, List, [], ◌∷◌, drop, set, get_or, max, Option, Some, None}
use Rattle.fid_space.specs.Targets.{is_member, union}
use Rattle.update_coordinator.specs.declared.words.Flight.{Flight}
use Rattle.update_coordinator.specs.declared.words.Going.{Going}
use Rattle.update_coordinator.specs.declared.words.Waits.{Waits}
use Rattle.update_coordinator.specs.declared.words.Waits.TheVariants as waits
use Rattle.update_coordinator.specs.Coordinating.{Coordinating}
use Rattle.update_coordinator.specs.Rules.{all_targets}

-- ---- marks

-- whether a batch is stable on each of these targets that takes part in it
abbrev pub is_everywhere : List ℕ → List ℕ → ℕ → ℕ → Bool
is_everywhere [] stable batch on = true
is_everywhere (t ∷ ts) stable batch on = if is_member on t && nat_lt (get_or stable t 0) batch then false else is_everywhere ts stable batch on

unfoldable pub is_stable : List ℕ → ℕ → ℕ → Bool
is_stable stable batch on = is_everywhere all_targets stable batch on

-- the last of a row of batches that are stable everywhere
abbrev pub mark_from : List ℕ → ℕ → List ℕ → ℕ
mark_from stable mark [] = mark
mark_from stable mark (on ∷ ons) = if is_stable stable (mark + 1) on then mark_from stable (mark + 1) ons else mark

abbrev pub noted : Coordinating → ℕ → ℕ → Coordinating
noted c t batch =
    let stable = set c.stable t (max (get_or c.stable t 0) batch) in
    record c { stable = stable; mark = mark_from stable c.mark (drop c.mark c.batches) }

-- the targets of the batches above one and up to another
abbrev pub between_from : List ℕ → ℕ → ℕ → ℕ → ℕ → ℕ
between_from [] n least most so_far = so_far
between_from (on ∷ ons) n least most so_far = between_from ons (n + 1) least most (if nat_le least n && nat_lt n most then union so_far on else so_far)

-- ---- questions

abbrev pub waits_at : Waits → ℕ
waits_at (waits.Look n) = n.target
waits_at (waits.Hold d t) = t
waits_at (waits.Sync d synced t writer) = t

abbrev pub is_awaited : Coordinating → ℕ → ℕ → ℕ → Option Going → Bool
is_awaited c t attempt ask None = false
is_awaited c t attempt ask (Some g) = not (t == c.master) && ((waits_at g.waits == t) && ((attempt == c.attempts) && (ask == c.asks)))

abbrev pub owes : ℕ → ℕ → Flight → Bool
owes t attempt f = (f.attempt == attempt) && (is_member f.executes t || is_member f.releases t)

abbrev pub is_owed : List Flight → ℕ → ℕ → Bool
is_owed [] t attempt = false
is_owed (f ∷ fs) t attempt = owes t attempt f || is_owed fs t attempt
