-- Which records of the logs a recovery takes.
use Rattle.std.specs.Prelude.{◌≡◌, ℕ, nat_lt, max, Bool, false, ◌==◌, ◌&&◌, List, [], ◌∷◌, map, get_or, Option, Some, None}
use Rattle.std.specs.List.{list_any}
use Rattle.std.specs.BTreeSet.{BTreeSet, contains}
use Rattle.update_record.specs.declared.operation.Record.{Record}
use Rattle.update_record.specs.Values.{record_value}
use Rattle.target_state.specs.State.{TargetState}
use Rattle.update_recovery.specs.declared.found.Found.{Found}
use Rattle.update_recovery.specs.declared.bounds.Bounds.{Bounds}
use Rattle.update_recovery.specs.Live.{live_records, found_cmp, is_of}

-- the greatest of an epoch and those of targets
abbrev pub greatest_from : ℕ → List TargetState → ℕ
greatest_from most [] = most
greatest_from most (s ∷ ss) = greatest_from (max most s.epoch) ss

-- an operation of the epoch, above its master's mark; the mark of a master that isn't there is 0
abbrev pub is_open : ℕ → List ℕ → Record → Bool
is_open epoch marks r = (r.id.epoch == epoch) && nat_lt (get_or marks r.id.master 0) r.id.batch

-- the operations of the greatest epoch of targets, above the marks that these have
abbrev pub AreBoundsOf : List TargetState → Bounds → Type 0
AreBoundsOf ss bounds = (bounds.epoch ≡ greatest_from 0 ss) × (bounds.marks.items ≡ map (λ (s : TargetState). s.mark) ss)

abbrev pub is_found : ℕ → List ℕ → Found → Option Record → List ℕ → Bool
is_found epoch marks k None text = false
is_found epoch marks k (Some r) text = is_open epoch marks r && is_of k r text

-- it is one of these live records, of an open operation
abbrev pub is_among : ℕ → List ℕ → Found → List (ℕ × List ℕ) → Bool
is_among epoch marks k xs = list_any (λ x. is_found epoch marks k (record_value x.1) x.1) xs

-- it is a live record of the target's log, of an open operation
abbrev pub is_logged : ℕ → List ℕ → Found → TargetState → Bool
is_logged epoch marks k s = is_among epoch marks k (live_records s.log.entries)

-- a set has these, and no others
abbrev pub AreFound : BTreeSet Found → (Found → Bool) → Type 0
AreFound found which = (k : Found) → contains found_cmp found k ≡ which k
