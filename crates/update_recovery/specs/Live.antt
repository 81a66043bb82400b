-- The live records of logs, and where each stands in the order of all.
use Rattle.std.specs.Prelude.{ℕ, zero, suc, ◌+◌, Bool, ◌==◌, ◌&&◌, List, [], ◌∷◌, Option, Some, None}
use Rattle.std.specs.declared.cmp.Ordering.{Ordering}
use Rattle.std.specs.Ordering.{nat_cmp, ordering_then}
use Rattle.std.specs.Bool.{nat_eq}
use Rattle.std.specs.Cmp.Lexicographic.{slice_cmp, pointwise}
use Rattle.llog_store.specs.Log.{Entry, live_count}
use Rattle.llog_store.specs.Changes.{first_live}
use Rattle.update_record.specs.declared.operation.Record.{Record}
use Rattle.update_recovery.specs.declared.found.Found.{Found}

-- where there is one, it comes before the rest, which begins behind it
abbrev pub then_live : Option (ℕ × List ℕ) → (ℕ → List (ℕ × List ℕ)) → List (ℕ × List ℕ)
then_live None rest = []
then_live (Some x) rest = x ∷ rest (x.0 + 1)

-- so many live records at most, the first of them at an index or behind it: their indexes and payloads
unfoldable pub live_from : ℕ → ℕ → List Entry → List (ℕ × List ℕ)
live_from zero from es = []
live_from (suc n) from es = then_live (first_live from es) (λ next. live_from n next es)

-- all live records, in the order of their indexes
abbrev pub live_records : List Entry → List (ℕ × List ℕ)
live_records es = live_from (live_count es) 1 es

-- by stamp, master and batch, and those that agree in these by their bytes
abbrev pub found_cmp : Found → Found → Ordering
found_cmp a b = ordering_then (nat_cmp a.stamp b.stamp) (ordering_then (nat_cmp a.master b.master) (ordering_then (nat_cmp a.batch b.batch) (slice_cmp nat_cmp a.text.items b.text.items)))

-- it is this record with these bytes
abbrev pub is_of : Found → Record → List ℕ → Bool
is_of k r text = (r.stamp == k.stamp) && ((r.id.master == k.master) && ((r.id.batch == k.batch) && pointwise nat_eq text k.text.items))
