-- The index of a log: its live records, by the masters and batches that their payloads tell.
use Rattle.std.specs.Prelude.{◌≡◌, ◌≤◌, ℕ, Bool, true, false, ◌==◌, ◌&&◌, ◌||◌, List, [], ◌∷◌, Option, Some, None}
use Rattle.std.specs.declared.cmp.Ordering.{Ordering}
use Rattle.std.specs.Ordering.{nat_cmp, ordering_then}
use Rattle.std.specs.BTreeSet.{BTreeSet, contains}
use Rattle.llog_store.specs.Log.{Entry}
use Rattle.target_state.specs.declared.indexed.LiveRecord.{LiveRecord}
use Rattle.target_state.specs.declared.waiting.Waiting.{Waiting}
use Rattle.target_state.specs.Marking.{id_in, waits}

-- by master, batch and index
abbrev pub live_cmp : LiveRecord → LiveRecord → Ordering
live_cmp a b = ordering_then (nat_cmp a.master b.master) (ordering_then (nat_cmp a.batch b.batch) (nat_cmp a.index b.index))

abbrev pub has_id : LiveRecord → Option (ℕ × ℕ) → Bool
has_id q None = false
has_id q (Some id) = (id.0 == q.master) && (id.1 == q.batch)

abbrev pub is_entry : LiveRecord → Entry → Bool
is_entry q e = e.live && ((e.index == q.index) && has_id q (id_in e.payload))

-- the record that was noted last, or one before it
abbrev pub noted_at : LiveRecord → Bool → ℕ → List ℕ → Bool
noted_at q before index payload = ((index == q.index) && has_id q (id_in payload)) || before

-- whether a live record has this index, and tells this master and batch
unfoldable pub is_listed : LiveRecord → List Entry → Bool
is_listed q [] = false
is_listed q (e ∷ es) = is_entry q e || is_listed q es

-- the index has these, and no others
abbrev pub AreListed : BTreeSet LiveRecord → List Entry → Type 0
AreListed live es = (q : LiveRecord) → contains live_cmp live q ≡ is_listed q es

-- a record of the index is of this master, and doesn't wait to be committed
abbrev pub IsStable : BTreeSet LiveRecord → List Waiting → ℕ → LiveRecord → Type 0
IsStable live ws master q = (contains live_cmp live q ≡ true) × (q.master ≡ master) × (waits ws master q.batch ≡ false)

-- a batch is the greatest of these; there is none where no record is such
abbrev pub IsLatest : BTreeSet LiveRecord → List Waiting → ℕ → Option ℕ → Type 0
IsLatest live ws master None = (q : LiveRecord) → IsStable live ws master q → ⊥
IsLatest live ws master (Some batch) = ((r : LiveRecord) × IsStable live ws master r × (r.batch ≡ batch)) × ((q : LiveRecord) → IsStable live ws master q → q.batch ≤ batch)
