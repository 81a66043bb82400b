-- What results tell are FIDs and names, and so is all that is kept of them.
use Rattle.std.proofs.Common.{◌≡◌, ℕ, zero, suc, ◌==◌, Bool, true, false, if◌then◌else◌, Option, Some, None, List, [], ◌∷◌, ◌++◌, refl}
use Rattle.std.specs.List.{AllByRecursion}
use Rattle.out_update.specs.declared.result.UpdateResult.{UpdateResult}
use Rattle.plan_base.specs.Listed.{Entry, is_name, entry_value, if_named, next_entry, and_more, entries_from, listed_in}

abbrev pub Named : List Entry → Type 0
Named es = AllByRecursion (λ e. is_name e.0 ≡ true) es

no_entry : {X : Type 0} (e : Entry × List ℕ) → ◌≡◌ {A = Option (Entry × List ℕ)} None (Some e) → X
no_entry e h = cc

next_named : (bytes : List ℕ) (e : Entry × List ℕ) → next_entry bytes ≡ Some e → is_name e.0.0 ≡ true
unfolding next_entry
next_named bytes e h = by_value (entry_value bytes) h
  where
    by_test : (f : Entry × List ℕ) (b : Bool) → is_name f.0.0 ≡ b → (if b then Some f else None) ≡ Some e → is_name e.0.0 ≡ true
    by_test f true t k = cc
    by_test f false t k = no_entry e k

    by_value : (o : Option (Entry × List ℕ)) → if_named o ≡ Some e → is_name e.0.0 ≡ true
    by_value None k = no_entry e k
    by_value (Some f) k = by_test f (is_name f.0.0) refl k

entries_named : (left : ℕ) (bytes : List ℕ) → Named (entries_from left bytes)
unfolding entries_from
entries_named zero bytes = tt
entries_named (suc left) bytes = by_next (next_entry bytes) (next_named bytes) (entries_named left)
  where
    by_next : (o : Option (Entry × List ℕ)) → ((e : Entry × List ℕ) → o ≡ Some e → is_name e.0.0 ≡ true) → ((more : List ℕ) → Named (entries_from left more)) → Named (and_more o (entries_from left))
    by_next None h rest = tt
    by_next (Some e) h rest = (h e refl, rest e.1)

pub listed_named : (r : UpdateResult) → Named (listed_in r)
listed_named r = by_code (r.code == 0)
  where
    by_code : (b : Bool) → Named (if b then entries_from 33 r.body else [])
    by_code true = entries_named 33 r.body
    by_code false = tt
