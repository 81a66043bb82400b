-- Entries as the result of a names question lists them.
use Rattle.std.specs.Prelude.{ℕ, zero, suc, ◌==◌, ◌&&◌, Bool, true, false, nat_le, Option, Some, None, if◌then◌else◌, List, [], ◌∷◌, length}
use Rattle.std.specs.Int.{w16}
use Rattle.std.specs.Ordering.{is_lt}
use Rattle.fid_space.specs.declared.fid.Fid.{Fid}
use Rattle.byte_grammar.specs.Values.{◌>>=◌, part_at, number_at}
use Rattle.out_update.specs.Names.{name_fault}
use Rattle.out_update.specs.Values.{fid_value}
use Rattle.out_update.specs.declared.result.UpdateResult.{UpdateResult}
use Rattle.tree_model.specs.Fids.{name_cmp}

-- a name and what it stands for
abbrev pub Entry : Type 0
Entry = List ℕ × Fid

abbrev pub is_faultless : Option ℕ → Bool
is_faultless None = true
is_faultless (Some place) = false

-- 1 to 255 bytes that may be a name
abbrev pub is_name : List ℕ → Bool
is_name bytes = nat_le 1 (length bytes) && (nat_le (length bytes) 255 && is_faultless (name_fault bytes))

-- the length of a name, the name, and its FID; and the bytes behind them
unfoldable pub entry_value : List ℕ → Option (Entry × List ℕ)
entry_value bytes = do
  size ← number_at w16 bytes
  name ← part_at size.0 size.1
  fid ← fid_value name.1
  Some ((name.0, fid.0), fid.1)

abbrev pub if_named : Option (Entry × List ℕ) → Option (Entry × List ℕ)
if_named None = None
if_named (Some e) = if is_name e.0.0 then Some e else None

unfoldable pub next_entry : List ℕ → Option (Entry × List ℕ)
next_entry bytes = if_named (entry_value bytes)

-- an entry and those of the bytes behind it
abbrev pub and_more : Option (Entry × List ℕ) → (List ℕ → List Entry) → List Entry
and_more None more = []
and_more (Some e) more = e.0 ∷ more e.1

-- at most so many entries; what is none ends them
unfoldable pub entries_from : ℕ → List ℕ → List Entry
entries_from zero bytes = []
entries_from (suc left) bytes = and_more (next_entry bytes) (entries_from left)

-- the first 33 entries of a part; an error tells of none
abbrev pub listed_in : UpdateResult → List Entry
listed_in r = if r.code == 0 then entries_from 33 r.body else []

-- ---- those that a part may list

-- the name of an entry, above the last one by its bytes, and the bytes behind the entry
abbrev pub rising : List ℕ → Option (Entry × List ℕ) → Option (List ℕ × List ℕ)
rising last None = None
rising last (Some e) = if is_lt (name_cmp last e.0.0) then Some (e.0.0, e.1) else None

abbrev pub goes_on : Option (List ℕ × List ℕ) → (List ℕ → List ℕ → Bool) → Bool
goes_on None more = false
goes_on (Some e) more = more e.0 e.1

-- at most so many entries, by rising names above the last one, to the end of the bytes
unfoldable pub rise_to_end : ℕ → List ℕ → List ℕ → Bool
rise_to_end zero last bytes = length bytes == 0
rise_to_end (suc left) last bytes = if length bytes == 0 then true else goes_on (rising last (next_entry bytes)) (rise_to_end left)
