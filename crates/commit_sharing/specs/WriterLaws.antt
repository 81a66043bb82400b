-- What the writers say of all requests that were noted.
use Rattle.std.specs.Prelude.{◌≡◌, ℕ, Bool, true, false, ◌||◌, List, [], ◌∷◌, ◌++◌, Option, Some, None}
use Rattle.std.specs.List.{AllByRecursion}
use Rattle.std.specs.FinMap as map
use Rattle.fid_space.specs.declared.fid.Fid.{Fid}
use Rattle.tree_model.specs.Fids.{same_fid}
use Rattle.commit_sharing.specs.Pending.{Writers, noted}

-- a request that is noted: its number, the targets that it is on, and the objects that it wrote
pub record Note : Type 0 where
  pub number : ℕ
  pub on : ℕ
  pub written : List Fid

abbrev pub after_notes : Writers → List Note → Writers
after_notes writers [] = writers
after_notes writers (n ∷ ns) = after_notes (noted n.number n.on writers n.written) ns

abbrev pub wrote : List Fid → Fid → Bool
wrote [] fid = false
wrote (f ∷ fs) fid = same_fid fid f || wrote fs fid

abbrev pub NoneWrote : Fid → List Note → Type 0
NoneWrote fid notes = AllByRecursion (λ n. wrote n.written fid ≡ false) notes

-- the writer is a request that wrote the object, and none that was noted later did; there is none where none did
abbrev pub IsLastWriter : Fid → List Note → Option (ℕ × ℕ) → Type 0
IsLastWriter fid notes None = NoneWrote fid notes
IsLastWriter fid notes (Some w) =
    (before : List Note) × (n : Note) × (after : List Note) × (notes ≡ before ++ n ∷ after)
    × (wrote n.written fid ≡ true) × (n.number ≡ w.0) × (n.on ≡ w.1) × NoneWrote fid after

-- after requests that were noted since the writers were forgotten
abbrev pub WritersAreLast : Type 0
WritersAreLast = (notes : List Note) (fid : Fid) → IsLastWriter fid notes (map.get (after_notes map.empty notes) fid)
