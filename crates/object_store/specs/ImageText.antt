-- The image of the objects: the one spelling of each map.
use Rattle.std.specs.Prelude.{◌≡◌, ℕ, ◌-◌, ◌<◌, ◌≤◌, ◌^◌, true, List, ◌++◌, length, take}
use Rattle.std.specs.Int.{w16, w32}
use Rattle.std.specs.List.{flat_map, AllByRecursion}
use Rattle.std.specs.FinMap.{entries, len}
use Rattle.byte_grammar.specs.Numbers.{IsBytes, word, zeros, padding}
use Rattle.fid_space.specs.declared.fid.Fid.{Fid}
use Rattle.fid_space.specs.FidText.{IsFid}
use Rattle.tree_model.specs.Names.{IsName}
use Rattle.out_update.specs.Spelling.{fid_bytes}
use Rattle.object_store.specs.Bodies.{is_allowed, body_bytes}
use Rattle.object_store.specs.Objects.{Object, ObjectMap}

-- bytes, and zeros up to a multiple of 8
unfoldable pub padded_text : List ℕ → List ℕ
padded_text bytes = bytes ++ zeros (padding (length bytes))

-- an entry: the length of its name, zeros, the FID, and the name
unfoldable pub entry_text : List ℕ × Fid → List ℕ
entry_text e = word w16 (length e.0) ++ (word w16 0 ++ (word w32 0 ++ (fid_bytes e.1 ++ padded_text e.0)))

-- an attribute: the lengths of its name and of its value, zeros, the name, and the value
unfoldable pub attribute_text : List ℕ × List ℕ → List ℕ
attribute_text a = word w16 (length a.0) ++ (word w16 (length a.1) ++ (word w32 0 ++ (padded_text a.0 ++ padded_text a.1)))

-- an object: its FID, its body, two counts, the entries and the attributes, each by the bytes of their names
unfoldable pub object_text : Fid × Object → List ℕ
object_text o =
    fid_bytes o.0 ++ (body_bytes o.1.body ++ (word w32 (len o.1.entries) ++ (word w32 (len o.1.attributes) ++ (flat_map entry_text (entries o.1.entries) ++ flat_map attribute_text (entries o.1.attributes)))))

-- all objects: their count, zeros, and the objects by their FIDs
unfoldable pub image_text : ObjectMap → List ℕ
image_text m = word w32 (len m) ++ (word w32 0 ++ flat_map object_text (entries m))

-- ---- what has an image

abbrev pub FitsEntry : List ℕ × Fid → Type 0
FitsEntry e = IsName e.0 × IsFid e.1

abbrev pub FitsAttribute : List ℕ × List ℕ → Type 0
FitsAttribute a = IsName a.0 × IsBytes a.1 × (length a.1 ≤ 4096)

pub record FitsObject (o : Fid × Object) : Type 0 where
  pub fid : IsFid o.0
  pub body : is_allowed o.1.body ≡ true
  pub owner : (o.1.body.uid < 2 ^ 32) × (o.1.body.gid < 2 ^ 32)
  pub other : IsFid o.1.body.fid
  pub few_entries : len o.1.entries < 2 ^ 32
  pub few_attributes : len o.1.attributes < 2 ^ 32
  pub each_entry : AllByRecursion FitsEntry (entries o.1.entries)
  pub each_attribute : AllByRecursion FitsAttribute (entries o.1.attributes)

pub record FitsObjects (m : ObjectMap) : Type 0 where
  pub few : len m < 2 ^ 32
  pub each : AllByRecursion FitsObject (entries m)

-- the bytes are the image of the objects
abbrev pub spells : ObjectMap → List ℕ → Type 0
spells m bytes = FitsObjects m × (bytes ≡ image_text m)

-- ---- what is left of a text that is being added

-- behind the old bytes stands a front of the text, and nothing else
unfoldable pub IsFront : List ℕ → List ℕ → List ℕ → Type 0
IsFront text old new = new ≡ old ++ take (length new - length old) text
