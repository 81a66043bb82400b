-- How many bytes the image of an object and of all objects has.
use Rattle.std.specs.Prelude.{◌≡◌, ℕ, ◌+◌, ◌<◌, ◌≤◌, ◌^◌, true, List, [], ◌∷◌, length, IfSome}
use Rattle.std.specs.FinMap.{entries, get, len}
use Rattle.byte_grammar.specs.Numbers.{padding}
use Rattle.fid_space.specs.declared.fid.Fid.{Fid}
use Rattle.object_store.specs.Bodies.{is_allowed}
use Rattle.object_store.specs.Objects.{Object, ObjectMap}

-- up to a multiple of 8
abbrev pub padded : ℕ → ℕ
padded n = n + padding n

-- the weights of all entries
abbrev pub total : {K X : Type 0} → (K → X → ℕ) → List (K × X) → ℕ
total weight [] = 0
total weight (e ∷ es) = weight e.0 e.1 + total weight es

-- the length of the name, zeros, the FID, and the name with its padding
abbrev pub entry_size : List ℕ → Fid → ℕ
entry_size name fid = 24 + padded (length name)

-- the lengths of the name and of the value, zeros, and both with their padding
abbrev pub attribute_size : List ℕ → List ℕ → ℕ
attribute_size name value = 8 + (padded (length name) + padded (length value))

-- the FID, the body, two counts, the entries and the attributes
unfoldable pub object_size : Object → ℕ
object_size o = 72 + (total entry_size (entries o.entries) + total attribute_size (entries o.attributes))

abbrev pub size_at : Fid → Object → ℕ
size_at fid o = object_size o

-- the count of objects, zeros, and the objects
unfoldable pub image_size : ObjectMap → ℕ
image_size m = 8 + total size_at (entries m)

-- what is so of an object that is kept, and of its size
pub record IsStored (o : Object) (size : ℕ) : Type 0 where
  pub body : is_allowed o.body ≡ true
  pub few_entries : len o.entries < 2 ^ 32
  pub few_attributes : len o.attributes < 2 ^ 32
  pub values : (name : List ℕ) → IfSome (get o.attributes name) (λ v. length v ≤ 4096)
  pub exact : size ≡ object_size o

-- what is so of all objects, and of their size
pub record AreStored (m : ObjectMap) (size : ℕ) : Type 0 where
  pub few : len m < 2 ^ 32
  pub small : size ≤ 2 ^ 62
  pub exact : size ≡ image_size m
