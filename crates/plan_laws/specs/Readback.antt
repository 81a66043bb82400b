-- What is read of an object is what stands in it.
use Rattle.std.specs.Prelude.{◌≡◌, ◌<◌, ◌^◌, ℕ, List, take, Option, Some}
use Rattle.std.specs.List.{AllByRecursion}
use Rattle.std.specs.FinMap.{get, len, entries}
use Rattle.fid_space.specs.declared.fid.Fid.{Fid}
use Rattle.fid_space.specs.FidText.{IsFid}
use Rattle.object_store.specs.Bodies.{FitsBody}
use Rattle.object_store.specs.Objects.{Object}
use Rattle.object_store.specs.Reads.{attr_get, xattr_get, lookup, count, names}
use Rattle.tree_model.specs.Names.{IsName}
use Rattle.plan_base.specs.Listed.{listed_in}
use Rattle.plan_base.specs.Planners.{node_in, child_in, entries_in, attribute_in}

abbrev pub NodesReadBack : Type 0
NodesReadBack = (o : Object) → FitsBody o.body → len o.attributes < 2 ^ 32 → node_in (attr_get (Some o)) ≡ Some (record { body = o.body; attributes = len o.attributes })

abbrev pub ChildrenReadBack : Type 0
ChildrenReadBack = (o : Object) (x : List ℕ) → ((f : Fid) → get o.entries x ≡ Some f → IsFid f) → child_in (lookup (Some o) x) ≡ get o.entries x

abbrev pub CountsReadBack : Type 0
CountsReadBack = (o : Object) → len o.entries < 2 ^ 32 → entries_in (count (Some o)) ≡ len o.entries

abbrev pub ValuesReadBack : Type 0
ValuesReadBack = (o : Object) (x : List ℕ) → attribute_in (xattr_get (Some o) x) ≡ get o.attributes x

abbrev pub NamesReadBack : Type 0
NamesReadBack = (o : Object) → AllByRecursion (λ e. IsName e.0 × IsFid e.1) (entries o.entries) → listed_in (names (Some o)) ≡ take 33 (entries o.entries)
