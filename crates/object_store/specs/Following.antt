-- What comes next: nodes by FID, and entries and attributes by FID and name.
use Rattle.std.specs.Prelude.{ℕ, Bool, true, false, List, [], ◌∷◌, Option, Some, None}
use Rattle.std.specs.declared.cmp.Ordering.{Ordering}
use Rattle.std.specs.Ordering.{is_lt}
use Rattle.std.specs.List.{filter}
use Rattle.std.specs.Option.{option_map}
use Rattle.std.specs.FinMap.{get, entries}
use Rattle.fid_space.specs.declared.fid.Fid.{Fid}
use Rattle.tree_model.specs.Fids.{fid_cmp, name_cmp}
use Rattle.tree_model.specs.declared.reply.Reply.{Reply}
use Rattle.tree_model.specs.declared.reply.Reply.TheVariants as replies
use Rattle.object_store.specs.declared.body.Body.{Body}
use Rattle.object_store.specs.declared.body.ObjectKind.{ObjectKind}
use Rattle.object_store.specs.declared.body.ObjectKind.TheVariants.{File, Directory, Stripe}
use Rattle.object_store.specs.Objects.{Object, ObjectMap}

-- whether a key comes after another; each comes after none
abbrev pub is_after : {K : Type 0} → (K → K → Ordering) → Option K → K → Bool
is_after R None k = true
is_after R (Some a) k = is_lt (R a k)

-- the entries whose keys come after
abbrev pub behind : {K X : Type 0} → (K → K → Ordering) → Option K → List (K × X) → List (K × X)
behind R after es = filter (λ e. is_after R after e.0) es

-- ---- nodes

-- what getattr replies; none of a stripe
abbrev pub attr_of : Body → Option Reply
attr_of b = by_kind b.kind
  where
    by_kind : ObjectKind → Option Reply
    by_kind File = Some (replies.Attr false b.mode b.uid b.gid b.links)
    by_kind Directory = Some (replies.Attr true b.mode b.uid b.gid b.links)
    by_kind Stripe = None

abbrev pub or_else : {A : Type 0} → Option A → Option A → Option A
or_else None later = later
or_else (Some first) later = Some first

abbrev pub node_of : Fid × Object → Option (Fid × Reply)
node_of e = option_map (λ reply. (e.0, reply)) (attr_of e.1.body)

abbrev pub first_node : List (Fid × Object) → Option (Fid × Reply)
first_node [] = None
first_node (e ∷ es) = or_else (node_of e) (first_node es)

unfoldable pub next_node : ObjectMap → Option Fid → Option (Fid × Reply)
next_node m after = first_node (behind fid_cmp after (entries m))

-- ---- entries

-- the object, its directory, the name and the child
abbrev pub Entry : Type 0
Entry = Fid × Fid × List ℕ × Fid

-- a stripe has entries of its directory
abbrev pub directory_of : Fid → Body → Fid
directory_of fid b = by_kind b.kind
  where
    by_kind : ObjectKind → Fid
    by_kind Stripe = b.fid
    by_kind _ = fid

abbrev pub first_of : {X : Type 0} → List (List ℕ × X) → Option (List ℕ × X)
first_of [] = None
first_of (e ∷ es) = Some e

-- the first entry behind a name in one object
abbrev pub entry_in : Fid → Option (List ℕ) → Object → Option Entry
entry_in fid after o = option_map (λ e. (fid, directory_of fid o.body, e.0, e.1)) (first_of (behind name_cmp after (entries o.entries)))

abbrev pub first_entry : List (Fid × Object) → Option Entry
first_entry [] = None
first_entry (e ∷ es) = or_else (entry_in e.0 None e.1) (first_entry es)

abbrev pub entry_there : Fid → List ℕ → Option Object → Option Entry
entry_there fid name None = None
entry_there fid name (Some o) = entry_in fid (Some name) o

-- the next in the same object, or else the first of the objects behind it
unfoldable pub next_entry : ObjectMap → Option (Fid × List ℕ) → Option Entry
next_entry m None = first_entry (behind fid_cmp None (entries m))
next_entry m (Some after) = or_else (entry_there after.0 after.1 (get m after.0)) (first_entry (behind fid_cmp (Some after.0) (entries m)))

-- ---- attributes

-- the object, the name and the value
abbrev pub Attribute : Type 0
Attribute = Fid × List ℕ × List ℕ

abbrev pub attribute_in : Fid → Option (List ℕ) → Object → Option Attribute
attribute_in fid after o = option_map (λ e. (fid, e.0, e.1)) (first_of (behind name_cmp after (entries o.attributes)))

abbrev pub first_attribute : List (Fid × Object) → Option Attribute
first_attribute [] = None
first_attribute (e ∷ es) = or_else (attribute_in e.0 None e.1) (first_attribute es)

abbrev pub attribute_there : Fid → List ℕ → Option Object → Option Attribute
attribute_there fid name None = None
attribute_there fid name (Some o) = attribute_in fid (Some name) o

unfoldable pub next_attribute : ObjectMap → Option (Fid × List ℕ) → Option Attribute
next_attribute m None = first_attribute (behind fid_cmp None (entries m))
next_attribute m (Some after) = or_else (attribute_there after.0 after.1 (get m after.0)) (first_attribute (behind fid_cmp (Some after.0) (entries m)))
