-- What the objects answer to each update of a read type.
use Rattle.std.specs.Prelude.{ℕ, List, [], ◌++◌, length, take, Option, Some, None}
use Rattle.std.specs.Int.{w16, w32}
use Rattle.std.specs.List.{flat_map}
use Rattle.std.specs.FinMap.{get, len, entries}
use Rattle.byte_grammar.specs.Numbers.{word}
use Rattle.fid_space.specs.declared.fid.Fid.{Fid}
use Rattle.out_update.specs.declared.update.Update.{Update}
use Rattle.out_update.specs.declared.update.Kind.{Kind}
use Rattle.out_update.specs.declared.update.Kind.TheVariants as kind
use Rattle.out_update.specs.declared.result.UpdateResult.{UpdateResult}
use Rattle.out_update.specs.Spelling.{fid_bytes}
use Rattle.object_store.specs.declared.body.ObjectKind.{ObjectKind}
use Rattle.object_store.specs.declared.body.ObjectKind.TheVariants.{File, Stripe}
use Rattle.object_store.specs.Bodies.{body_bytes}
use Rattle.object_store.specs.Objects.{Object, ObjectMap}
use Rattle.object_store.specs.Meaning.{param}

abbrev pub failed : ℕ → UpdateResult
failed code = record { code = code; body = [] }

abbrev pub found : List ℕ → UpdateResult
found bytes = record { code = 0; body = bytes }

-- a file or a directory
abbrev pub node : Option Object → Option Object
node None = None
node (Some o) = by_kind o.body.kind
  where
    by_kind : ObjectKind → Option Object
    by_kind Stripe = None
    by_kind _ = Some o

-- what may have entries: a directory or a stripe
abbrev pub holder : Option Object → Option Object
holder None = None
holder (Some o) = by_kind o.body.kind
  where
    by_kind : ObjectKind → Option Object
    by_kind File = None
    by_kind _ = Some o

-- the body, the count of attributes, and zeros
abbrev pub attr_get : Option Object → UpdateResult
attr_get None = failed 2
attr_get (Some o) = found (body_bytes o.body ++ (word w32 (len o.attributes) ++ word w32 0))

abbrev pub value_get : Option (List ℕ) → UpdateResult
value_get None = failed 61
value_get (Some value) = found value

abbrev pub xattr_get : Option Object → List ℕ → UpdateResult
xattr_get None name = failed 2
xattr_get (Some o) name = value_get (get o.attributes name)

abbrev pub child_get : Option Fid → UpdateResult
child_get None = failed 2
child_get (Some fid) = found (fid_bytes fid)

abbrev pub lookup : Option Object → List ℕ → UpdateResult
lookup None name = failed 20
lookup (Some o) name = child_get (get o.entries name)

-- the length of a name, the name, and the FID
abbrev pub entry_bytes : List ℕ × Fid → List ℕ
entry_bytes e = word w16 (length e.0) ++ (e.0 ++ fid_bytes e.1)

-- the first 33 entries by the bytes of their names
abbrev pub names : Option Object → UpdateResult
names None = failed 20
names (Some o) = found (flat_map entry_bytes (take 33 (entries o.entries)))

abbrev pub count : Option Object → UpdateResult
count None = failed 20
count (Some o) = found (word w32 (len o.entries))

abbrev pub read_kind : Option Object → Kind → List ℕ → UpdateResult
read_kind o kind.AttrGet p = attr_get (node o)
read_kind o kind.XattrGet p = xattr_get (node o) p
read_kind o kind.Lookup p = lookup (holder o) p
read_kind o kind.Names p = names (holder o)
read_kind o kind.Count p = count (holder o)
read_kind o _ p = found []

-- the result of a question
unfoldable pub reads : ObjectMap → Update → UpdateResult
reads m u = read_kind (get m u.fid) u.kind (param u 0)
