-- What each update of a writing type does to the objects.
use Rattle.std.specs.Prelude.{ℕ, ◌+◌, ◌-◌, Bool, true, false, ◌&&◌, nat_le, if◌then◌else◌, List, [], ◌∷◌, length, Option, Some, None, Result, Ok, Err, slice_get}
use Rattle.std.specs.Int.{w32}
use Rattle.std.specs.Option.{unwrap_or}
use Rattle.std.specs.FinMap.{get, insert, remove}
use Rattle.fid_space.specs.declared.fid.Fid.{Fid}
use Rattle.byte_grammar.specs.Values.{◌>>=◌, number_at}
use Rattle.out_update.specs.declared.update.Update.{Update}
use Rattle.out_update.specs.declared.update.Kind.{Kind}
use Rattle.out_update.specs.declared.update.Kind.TheVariants as kind
use Rattle.out_update.specs.Values.{fid_value}
use Rattle.striped_dir.specs.declared.layout.Layout.{Layout}
use Rattle.object_store.specs.declared.body.Body.{Body}
use Rattle.object_store.specs.declared.body.ObjectKind.{ObjectKind}
use Rattle.object_store.specs.declared.body.ObjectKind.TheVariants.{File, Directory, Stripe}
use Rattle.object_store.specs.declared.fault.ImageFault.{ImageFault}
use Rattle.object_store.specs.Bodies.{is_allowed, layout_at}
use Rattle.object_store.specs.Objects.{Object, ObjectMap, fresh}
use Rattle.object_store.specs.ImageReading.{body_at}

-- a parameter of an update
abbrev pub param : Update → ℕ → List ℕ
param u i = unwrap_or (slice_get u.params i) []

-- the object with another body, or as it is where that body isn't allowed
unfoldable pub with_body : Object → Body → Object
with_body o b = if is_allowed b then record o { body = b } else o

abbrev pub is_directory : ObjectKind → Bool
is_directory File = false
is_directory Directory = true
is_directory Stripe = false

abbrev pub is_file : ObjectKind → Bool
is_file File = true
is_file Directory = false
is_file Stripe = false

-- mode, owner and group
unfoldable pub attributes_at : List ℕ → Option (ℕ × (ℕ × ℕ))
attributes_at bytes = do
  mode ← number_at w32 bytes
  uid ← number_at w32 mode.1
  gid ← number_at w32 uid.1
  Some (mode.0, (uid.0, gid.0))

abbrev pub with_attributes : Object → Option (ℕ × (ℕ × ℕ)) → Object
with_attributes o None = o
with_attributes o (Some a) = with_body o (record o.body { mode = a.0; uid = a.1.0; gid = a.1.1 })

abbrev pub with_layout : Object → Option (Layout × List ℕ) → Object
with_layout o None = o
with_layout o (Some l) = with_body o (record o.body { layout = l.0 })

abbrev pub with_entry : Object → List ℕ → Option (Fid × List ℕ) → Object
with_entry o name None = o
with_entry o name (Some fid) = record o { entries = insert o.entries name fid.0 }

-- a directory's parent; of a stripe and of a file nothing changes
abbrev pub with_parent : Object → Option (Fid × List ℕ) → Object
with_parent o None = o
with_parent o (Some fid) = if is_directory o.body.kind then with_body o (record o.body { fid = fid.0 }) else o

-- the object after an update that changes nothing but its body
abbrev pub with_new_body : Object → Kind → List ℕ → Object
with_new_body o kind.RefAdd p = with_body o (record o.body { links = o.body.links + 1 })
with_new_body o kind.RefDel p = with_body o (record o.body { links = o.body.links - 1 })
with_new_body o kind.AttrSet p = with_attributes o (attributes_at p)
with_new_body o kind.LayoutSet p = with_layout o (layout_at p)
with_new_body o kind.ParentSet p = with_parent o (fid_value p)
with_new_body o _ p = o

-- The object after an update other than create, or none where it is gone. A file without a link is gone.
abbrev pub changed : Object → Kind → List ℕ → List ℕ → Option Object
changed o kind.Destroy p q = None
changed o kind.RefDel p q = if is_file o.body.kind && nat_le o.body.links 1 then None else Some (with_new_body o kind.RefDel p)
changed o kind.XattrSet p q = Some (record o { attributes = insert o.attributes p q })
changed o kind.XattrDel p q = Some (record o { attributes = remove o.attributes p })
changed o kind.Insert p q = Some (with_entry o p (fid_value q))
changed o kind.Delete p q = Some (record o { entries = remove o.entries p })
changed o k p q = Some (with_new_body o k p)

abbrev pub put_back : ObjectMap → Fid → Option Object → ObjectMap
put_back m fid None = remove m fid
put_back m fid (Some o) = insert m fid o

-- the object becomes a body, if the bytes are one that an object may have
abbrev pub created : ObjectMap → Fid → Result (Body × List ℕ) ImageFault → ObjectMap
created m fid (Ok b) = insert m fid (fresh b.0)
created m fid (Err e) = m

-- an update on an object that isn't there changes nothing
abbrev pub changed_there : ObjectMap → Fid → Option Object → Kind → List ℕ → List ℕ → ObjectMap
changed_there m fid None k p q = m
changed_there m fid (Some o) k p q = put_back m fid (changed o k p q)

abbrev pub after_kind : ObjectMap → Fid → Kind → List ℕ → List ℕ → ObjectMap
after_kind m fid kind.Create p q = created m fid (body_at (length p) p)
after_kind m fid k p q = changed_there m fid (get m fid) k p q

-- the objects after an update
unfoldable pub after : ObjectMap → Update → ObjectMap
after m u = after_kind m u.fid u.kind (param u 0) (param u 1)

abbrev pub after_maybe : ObjectMap → Option Update → ObjectMap
after_maybe m None = m
after_maybe m (Some u) = after m u

-- and after several, one after another
abbrev pub after_all : ObjectMap → List Update → ObjectMap
after_all m [] = m
after_all m (u ∷ us) = after_all (after m u) us
