-- Reading an image from left to right: the objects, or the place of the first field that isn't as stated.
use Rattle.std.specs.Prelude.{◌≡◌, ℕ, zero, suc, ◌+◌, ◌-◌, ◌==◌, ◌&&◌, nat_le, nat_lt, Bool, true, if◌then◌else◌, List, length, take, drop, Option, Some, None, Result, Ok, Err}
use Rattle.std.specs.Int.{Width, w8, w16, w32, w64, byte_len}
use Rattle.std.specs.declared.cmp.Ordering.{Ordering}
use Rattle.std.specs.Ordering.{is_lt}
use Rattle.std.specs.FinMap.{FinMap, empty, insert}
use Rattle.byte_grammar.specs.Numbers.{worth, first_set, padding}
use Rattle.fid_space.specs.declared.fid.Fid.{Fid}
use Rattle.tree_model.specs.Fids.{fid_cmp, name_cmp}
use Rattle.out_update.specs.Names.{name_fault}
use Rattle.striped_dir.specs.declared.layout.Layout.{Layout}
use Rattle.object_store.specs.declared.body.Body.{Body}
use Rattle.object_store.specs.declared.body.ObjectKind.{ObjectKind}
use Rattle.object_store.specs.declared.body.ObjectKind.TheVariants.{File, Directory, Stripe}
use Rattle.object_store.specs.declared.limits.Limits.{Limits}
use Rattle.object_store.specs.declared.fault.ImageFault.{ImageFault}
use Rattle.object_store.specs.declared.fault.ImageFault.TheVariants as fault
use Rattle.object_store.specs.Objects.{Object, ObjectMap, kind_of}

infixl 10 ◌>>=◌
abbrev pub ◌>>=◌ : {A B : Type 0} → Result A ImageFault → (A → Result B ImageFault) → Result B ImageFault
(Ok x) >>= f = f x
(Err e) >>= f = Err e

-- what a function returned, seen by view, is what reading gives
abbrev pub Sees : {X Y : Type 0} → (X → Y) → Result X ImageFault → Result Y ImageFault → Type 0
Sees view (Ok x) read = read ≡ Ok (view x)
Sees view (Err e) read = read ≡ Err e

-- the same, unless memory ran out
abbrev pub Fails : {Y : Type 0} → ImageFault → Result Y ImageFault → Type 0
Fails fault.Memory read = Unit {0}
Fails e read = read ≡ Err e

abbrev pub Gives : {X Y : Type 0} → (X → Y) → Result X ImageFault → Result Y ImageFault → Type 0
Gives view (Ok x) read = read ≡ Ok (view x)
Gives view (Err e) read = Fails e read

-- ---- fields

-- the place of what is left of an input of len bytes
abbrev pub at : ℕ → List ℕ → ℕ
at len rest = len - length rest

-- n bytes and what is left behind them, or the input ends there
unfoldable pub field_at : ℕ → ℕ → List ℕ → Result (List ℕ × List ℕ) ImageFault
field_at len n rest = if nat_lt (length rest) n then Err (fault.BadImage len) else Ok (take n rest, drop n rest)

-- a number from low to high, else the fault is where it begins
unfoldable pub number_at : Width → ℕ → ℕ → ℕ → List ℕ → Result (ℕ × List ℕ) ImageFault
number_at w low high len rest = do
  bytes ← field_at len (byte_len w) rest
  if nat_le low (worth w bytes.0) && nat_le (worth w bytes.0) high then Ok (worth w bytes.0, bytes.1) else Err (fault.BadImage (at len rest))

-- on, unless a byte is bad; the fault is where that byte stands
abbrev pub unless_bad : Option ℕ → ℕ → List ℕ → Result (List ℕ) ImageFault
unless_bad None place rest = Ok rest
unless_bad (Some i) place rest = Err (fault.BadImage (place + i))

unfoldable pub zeros_at : ℕ → ℕ → List ℕ → Result (List ℕ) ImageFault
zeros_at len n rest = do
  bytes ← field_at len n rest
  unless_bad (first_set bytes.0) (at len rest) bytes.1

-- n bytes, and zeros up to a multiple of 8
unfoldable pub padded_at : ℕ → ℕ → List ℕ → Result (List ℕ × List ℕ) ImageFault
padded_at len n rest = do
  bytes ← field_at len n rest
  after ← zeros_at len (padding n) bytes.1
  Ok (bytes.0, after)

-- a FID whose numbers are at most these
unfoldable pub fid_at : ℕ → ℕ → ℕ → List ℕ → Result (Fid × List ℕ) ImageFault
fid_at seq number len rest = do
  a ← number_at w64 0 seq len rest
  b ← number_at w32 0 number len a.1
  c ← number_at w32 0 number len b.1
  Ok (record { seq = a.0; oid = b.0; ver = c.0 }, c.1)

abbrev pub most32 : ℕ
most32 = 0xffffffff

abbrev pub most64 : ℕ
most64 = 0xffffffffffffffff

-- ---- a body

-- what the numbers of a body of this kind are at most, and its links at least
abbrev pub limits_of : ObjectKind → Limits
limits_of File = record { mode = 4095; owner = most32; least_links = 1; links = 65000; stripes = 0; generation = 0; seq = 0; number = 0; index = 0 }
limits_of Directory = record { mode = 4095; owner = most32; least_links = 2; links = 2; stripes = 16; generation = 0x0ffffffe; seq = most64; number = most32; index = 0 }
limits_of Stripe = record { mode = 0; owner = 0; least_links = 0; links = 0; stripes = 0; generation = 0; seq = most64; number = most32; index = 15 }

unfoldable pub layout_at : Limits → ℕ → List ℕ → Result (Layout × List ℕ) ImageFault
layout_at most len rest = do
  count ← number_at w8 0 most.stripes len rest
  start ← number_at w8 0 (if count.0 == 0 then 0 else 15) len count.1
  space ← number_at w16 0 0 len start.1
  generation ← number_at w32 0 most.generation len space.1
  Ok (record { count = count.0; start = start.0; generation = generation.0 }, generation.1)

unfoldable pub numbers_at : ObjectKind → Limits → ℕ → List ℕ → Result (Body × List ℕ) ImageFault
numbers_at kind most len rest = do
  mode ← number_at w32 0 most.mode len rest
  uid ← number_at w32 0 most.owner len mode.1
  gid ← number_at w32 0 most.owner len uid.1
  links ← number_at w32 most.least_links most.links len gid.1
  layout ← layout_at most len links.1
  fid ← fid_at most.seq most.number len layout.1
  index ← number_at w32 0 most.index len fid.1
  Ok (record { kind = kind; mode = mode.0; uid = uid.0; gid = gid.0; links = links.0; layout = layout.0; fid = fid.0; index = index.0 }, index.1)

unfoldable pub body_at : ℕ → List ℕ → Result (Body × List ℕ) ImageFault
body_at len rest = do
  kind ← number_at w32 1 3 len rest
  numbers_at (kind_of kind.0) (limits_of (kind_of kind.0)) len kind.1

-- ---- items by rising keys

-- a key may stand behind the last one
abbrev pub rises : {K : Type 0} → (K → K → Ordering) → Option K → K → Bool
rises cmp None key = true
rises cmp (Some last) key = is_lt (cmp last key)

-- so many items behind those that are there
unfoldable pub items_at : {K X : Type 0} {R : K → K → Ordering} → (Option K → List ℕ → Result ((K × X) × List ℕ) ImageFault) → ℕ → Option K → FinMap R X → List ℕ → Result (FinMap R X × List ℕ) ImageFault
items_at item zero last m rest = Ok (m, rest)
items_at item (suc n) last m rest = do
  x ← item last rest
  items_at item n (Some x.0.0) (insert m x.0.0 x.0.1) x.1

-- A name out of order is bad at its first byte.
abbrev pub bad_name : Option (List ℕ) → List ℕ → Option ℕ
bad_name last name = if rises name_cmp last name then name_fault name else Some 0

unfoldable pub name_at : ℕ → ℕ → Option (List ℕ) → List ℕ → Result (List ℕ × List ℕ) ImageFault
name_at len n last rest = do
  name ← field_at len n rest
  a ← unless_bad (bad_name last name.0) (at len rest) name.1
  b ← zeros_at len (padding n) a
  Ok (name.0, b)

unfoldable pub entry_at : ℕ → Option (List ℕ) → List ℕ → Result ((List ℕ × Fid) × List ℕ) ImageFault
entry_at len last rest = do
  size ← number_at w16 1 255 len rest
  a ← number_at w16 0 0 len size.1
  b ← number_at w32 0 0 len a.1
  fid ← fid_at most64 most32 len b.1
  name ← name_at len size.0 last fid.1
  Ok ((name.0, fid.0), name.1)

unfoldable pub attribute_at : ℕ → Option (List ℕ) → List ℕ → Result ((List ℕ × List ℕ) × List ℕ) ImageFault
attribute_at len last rest = do
  size ← number_at w16 1 255 len rest
  count ← number_at w16 0 4096 len size.1
  a ← number_at w32 0 0 len count.1
  name ← name_at len size.0 last a.1
  value ← padded_at len count.0 name.1
  Ok ((name.0, value.0), value.1)

-- A FID out of order is bad at its first byte.
unfoldable pub rising_fid_at : ℕ → Option Fid → List ℕ → Result (Fid × List ℕ) ImageFault
rising_fid_at len last rest = do
  fid ← fid_at most64 most32 len rest
  if rises fid_cmp last fid.0 then Ok fid else Err (fault.BadImage (at len rest))

unfoldable pub object_at : ℕ → Option Fid → List ℕ → Result ((Fid × Object) × List ℕ) ImageFault
object_at len last rest = do
  fid ← rising_fid_at len last rest
  body ← body_at len fid.1
  count ← number_at w32 0 most32 len body.1
  attributes ← number_at w32 0 most32 len count.1
  names ← items_at (entry_at len) count.0 None empty attributes.1
  values ← items_at (attribute_at len) attributes.0 None empty names.1
  Ok ((fid.0, record { body = body.0; entries = names.0; attributes = values.0 }), values.1)

unfoldable pub objects_at : ℕ → List ℕ → Result (ObjectMap × ℕ) ImageFault
objects_at len bytes = do
  count ← number_at w32 0 most32 len bytes
  space ← number_at w32 0 0 len count.1
  objects ← items_at (object_at len) count.0 None empty space.1
  Ok (objects.0, at len objects.1)

-- the objects, and how many bytes their image has
abbrev pub image_at : List ℕ → Result (ObjectMap × ℕ) ImageFault
image_at bytes = objects_at (length bytes) bytes
