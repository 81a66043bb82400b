-- The objects of a target have an image, whatever updates are done.
use Rattle.std.proofs.Common.{◌≡◌, ℕ, ◌*◌, ◌^◌, ◌<◌, ◌≤◌, ◌==◌, Bool, true, false, cond, nat_lt, List, [], ◌∷◌, length, take, drop, Option, Some, None, IfSome, Result, Ok, Err, refl, sym, ap, subst, arith}
use Rattle.std.specs.List.{AllByRecursion}
use Rattle.std.specs.Int.{Width, w32, w64, byte_len}
use Rattle.std.proofs.lemmas.Option.{none-some, same_Some}
use Rattle.std.specs.FinMap.{empty, entries, get, insert, remove, len-entries}
use Rattle.byte_grammar.specs.Numbers.{IsBytes, worth}
use Rattle.byte_grammar.specs.Values.{◌>>=◌, part_at, number_at}
use Rattle.byte_grammar.proofs.Bytes.{IsBytes-take, IsBytes-drop, IsWide, wide32, wide64}
use Rattle.fid_space.specs.declared.fid.Fid.{Fid}
use Rattle.fid_space.specs.FidText.{IsFid}
use Rattle.tree_model.specs.Fids.{fid_cmp, name_cmp}
use Rattle.tree_model.specs.Names.{IsName}
use Rattle.tree_model.specs.Tree.{root_fid}
use Rattle.tree_model.proofs.Maps.{fids_total, exact_fids, names_total, exact_names}
use Rattle.out_update.specs.declared.update.Update.{Update}
use Rattle.out_update.specs.declared.update.Kind.{Kind}
use Rattle.out_update.specs.declared.update.Kind.TheVariants as kind
use Rattle.out_update.specs.declared.shape.Shape.{Shape}
use Rattle.out_update.specs.declared.shape.Shape.TheVariants as shape
use Rattle.out_update.specs.Types.{shapes}
use Rattle.out_update.specs.Spelling.{FitsParams}
use Rattle.out_update.specs.Values.{fid_value}
use Rattle.striped_dir.specs.declared.layout.Layout.{Layout}
use Rattle.object_store.specs.declared.body.Body.{Body}
use Rattle.object_store.specs.declared.fault.ImageFault.{ImageFault}
use Rattle.object_store.specs.Bodies.{is_allowed, FitsBody, layout_at}
use Rattle.object_store.specs.Objects.{Object, ObjectMap, fresh, root_body, first_objects}
use Rattle.object_store.specs.Sizes.{total, entry_size, attribute_size, object_size, size_at, image_size}
use Rattle.object_store.specs.ImageText.{image_text, FitsEntry, FitsAttribute, FitsObject, FitsObjects}
use Rattle.object_store.specs.ImageReading.{body_at}
use Rattle.object_store.specs.Meaning.{param, with_body, is_directory, attributes_at, with_attributes, with_layout, with_entry, with_parent, with_new_body, changed, put_back, created, changed_there, after_kind, after, after_all}
use Rattle.object_store.proofs.Allowed.{root_allowed}
use Rattle.object_store.proofs.ImageBodies.{body_takes}
use Rattle.object_store.proofs.ImageItems.{name_fits}
use Rattle.object_store.proofs.Spelled.{image_length}
use Rattle.target_state.proofs.Mapped.{Each, each_of_none, each_put, each_taken, each_of, all_of, AreLight, all_light, all_few}

-- ---- an object

abbrev pub HasEntries : Object → Type 0
HasEntries o = Each name_cmp names_total exact_names FitsEntry o.entries

abbrev pub HasAttributes : Object → Type 0
HasAttributes o = Each name_cmp names_total exact_names FitsAttribute o.attributes

-- an object under a FID has an image, if there aren't too many entries and attributes
pub record Has (e : Fid × Object) : Type 0 where
  pub fid : IsFid e.0
  pub body : FitsBody e.1.body
  pub entries : HasEntries e.1
  pub attributes : HasAttributes e.1

-- and so has each
abbrev pub AllHave : ObjectMap → Type 0
AllHave m = Each fid_cmp fids_total exact_fids Has m

-- an update of a record
pub record IsSound (u : Update) : Type 0 where
  pub fid : IsFid u.fid
  pub params : FitsParams (shapes u.kind) u.params
  pub bytes : AllByRecursion IsBytes u.params

-- ---- its parameters

nothing : IsBytes []
nothing i = omega arith

first_bytes : (u : Update) (ps : List (List ℕ)) → u.params ≡ ps → AllByRecursion IsBytes ps → IsBytes (param u 0)
first_bytes u [] is all = subst IsBytes (sym (ap (λ (l : List (List ℕ)). param (record u { params = l }) 0) is)) nothing
first_bytes u (p ∷ ps) is all = subst IsBytes (sym (ap (λ (l : List (List ℕ)). param (record u { params = l }) 0) is)) all.0

second_bytes : (u : Update) (ps : List (List ℕ)) → u.params ≡ ps → AllByRecursion IsBytes ps → IsBytes (param u 1)
second_bytes u [] is all = subst IsBytes (sym (ap (λ (l : List (List ℕ)). param (record u { params = l }) 1) is)) nothing
second_bytes u (p ∷ []) is all = subst IsBytes (sym (ap (λ (l : List (List ℕ)). param (record u { params = l }) 1) is)) nothing
second_bytes u (p ∷ q ∷ ps) is all = subst IsBytes (sym (ap (λ (l : List (List ℕ)). param (record u { params = l }) 1) is)) all.1.0

first_name : (u : Update) (ps : List (List ℕ)) (ss : List Shape) → u.params ≡ ps → AllByRecursion IsBytes ps → FitsParams (shape.Name ∷ ss) ps → IsName (param u 0)
unfolding FitsParams
first_name u [] ss is all fits = absurd fits
first_name u (p ∷ ps) ss is all fits =
    let long = fits.0.length_allowed in
    subst IsName (sym (ap (λ (l : List (List ℕ)). param (record u { params = l }) 0) is)) (name_fits p (grind (arith, long)) (grind (arith, long)) all.0 fits.0.content)

second_short : (u : Update) (ps : List (List ℕ)) → u.params ≡ ps → FitsParams (shape.Name ∷ shape.Value ∷ []) ps → length (param u 1) ≤ 4096
unfolding FitsParams
second_short u [] is fits = absurd fits
second_short u (p ∷ []) is fits = absurd fits.1
second_short u (p ∷ q ∷ ps) is fits =
    let same = ap (λ (l : List (List ℕ)). length (param (record u { params = l }) 1)) is in
    let long = fits.1.0.length_allowed in
    grind (arith, same, long)

-- what is known of the two parameters beside that they are bytes
abbrev AreGood : Kind → List ℕ → List ℕ → Type 0
AreGood kind.XattrSet p q = IsName p × (length q ≤ 4096)
AreGood kind.Insert p q = IsName p
AreGood _ p q = Unit {0}

good : (u : Update) (k : Kind) → u.kind ≡ k → IsSound u → AreGood k (param u 0) (param u 1)
good u kind.Create is sound = tt
good u kind.Destroy is sound = tt
good u kind.RefAdd is sound = tt
good u kind.RefDel is sound = tt
good u kind.AttrSet is sound = tt
good u kind.AttrGet is sound = tt
good u kind.XattrSet is sound =
    let fits = subst (λ k. FitsParams (shapes k) u.params) is sound.params in
    (first_name u u.params (shape.Value ∷ []) refl sound.bytes fits, second_short u u.params refl fits)
good u kind.XattrGet is sound = tt
good u kind.Lookup is sound = tt
good u kind.Insert is sound =
    let fits = subst (λ k. FitsParams (shapes k) u.params) is sound.params in
    first_name u u.params (shape.Fid ∷ []) refl sound.bytes fits
good u kind.Delete is sound = tt
good u kind.XattrDel is sound = tt
good u kind.LayoutSet is sound = tt
good u kind.ParentSet is sound = tt
good u kind.Names is sound = tt
good u kind.Count is sound = tt

-- ---- numbers in bytes

bind_some : {A B : Type 0} (o : Option A) (f : A → Option B) (y : B) → (o >>= f) ≡ Some y → (x : A) × (o ≡ Some x) × (f x ≡ Some y)
bind_some None f y e = absurd (none-some y e)
bind_some (Some x) f y e = (x, refl, e)

part_if : (b : Bool) (t r : List ℕ) (x : List ℕ × List ℕ) → IsBytes t → IsBytes r → cond b None (Some (t, r)) ≡ Some x → IsBytes x.0 × IsBytes x.1
part_if true t r x a b e = absurd (none-some x e)
part_if false t r x a b e =
    let is = same_Some (t, r) x e in
    (subst IsBytes (ap (λ (p : List ℕ × List ℕ). p.0) is) a, subst IsBytes (ap (λ (p : List ℕ × List ℕ). p.1) is) b)

part_bytes : (n : ℕ) (bytes : List ℕ) (x : List ℕ × List ℕ) → IsBytes bytes → part_at n bytes ≡ Some x → IsBytes x.0 × IsBytes x.1
unfolding part_at
part_bytes n bytes x fits e = part_if (nat_lt (length bytes) n) (take n bytes) (drop n bytes) x (IsBytes-take n bytes fits) (IsBytes-drop n bytes fits) e

number_bytes : (w : Width) → IsWide w → (bytes : List ℕ) (x : ℕ × List ℕ) → IsBytes bytes → number_at w bytes ≡ Some x → (x.0 < 2 ^ (8 * byte_len w)) × IsBytes x.1
unfolding number_at
number_bytes w wide bytes x fits e =
    let a = bind_some (part_at (byte_len w) bytes) _ x e in
    let b = part_bytes (byte_len w) bytes a.0 fits a.1 in
    let is = same_Some (worth w a.0.0, a.0.1) x a.2 in
    (subst (λ (n : ℕ). n < 2 ^ (8 * byte_len w)) (ap (λ (p : ℕ × List ℕ). p.0) is) (wide.below a.0.0 b.0), subst IsBytes (ap (λ (p : ℕ × List ℕ). p.1) is) b.1)

fid_fits : (bytes : List ℕ) (x : Fid × List ℕ) → IsBytes bytes → fid_value bytes ≡ Some x → IsFid x.0
unfolding fid_value
fid_fits bytes x fits e =
    let a = bind_some (number_at w64 bytes) _ x e in
    let n = number_bytes w64 wide64 bytes a.0 fits a.1 in
    let b = bind_some (number_at w32 a.0.1) _ x a.2 in
    let m = number_bytes w32 wide32 a.0.1 b.0 n.1 b.1 in
    let c = bind_some (number_at w32 b.0.1) _ x b.2 in
    let k = number_bytes w32 wide32 b.0.1 c.0 m.1 c.1 in
    let read : Fid × List ℕ = (record { seq = a.0.0; oid = b.0.0; ver = c.0.0 }, c.0.1) in
    subst (λ (p : Fid × List ℕ). IsFid p.0) {x = read} (same_Some read x c.2) (n.0, m.0, k.0)

owner_fits : (bytes : List ℕ) (x : ℕ × (ℕ × ℕ)) → IsBytes bytes → attributes_at bytes ≡ Some x → (x.1.0 < 2 ^ 32) × (x.1.1 < 2 ^ 32)
unfolding attributes_at
owner_fits bytes x fits e =
    let a = bind_some (number_at w32 bytes) _ x e in
    let n = number_bytes w32 wide32 bytes a.0 fits a.1 in
    let b = bind_some (number_at w32 a.0.1) _ x a.2 in
    let m = number_bytes w32 wide32 a.0.1 b.0 n.1 b.1 in
    let c = bind_some (number_at w32 b.0.1) _ x b.2 in
    let k = number_bytes w32 wide32 b.0.1 c.0 m.1 c.1 in
    let read : ℕ × (ℕ × ℕ) = (a.0.0, (b.0.0, c.0.0)) in
    subst (λ (p : ℕ × (ℕ × ℕ)). (p.1.0 < 2 ^ 32) × (p.1.1 < 2 ^ 32)) (same_Some read x c.2) (m.0, k.0)

-- ---- an object that is changed

body_if : (fid : Fid) (o : Object) (b : Body) (t : Bool) → is_allowed b ≡ t → Has (fid, o) → (b.uid < 2 ^ 32) × (b.gid < 2 ^ 32) → IsFid b.fid → Has (fid, cond t (record o { body = b }) o)
body_if fid o b true is has owner other = record { fid = has.fid; body = record { allowed = is; owner = owner; fid = other }; entries = has.entries; attributes = has.attributes }
body_if fid o b false is has owner other = has

has_body : (fid : Fid) (o : Object) (b : Body) → Has (fid, o) → (b.uid < 2 ^ 32) × (b.gid < 2 ^ 32) → IsFid b.fid → Has (fid, with_body o b)
unfolding with_body
has_body fid o b has owner other = body_if fid o b (is_allowed b) refl has owner other

has_owner : (fid : Fid) (o : Object) (p : List ℕ) (a : Option (ℕ × (ℕ × ℕ))) → attributes_at p ≡ a → IsBytes p → Has (fid, o) → Has (fid, with_attributes o a)
has_owner fid o p None is bytes has = has
has_owner fid o p (Some a) is bytes has = has_body fid o _ has (owner_fits p a bytes is) has.body.fid

has_layout : (fid : Fid) (o : Object) (l : Option (Layout × List ℕ)) → Has (fid, o) → Has (fid, with_layout o l)
has_layout fid o None has = has
has_layout fid o (Some l) has = has_body fid o _ has has.body.owner has.body.fid

parent_if : (fid other : Fid) (o : Object) (t : Bool) → IsFid other → Has (fid, o) → Has (fid, cond t (with_body o (record o.body { fid = other })) o)
parent_if fid other o true fits has = has_body fid o _ has has.body.owner fits
parent_if fid other o false fits has = has

has_parent : (fid : Fid) (o : Object) (p : List ℕ) (f : Option (Fid × List ℕ)) → fid_value p ≡ f → IsBytes p → Has (fid, o) → Has (fid, with_parent o f)
has_parent fid o p None is bytes has = has
has_parent fid o p (Some f) is bytes has = parent_if fid f.0 o (is_directory o.body.kind) (fid_fits p f bytes is) has

has_entry : (fid : Fid) (o : Object) (name q : List ℕ) (f : Option (Fid × List ℕ)) → fid_value q ≡ f → IsBytes q → IsName name → Has (fid, o) → Has (fid, with_entry o name f)
has_entry fid o name q None is bytes named has = has
has_entry fid o name q (Some f) is bytes named has =
    record { fid = has.fid; body = has.body; entries = each_put name_cmp names_total exact_names FitsEntry o.entries name f.0 has.entries (named, fid_fits q f bytes is); attributes = has.attributes }

less_entry : (fid : Fid) (o : Object) (name : List ℕ) → Has (fid, o) → Has (fid, record o { entries = remove o.entries name })
less_entry fid o name has = record { fid = has.fid; body = has.body; entries = each_taken name_cmp names_total exact_names FitsEntry o.entries name has.entries; attributes = has.attributes }

has_attribute : (fid : Fid) (o : Object) (name value : List ℕ) → FitsAttribute (name, value) → Has (fid, o) → Has (fid, record o { attributes = insert o.attributes name value })
has_attribute fid o name value fits has = record { fid = has.fid; body = has.body; entries = has.entries; attributes = each_put name_cmp names_total exact_names FitsAttribute o.attributes name value has.attributes fits }

less_attribute : (fid : Fid) (o : Object) (name : List ℕ) → Has (fid, o) → Has (fid, record o { attributes = remove o.attributes name })
less_attribute fid o name has = record { fid = has.fid; body = has.body; entries = has.entries; attributes = each_taken name_cmp names_total exact_names FitsAttribute o.attributes name has.attributes }

link_taken : (fid : Fid) (o : Object) (t : Bool) (p : List ℕ) → Has (fid, o) → IfSome (cond t None (Some (with_new_body o kind.RefDel p))) (λ new. Has (fid, new))
link_taken fid o true p has = tt
link_taken fid o false p has = has_body fid o _ has has.body.owner has.body.fid

has_changed : (fid : Fid) (o : Object) (k : Kind) (p q : List ℕ) → IsBytes p → IsBytes q → AreGood k p q → Has (fid, o) → IfSome (changed o k p q) (λ new. Has (fid, new))
has_changed fid o kind.Create p q a b g has = has
has_changed fid o kind.Destroy p q a b g has = tt
has_changed fid o kind.RefAdd p q a b g has = has_body fid o _ has has.body.owner has.body.fid
has_changed fid o kind.RefDel p q a b g has = link_taken fid o _ p has
has_changed fid o kind.AttrSet p q a b g has = has_owner fid o p (attributes_at p) refl a has
has_changed fid o kind.AttrGet p q a b g has = has
has_changed fid o kind.XattrSet p q a b g has = has_attribute fid o p q (g.0, b, g.1) has
has_changed fid o kind.XattrGet p q a b g has = has
has_changed fid o kind.Lookup p q a b g has = has
has_changed fid o kind.Insert p q a b g has = has_entry fid o p q (fid_value q) refl b g has
has_changed fid o kind.Delete p q a b g has = less_entry fid o p has
has_changed fid o kind.XattrDel p q a b g has = less_attribute fid o p has
has_changed fid o kind.LayoutSet p q a b g has = has_layout fid o (layout_at p) has
has_changed fid o kind.ParentSet p q a b g has = has_parent fid o p (fid_value p) refl a has
has_changed fid o kind.Names p q a b g has = has
has_changed fid o kind.Count p q a b g has = has

-- ---- and all objects

back : (m : ObjectMap) (fid : Fid) (new : Option Object) → AllHave m → IfSome new (λ o. Has (fid, o)) → AllHave (put_back m fid new)
back m fid None all has = each_taken fid_cmp fids_total exact_fids Has m fid all
back m fid (Some o) all has = each_put fid_cmp fids_total exact_fids Has m fid o all has

there : (m : ObjectMap) (fid : Fid) (k : Kind) (p q : List ℕ) (x : Option Object) → IsBytes p → IsBytes q → AreGood k p q → AllHave m → get m fid ≡ x → AllHave (changed_there m fid x k p q)
there m fid k p q None a b g all is = all
there m fid k p q (Some o) a b g all is = back m fid (changed o k p q) all (has_changed fid o k p q a b g (subst (λ (x : Option Object). IfSome x (λ y. Has (fid, y))) is (all fid)))

has_fresh : (fid : Fid) (b : Body) → IsFid fid → FitsBody b → Has (fid, fresh b)
has_fresh fid b is fits = record { fid = is; body = fits; entries = each_of_none name_cmp names_total exact_names FitsEntry; attributes = each_of_none name_cmp names_total exact_names FitsAttribute }

made : (m : ObjectMap) (fid : Fid) (p : List ℕ) (r : Result (Body × List ℕ) ImageFault) → IsFid fid → IsBytes p → AllHave m → body_at (length p) p ≡ r → AllHave (created m fid r)
made m fid p (Ok b) is bytes all e =
    let t = body_takes (length p) p b.0 b.1 bytes e in
    each_put fid_cmp fids_total exact_fids Has m fid (fresh b.0) all (has_fresh fid b.0 is (record { allowed = t.1; owner = (t.2, t.3); fid = t.4 }))
made m fid p (Err e) is bytes all is_err = all

by_kind : (m : ObjectMap) (fid : Fid) (k : Kind) (p q : List ℕ) → IsFid fid → IsBytes p → IsBytes q → AreGood k p q → AllHave m → AllHave (after_kind m fid k p q)
by_kind m fid kind.Create p q is a b g all = made m fid p (body_at (length p) p) is a all refl
by_kind m fid kind.Destroy p q is a b g all = there m fid kind.Destroy p q (get m fid) a b g all refl
by_kind m fid kind.RefAdd p q is a b g all = there m fid kind.RefAdd p q (get m fid) a b g all refl
by_kind m fid kind.RefDel p q is a b g all = there m fid kind.RefDel p q (get m fid) a b g all refl
by_kind m fid kind.AttrSet p q is a b g all = there m fid kind.AttrSet p q (get m fid) a b g all refl
by_kind m fid kind.AttrGet p q is a b g all = there m fid kind.AttrGet p q (get m fid) a b g all refl
by_kind m fid kind.XattrSet p q is a b g all = there m fid kind.XattrSet p q (get m fid) a b g all refl
by_kind m fid kind.XattrGet p q is a b g all = there m fid kind.XattrGet p q (get m fid) a b g all refl
by_kind m fid kind.Lookup p q is a b g all = there m fid kind.Lookup p q (get m fid) a b g all refl
by_kind m fid kind.Insert p q is a b g all = there m fid kind.Insert p q (get m fid) a b g all refl
by_kind m fid kind.Delete p q is a b g all = there m fid kind.Delete p q (get m fid) a b g all refl
by_kind m fid kind.XattrDel p q is a b g all = there m fid kind.XattrDel p q (get m fid) a b g all refl
by_kind m fid kind.LayoutSet p q is a b g all = there m fid kind.LayoutSet p q (get m fid) a b g all refl
by_kind m fid kind.ParentSet p q is a b g all = there m fid kind.ParentSet p q (get m fid) a b g all refl
by_kind m fid kind.Names p q is a b g all = there m fid kind.Names p q (get m fid) a b g all refl
by_kind m fid kind.Count p q is a b g all = there m fid kind.Count p q (get m fid) a b g all refl

one_after : (m : ObjectMap) (u : Update) → IsSound u → AllHave m → AllHave (after m u)
unfolding after
one_after m u sound all = by_kind m u.fid u.kind (param u 0) (param u 1) sound.fid (first_bytes u u.params refl sound.bytes) (second_bytes u u.params refl sound.bytes) (good u u.kind refl sound) all

pub all_after : (m : ObjectMap) (us : List Update) → AllByRecursion IsSound us → AllHave m → AllHave (after_all m us)
all_after m [] sound all = all
all_after m (u ∷ us) sound all = all_after (after m u) us sound.1 (one_after m u sound.0 all)

-- ---- by what has an image

has_one : (e : Fid × Object) → FitsObject e → Has e
has_one e fits = record {
  fid = fits.fid;
  body = record { allowed = fits.body; owner = fits.owner; fid = fits.other };
  entries = each_of name_cmp names_total exact_names FitsEntry e.1.entries fits.each_entry;
  attributes = each_of name_cmp names_total exact_names FitsAttribute e.1.attributes fits.each_attribute;
}

has_each : (es : List (Fid × Object)) → AllByRecursion FitsObject es → AllByRecursion Has es
has_each [] fits = tt
has_each (e ∷ es) fits = (has_one e fits.0, has_each es fits.1)

pub all_have : (m : ObjectMap) → FitsObjects m → AllHave m
all_have m fits = each_of fid_cmp fids_total exact_fids Has m (has_each (entries m) fits.each)

some_entry : (name : List ℕ) (fid : Fid) → 1 ≤ entry_size name fid
some_entry name fid = omega arith

some_attribute : (name value : List ℕ) → 1 ≤ attribute_size name value
some_attribute name value = omega arith

some_object : (fid : Fid) (o : Object) → 1 ≤ size_at fid o
unfolding object_size
some_object fid o = omega arith

fits_one : (e : Fid × Object) → Has e → size_at e.0 e.1 < 2 ^ 32 → FitsObject e
unfolding object_size
fits_one e has small =
    let a = all_few entry_size some_entry (entries e.1.entries) in
    let b = all_few attribute_size some_attribute (entries e.1.attributes) in
    let c = len-entries e.1.entries in
    let d = len-entries e.1.attributes in
    record {
      fid = has.fid;
      body = has.body.allowed;
      owner = has.body.owner;
      other = has.body.fid;
      few_entries = omega (arith, small, a, b, c, d);
      few_attributes = omega (arith, small, a, b, c, d);
      each_entry = all_of name_cmp names_total exact_names FitsEntry e.1.entries has.entries;
      each_attribute = all_of name_cmp names_total exact_names FitsAttribute e.1.attributes has.attributes;
    }

fits_each : (most : ℕ) (es : List (Fid × Object)) → most < 2 ^ 32 → AreLight size_at most es → AllByRecursion Has es → AllByRecursion FitsObject es
fits_each most [] small light has = tt
fits_each most (e ∷ es) small light has =
    let low = light.0 in
    (fits_one e has.0 (omega (arith, small, low)), fits_each most es small light.1 has.1)

pub all_fit : (m : ObjectMap) → AllHave m → length (image_text m) < 2 ^ 32 → FitsObjects m
unfolding image_size
all_fit m all small =
    let long = image_length m in
    let few = all_few size_at some_object (entries m) in
    let count = len-entries m in
    record {
      few = omega (arith, small, long, few, count);
      each = fits_each (total size_at (entries m)) (entries m) (omega (arith, small, long)) (all_light size_at (total size_at (entries m)) (entries m) (omega arith)) (all_of fid_cmp fids_total exact_fids Has m all);
    }

pub fit_after : (m : ObjectMap) (us : List Update) → FitsObjects m → AllByRecursion IsSound us → length (image_text (after_all m us)) < 2 ^ 32 → FitsObjects (after_all m us)
fit_after m us fits sound small = all_fit (after_all m us) (all_after m us sound (all_have m fits)) small

-- ---- at first

first_if : (b : Bool) → AllHave (cond b (insert empty root_fid (fresh root_body)) empty)
first_if true = each_put fid_cmp fids_total exact_fids Has empty root_fid (fresh root_body) (each_of_none fid_cmp fids_total exact_fids Has)
    (has_fresh root_fid root_body (omega arith, omega arith, omega arith) (record { allowed = root_allowed; owner = (omega arith, omega arith); fid = (omega arith, omega arith, omega arith) }))
first_if false = each_of_none fid_cmp fids_total exact_fids Has

pub first_have : (index : ℕ) → AllHave (first_objects index)
first_have index = first_if (index == 0)
