-- How much an update adds to the image: at most the length of its own spelling.
use Rattle.std.proofs.Common.{◌≡◌, ℕ, ◌+◌, ◌≤◌, Bool, true, false, cond, List, [], ◌∷◌, ◌++◌, length, Option, Some, None, Result, Ok, Err, refl, ap, subst, arith, length-append}
use Rattle.std.specs.Int.{w16, w32, w64}
use Rattle.std.specs.List.{AllByRecursion}
use Rattle.std.specs.FinMap.{get}
use Rattle.byte_grammar.specs.Numbers.{word, zeros, padding}
use Rattle.byte_grammar.proofs.Bytes.{length-zeros}
use Rattle.fid_space.specs.declared.fid.Fid.{Fid}
use Rattle.out_update.specs.declared.update.Update.{Update}
use Rattle.out_update.specs.declared.update.Kind.{Kind}
use Rattle.out_update.specs.declared.update.Kind.TheVariants as kind
use Rattle.out_update.specs.declared.shape.Shape.TheVariants as shape
use Rattle.out_update.specs.Types.{code_of, shapes}
use Rattle.out_update.specs.Spelling.{param_text, fid_bytes, params_text, update_text, updates_text, FitsParams, FitsUpdate}
use Rattle.out_update.specs.Values.{fid_value}
use Rattle.striped_dir.specs.declared.layout.Layout.{Layout}
use Rattle.object_store.specs.declared.body.Body.{Body}
use Rattle.object_store.specs.Bodies.{is_allowed, layout_at}
use Rattle.object_store.specs.declared.fault.ImageFault.{ImageFault}
use Rattle.object_store.specs.ImageReading.{body_at}
use Rattle.tree_model.specs.Fids.{name_cmp}
use Rattle.object_store.specs.Objects.{Object, ObjectMap, fresh}
use Rattle.object_store.specs.Sizes.{padded, entry_size, attribute_size, object_size, size_at, image_size}
use Rattle.object_store.specs.Meaning.{param, with_body, is_directory, attributes_at, with_attributes, with_layout, with_entry, with_parent, with_new_body, changed, put_back, created, changed_there, after_kind, after, after_all}
use Rattle.object_store.specs.ImageText.{image_text}
use Rattle.object_store.proofs.Totals.{weight_at}
use Rattle.object_store.proofs.Keeping.{total-empty, entry_put, entry_less, attribute_set, attribute_less}
use Rattle.object_store.proofs.Images.{image_put, image_taken}
use Rattle.object_store.proofs.Lengths.{two, four, eight, fid_length}
use Rattle.object_store.proofs.Spelled.{image_length}

-- ---- the spelling of an update

params_size : List (List ℕ) → ℕ
params_size [] = 0
params_size (p ∷ ps) = (8 + padded (length p)) + params_size ps

param_length : (p : List ℕ) → length (param_text p) ≡ 8 + padded (length p)
param_length p =
    let pad = zeros (padding (length p)) in
    let a = length-append (word w16 (length p)) (zeros 2 ++ (zeros 4 ++ (p ++ pad))) in
    let b = length-append (zeros 2) (zeros 4 ++ (p ++ pad)) in
    let c = length-append (zeros 4) (p ++ pad) in
    let d = length-append p pad in
    let e = two (length p) in
    let f = length-zeros 2 in
    let g = length-zeros 4 in
    let h = length-zeros (padding (length p)) in
    omega (arith, a, b, c, d, e, f, g, h)

params_length : (ps : List (List ℕ)) → length (params_text ps) ≡ params_size ps
unfolding params_text params_size
params_length [] = refl
params_length (p ∷ ps) =
    let a = length-append (param_text p) (params_text ps) in
    let b = param_length p in
    let c = params_length ps in
    omega (arith, a, b, c)

update_length : (u : Update) → length (update_text u) ≡ 32 + params_size u.params
update_length u =
    let ps = params_text u.params in
    let a = length-append (word w16 (code_of u.kind)) (word w16 (length u.params) ++ (word w32 0 ++ (word w64 u.batch ++ (fid_bytes u.fid ++ ps)))) in
    let b = length-append (word w16 (length u.params)) (word w32 0 ++ (word w64 u.batch ++ (fid_bytes u.fid ++ ps))) in
    let c = length-append (word w32 0) (word w64 u.batch ++ (fid_bytes u.fid ++ ps)) in
    let d = length-append (word w64 u.batch) (fid_bytes u.fid ++ ps) in
    let e = length-append (fid_bytes u.fid) ps in
    let f = two (code_of u.kind) in
    let g = two (length u.params) in
    let h = four 0 in
    let i = eight u.batch in
    let j = fid_length u.fid in
    let k = params_length u.params in
    omega (arith, a, b, c, d, e, f, g, h, i, j, k)

-- two parameters, which may be missing
two_params : (u : Update) (ps : List (List ℕ)) → u.params ≡ ps → padded (length (param u 0)) + padded (length (param u 1)) ≤ params_size ps
unfolding params_size padding
two_params u [] is =
    let p = ap (λ l. padded (length (param (record u { params = l }) 0))) is in
    let q = ap (λ l. padded (length (param (record u { params = l }) 1))) is in
    omega (arith, p, q)
two_params u (a ∷ []) is =
    let p = ap (λ l. padded (length (param (record u { params = l }) 0))) is in
    let q = ap (λ l. padded (length (param (record u { params = l }) 1))) is in
    omega (arith, p, q)
two_params u (a ∷ b ∷ ps) is =
    let p = ap (λ l. padded (length (param (record u { params = l }) 0))) is in
    let q = ap (λ l. padded (length (param (record u { params = l }) 1))) is in
    omega (arith, p, q)

body_long : (ps : List (List ℕ)) → FitsParams (shape.Body ∷ []) ps → 48 ≤ params_size ps
unfolding FitsParams params_size
body_long [] h = absurd h
body_long (p ∷ ps) h = let a = h.0.length_allowed in grind (arith, a)

-- ---- what is added to an object

-- an object is at most so much longer, if there is still one
abbrev Grows : Object → ℕ → Option Object → Type 0
Grows o n None = Unit {0}
Grows o n (Some new) = object_size new ≤ object_size o + n

same_body : (o : Object) (b : Body) → object_size (with_body o b) ≡ object_size o
unfolding with_body object_size
same_body o b = by_test (is_allowed b)
  where
    by_test : (t : Bool) → object_size (cond t (record o { body = b }) o) ≡ object_size o
    by_test true = refl
    by_test false = refl

no_more : (old new : ℕ) → new ≡ old → new ≤ old + 0
no_more old new is = omega (arith, is)

same_attributes : (o : Object) (a : Option (ℕ × (ℕ × ℕ))) → object_size (with_attributes o a) ≡ object_size o
same_attributes o None = refl
same_attributes o (Some a) = same_body o _

same_layout : (o : Object) (l : Option (Layout × List ℕ)) → object_size (with_layout o l) ≡ object_size o
same_layout o None = refl
same_layout o (Some l) = same_body o _

same_parent : (o : Object) (fid : Option (Fid × List ℕ)) → object_size (with_parent o fid) ≡ object_size o
same_parent o None = refl
same_parent o (Some fid) = by_test (is_directory o.body.kind)
  where
    by_test : (t : Bool) → object_size (cond t (with_body o (record o.body { fid = fid.0 })) o) ≡ object_size o
    by_test true = same_body o (record o.body { fid = fid.0 })
    by_test false = refl

entry_grows : (o : Object) (name : List ℕ) (fid : Option (Fid × List ℕ)) → object_size (with_entry o name fid) ≤ object_size o + (24 + padded (length name))
entry_grows o name None = omega arith
entry_grows o name (Some fid) = let e = entry_put o name fid.0 in omega (arith, e)

link_taken : (o : Object) (t : Bool) (p : List ℕ) → Grows o 0 (cond t None (Some (with_new_body o kind.RefDel p)))
link_taken o true p = tt
link_taken o false p = no_more _ _ (same_body o _)

-- how much an update adds at most, by its type and its two parameters
added : Kind → List ℕ → List ℕ → ℕ
added kind.Create p q = 72
added kind.XattrSet p q = attribute_size p q
added kind.Insert p q = 24 + padded (length p)
added _ p q = 0

grows : (o : Object) (k : Kind) (p q : List ℕ) → Grows o (added k p q) (changed o k p q)
unfolding added
grows o kind.Create p q = omega arith
grows o kind.Destroy p q = tt
grows o kind.RefAdd p q = no_more _ _ (same_body o _)
grows o kind.RefDel p q = link_taken o _ p
grows o kind.AttrSet p q = no_more _ _ (same_attributes o (attributes_at p))
grows o kind.AttrGet p q = omega arith
grows o kind.XattrSet p q = let e = attribute_set o p q in omega (arith, e)
grows o kind.XattrGet p q = omega arith
grows o kind.Lookup p q = omega arith
grows o kind.Insert p q = entry_grows o p (fid_value q)
grows o kind.Delete p q = let e = entry_less o p in omega (arith, e)
grows o kind.XattrDel p q = let e = attribute_less o p in omega (arith, e)
grows o kind.LayoutSet p q = no_more _ _ (same_layout o (layout_at p))
grows o kind.ParentSet p q = no_more _ _ (same_parent o (fid_value p))
grows o kind.Names p q = omega arith
grows o kind.Count p q = omega arith

-- ---- and to all objects

put_grows : (m : ObjectMap) (fid : Fid) (o : Object) (n : ℕ) (new : Option Object) → get m fid ≡ Some o → Grows o n new → image_size (put_back m fid new) ≤ image_size m + n
put_grows m fid o n None there more = let e = image_taken m fid in omega (arith, e)
put_grows m fid o n (Some new) there more =
    let e = image_put m fid new in
    let w = ap (weight_at size_at fid) there in
    omega (arith, e, w, more)

there_grows : (m : ObjectMap) (fid : Fid) (k : Kind) (p q : List ℕ) (x : Option Object) → get m fid ≡ x → image_size (changed_there m fid x k p q) ≤ image_size m + added k p q
there_grows m fid k p q None is = omega arith
there_grows m fid k p q (Some o) is = put_grows m fid o (added k p q) (changed o k p q) is (grows o k p q)

fresh_size : (b : Body) → object_size (fresh b) ≡ 72
unfolding object_size
fresh_size b =
    let e = total-empty name_cmp entry_size in
    let a = total-empty name_cmp attribute_size in
    omega (arith, e, a)

created_grows : (m : ObjectMap) (fid : Fid) (b : Result (Body × List ℕ) ImageFault) → image_size (created m fid b) ≤ image_size m + 72
created_grows m fid (Ok b) = let e = image_put m fid (fresh b.0) in let s = fresh_size b.0 in omega (arith, e, s)
created_grows m fid (Err e) = omega arith

kind_grows : (m : ObjectMap) (fid : Fid) (k : Kind) (p q : List ℕ) → image_size (after_kind m fid k p q) ≤ image_size m + added k p q
kind_grows m fid kind.Create p q = unfold added in created_grows m fid (body_at (length p) p)
kind_grows m fid kind.Destroy p q = there_grows m fid kind.Destroy p q (get m fid) refl
kind_grows m fid kind.RefAdd p q = there_grows m fid kind.RefAdd p q (get m fid) refl
kind_grows m fid kind.RefDel p q = there_grows m fid kind.RefDel p q (get m fid) refl
kind_grows m fid kind.AttrSet p q = there_grows m fid kind.AttrSet p q (get m fid) refl
kind_grows m fid kind.AttrGet p q = there_grows m fid kind.AttrGet p q (get m fid) refl
kind_grows m fid kind.XattrSet p q = there_grows m fid kind.XattrSet p q (get m fid) refl
kind_grows m fid kind.XattrGet p q = there_grows m fid kind.XattrGet p q (get m fid) refl
kind_grows m fid kind.Lookup p q = there_grows m fid kind.Lookup p q (get m fid) refl
kind_grows m fid kind.Insert p q = there_grows m fid kind.Insert p q (get m fid) refl
kind_grows m fid kind.Delete p q = there_grows m fid kind.Delete p q (get m fid) refl
kind_grows m fid kind.XattrDel p q = there_grows m fid kind.XattrDel p q (get m fid) refl
kind_grows m fid kind.LayoutSet p q = there_grows m fid kind.LayoutSet p q (get m fid) refl
kind_grows m fid kind.ParentSet p q = there_grows m fid kind.ParentSet p q (get m fid) refl
kind_grows m fid kind.Names p q = there_grows m fid kind.Names p q (get m fid) refl
kind_grows m fid kind.Count p q = there_grows m fid kind.Count p q (get m fid) refl

create_long : (u : Update) → u.kind ≡ kind.Create → FitsUpdate u → 48 ≤ params_size u.params
create_long u is fits = body_long u.params (subst (λ k. FitsParams (shapes k) u.params) is fits.params)

-- what is added is in the spelling
spelled : (u : Update) (k : Kind) → u.kind ≡ k → FitsUpdate u → added k (param u 0) (param u 1) ≤ 32 + params_size u.params
unfolding added
spelled u kind.Create is fits = let e = create_long u is fits in omega (arith, e)
spelled u kind.XattrSet is fits = let e = two_params u u.params refl in omega (arith, e)
spelled u kind.Insert is fits = let e = two_params u u.params refl in omega (arith, e)
spelled u kind.Destroy is fits = omega arith
spelled u kind.RefAdd is fits = omega arith
spelled u kind.RefDel is fits = omega arith
spelled u kind.AttrSet is fits = omega arith
spelled u kind.AttrGet is fits = omega arith
spelled u kind.XattrGet is fits = omega arith
spelled u kind.Lookup is fits = omega arith
spelled u kind.Delete is fits = omega arith
spelled u kind.XattrDel is fits = omega arith
spelled u kind.LayoutSet is fits = omega arith
spelled u kind.ParentSet is fits = omega arith
spelled u kind.Names is fits = omega arith
spelled u kind.Count is fits = omega arith

pub one_grows : (m : ObjectMap) (u : Update) → FitsUpdate u → length (image_text (after m u)) ≤ length (image_text m) + length (update_text u)
unfolding after
one_grows m u fits =
    let a = image_length (after m u) in
    let b = image_length m in
    let c = kind_grows m u.fid u.kind (param u 0) (param u 1) in
    let d = spelled u u.kind refl fits in
    let e = update_length u in
    omega (arith, a, b, c, d, e)

pub all_grow : (m : ObjectMap) (us : List Update) → AllByRecursion FitsUpdate us → length (image_text (after_all m us)) ≤ length (image_text m) + length (updates_text us)
unfolding updates_text
all_grow m [] fit = omega arith
all_grow m (u ∷ us) fit =
    let a = one_grows m u fit.0 in
    let b = all_grow (after m u) us fit.1 in
    let c = length-append (update_text u) (updates_text us) in
    omega (arith, a, b, c)
