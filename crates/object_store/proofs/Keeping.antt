-- What holds of an object that is kept holds of it again after each change.
use Rattle.std.proofs.Common.{◌≡◌, ◌≤◌, ◌<◌, ◌^◌, ◌+◌, ◌-◌, ℕ, Bool, true, false, cond, List, [], ◌∷◌, length, Option, Some, None, IfSome, is_some, refl, sym, ap, subst, ◌∙◌, arith}
use Rattle.std.specs.FinMap.{empty, entries, get, insert, remove, len, len-empty, len-entries, get-empty, get-insert, get-remove, len-insert, len-remove}
use Rattle.std.specs.declared.cmp.Ordering.{Ordering}
use Rattle.std.specs.Ordering.{eq_by_cmp}
use Rattle.fid_space.specs.declared.fid.Fid.{Fid}
use Rattle.tree_model.specs.Fids.{name_cmp}
use Rattle.tree_model.proofs.Maps.{names_total, exact_names}
use Rattle.object_store.specs.declared.body.Body.{Body}
use Rattle.object_store.specs.Bodies.{is_allowed}
use Rattle.object_store.specs.Objects.{Object, fresh}
use Rattle.object_store.specs.Sizes.{IsStored, object_size, total, entry_size, attribute_size}
use Rattle.object_store.proofs.Totals.{total-insert, total-remove, weight_at}

total_of_none : {K X : Type 0} (w : K → X → ℕ) (es : List (K × X)) → length es ≡ 0 → total w es ≡ 0
total_of_none w [] e = refl
total_of_none w (e ∷ es) is = absurd (omega (arith, is))

pub total-empty : {K X : Type 0} (R : K → K → Ordering) (w : K → X → ℕ) → total w (entries (empty {X = X} {R = R})) ≡ 0
total-empty {X = X} R w = total_of_none w _ (sym (len-entries (empty {X = X} {R = R})) ∙ len-empty R X)

pub stored_fresh : (b : Body) → is_allowed b ≡ true → IsStored (fresh b) 72
unfolding object_size
stored_fresh b h =
    let e = total-empty name_cmp entry_size in
    let a = total-empty name_cmp attribute_size in
    let le = len-empty name_cmp Fid in
    let la = len-empty name_cmp (List ℕ) in
    record {
      body = h;
      few_entries = omega (arith, le);
      few_attributes = omega (arith, la);
      values = λ name. subst (λ o. IfSome o (λ v. length v ≤ 4096)) (sym (get-empty {X = List ℕ} name_cmp name)) tt;
      exact = omega (arith, e, a);
    }

pub stored_body : (o : Object) (b : Body) (size : ℕ) → IsStored o size → is_allowed b ≡ true → IsStored (record o { body = b }) size
unfolding object_size
stored_body o b size s h = record { body = h; few_entries = s.few_entries; few_attributes = s.few_attributes; values = s.values; exact = s.exact }

-- ---- entries

pub stored_entry : (o : Object) (name : List ℕ) (fid : Fid) (old new : ℕ) → IsStored o old → len (insert o.entries name fid) < 2 ^ 32 → new ≡ object_size (record o { entries = insert o.entries name fid })
    → IsStored (record o { entries = insert o.entries name fid }) new
stored_entry o name fid old new s few is = record { body = s.body; few_entries = few; few_attributes = s.few_attributes; values = s.values; exact = is }

-- an entry that is there gets another FID, or there is one more
pub entry_again : (o : Object) (name : List ℕ) (fid was : Fid) → get o.entries name ≡ Some was
    → (object_size (record o { entries = insert o.entries name fid }) ≡ object_size o) × (len (insert o.entries name fid) ≡ len o.entries)
unfolding object_size
entry_again o name fid was is =
    let t = total-insert name_cmp names_total exact_names entry_size o.entries name fid in
    let w = ap (weight_at entry_size name) is in
    (omega (arith, t, w), len-insert names_total o.entries name fid ∙ ap (λ x. cond (is_some x) (len o.entries) (len o.entries + 1)) is)

pub entry_more : (o : Object) (name : List ℕ) (fid : Fid) → get o.entries name ≡ None
    → (object_size (record o { entries = insert o.entries name fid }) ≡ object_size o + entry_size name fid) × (len (insert o.entries name fid) ≡ len o.entries + 1)
unfolding object_size
entry_more o name fid is =
    let t = total-insert name_cmp names_total exact_names entry_size o.entries name fid in
    let w = ap (weight_at entry_size name) is in
    (omega (arith, t, w), len-insert names_total o.entries name fid ∙ ap (λ x. cond (is_some x) (len o.entries) (len o.entries + 1)) is)

-- an entry more, or another FID under its name
pub entry_put : (o : Object) (name : List ℕ) (fid : Fid)
    → object_size (record o { entries = insert o.entries name fid }) + weight_at entry_size name (get o.entries name) ≡ object_size o + entry_size name fid
unfolding object_size
entry_put o name fid =
    let t = total-insert name_cmp names_total exact_names entry_size o.entries name fid in
    omega (arith, t)

-- an entry less
pub entry_less : (o : Object) (name : List ℕ) → object_size (record o { entries = remove o.entries name }) + weight_at entry_size name (get o.entries name) ≡ object_size o
unfolding object_size
entry_less o name =
    let t = total-remove name_cmp names_total exact_names entry_size o.entries name in
    omega (arith, t)

fewer : (a : ℕ) (b : Bool) (c : ℕ) → a ≡ cond b (c - 1) c → a ≤ c
fewer a true c is = omega (arith, is)
fewer a false c is = omega (arith, is)

pub stored_without : (o : Object) (name : List ℕ) (old new : ℕ) → IsStored o old → new ≡ object_size (record o { entries = remove o.entries name }) → IsStored (record o { entries = remove o.entries name }) new
stored_without o name old new s is =
    let n = fewer (len (remove o.entries name)) (is_some (get o.entries name)) (len o.entries) (len-remove names_total o.entries name) in
    let f = s.few_entries in
    record { body = s.body; few_entries = omega (arith, n, f); few_attributes = s.few_attributes; values = s.values; exact = is }

-- ---- attributes

pub attribute_set : (o : Object) (name value : List ℕ)
    → object_size (record o { attributes = insert o.attributes name value }) + weight_at attribute_size name (get o.attributes name) ≡ object_size o + attribute_size name value
unfolding object_size
attribute_set o name value =
    let t = total-insert name_cmp names_total exact_names attribute_size o.attributes name value in
    omega (arith, t)

pub attribute_count : (o : Object) (name value : List ℕ) (x : Option (List ℕ)) → get o.attributes name ≡ x → len (insert o.attributes name value) ≡ cond (is_some x) (len o.attributes) (len o.attributes + 1)
attribute_count o name value x is = len-insert names_total o.attributes name value ∙ ap (λ y. cond (is_some y) (len o.attributes) (len o.attributes + 1)) is

pub attribute_less : (o : Object) (name : List ℕ) → object_size (record o { attributes = remove o.attributes name }) + weight_at attribute_size name (get o.attributes name) ≡ object_size o
unfolding object_size
attribute_less o name =
    let t = total-remove name_cmp names_total exact_names attribute_size o.attributes name in
    omega (arith, t)

short_if : (b : Bool) (value : List ℕ) (o : Option (List ℕ)) → length value ≤ 4096 → IfSome o (λ v. length v ≤ 4096) → IfSome (cond b (Some value) o) (λ v. length v ≤ 4096)
short_if true value o h i = h
short_if false value o h i = i

short_unless : (b : Bool) (o : Option (List ℕ)) → IfSome o (λ v. length v ≤ 4096) → IfSome (cond b None o) (λ v. length v ≤ 4096)
short_unless true o i = tt
short_unless false o i = i

pub stored_attribute : (o : Object) (name value : List ℕ) (old new : ℕ) → IsStored o old → length value ≤ 4096 → len (insert o.attributes name value) < 2 ^ 32
    → new ≡ object_size (record o { attributes = insert o.attributes name value }) → IsStored (record o { attributes = insert o.attributes name value }) new
stored_attribute o name value old new s short few is = record {
  body = s.body;
  few_entries = s.few_entries;
  few_attributes = few;
  values = λ q. subst (λ x. IfSome x (λ v. length v ≤ 4096)) (sym (get-insert names_total o.attributes name value q)) (short_if (eq_by_cmp name_cmp q name) value (get o.attributes q) short (s.values q));
  exact = is;
}

pub stored_without_attribute : (o : Object) (name : List ℕ) (old new : ℕ) → IsStored o old → new ≡ object_size (record o { attributes = remove o.attributes name }) → IsStored (record o { attributes = remove o.attributes name }) new
stored_without_attribute o name old new s is =
    let n = fewer (len (remove o.attributes name)) (is_some (get o.attributes name)) (len o.attributes) (len-remove names_total o.attributes name) in
    let f = s.few_attributes in
    record {
      body = s.body;
      few_entries = s.few_entries;
      few_attributes = omega (arith, n, f);
      values = λ q. subst (λ x. IfSome x (λ v. length v ≤ 4096)) (sym (get-remove names_total o.attributes name q)) (short_unless (eq_by_cmp name_cmp q name) (get o.attributes q) (s.values q));
      exact = is;
    }
