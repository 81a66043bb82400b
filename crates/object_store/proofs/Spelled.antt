-- The lengths of images, and what is known of the parts that are spelled.
use Rattle.std.proofs.Common.{◌≡◌, ◌≤◌, ◌+◌, ℕ, List, [], ◌∷◌, ◌++◌, length, get_or, IfSome, suc, append_assoc, refl, subst, ap, ◌∙◌, arith, length-append}
use Rattle.std.specs.Int.{w16, w32}
use Rattle.std.specs.List.{flat_map, All, AllByRecursion}
use Rattle.std.specs.BTreeMap.{BTreeMap, IsOrdered}
use Rattle.std.proofs.lemmas.Map.Views.{All-found}
use Rattle.std.specs.FinMap.{entries, get, len, from_entries}
use Rattle.tree_model.specs.Fids.{name_cmp}
use Rattle.tree_model.proofs.Maps.{got, names_total}
use Rattle.byte_grammar.specs.Numbers.{word, zeros, padding}
use Rattle.byte_grammar.proofs.Bytes.{length-zeros}
use Rattle.fid_space.specs.declared.fid.Fid.{Fid}
use Rattle.out_update.specs.Spelling.{fid_bytes}
use Rattle.object_store.specs.declared.body.Body.{Body}
use Rattle.object_store.specs.Bodies.{body_bytes}
use Rattle.object_store.specs.Objects.{Object, ObjectMap}
use Rattle.object_store.specs.Sizes.{padded, total, entry_size, attribute_size, object_size, size_at, image_size}
use Rattle.object_store.specs.ImageText.{padded_text, entry_text, attribute_text, object_text, image_text}
use Rattle.object_store.proofs.Lengths.{two, four, fid_length, body_length}

pub padded_length : (bytes : List ℕ) → length (padded_text bytes) ≡ padded (length bytes)
unfolding padded_text
padded_length bytes = length-append bytes (zeros (padding (length bytes))) ∙ ap (λ n. length bytes + n) (length-zeros (padding (length bytes)))

pub entry_text_length : (e : List ℕ × Fid) → length (entry_text e) ≡ entry_size e.0 e.1
unfolding entry_text
entry_text_length e =
    let a = length-append (word w16 (length e.0)) (word w16 0 ++ (word w32 0 ++ (fid_bytes e.1 ++ padded_text e.0))) in
    let b = length-append (word w16 0) (word w32 0 ++ (fid_bytes e.1 ++ padded_text e.0)) in
    let c = length-append (word w32 0) (fid_bytes e.1 ++ padded_text e.0) in
    let d = length-append (fid_bytes e.1) (padded_text e.0) in
    let l = two (length e.0) in
    let m = two 0 in
    let n = four 0 in
    let f = fid_length e.1 in
    let p = padded_length e.0 in
    omega (arith, a, b, c, d, l, m, n, f, p)

pub attribute_text_length : (a : List ℕ × List ℕ) → length (attribute_text a) ≡ attribute_size a.0 a.1
unfolding attribute_text
attribute_text_length x =
    let a = length-append (word w16 (length x.0)) (word w16 (length x.1) ++ (word w32 0 ++ (padded_text x.0 ++ padded_text x.1))) in
    let b = length-append (word w16 (length x.1)) (word w32 0 ++ (padded_text x.0 ++ padded_text x.1)) in
    let c = length-append (word w32 0) (padded_text x.0 ++ padded_text x.1) in
    let d = length-append (padded_text x.0) (padded_text x.1) in
    let l = two (length x.0) in
    let m = two (length x.1) in
    let n = four 0 in
    let p = padded_length x.0 in
    let q = padded_length x.1 in
    omega (arith, a, b, c, d, l, m, n, p, q)

all_length : {K X : Type 0} (text : K × X → List ℕ) (weight : K → X → ℕ) → ((e : K × X) → length (text e) ≡ weight e.0 e.1) → (es : List (K × X)) → length (flat_map text es) ≡ total weight es
all_length text weight one [] = refl
all_length text weight one (e ∷ es) =
    let a = length-append (text e) (flat_map text es) in
    let b = one e in
    let c = all_length text weight one es in
    omega (arith, a, b, c)

pub object_text_length : (o : Fid × Object) → length (object_text o) ≡ size_at o.0 o.1
unfolding object_text object_size
object_text_length o =
    let es = flat_map entry_text (entries o.1.entries) in
    let xs = flat_map attribute_text (entries o.1.attributes) in
    let n = word w32 (len o.1.entries) in
    let m = word w32 (len o.1.attributes) in
    let a = length-append (fid_bytes o.0) (body_bytes o.1.body ++ (n ++ (m ++ (es ++ xs)))) in
    let b = length-append (body_bytes o.1.body) (n ++ (m ++ (es ++ xs))) in
    let c = length-append n (m ++ (es ++ xs)) in
    let d = length-append m (es ++ xs) in
    let e = length-append es xs in
    let f = fid_length o.0 in
    let g = body_length o.1.body in
    let h = four (len o.1.entries) in
    let i = four (len o.1.attributes) in
    let j = all_length entry_text entry_size entry_text_length (entries o.1.entries) in
    let k = all_length attribute_text attribute_size attribute_text_length (entries o.1.attributes) in
    omega (arith, a, b, c, d, e, f, g, h, i, j, k)

pub image_length : (m : ObjectMap) → length (image_text m) ≡ image_size m
unfolding image_text image_size
image_length m =
    let os = flat_map object_text (entries m) in
    let a = length-append (word w32 (len m)) (word w32 0 ++ os) in
    let b = length-append (word w32 0) os in
    let c = four (len m) in
    let d = four 0 in
    let e = all_length object_text size_at object_text_length (entries m) in
    omega (arith, a, b, c, d, e)

-- ---- the values of attributes

pub by_steps : {X : Type 0} (P : X → Type 0) (xs : List X) → All P xs → AllByRecursion P xs
by_steps P [] h = tt
by_steps P (x ∷ xs) h = (h 0 x (omega arith), by_steps P xs (λ k d lt. h (suc k) d (omega arith)))

-- what holds of each value that the map has holds of each of its entries
pub all_short : (m : BTreeMap (List ℕ) (List ℕ)) → IsOrdered name_cmp m → ((name : List ℕ) → IfSome (get (from_entries {R = name_cmp} m.entries) name) (λ v. length v ≤ 4096)) → AllByRecursion (λ (a : List ℕ × List ℕ). length a.1 ≤ 4096) m.entries
all_short m ordered short = by_steps (λ (a : List ℕ × List ℕ). length a.1 ≤ 4096) m.entries (λ k d lt.
    subst (λ o. IfSome o (λ (v : List ℕ). length v ≤ 4096)) (got name_cmp names_total m.entries (get_or m.entries k d).0 ∙ All-found names_total m ordered k d lt) (short (get_or m.entries k d).0))

-- ---- a head, and what follows it

three : (a b c d : List ℕ) → (a ++ (b ++ c)) ++ d ≡ a ++ (b ++ (c ++ d))
three a b c d = simp append_assoc

pub four_parts : (a b c d e : List ℕ) → (a ++ (b ++ (c ++ d))) ++ e ≡ a ++ (b ++ (c ++ (d ++ e)))
four_parts a b c d e = simp append_assoc

pub entry_joined : (head name : List ℕ) (fid : Fid) → head ≡ word w16 (length name) ++ (word w16 0 ++ (word w32 0 ++ fid_bytes fid)) → head ++ padded_text name ≡ entry_text (name, fid)
unfolding entry_text
entry_joined head name fid is = rw is (four_parts (word w16 (length name)) (word w16 0) (word w32 0) (fid_bytes fid) (padded_text name))

pub attribute_joined : (head name value : List ℕ) → head ≡ word w16 (length name) ++ (word w16 (length value) ++ word w32 0) → head ++ (padded_text name ++ padded_text value) ≡ attribute_text (name, value)
unfolding attribute_text
attribute_joined head name value is = rw is (three (word w16 (length name)) (word w16 (length value)) (word w32 0) (padded_text name ++ padded_text value))

pub object_joined : (head : List ℕ) (fid : Fid) (o : Object) (body : Body) (n k : ℕ) (es : List (List ℕ × Fid)) (xs : List (List ℕ × List ℕ))
    → head ≡ fid_bytes fid ++ (body_bytes body ++ (word w32 n ++ word w32 k)) → body ≡ o.body → n ≡ len o.entries → k ≡ len o.attributes
    → entries o.entries ≡ es → entries o.attributes ≡ xs → head ++ (flat_map entry_text es ++ flat_map attribute_text xs) ≡ object_text (fid, o)
unfolding object_text
object_joined head fid o body n k es xs is is_body is_n is_k is_es is_xs =
    rw (is, is_body, is_n, is_k, is_es, is_xs) (four_parts (fid_bytes fid) (body_bytes o.body) (word w32 (len o.entries)) (word w32 (len o.attributes)) (flat_map entry_text es ++ flat_map attribute_text xs))

pub image_joined : (head : List ℕ) (m : ObjectMap) (n : ℕ) (os : List (Fid × Object)) → head ≡ word w32 n ++ word w32 0 → n ≡ len m → entries m ≡ os → head ++ flat_map object_text os ≡ image_text m
unfolding image_text
image_joined head m n os is is_n is_os = rw (is, is_n, is_os) (append_assoc (word w32 (len m)) (word w32 0) (flat_map object_text os))
