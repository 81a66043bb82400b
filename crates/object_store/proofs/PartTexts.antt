-- The parts of an image, one behind the other.
use Rattle.std.proofs.Common.{◌≡◌, ℕ, ◌+◌, ◌-◌, ◌≤◌, ◌<◌, List, [], ◌++◌, length, drop, sym, ap, ◌∙◌, append_assoc, arith, length-append}
use Rattle.std.specs.Int.{w16, w32}
use Rattle.std.specs.List.{flat_map}
use Rattle.std.specs.FinMap.{entries, len}
use Rattle.byte_grammar.specs.Numbers.{word}
use Rattle.fid_space.specs.declared.fid.Fid.{Fid}
use Rattle.out_update.specs.Spelling.{fid_bytes}
use Rattle.object_store.specs.Bodies.{body_bytes}
use Rattle.object_store.specs.Objects.{Object}
use Rattle.object_store.specs.ImageText.{padded_text, entry_text, attribute_text, object_text}
use Rattle.object_store.specs.declared.parts.Part.{Part}
use Rattle.object_store.specs.declared.parts.Part.TheVariants as part
use Rattle.object_store.specs.Sizes.{padded}
use Rattle.object_store.specs.Pieces.{head_text, part_text}
use Rattle.object_store.proofs.Lengths.{two, four, fid_length, body_length}
use Rattle.object_store.proofs.Spelled.{four_parts, padded_length, entry_text_length, attribute_text_length}
use Rattle.std.proofs.lemmas.List.{drop_all}
use Rattle.object_store.proofs.Laid.{drop_over}

pub count_length : (n : ℕ) → length (word w32 n ++ word w32 0) ≡ 8
count_length n =
    let a = length-append (word w32 n) (word w32 0) in
    let b = four n in
    let c = four 0 in
    omega (arith, a, b, c)

pub head_length : (fid : Fid) (o : Object) → length (head_text fid o) ≡ 72
head_length fid o =
    let n = word w32 (len o.entries) in
    let m = word w32 (len o.attributes) in
    let a = length-append (fid_bytes fid) (body_bytes o.body ++ (n ++ m)) in
    let b = length-append (body_bytes o.body) (n ++ m) in
    let c = length-append n m in
    let d = fid_length fid in
    let e = body_length o.body in
    let f = four (len o.entries) in
    let g = four (len o.attributes) in
    omega (arith, a, b, c, d, e, f, g)

-- an object is its head, and behind it its items
pub head_joined : (fid : Fid) (o : Object) → head_text fid o ++ (flat_map entry_text (entries o.entries) ++ flat_map attribute_text (entries o.attributes)) ≡ object_text (fid, o)
unfolding object_text
head_joined fid o = four_parts (fid_bytes fid) (body_bytes o.body) (word w32 (len o.entries)) (word w32 (len o.attributes)) (flat_map entry_text (entries o.entries) ++ flat_map attribute_text (entries o.attributes))

-- the next object is opened at a place in it
pub opened_text : (fid : Fid) (o : Object) (at k : ℕ) (all items rest : List ℕ) → items ≡ flat_map entry_text (entries o.entries) ++ flat_map attribute_text (entries o.attributes) → drop at all ≡ drop k (object_text (fid, o) ++ rest)
    → drop k (head_text fid o ++ (items ++ rest)) ≡ drop at all
opened_text fid o at k all items rest is there =
    ap (drop k) (sym (append_assoc (head_text fid o) items rest) ∙ ap (λ t. (head_text fid o ++ t) ++ rest) is ∙ ap (λ t. t ++ rest) (head_joined fid o)) ∙ sym there

-- and less is left behind its head
pub opened_less : (fid : Fid) (o : Object) (all items rest : List ℕ) → items ≡ flat_map entry_text (entries o.entries) ++ flat_map attribute_text (entries o.attributes) → length rest + length (object_text (fid, o)) ≤ length all
    → length (items ++ rest) < length all
opened_less fid o all items rest is less =
    let a = length-append items rest in
    let b = length-append (head_text fid o) (flat_map entry_text (entries o.entries) ++ flat_map attribute_text (entries o.attributes)) in
    let c = ap length (head_joined fid o) in
    let d = head_length fid o in
    let e = ap length is in
    omega (arith, a, b, c, d, e, less)

-- past an object
pub passed_text : (at k n : ℕ) (all text rest : List ℕ) → drop at all ≡ drop k (text ++ rest) → n ≡ length text → n ≤ k → drop at all ≡ drop (k - n) rest
passed_text at k n all text rest there is over = there ∙ drop_over k text rest (omega (arith, is, over)) ∙ ap (λ i. drop (k - i) rest) (sym is)

-- a part has some bytes
pub part_some : (p : Part) → 8 ≤ length (part_text p)
part_some (part.Count n) = let e = count_length n in omega (arith, e)
part_some (part.Head fid o) = let e = head_length fid o.now in omega (arith, e)
part_some (part.Entry name fid) = let e = entry_text_length (name.now, fid) in omega (arith, e)
part_some (part.Attribute name value) = let e = attribute_text_length (name.now, value.now) in omega (arith, e)

-- what stands before the value of an attribute
pub front_length : (head name : List ℕ) (n m : ℕ) → head ≡ word w16 n ++ (word w16 m ++ word w32 0) → length (head ++ padded_text name) ≡ 8 + padded (length name)
front_length head name n m is =
    let a = length-append head (padded_text name) in
    let b = ap length is in
    let c = length-append (word w16 n) (word w16 m ++ word w32 0) in
    let d = length-append (word w16 m) (word w32 0) in
    let e = two n in
    let f = two m in
    let g = four 0 in
    let h = padded_length name in
    omega (arith, a, b, c, d, e, f, g, h)

-- nothing is left at the end of the last part
pub end_text : (p b : List ℕ) (n : ℕ) → n ≡ length p → b ≡ [] → drop n (p ++ b) ≡ []
end_text p b n is none = drop_all n (p ++ b) (let a = length-append p b in let e = ap length none in omega (arith, a, e, is))
