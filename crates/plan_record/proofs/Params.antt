-- The parameters of updates.
use Rattle.std.proofs.Common.{◌≡◌, ◌≢◌, ◌≤◌, ◌<◌, ◌^◌, ◌*◌, ◌%◌, ◌==◌, ◌&&◌, nat_le, if◌then◌else◌, Option, ℕ, Bool, true, false, List, [], ◌∷◌, ◌++◌, length, codes, Some, None, refl, sym, ap, eqb, arith}
use Rattle.std.proofs.lemmas.Bool.Decides.{nat_tests}
use Rattle.std.specs.Int.{w8, w32, byte_len}
use Rattle.std.specs.List.{AllByRecursion}
use Rattle.byte_grammar.specs.Numbers.{word, zeros}
use Rattle.fid_space.specs.declared.fid.Fid.{Fid}
use Rattle.fid_space.specs.FidText.{IsFid}
use Rattle.tree_model.specs.Names.{IsName}
use Rattle.out_update.specs.declared.shape.BodyField.{BodyField}
use Rattle.out_update.specs.declared.shape.BodyField.TheVariants as body
use Rattle.out_update.specs.declared.shape.Shape.TheVariants as shape
use Rattle.out_update.specs.Names.{name_fault, first_bad, is_dots}
use Rattle.out_update.specs.Bodies.{width_of, may_be, kind_after, count_after, AreNumbers, IsBody}
use Rattle.out_update.specs.Spelling.{fid_bytes, FitsParams}
use Rattle.tree_model.specs.Keys.{Layout as LaidOut}
use Rattle.striped_dir.specs.Layouts.{layout_text}
use Rattle.striped_dir.specs.Parts.{stripe_body}
use Rattle.object_store.specs.Bodies.{body_bytes}
use Rattle.striped_dir.specs.declared.layout.Layout.{Layout}
use Rattle.plan_base.specs.Listed.{is_name, is_faultless}
use Rattle.plan_base.specs.Updates.{file_body, directory_body}

-- ---- names

none_bad : (n : List ℕ) → AllByRecursion (λ b. (b ≢ 0) × (b ≢ 0x2f)) n → first_bad n ≡ None
none_bad [] h = refl
none_bad (b ∷ bs) h =
    let p : eqb b 0 ≡ false = by 0 h.0.0 in
    let q : eqb b 0x2f ≡ false = by 0x2f h.0.1 in
    rw (p, q, none_bad bs h.1) refl
  where
    by : (k : ℕ) → b ≢ k → eqb b k ≡ false
    by k differ = grind (arith, nat_tests)

dots : (n : List ℕ) → n ≢ codes "." → n ≢ codes ".." → is_dots n ≡ false
dots [] h k = refl
dots (b ∷ []) h k = one (eqb b 0x2e) refl
  where
    one : (x : Bool) → eqb b 0x2e ≡ x → x ≡ false
    one true e = let is : b ≡ 0x2e = grind (arith, nat_tests) in absurd (h (ap (λ (x : ℕ). x ∷ []) is))
    one false e = refl
dots (b ∷ c ∷ []) h k = two (eqb b 0x2e) (eqb c 0x2e) refl refl
  where
    two : (x y : Bool) → eqb b 0x2e ≡ x → eqb c 0x2e ≡ y → (x && y) ≡ false
    two true true e f =
        let is : b ≡ 0x2e = grind (arith, nat_tests) in
        let also : c ≡ 0x2e = grind (arith, nat_tests) in
        absurd (k (rw (is, also) refl))
    two true false e f = refl
    two false y e f = refl
dots (b ∷ c ∷ d ∷ n) h k = refl

name_faultless : (n : List ℕ) → IsName n → name_fault n ≡ None
name_faultless n is = rw (dots n is.4 is.5, none_bad n is.3) refl

short : (n least most : ℕ) → least ≤ n → n ≤ most → (nat_le least n && nat_le n most) ≡ true
short n least most low high = grind (arith, nat_tests)

at_most : (n most : ℕ) → n ≤ most → nat_le n most ≡ true
at_most n most h = grind (arith, nat_tests)

-- ---- parameters

pub p_none : FitsParams [] []
unfolding FitsParams
p_none = tt

pub p_name : (x : List ℕ) → IsName x → FitsParams (shape.Name ∷ []) (x ∷ [])
unfolding FitsParams
p_name x is = (record { length_allowed = short (length x) 1 255 is.0 is.1; content = name_faultless x is }, tt)

fid_len : (f : Fid) → (length (fid_bytes f) == 16) ≡ true
unfolding word
fid_len f = refl

pub p_fid : (f : Fid) → FitsParams (shape.Fid ∷ []) (fid_bytes f ∷ [])
unfolding FitsParams
p_fid f = (record { length_allowed = fid_len f; content = tt }, tt)

pub p_entry : (x : List ℕ) (f : Fid) → IsName x → FitsParams (shape.Name ∷ shape.Fid ∷ []) (x ∷ fid_bytes f ∷ [])
unfolding FitsParams
p_entry x f is = (record { length_allowed = short (length x) 1 255 is.0 is.1; content = name_faultless x is }, (record { length_allowed = fid_len f; content = tt }, tt))

pub p_value : (x v : List ℕ) → IsName x → length v ≤ 4096 → FitsParams (shape.Name ∷ shape.Value ∷ []) (x ∷ v ∷ [])
unfolding FitsParams
p_value x v is few = (record { length_allowed = short (length x) 1 255 is.0 is.1; content = name_faultless x is }, (record { length_allowed = at_most (length v) 4096 few; content = tt }, tt))

faultless : (o : Option ℕ) → is_faultless o ≡ true → o ≡ None
faultless None h = refl
faultless (Some i) h = absurd (cc)

-- a name as it was read
record Read (x : List ℕ) : Type 0 where
  short : (nat_le 1 (length x) && nat_le (length x) 255) ≡ true
  good : name_fault x ≡ None

read_name : (x : List ℕ) → is_name x ≡ true → Read x
read_name x h = by_tests (nat_le 1 (length x)) (nat_le (length x) 255) (is_faultless (name_fault x)) refl refl refl h
  where
    by_tests : (a b c : Bool) → nat_le 1 (length x) ≡ a → nat_le (length x) 255 ≡ b → is_faultless (name_fault x) ≡ c → (a && (b && c)) ≡ true → Read x
    by_tests true true true e f g k = record { short = rw (e, f) refl; good = faultless (name_fault x) g }
    by_tests true true false e f g k = absurd (cc)
    by_tests true false c e f g k = absurd (cc)
    by_tests false b c e f g k = absurd (cc)

pub read_param : (x : List ℕ) → is_name x ≡ true → FitsParams (shape.Name ∷ []) (x ∷ [])
unfolding FitsParams
read_param x h = let r = read_name x h in (record { length_allowed = r.short; content = r.good }, tt)

pub read_entry : (x : List ℕ) (f : Fid) → is_name x ≡ true → FitsParams (shape.Name ∷ shape.Fid ∷ []) (x ∷ fid_bytes f ∷ [])
unfolding FitsParams
read_entry x f h = let r = read_name x h in (record { length_allowed = r.short; content = r.good }, (record { length_allowed = fid_len f; content = tt }, tt))

pub p_layout : (l : LaidOut) → FitsParams (shape.Layout ∷ []) (layout_text l ∷ [])
unfolding FitsParams
p_layout l = (record { length_allowed = refl; content = tt }, tt)

attributes_len : (mode uid gid : ℕ) → (length (word w32 mode ++ (word w32 uid ++ word w32 gid)) == 12) ≡ true
unfolding word
attributes_len mode uid gid = refl

pub p_attributes : (mode uid gid : ℕ) → FitsParams (shape.Attributes ∷ []) ((word w32 mode ++ (word w32 uid ++ word w32 gid)) ∷ [])
unfolding FitsParams
p_attributes mode uid gid = (record { length_allowed = attributes_len mode uid gid; content = tt }, tt)

-- ---- bodies

field : (k c : ℕ) (f : BodyField) (fs : List BodyField) (n : ℕ) (rest bytes : List ℕ) → n < 2 ^ (8 * byte_len (width_of f)) → may_be k c f n ≡ true → bytes ≡ word (width_of f) n ++ rest → AreNumbers (kind_after k f n) (count_after c f n) fs rest
    → AreNumbers k c (f ∷ fs) bytes
unfolding AreNumbers
field k c f fs n rest bytes a b e h = (n, rest, a, b, e, h)

no_field : (k c : ℕ) → AreNumbers k c [] []
unfolding AreNumbers
no_field k c = refl

is_file : IsBody (body_bytes file_body)
unfolding body_bytes word
is_file =
    field 0 0 body.Kind _ 1 _ _ (omega arith) refl refl
    (field 1 0 body.Mode _ 0o644 _ _ (omega arith) refl refl
    (field 1 0 body.Uid _ 0 _ _ (omega arith) refl refl
    (field 1 0 body.Gid _ 0 _ _ (omega arith) refl refl
    (field 1 0 body.Links _ 1 _ _ (omega arith) refl refl
    (field 1 0 body.Count _ 0 _ _ (omega arith) refl refl
    (field 1 0 body.Start _ 0 _ _ (omega arith) refl refl
    (field 1 0 body.Zero _ 0 _ _ (omega arith) refl refl
    (field 1 0 body.Generation _ 0 _ _ (omega arith) refl refl
    (field 1 0 body.Seq _ 0 _ _ (omega arith) refl refl
    (field 1 0 body.Oid _ 0 _ _ (omega arith) refl refl
    (field 1 0 body.Ver _ 0 _ _ (omega arith) refl refl
    (field 1 0 body.Index [] 0 [] _ (omega arith) refl refl (no_field 1 0)))))))))))))

one_byte : (n : ℕ) (rest : List ℕ) → n < 256 → n ∷ rest ≡ word w8 n ++ rest
unfolding word
one_byte n rest h = let is : n % 256 ≡ n = omega (arith, h) in ap (λ (x : ℕ). x ∷ rest) (sym is)

-- a layout that a new directory may have
pub record Lay (l : Layout) : Type 0 where
  pub few : l.count ≤ 16
  pub start : (if l.count == 0 then l.start == 0 else nat_le l.start 15) ≡ true
  pub low : l.start ≤ 15
  pub wide : l.generation ≤ 0x0ffffffe

is_directory_body : (p : Fid) (l : Layout) → IsFid p → Lay l → IsBody (body_bytes (directory_body p l))
unfolding body_bytes word
is_directory_body p l is lay =
    let few = lay.few in
    let low = lay.low in
    let wide = lay.wide in
    field 0 0 body.Kind _ 2 _ _ (omega arith) refl refl
    (field 2 0 body.Mode _ 0o755 _ _ (omega arith) refl refl
    (field 2 0 body.Uid _ 0 _ _ (omega arith) refl refl
    (field 2 0 body.Gid _ 0 _ _ (omega arith) refl refl
    (field 2 0 body.Links _ 2 _ _ (omega arith) refl refl
    (field 2 0 body.Count _ l.count _ _ (omega (arith, few)) (at_most l.count 16 few) (one_byte l.count _ (omega (arith, few)))
    (field 2 l.count body.Start _ l.start _ _ (omega (arith, low)) lay.start (one_byte l.start _ (omega (arith, low)))
    (field 2 l.count body.Zero _ 0 _ _ (omega arith) refl refl
    (field 2 l.count body.Generation _ l.generation _ _ (omega (arith, wide)) (at_most l.generation 0x0ffffffe wide) refl
    (field 2 l.count body.Seq _ p.seq _ _ is.0 refl refl
    (field 2 l.count body.Oid _ p.oid _ _ is.1 refl refl
    (field 2 l.count body.Ver _ p.ver _ _ is.2 refl refl
    (field 2 l.count body.Index [] 0 [] _ (omega arith) refl refl (no_field 2 l.count)))))))))))))

is_stripe_body : (d : Fid) (index : ℕ) → IsFid d → index < 16 → IsBody (stripe_body d index)
unfolding stripe_body word zeros
is_stripe_body d index is small =
    field 0 0 body.Kind _ 3 _ _ (omega arith) refl refl
    (field 3 0 body.Mode _ 0 _ _ (omega arith) refl refl
    (field 3 0 body.Uid _ 0 _ _ (omega arith) refl refl
    (field 3 0 body.Gid _ 0 _ _ (omega arith) refl refl
    (field 3 0 body.Links _ 0 _ _ (omega arith) refl refl
    (field 3 0 body.Count _ 0 _ _ (omega arith) refl refl
    (field 3 0 body.Start _ 0 _ _ (omega arith) refl refl
    (field 3 0 body.Zero _ 0 _ _ (omega arith) refl refl
    (field 3 0 body.Generation _ 0 _ _ (omega arith) refl refl
    (field 3 0 body.Seq _ d.seq _ _ (is.0) refl refl
    (field 3 0 body.Oid _ d.oid _ _ (is.1) refl refl
    (field 3 0 body.Ver _ d.ver _ _ (is.2) refl refl
    (field 3 0 body.Index [] index [] _ (omega (arith, small)) (at_most index 15 (omega (arith, small))) refl (no_field 3 0)))))))))))))

file_len : (length (body_bytes file_body) == 48) ≡ true
unfolding body_bytes word
file_len = refl

directory_len : (p : Fid) (l : Layout) → (length (body_bytes (directory_body p l)) == 48) ≡ true
unfolding body_bytes word
directory_len p l = refl

stripe_len : (d : Fid) (i : ℕ) → (length (stripe_body d i) == 48) ≡ true
unfolding stripe_body word zeros
stripe_len d i = refl

p_body : (bytes : List ℕ) → (length bytes == 48) ≡ true → IsBody bytes → FitsParams (shape.Body ∷ []) (bytes ∷ [])
unfolding FitsParams
p_body bytes len is = (record { length_allowed = len; content = is }, tt)

pub p_file : FitsParams (shape.Body ∷ []) (body_bytes file_body ∷ [])
p_file = p_body (body_bytes file_body) file_len is_file

pub p_directory : (p : Fid) (l : Layout) → IsFid p → Lay l → FitsParams (shape.Body ∷ []) (body_bytes (directory_body p l) ∷ [])
p_directory p l is lay = p_body (body_bytes (directory_body p l)) (directory_len p l) (is_directory_body p l is lay)

pub p_stripe : (d : Fid) (i : ℕ) → IsFid d → i < 16 → FitsParams (shape.Body ∷ []) (stripe_body d i ∷ [])
p_stripe d i is small = p_body (stripe_body d i) (stripe_len d i) (is_stripe_body d i is small)
