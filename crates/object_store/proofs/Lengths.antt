-- How many bytes the parts of results have.
use Rattle.std.proofs.Common.{◌≡◌, ◌≢◌, ◌≤◌, ◌-◌, ℕ, zero, suc, List, ◌∷◌, ◌++◌, length, take, refl, ap, ◌∙◌, arith, append_assoc, length-append}
use Rattle.std.specs.List.{flat_map}
use Rattle.std.specs.Int.{w16, w32, w64}
use Rattle.byte_grammar.specs.Numbers.{word}
use Rattle.fid_space.specs.declared.fid.Fid.{Fid}
use Rattle.out_update.specs.Spelling.{fid_bytes}
use Rattle.object_store.specs.declared.body.Body.{Body}
use Rattle.object_store.specs.Bodies.{body_bytes}
use Rattle.object_store.specs.Reads.{entry_bytes}

pub two : (n : ℕ) → length (word w16 n) ≡ 2
unfolding word
two n = refl

pub four : (n : ℕ) → length (word w32 n) ≡ 4
unfolding word
four n = refl

pub eight : (n : ℕ) → length (word w64 n) ≡ 8
unfolding word
eight n = refl

pub fid_length : (f : Fid) → length (fid_bytes f) ≡ 16
fid_length f =
    let a = length-append (word w64 f.seq) (word w32 f.oid ++ word w32 f.ver) in
    let b = length-append (word w32 f.oid) (word w32 f.ver) in
    let c = eight f.seq in
    let d = four f.oid in
    let e = four f.ver in
    omega (arith, a, b, c, d, e)

pub body_length : (b : Body) → length (body_bytes b) ≡ 48
unfolding body_bytes word
body_length b = refl

pub entry_length : (name : List ℕ) (f : Fid) → length name ≤ 255 → length (entry_bytes (name, f)) ≤ 273
entry_length name f short =
    let a = length-append (word w16 (length name)) (name ++ fid_bytes f) in
    let b = length-append name (fid_bytes f) in
    let c = two (length name) in
    let d = fid_length f in
    omega (arith, a, b, c, d, short)

pub attr_length : (b : Body) (n : ℕ) → length (body_bytes b ++ (word w32 n ++ word w32 0)) ≡ 56
unfolding body_bytes word
attr_length b n = refl

-- one entry of the first ones
pub one_of_first : (left : ℕ) (out : List ℕ) (e : List ℕ × Fid) (rest : List (List ℕ × Fid)) → left ≢ 0
    → (out ++ entry_bytes e) ++ flat_map entry_bytes (take (left - 1) rest) ≡ out ++ flat_map entry_bytes (take left (e ∷ rest))
one_of_first zero out e rest some = absurd (some refl)
one_of_first (suc n) out e rest some = ap (λ k. (out ++ entry_bytes e) ++ flat_map entry_bytes (take k rest)) (before n) ∙ append_assoc out (entry_bytes e) (flat_map entry_bytes (take n rest))
  where
    before : (n : ℕ) → suc n - 1 ≡ n
    before n = omega arith
