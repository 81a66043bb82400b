-- No two FIDs have one text.
use Rattle.std.proofs.Common.{◌≡◌, ◌<◌, ◌≤◌, ◌^◌, ◌==◌, ℕ, false, List, [], ◌∷◌, ◌++◌, codes, refl, sym, ap, ◌∙◌, arith}
use Rattle.std.specs.List.{slice_split, join_with_byte}
use Rattle.std.specs.Str.Parse.{digits_value}
use Rattle.std.specs.Char.{digit_value}
use Rattle.std.proofs.lemmas.Fmt.{digits_is_IsNumeral}
use Rattle.std.proofs.lemmas.List.{append_cancel_right}
use Rattle.fid_space.specs.declared.fid.Fid.{Fid}
use Rattle.fid_space.specs.FidText.{hex, fid_text, IsFid}
use Rattle.fid_space.proofs.Splitting.{Lacks, lacks_by_test, lacks_append, lacks_digits, split_join}

-- a byte that is no hexadecimal digit
pub lacks_hex : (b n : ℕ) → n < 2 ^ 64 → 16 ≤ digit_value b → Lacks b (hex n)
lacks_hex b n low high = lacks_digits 16 b high (hex n) (digits_is_IsNumeral 16 false (omega arith) (omega arith) n (omega arith)).0.1

hex_injective : (m n : ℕ) → m < 2 ^ 64 → n < 2 ^ 64 → hex m ≡ hex n → m ≡ n
hex_injective m n p q e =
    sym (digits_is_IsNumeral 16 false (omega arith) (omega arith) m (omega arith)).1 ∙ ap (digits_value 16) e ∙ (digits_is_IsNumeral 16 false (omega arith) (omega arith) n (omega arith)).1

parts_of : Fid → List (List ℕ)
parts_of f = (codes "[0x" ++ hex f.seq) ∷ (codes "0x" ++ hex f.oid) ∷ (codes "0x" ++ (hex f.ver ++ codes "]")) ∷ []

joined : (f : Fid) → fid_text f ≡ join_with_byte 58 (parts_of f)
unfolding parts_of
joined f = refl

cut : (f : Fid) → IsFid f → slice_split (λ x. x == 58) (fid_text f) ≡ parts_of f
unfolding parts_of
cut f h =
    split_join 58 (codes "[0x" ++ hex f.seq) ((codes "0x" ++ hex f.oid) ∷ (codes "0x" ++ (hex f.ver ++ codes "]")) ∷ []) (
      lacks_append 58 (codes "[0x") (hex f.seq) (lacks_by_test 58 (codes "[0x") refl) (lacks_hex 58 f.seq h.0 (omega arith)),
      (
        lacks_append 58 (codes "0x") (hex f.oid) (lacks_by_test 58 (codes "0x") refl) (lacks_hex 58 f.oid (omega (arith, h.1)) (omega arith)),
        (
          lacks_append 58 (codes "0x") (hex f.ver ++ codes "]") (lacks_by_test 58 (codes "0x") refl)
              (lacks_append 58 (hex f.ver) (codes "]") (lacks_hex 58 f.ver (omega (arith, h.2)) (omega arith)) (lacks_by_test 58 (codes "]") refl)),
          tt,
        ),
      ),
    )

pub one_fid : (f g : Fid) → IsFid f → IsFid g → fid_text f ≡ fid_text g → f ≡ g
unfolding parts_of
one_fid f g p q e =
    let same : parts_of f ≡ parts_of g = sym (cut f p) ∙ ap (slice_split (λ x. x == 58)) e ∙ cut g q in
    let seq : hex f.seq ≡ hex g.seq = cc in
    let oid : hex f.oid ≡ hex g.oid = cc in
    let end : hex f.ver ++ codes "]" ≡ hex g.ver ++ codes "]" = cc in
    let s = hex_injective f.seq g.seq p.0 q.0 seq in
    let o = hex_injective f.oid g.oid (omega (arith, p.1)) (omega (arith, q.1)) oid in
    let v = hex_injective f.ver g.ver (omega (arith, p.2)) (omega (arith, q.2)) (append_cancel_right (hex f.ver) (hex g.ver) (codes "]") end) in
    λ i. record { seq = s i; oid = o i; ver = v i }

-- a text has no space
pub no_space : (f : Fid) → IsFid f → Lacks 32 (fid_text f)
no_space f h =
    lacks_append 32 (codes "[0x") _ (lacks_by_test 32 (codes "[0x") refl) (lacks_append 32 (hex f.seq) _ (lacks_hex 32 f.seq h.0 (omega arith))
    (lacks_append 32 (codes ":0x") _ (lacks_by_test 32 (codes ":0x") refl) (lacks_append 32 (hex f.oid) _ (lacks_hex 32 f.oid (omega (arith, h.1)) (omega arith))
    (lacks_append 32 (codes ":0x") _ (lacks_by_test 32 (codes ":0x") refl) (lacks_append 32 (hex f.ver) _ (lacks_hex 32 f.ver (omega (arith, h.2)) (omega arith)) (lacks_by_test 32 (codes "]") refl))))))
