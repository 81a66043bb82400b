-- Entries, attributes, objects and images that are read are those that were written.
use Rattle.std.proofs.Common.{◌≡◌, ◌≢◌, ℕ, suc, ◌≤◌, Bool, true, false, cond, eqb, ◌&&◌, ◌||◌, List, [], ◌∷◌, ◌++◌, length, Option, Some, None, Ok, refl, sym, ap, subst, ◌∙◌, append_assoc, arith, codes}
use Rattle.std.specs.Int.{w16, w32}
use Rattle.std.specs.List.{AllByRecursion}
use Rattle.std.specs.Option.{option_map}
use Rattle.std.specs.FinMap.{len}
use Rattle.std.proofs.lemmas.Bool.Decides.{nat_tests}
use Rattle.byte_grammar.specs.Numbers.{IsBytes, word, zeros, padding}
use Rattle.byte_grammar.proofs.Bytes.{wide16, wide32}
use Rattle.fid_space.specs.declared.fid.Fid.{Fid}
use Rattle.tree_model.specs.Fids.{name_cmp}
use Rattle.tree_model.specs.Names.{AreBytes, IsName}
use Rattle.out_update.specs.Spelling.{fid_bytes}
use Rattle.out_update.specs.Names.{name_fault, first_bad, is_dots}
use Rattle.object_store.specs.ImageText.{padded_text, entry_text, attribute_text, FitsEntry, FitsAttribute}
use Rattle.object_store.specs.ImageReading.{at, field_at, number_at, zeros_at, padded_at, fid_at, most32, most64, rises, bad_name, name_at, entry_at, attribute_at}
use Rattle.object_store.proofs.ImageFields.{bind_ok, ok_is, Takes, Takes-then, number_is, number_takes, number_again, field_takes, field_again, unless_ok, zeros_take, zeros_again, padded_take, padded_again}
use Rattle.object_store.proofs.ImageBodies.{fid_takes, fid_again, any_fid}

-- ---- names

are_bytes : (n : List ℕ) → IsBytes n → AreBytes n
are_bytes [] h = tt
are_bytes (b ∷ bs) h = (h 0, are_bytes bs (λ i. h (suc i)))

none_mapped : (o : Option ℕ) → option_map (λ i. suc i) o ≡ None → o ≡ None
none_mapped None e = refl
none_mapped (Some i) e = absurd cc

no_bad : (n : List ℕ) → first_bad n ≡ None → AllByRecursion (λ b. (b ≢ 0) × (b ≢ 0x2f)) n
no_bad [] h = tt
no_bad (b ∷ bs) h = by (eqb b 0) (eqb b 0x2f) refl refl (λ e. no_bad bs e) h
  where
    by : (x y : Bool) → eqb b 0 ≡ x → eqb b 0x2f ≡ y → (first_bad bs ≡ None → AllByRecursion (λ b. (b ≢ 0) × (b ≢ 0x2f)) bs) → cond (x || y) (Some 0) (option_map (λ i. suc i) (first_bad bs)) ≡ None → ((b ≢ 0) × (b ≢ 0x2f)) × AllByRecursion (λ b. (b ≢ 0) × (b ≢ 0x2f)) bs
    by true y p q more e = absurd cc
    by false true p q more e = absurd cc
    by false false p q more e = ((λ is. absurd (grind (arith, nat_tests, p, is)), λ is. absurd (grind (arith, nat_tests, q, is))), more (none_mapped (first_bad bs) e))

none_bad : (n : List ℕ) → AllByRecursion (λ b. (b ≢ 0) × (b ≢ 0x2f)) n → first_bad n ≡ None
none_bad [] h = refl
none_bad (b ∷ bs) h =
    let p : eqb b 0 ≡ false = by 0 h.0.0 in
    let q : eqb b 0x2f ≡ false = by 0x2f h.0.1 in
    rw (p, q, none_bad bs h.1) refl
  where
    by : (k : ℕ) → b ≢ k → eqb b k ≡ false
    by k differ = grind (arith, nat_tests)

no_dots : (n : List ℕ) → is_dots n ≡ false → (n ≢ codes ".") × (n ≢ codes "..")
no_dots n h = (λ e. absurd (true_not (sym (ap is_dots e) ∙ h)), λ e. absurd (true_not (sym (ap is_dots e) ∙ h)))
  where
    true_not : true ≡ false → ⊥
    true_not e = cc

dots : (n : List ℕ) → n ≢ codes "." → n ≢ codes ".." → is_dots n ≡ false
dots [] h k = refl
dots (b ∷ []) h k = one (eqb b 0x2e) refl
  where
    one : (x : Bool) → eqb b 0x2e ≡ x → x ≡ false
    one true e = let is : b ≡ 0x2e = grind (arith, nat_tests) in absurd (h (ap (λ (x : ℕ). x ∷ []) is))
    one false e = refl
dots (b ∷ c ∷ []) h k = two (eqb b 0x2e) (eqb c 0x2e) refl refl
  where
    two : (x y : Bool) → eqb b 0x2e ≡ x → eqb c 0x2e ≡ y → (x && y) ≡ false
    two true true e f =
        let is : b ≡ 0x2e = grind (arith, nat_tests) in
        let also : c ≡ 0x2e = grind (arith, nat_tests) in
        absurd (k (rw (is, also) refl))
    two true false e f = refl
    two false y e f = refl
dots (b ∷ c ∷ d ∷ n) h k = refl

fault_none : (n : List ℕ) → name_fault n ≡ None → (is_dots n ≡ false) × (first_bad n ≡ None)
fault_none n h = by (is_dots n) refl h
  where
    by : (x : Bool) → is_dots n ≡ x → cond x (Some 0) (first_bad n) ≡ None → (is_dots n ≡ false) × (first_bad n ≡ None)
    by true p e = absurd cc
    by false p e = (p, e)

pub name_fits : (n : List ℕ) → 1 ≤ length n → length n ≤ 255 → IsBytes n → name_fault n ≡ None → IsName n
name_fits n low high bytes h =
    let f = fault_none n h in
    let d = no_dots n f.0 in
    (low, high, are_bytes n bytes, no_bad n f.1, d.0, d.1)

pub name_faultless : (n : List ℕ) → IsName n → name_fault n ≡ None
name_faultless n is = rw (dots n is.4 is.5, none_bad n is.3) refl

bad_none : (last : Option (List ℕ)) (n : List ℕ) → bad_name last n ≡ None → (rises name_cmp last n ≡ true) × (name_fault n ≡ None)
bad_none last n h = by (rises name_cmp last n) refl h
  where
    by : (x : Bool) → rises name_cmp last n ≡ x → cond x (name_fault n) (Some 0) ≡ None → (rises name_cmp last n ≡ true) × (name_fault n ≡ None)
    by true p e = (p, e)
    by false p e = absurd cc

pub record IsNameBehind (last : Option (List ℕ)) (n : ℕ) (name : List ℕ) : Type 0 where
  pub size : length name ≡ n
  pub bytes : IsBytes name
  pub rise : rises name_cmp last name ≡ true
  pub faultless : name_fault name ≡ None

name_takes : (len n : ℕ) (last : Option (List ℕ)) (bytes name rest : List ℕ) → IsBytes bytes → name_at len n last bytes ≡ Ok (name, rest) → Takes bytes (padded_text name) rest × IsNameBehind last n name
unfolding name_at padded_text
name_takes len n last bytes name rest fits e =
    let a = bind_ok (field_at len n bytes) _ _ e in
    let b = bind_ok {A = List ℕ} _ _ _ a.2 in
    let c = bind_ok {A = List ℕ} _ _ _ b.2 in
    let t = field_takes len n bytes a.0.0 a.0.1 fits a.1 in
    let u = unless_ok (bad_name last a.0.0) (at len bytes) a.0.1 b.0 b.1 in
    let stands = bad_none last a.0.0 u.0 in
    let z = zeros_take len (padding n) a.0.1 c.0 t.0.fits (subst (λ (r : List ℕ). zeros_at len (padding n) r ≡ Ok c.0) (sym u.1) c.1) in
    let parts : Takes bytes (a.0.0 ++ zeros (padding (length a.0.0))) c.0 = subst (λ (k : ℕ). Takes bytes (a.0.0 ++ zeros (padding k)) c.0) (sym t.1) (Takes-then t.0 z) in
    let is : IsNameBehind last n a.0.0 = record { size = t.1; bytes = t.2; rise = stands.0; faultless = stands.1 } in
    subst (λ (p : List ℕ × List ℕ). Takes bytes (p.0 ++ zeros (padding (length p.0))) p.1 × IsNameBehind last n p.0) (ok_is (a.0.0, c.0) (name, rest) c.2) (parts, is)

name_again : (len n : ℕ) (last : Option (List ℕ)) (name rest : List ℕ) → length name ≡ n → rises name_cmp last name ≡ true → name_fault name ≡ None → name_at len n last (padded_text name ++ rest) ≡ Ok (name, rest)
unfolding name_at padded_text
name_again len n last name rest size rise h =
    rw (append_assoc name (zeros (padding (length name))) rest, field_again len n name (zeros (padding (length name)) ++ rest) size, rise, h, size, zeros_again len (padding n) rest) refl

-- ---- entries and attributes

pub entry_takes : (len : ℕ) (last : Option (List ℕ)) (bytes : List ℕ) (x : List ℕ × Fid) (rest : List ℕ) → IsBytes bytes → entry_at len last bytes ≡ Ok (x, rest) → Takes bytes (entry_text x) rest × FitsEntry x × (rises name_cmp last x.0 ≡ true)
unfolding entry_at entry_text
entry_takes len last bytes x rest fits e =
    let a = bind_ok (number_at w16 1 255 len bytes) _ _ e in
    let b = bind_ok (number_at w16 0 0 len a.0.1) _ _ a.2 in
    let c = bind_ok (number_at w32 0 0 len b.0.1) _ _ b.2 in
    let f = bind_ok (fid_at most64 most32 len c.0.1) _ _ c.2 in
    let n = bind_ok (name_at len a.0.0 last f.0.1) _ _ f.2 in
    let size = number_takes w16 wide16 1 255 len bytes a.0.0 a.0.1 fits a.1 in
    let range = number_is w16 1 255 len bytes a.0.0 a.0.1 a.1 in
    let space = number_takes w16 wide16 0 0 len a.0.1 b.0.0 b.0.1 size.0.fits b.1 in
    let no_space : b.0.0 ≡ 0 = omega (arith, (number_is w16 0 0 len a.0.1 b.0.0 b.0.1 b.1).at_most) in
    let gap = number_takes w32 wide32 0 0 len b.0.1 c.0.0 c.0.1 space.0.fits c.1 in
    let no_gap : c.0.0 ≡ 0 = omega (arith, (number_is w32 0 0 len b.0.1 c.0.0 c.0.1 c.1).at_most) in
    let fid = fid_takes most64 most32 len c.0.1 f.0.0 f.0.1 gap.0.fits f.1 in
    let name = name_takes len a.0.0 last f.0.1 n.0.0 n.0.1 fid.0.fits n.1 in
    let one : Takes bytes (word w16 (length n.0.0)) a.0.1 = subst (λ (k : ℕ). Takes bytes (word w16 k) a.0.1) (sym name.1.size) size.0 in
    let two : Takes a.0.1 (word w16 0) b.0.1 = subst (λ (k : ℕ). Takes a.0.1 (word w16 k) b.0.1) no_space space.0 in
    let three : Takes b.0.1 (word w32 0) c.0.1 = subst (λ (k : ℕ). Takes b.0.1 (word w32 k) c.0.1) no_gap gap.0 in
    let is = name_fits n.0.0 (omega (arith, name.1.size, range.at_least)) (omega (arith, name.1.size, range.at_most)) name.1.bytes name.1.faultless in
    let made : List ℕ × Fid = (n.0.0, f.0.0) in
    subst (λ (p : (List ℕ × Fid) × List ℕ). Takes bytes (entry_text p.0) p.1 × FitsEntry p.0 × (rises name_cmp last p.0.0 ≡ true)) (ok_is (made, n.0.1) (x, rest) n.2)
    (Takes-then one (Takes-then two (Takes-then three (Takes-then fid.0 name.0))), (is, fid.1.is_fid), name.1.rise)

pub entry_again : (len : ℕ) (last : Option (List ℕ)) (x : List ℕ × Fid) (rest : List ℕ) → FitsEntry x → rises name_cmp last x.0 ≡ true → entry_at len last (entry_text x ++ rest) ≡ Ok (x, rest)
unfolding entry_at entry_text
entry_again len last x rest fit rise =
    let r1 = padded_text x.0 ++ rest in
    let r2 = fid_bytes x.1 ++ r1 in
    let r3 = word w32 0 ++ r2 in
    let r4 = word w16 0 ++ r3 in
    let low : 1 ≤ length x.0 = fit.0.0 in
    let high : length x.0 ≤ 255 = fit.0.1 in
    let text : (word w16 (length x.0) ++ (word w16 0 ++ (word w32 0 ++ (fid_bytes x.1 ++ padded_text x.0)))) ++ rest ≡ word w16 (length x.0) ++ r4 = simp append_assoc in
    rw (
      text,
      number_again w16 wide16 1 255 len (length x.0) r4 low high (omega (arith, high)),
      number_again w16 wide16 0 0 len 0 r3 (omega arith) (omega arith) (omega arith),
      number_again w32 wide32 0 0 len 0 r2 (omega arith) (omega arith) (omega arith),
      fid_again most64 most32 len x.1 r1 (any_fid x.1 fit.1),
      name_again len (length x.0) last x.0 rest refl rise (name_faultless x.0 fit.0),
    ) refl

pub attribute_takes : (len : ℕ) (last : Option (List ℕ)) (bytes : List ℕ) (x : List ℕ × List ℕ) (rest : List ℕ) → IsBytes bytes → attribute_at len last bytes ≡ Ok (x, rest) → Takes bytes (attribute_text x) rest × FitsAttribute x × (rises name_cmp last x.0 ≡ true)
unfolding attribute_at attribute_text
attribute_takes len last bytes x rest fits e =
    let a = bind_ok (number_at w16 1 255 len bytes) _ _ e in
    let b = bind_ok (number_at w16 0 4096 len a.0.1) _ _ a.2 in
    let c = bind_ok (number_at w32 0 0 len b.0.1) _ _ b.2 in
    let n = bind_ok (name_at len a.0.0 last c.0.1) _ _ c.2 in
    let v = bind_ok (padded_at len b.0.0 n.0.1) _ _ n.2 in
    let size = number_takes w16 wide16 1 255 len bytes a.0.0 a.0.1 fits a.1 in
    let range = number_is w16 1 255 len bytes a.0.0 a.0.1 a.1 in
    let count = number_takes w16 wide16 0 4096 len a.0.1 b.0.0 b.0.1 size.0.fits b.1 in
    let most = (number_is w16 0 4096 len a.0.1 b.0.0 b.0.1 b.1).at_most in
    let gap = number_takes w32 wide32 0 0 len b.0.1 c.0.0 c.0.1 count.0.fits c.1 in
    let no_gap : c.0.0 ≡ 0 = omega (arith, (number_is w32 0 0 len b.0.1 c.0.0 c.0.1 c.1).at_most) in
    let name = name_takes len a.0.0 last c.0.1 n.0.0 n.0.1 gap.0.fits n.1 in
    let value = padded_take len b.0.0 n.0.1 v.0.0 v.0.1 name.0.fits v.1 in
    let one : Takes bytes (word w16 (length n.0.0)) a.0.1 = subst (λ (k : ℕ). Takes bytes (word w16 k) a.0.1) (sym name.1.size) size.0 in
    let two : Takes a.0.1 (word w16 (length v.0.0)) b.0.1 = subst (λ (k : ℕ). Takes a.0.1 (word w16 k) b.0.1) (sym value.1) count.0 in
    let three : Takes b.0.1 (word w32 0) c.0.1 = subst (λ (k : ℕ). Takes b.0.1 (word w32 k) c.0.1) no_gap gap.0 in
    let is = name_fits n.0.0 (omega (arith, name.1.size, range.at_least)) (omega (arith, name.1.size, range.at_most)) name.1.bytes name.1.faultless in
    let short : length v.0.0 ≤ 4096 = omega (arith, value.1, most) in
    let made : List ℕ × List ℕ = (n.0.0, v.0.0) in
    subst (λ (p : (List ℕ × List ℕ) × List ℕ). Takes bytes (attribute_text p.0) p.1 × FitsAttribute p.0 × (rises name_cmp last p.0.0 ≡ true)) (ok_is (made, v.0.1) (x, rest) v.2)
    (Takes-then one (Takes-then two (Takes-then three (Takes-then name.0 value.0))), (is, value.2, short), name.1.rise)

pub attribute_again : (len : ℕ) (last : Option (List ℕ)) (x : List ℕ × List ℕ) (rest : List ℕ) → FitsAttribute x → rises name_cmp last x.0 ≡ true → attribute_at len last (attribute_text x ++ rest) ≡ Ok (x, rest)
unfolding attribute_at attribute_text
attribute_again len last x rest fit rise =
    let r1 = padded_text x.1 ++ rest in
    let r2 = padded_text x.0 ++ r1 in
    let r3 = word w32 0 ++ r2 in
    let r4 = word w16 (length x.1) ++ r3 in
    let low : 1 ≤ length x.0 = fit.0.0 in
    let high : length x.0 ≤ 255 = fit.0.1 in
    let short : length x.1 ≤ 4096 = fit.2 in
    let text : (word w16 (length x.0) ++ (word w16 (length x.1) ++ (word w32 0 ++ (padded_text x.0 ++ padded_text x.1)))) ++ rest ≡ word w16 (length x.0) ++ r4 = simp append_assoc in
    rw (
      text,
      number_again w16 wide16 1 255 len (length x.0) r4 low high (omega (arith, high)),
      number_again w16 wide16 0 4096 len (length x.1) r3 (omega arith) short (omega (arith, short)),
      number_again w32 wide32 0 0 len 0 r2 (omega arith) (omega arith) (omega arith),
      name_again len (length x.0) last x.0 r1 refl rise (name_faultless x.0 fit.0),
      padded_again len (length x.1) x.1 rest refl,
    ) refl
