-- The test of two FIDs and the order of FIDs tell the same apart, and so for names.
use Rattle.std.proofs.Common.{◌≡◌, ◌&&◌, ℕ, true, false, List, refl, sym, ap, ◌∙◌}
use Rattle.std.specs.Ordering.{eq_by_cmp, is_eq, nat_cmp, ordering_then}
use Rattle.std.specs.Cmp.{unsigned_ties}
use Rattle.std.specs.Cmp.Lexicographic.{texts_ties}
use Rattle.std.specs.declared.cmp.Ordering.{Ordering}
use Rattle.std.specs.declared.cmp.Ordering.TheVariants.{Less, Equal, Greater}
use Rattle.std.proofs.lemmas.Map.Views.{tells_apart}
use Rattle.fid_space.specs.declared.fid.Fid.{Fid}
use Rattle.tree_model.specs.Fids.{fid_cmp, name_cmp, same_fid, same_name}
use Rattle.tree_model.proofs.Maps.{exact_fids, exact_names}

then_is : (r s : Ordering) → is_eq (ordering_then r s) ≡ (is_eq r && is_eq s)
then_is Less s = refl
then_is Equal s = refl
then_is Greater s = refl

-- the two tests of FIDs
pub fid_ties : (a b : Fid) → same_fid a b ≡ eq_by_cmp fid_cmp a b
fid_ties a b =
    let s = unsigned_ties a.seq b.seq in
    let o = unsigned_ties a.oid b.oid in
    let v = unsigned_ties a.ver b.ver in
    (λ i. s i && (o i && v i))
    ∙ sym (then_is (nat_cmp a.seq b.seq) (ordering_then (nat_cmp a.oid b.oid) (nat_cmp a.ver b.ver))
    ∙ ap (λ t. is_eq (nat_cmp a.seq b.seq) && t) (then_is (nat_cmp a.oid b.oid) (nat_cmp a.ver b.ver)))

pub name_ties : (x y : List ℕ) → same_name x y ≡ eq_by_cmp name_cmp x y
name_ties x y = texts_ties x y

pub told_apart : (a b : Fid) → same_fid a b ≡ false → eq_by_cmp fid_cmp a b ≡ false
told_apart a b h = sym (fid_ties a b) ∙ h

pub told_same : (a b : Fid) → eq_by_cmp fid_cmp a b ≡ true → a ≡ b
told_same a b h = tells_apart exact_fids a b h

pub name_same : (x y : List ℕ) → eq_by_cmp name_cmp x y ≡ true → x ≡ y
name_same x y h = tells_apart exact_names x y h
