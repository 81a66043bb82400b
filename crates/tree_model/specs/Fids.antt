-- The orders of FIDs and of names, and how they are told apart.
use Rattle.std.specs.Prelude.{ℕ, Bool, ◌&&◌, ◌==◌, List, refl}
use Rattle.std.specs.declared.cmp.Ordering.{Ordering}
use Rattle.std.specs.Ordering.{nat_cmp, ordering_then}
use Rattle.std.specs.Cmp.Lexicographic.{slice_cmp, pointwise}
use Rattle.std.specs.Coded.{Coded, code_by, coded×, coded_ℕ, coded_list}
use Rattle.fid_space.specs.declared.fid.Fid.{Fid}

-- by sequence, object id and version
abbrev pub fid_cmp : Fid → Fid → Ordering
fid_cmp a b = ordering_then (nat_cmp a.seq b.seq) (ordering_then (nat_cmp a.oid b.oid) (nat_cmp a.ver b.ver))

-- by bytes
abbrev pub name_cmp : List ℕ → List ℕ → Ordering
name_cmp = slice_cmp nat_cmp

abbrev pub same_fid : Fid → Fid → Bool
same_fid a b = (a.seq == b.seq) && ((a.oid == b.oid) && (a.ver == b.ver))

abbrev pub same_name : List ℕ → List ℕ → Bool
same_name = pointwise ◌==◌

abbrev pub coded_fid : Coded Fid
coded_fid = code_by (ℕ × (ℕ × ℕ)) (coded× coded_ℕ (coded× coded_ℕ coded_ℕ)) (λ f. (f.seq, (f.oid, f.ver))) (λ p. record { seq = p.0; oid = p.1.0; ver = p.1.1 }) (λ _. refl)

abbrev pub coded_name : Coded (List ℕ)
coded_name = coded_list coded_ℕ
