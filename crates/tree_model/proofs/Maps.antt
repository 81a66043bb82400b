-- A finite map made of a tree map's entries answers and changes as the tree map does.
use Rattle.std.proofs.Common.{◌≡◌, ℕ, cond, List, [], ◌∷◌, Some, None, refl, sym, ap, ◌∙◌}
use Rattle.std.specs.declared.cmp.Ordering.{Ordering}
use Rattle.std.specs.Ordering.{nat_cmp, ordering_then}
use Rattle.std.specs.Cmp.{IsTotalOrder, nat_cmp_total, eq_by_cmp_equiv}
use Rattle.std.specs.Cmp.Lexicographic.{nat_list_cmp_total}
use Rattle.std.specs.BTreeMap.{is_at}
use Rattle.std.specs.Map.{lookup}
use Rattle.std.specs.FinMap.{from_entries, get, insert, remove, find, get-from_entries, get-insert, get-remove, same_map}
use Rattle.std.proofs.lemmas.Cmp.{on_total, then_total}
use Rattle.std.proofs.lemmas.Map.Lookups.{CmpEqualImpliesEq, exact_pairs, exact_unsigned, exact_bytes}
use Rattle.fid_space.specs.declared.fid.Fid.{Fid}
use Rattle.tree_model.specs.Fids.{fid_cmp, name_cmp}

module _ {K X : Type 0} (R : K → K → Ordering) where
  find_is : (es : List (K × X)) (q : K) → find R q es ≡ lookup (is_at (R q)) es
  find_is [] q = refl
  find_is (e ∷ es) q = ap (cond (is_at (R q) e.0) (Some e.1)) (find_is es q)

  -- what the finite map has at a key
  pub got : IsTotalOrder R → (es : List (K × X)) (q : K) → get (from_entries {R = R} es) q ≡ lookup (is_at (R q)) es
  got total es q = get-from_entries total es q ∙ find_is es q

  -- entries that differ at one key make maps that differ there
  pub put : IsTotalOrder R → CmpEqualImpliesEq R → (es fs : List (K × X)) (k : K) (v : X)
      → ((q : K) → lookup (is_at (R q)) fs ≡ cond (is_at (R k) q) (Some v) (lookup (is_at (R q)) es)) → from_entries {R = R} fs ≡ insert (from_entries es) k v
  put total exact es fs k v h = same_map total exact _ _ (λ q.
      got total fs q ∙ h q ∙ ap (λ b. cond b (Some v) (lookup (is_at (R q)) es)) ((eq_by_cmp_equiv total).symm k q)
      ∙ sym (get-insert total (from_entries es) k v q ∙ ap (cond (is_at (R q) k) (Some v)) (got total es q)))

  -- an entry less
  pub taken : IsTotalOrder R → CmpEqualImpliesEq R → (es fs : List (K × X)) (k : K)
      → ((q : K) → lookup (is_at (R q)) fs ≡ cond (is_at (R k) q) None (lookup (is_at (R q)) es)) → from_entries {R = R} fs ≡ remove (from_entries es) k
  taken total exact es fs k h = same_map total exact _ _ (λ q.
      got total fs q ∙ h q ∙ ap (λ b. cond b None (lookup (is_at (R q)) es)) ((eq_by_cmp_equiv total).symm k q)
      ∙ sym (get-remove total (from_entries es) k q ∙ ap (cond (is_at (R q) k) None) (got total es q)))

pub fids_total : IsTotalOrder fid_cmp
fids_total = then_total (on_total (λ (f : Fid). f.seq) nat_cmp_total) (then_total (on_total (λ (f : Fid). f.oid) nat_cmp_total) (on_total (λ (f : Fid). f.ver) nat_cmp_total))

pub exact_fids : CmpEqualImpliesEq fid_cmp
exact_fids a b h = ap (λ (p : ℕ × (ℕ × ℕ)). record { seq = p.0; oid = p.1.0; ver = p.1.1 })
    (exact_pairs nat_cmp (λ (x y : ℕ × ℕ). ordering_then (nat_cmp x.0 y.0) (nat_cmp x.1 y.1)) exact_unsigned (exact_pairs nat_cmp nat_cmp exact_unsigned exact_unsigned)
    (a.seq, (a.oid, a.ver)) (b.seq, (b.oid, b.ver)) h)

pub names_total : IsTotalOrder name_cmp
names_total = nat_list_cmp_total

pub exact_names : CmpEqualImpliesEq name_cmp
exact_names = exact_bytes
