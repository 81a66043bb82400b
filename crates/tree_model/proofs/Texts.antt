-- The text of a tree from the two maps that keep it.
use Rattle.std.proofs.Common.{◌≡◌, ℕ, Bool, true, false, ◌&&◌, T, map, List, [], ◌∷◌, ◌++◌, length, sym, ap, ◌∙◌, subst}
use Rattle.std.specs.declared.cmp.Ordering.{Ordering}
use Rattle.std.specs.declared.cmp.Ordering.TheVariants.{Less}
use Rattle.std.specs.Ordering.{is_lt}
use Rattle.std.specs.List.{flat_map, AllByRecursion}
use Rattle.std.specs.List.Sorted.{IsStrictlySortedBy}
use Rattle.std.specs.Cmp.{IsTotalOrder}
use Rattle.std.specs.FinMap.{is_sorted, entries, len, from_entries, from_sorted, get-from_entries, get-from_sorted, entries-from_sorted, len-entries, same_map}
use Rattle.std.specs.FinMap.Entries.{below_all}
use Rattle.std.proofs.lemmas.Map.Lookups.{CmpEqualImpliesEq}
use Rattle.fid_space.specs.declared.fid.Fid.{Fid}
use Rattle.tree_model.specs.declared.node.Node.{Node}
use Rattle.tree_model.specs.Tree.{Tree, Names, Grown, made, fid_cmp}
use Rattle.tree_model.proofs.Maps.{fids_total, exact_fids}
use Rattle.tree_model.specs.TreeText.{tree_head, tree_text, entry_count, node_text, names_text, xattrs_text}

both : (a b : Bool) → T a → T b → T (a && b)
both true b x y = y
both false b x y = absurd x

module _ {K X : Type 0} (R : K → K → Ordering) where
  below : (k : K) (es : List (K × X)) → AllByRecursion (λ y. R k y ≡ Less) (map (λ (e : K × X). e.0) es) → T (below_all R k es)
  below k [] h = tt
  below k (e ∷ es) h = both (is_lt (R k e.0)) (below_all R k es) (subst (λ r. T (is_lt r)) (sym h.0) tt) (below k es h.1)

  sorted : (es : List (K × X)) → IsStrictlySortedBy R (map (λ (e : K × X). e.0) es) → T (is_sorted R es)
  unfolding IsStrictlySortedBy
  sorted [] h = tt
  sorted (e ∷ es) h = both (below_all R e.0 es) (is_sorted R es) (below e.0 es h.0) (sorted es h.1)

  -- the entries of the map that ordered entries make
  pub entries_again : IsTotalOrder R → CmpEqualImpliesEq R → (es : List (K × X)) → IsStrictlySortedBy R (map (λ (e : K × X). e.0) es) → entries (from_entries {R = R} es) ≡ es
  entries_again total exact es h =
      let s = sorted es h in
      ap entries (same_map total exact (from_entries es) (from_sorted es) (λ q. get-from_entries total es q ∙ sym (get-from_sorted R es q s))) ∙ entries-from_sorted R es s

  pub len_again : IsTotalOrder R → CmpEqualImpliesEq R → (es : List (K × X)) → IsStrictlySortedBy R (map (λ (e : K × X). e.0) es) → len (from_entries {R = R} es) ≡ length es
  len_again total exact es h = len-entries (from_entries {R = R} es) ∙ ap length (entries_again total exact es h)

-- the parts of a tree's text, from the lists that its maps are made of
abbrev pub laid_out : List (Fid × Node) → List (Fid × Names) → List ℕ
laid_out nodes places = tree_head (length nodes) (entry_count places) ++ (flat_map node_text nodes ++ (flat_map names_text places ++ flat_map xattrs_text nodes))

parts : (t : Tree) (nodes : List (Fid × Node)) (places : List (Fid × Names)) → entries t.nodes ≡ nodes → entries t.entries ≡ places → laid_out nodes places ≡ tree_text t
unfolding tree_text
parts t nodes places n p =
    let counted : tree_text t ≡ laid_out (entries t.nodes) (entries t.entries) =
    ap (λ k. tree_head k (entry_count (entries t.entries)) ++ (flat_map node_text (entries t.nodes) ++ (flat_map names_text (entries t.entries) ++ flat_map xattrs_text (entries t.nodes)))) (len-entries t.nodes) in
    sym (counted ∙ ap (λ ns. laid_out ns (entries t.entries)) n ∙ ap (λ ps. laid_out nodes ps) p)

pub text_again : (g : Grown) (targets : ℕ) (nodes : List (Fid × Node)) (places : List (Fid × Names)) → record { targets = targets; tree = made nodes places } ≡ g
    → IsStrictlySortedBy fid_cmp (map (λ (e : Fid × Node). e.0) nodes) → IsStrictlySortedBy fid_cmp (map (λ (e : Fid × Names). e.0) places) → laid_out nodes places ≡ tree_text g.tree
text_again g targets nodes places is n p =
    parts (made nodes places) nodes places (entries_again fid_cmp fids_total exact_fids nodes n) (entries_again fid_cmp fids_total exact_fids places p) ∙ ap (λ (h : Grown). tree_text h.tree) is
