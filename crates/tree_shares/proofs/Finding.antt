-- The objects of a tree, one by one: whose object a FID names says which it is.
use Rattle.std.proofs.Common.{◌≡◌, ◌≢◌, ◌≤◌, ℕ, zero, suc, Bool, true, false, cond, ◌&&◌, ◌||◌, List, [], ◌∷◌, ◌++◌, map, Option, Some, None, is_some, refl, sym, ap, ◌∙◌, arith}
use Rattle.std.proofs.Math.Dec.{T}
use Rattle.std.specs.List.{range_with_len, flat_map, list_any, AllByRecursion}
use Rattle.std.specs.declared.cmp.Ordering.{Ordering}
use Rattle.std.specs.declared.cmp.Ordering.TheVariants.{Less, Equal, Greater}
use Rattle.std.specs.Ordering.{is_lt, is_eq}
use Rattle.std.specs.Cmp.{IsTotalOrder, eq_by_cmp_equiv}
use Rattle.std.specs.FinMap.{FinMap, get, entries, find, is_sorted, entries_sorted, get-entries, contains_key-keys}
use Rattle.std.specs.FinMap.Entries.{below_all}
use Rattle.fid_space.specs.declared.fid.Fid.{Fid}
use Rattle.tree_model.specs.declared.node.Node.{Node}
use Rattle.tree_model.specs.Fids.{fid_cmp}
use Rattle.tree_model.specs.Tree.{Names, names_of}
use Rattle.tree_model.specs.Keys.{Layout, Laid, layout_at}
use Rattle.tree_model.proofs.Maps.{fids_total}
use Rattle.tree_model.proofs.Fids.{told_same}
use Rattle.object_store.specs.Objects.{Object}
use Rattle.tree_shares.specs.Shares.{node_object, stripe_object, stripe_fid_of, objects_of, all_objects}
use Rattle.tree_sound.specs.Sound.{IsSound}
use Rattle.tree_shares.proofs.Facts.{facts}
use Rattle.tree_shares.proofs.Owner.{owner, index_in, index_of_stripe, owner_of_node, owner_of_stripe, Clients, client_facts}
use Rattle.tree_sound.proofs.Basics.{same, by_bool, not_both, same_itself}

-- whether the FID is one of these stripes
abbrev pub one_of : ℕ → Fid → Layout → Fid → List ℕ → Bool
one_of targets d l q is = list_any (λ i. same q (stripe_fid_of targets d l i)) is

abbrev pub among : ℕ → Fid → Layout → Fid → Bool
among targets d l q = one_of targets d l q (range_with_len 0 l.count)

abbrev pub stripe_in : ℕ → Fid → Layout → Names → Fid → Option Object
stripe_in targets d l names q = cond (among targets d l q) (Some (stripe_object d l names (index_in l q))) None

-- the object with a FID, among those of a node
abbrev pub object_in : ℕ → Fid → Fid → Option Node → Layout → Names → Option Object
object_in targets q d None l names = None
object_in targets q d (Some n) l names = cond (same q d) (Some (node_object n l names)) (stripe_in targets d l names q)

abbrev pub object_from : ℕ → Laid → Fid → Fid → Option Object
object_from targets l q d = object_in targets q d (get l.tree.nodes d) (layout_at l d) (names_of l.tree d)

abbrev pub object_at : ℕ → Laid → Fid → Option Object
object_at targets l q = object_from targets l q (owner q)

pub one_of_index : (targets : ℕ) (d : Fid) (l : Layout) (q : Fid) (i : ℕ) → same q (stripe_fid_of targets d l i) ≡ true → index_in l q ≡ i
one_of_index targets d l q i s = ap (λ f. index_in l f) (told_same q (stripe_fid_of targets d l i) s) ∙ index_of_stripe targets d l i

found_stripes : (targets : ℕ) (d : Fid) (l : Layout) (names : Names) (q : Fid) (is : List ℕ)
    → find fid_cmp q (map (λ i. (stripe_fid_of targets d l i, stripe_object d l names i)) is) ≡ cond (one_of targets d l q is) (Some (stripe_object d l names (index_in l q))) None
found_stripes targets d l names q [] = refl
found_stripes targets d l names q (i ∷ is) =
    let found = find fid_cmp q (map (λ j. (stripe_fid_of targets d l j, stripe_object d l names j)) is) in
    let left : Bool → Option Object = λ b. cond b (Some (stripe_object d l names i)) found in
    let right : Bool → Option Object = λ b. cond (b || one_of targets d l q is) (Some (stripe_object d l names (index_in l q))) None in
    by_bool (same q (stripe_fid_of targets d l i))
    (λ s. ap left s ∙ ap (λ j. Some (stripe_object d l names j)) (sym (one_of_index targets d l q i s)) ∙ sym (ap right s))
    (λ s. ap left s ∙ found_stripes targets d l names q is ∙ sym (ap right s))

found_objects : (targets : ℕ) (d : Fid) (n : Node) (l : Layout) (names : Names) (q : Fid) → find fid_cmp q (objects_of targets d n l names) ≡ object_in targets q d (Some n) l names
found_objects targets d n l names q = ap (cond (same q d) (Some (node_object n l names))) (found_stripes targets d l names q (range_with_len 0 l.count))

-- ---- what isn't there

pub none_of : (targets : ℕ) (d : Fid) (l : Layout) (q : Fid) → Clients d → same (owner q) d ≡ false → (is : List ℕ) → one_of targets d l q is ≡ false
none_of targets d l q c h [] = refl
none_of targets d l q c h (i ∷ is) =
    by_bool (same q (stripe_fid_of targets d l i))
    (λ s. not_both (same (owner q) d) (ap (λ f. same (owner f) d) (told_same q (stripe_fid_of targets d l i) s) ∙ ap (λ f. same f d) (owner_of_stripe targets d l i c) ∙ same_itself d) h)
    (λ s. ap (λ b. b || one_of targets d l q is) s ∙ none_of targets d l q c h is)

none_among_at : (targets : ℕ) (d : Fid) (l : Layout) (q : Fid) (n : ℕ) → l.count ≡ n → (n ≢ 0 → Clients d) → same (owner q) d ≡ false → one_of targets d l q (range_with_len 0 n) ≡ false
none_among_at targets d l q zero is c h = refl
none_among_at targets d l q (suc n) is c h = none_of targets d l q (c (λ (e : suc n ≡ 0). absurd (omega (arith, e)))) h (range_with_len 0 (suc n))

pub none_among : (targets : ℕ) (d : Fid) (l : Layout) (q : Fid) → (l.count ≢ 0 → Clients d) → same (owner q) d ≡ false → among targets d l q ≡ false
none_among targets d l q c h = none_among_at targets d l q l.count refl c h

pub not_itself : (q d : Fid) → d.ver ≡ 0 → same (owner q) d ≡ false → same q d ≡ false
not_itself q d v h = by_bool (same q d) (λ s. not_both (same (owner q) d) (ap (λ f. same (owner f) d) (told_same q d s) ∙ ap (λ f. same f d) (owner_of_node d v) ∙ same_itself d) h) (λ s. s)

pub not_here : (targets : ℕ) (q d : Fid) (n : Node) (l : Layout) (names : Names) → d.ver ≡ 0 → (l.count ≢ 0 → Clients d) → same (owner q) d ≡ false → object_in targets q d (Some n) l names ≡ None
not_here targets q d n l names v c h =
    ap (λ b. cond b (Some (node_object n l names)) (stripe_in targets d l names q)) (not_itself q d v h)
    ∙ ap (λ b. cond b (Some (stripe_object d l names (index_in l q))) None) (none_among targets d l q c h)

-- ---- entries of a finite map

split : (a b : Bool) → T (a && b) → T a × T b
split true b h = (tt, h)
split false b h = absurd h

less_is_other : (o : Ordering) → T (is_lt o) → is_eq o ≡ false
less_is_other Less h = refl
less_is_other Equal h = absurd h
less_is_other Greater h = absurd h

module _ {K X : Type 0} {R : K → K → Ordering} (o : IsTotalOrder R) where
  still_found : (e : K × X) (es xs : List (K × X)) → T (below_all R e.0 xs) → AllByRecursion (λ x. find R x.0 es ≡ Some x.1) xs → AllByRecursion (λ x. find R x.0 (e ∷ es) ≡ Some x.1) xs
  still_found e es [] h all = tt
  still_found e es (x ∷ xs) h all =
      let parts = split (is_lt (R e.0 x.0)) (below_all R e.0 xs) h in
      (ap (λ b. cond b (Some e.1) (find R x.0 es)) ((eq_by_cmp_equiv o).symm x.0 e.0 ∙ less_is_other (R e.0 x.0) parts.0) ∙ all.0, still_found e es xs parts.1 all.1)

  all_found : (es : List (K × X)) → T (is_sorted R es) → AllByRecursion (λ x. find R x.0 es ≡ Some x.1) es
  all_found [] h = tt
  all_found (e ∷ es) h =
      let parts = split (below_all R e.0 es) (is_sorted R es) h in
      (ap (λ b. cond b (Some e.1) (find R e.0 es)) ((eq_by_cmp_equiv o).refl e.0), still_found e es es parts.0 (all_found es parts.1))

  by_get : (m : FinMap R X) (xs : List (K × X)) → AllByRecursion (λ x. find R x.0 (entries m) ≡ Some x.1) xs → AllByRecursion (λ x. get m x.0 ≡ Some x.1) xs
  by_get m [] all = tt
  by_get m (x ∷ xs) all = (get-entries m x.0 ∙ all.0, by_get m xs all.1)

  -- each entry is what the map has under its key
  pub entries_got : (m : FinMap R X) → AllByRecursion (λ x. get m x.0 ≡ Some x.1) (entries m)
  entries_got m = by_get m (entries m) (all_found (entries m) (entries_sorted m))

-- ---- all objects

abbrev pub or_else : Option Object → Option Object → Option Object
or_else None o = o
or_else (Some x) o = Some x

found_either : (q : Fid) (xs ys : List (Fid × Object)) → find fid_cmp q (xs ++ ys) ≡ or_else (find fid_cmp q xs) (find fid_cmp q ys)
found_either q [] ys = refl
found_either q (x ∷ xs) ys = by_case (same q x.0) (found_either q xs ys)
  where
    by_case : (b : Bool) → find fid_cmp q (xs ++ ys) ≡ or_else (find fid_cmp q xs) (find fid_cmp q ys) → cond b (Some x.1) (find fid_cmp q (xs ++ ys)) ≡ or_else (cond b (Some x.1) (find fid_cmp q xs)) (find fid_cmp q ys)
    by_case true h = refl
    by_case false h = h

twice : (x : Option Object) (b : Bool) → or_else x (cond b x None) ≡ x
twice None true = refl
twice None false = refl
twice (Some x) b = refl

module _ (targets most : ℕ) (few : targets ≤ 16) (l : Laid) (sound : IsSound targets most l) where
  clients_at : (d : Fid) (n : Node) → get l.tree.nodes d ≡ Some n → (d.ver ≡ 0) × ((layout_at l d).count ≢ 0 → Clients d)
  clients_at d n is =
      let s = facts targets most l sound d n is in
      (s.version, λ c. client_facts targets d few (s.client c))

  found_all : (q : Fid) (es : List (Fid × Node)) → AllByRecursion (λ e. get l.tree.nodes e.0 ≡ Some e.1) es
      → find fid_cmp q (flat_map (λ e. objects_of targets e.0 e.1 (layout_at l e.0) (names_of l.tree e.0)) es) ≡ cond (list_any (same (owner q)) (map (λ e. e.0) es)) (object_at targets l q) None
  found_all q [] all = refl
  found_all q (e ∷ es) all =
      let rest = found_all q es all.1 in
      let others = list_any (same (owner q)) (map (λ x. x.0) es) in
      let right : Bool → Option Object = λ b. cond (b || others) (object_at targets l q) None in
      found_either q (objects_of targets e.0 e.1 (layout_at l e.0) (names_of l.tree e.0)) (flat_map (λ x. objects_of targets x.0 x.1 (layout_at l x.0) (names_of l.tree x.0)) es)
      ∙ ap (λ o. or_else o (find fid_cmp q (flat_map (λ x. objects_of targets x.0 x.1 (layout_at l x.0) (names_of l.tree x.0)) es))) (found_objects targets e.0 e.1 (layout_at l e.0) (names_of l.tree e.0) q)
      ∙ ap (or_else (object_in targets q e.0 (Some e.1) (layout_at l e.0) (names_of l.tree e.0))) rest
      ∙ by_bool (same (owner q) e.0)
      (λ s.
      let here : object_in targets q e.0 (Some e.1) (layout_at l e.0) (names_of l.tree e.0) ≡ object_at targets l q =
      ap (λ o. object_in targets q e.0 o (layout_at l e.0) (names_of l.tree e.0)) (sym all.0) ∙ ap (λ d. object_from targets l q d) (sym (told_same (owner q) e.0 s)) in
      ap (λ o. or_else o (cond others (object_at targets l q) None)) here ∙ twice (object_at targets l q) others ∙ sym (ap right s))
      (λ s.
      let c = clients_at e.0 e.1 all.0 in
      ap (λ o. or_else o (cond others (object_at targets l q) None)) (not_here targets q e.0 e.1 (layout_at l e.0) (names_of l.tree e.0) c.0 c.1 s) ∙ sym (ap right s))

  absent : (q d : Fid) (o : Option Node) (ly : Layout) (names : Names) → cond (is_some o) (object_in targets q d o ly names) None ≡ object_in targets q d o ly names
  absent q d None ly names = refl
  absent q d (Some n) ly names = refl

  pub found_object : (q : Fid) → find fid_cmp q (all_objects targets l) ≡ object_at targets l q
  found_object q =
      found_all q (entries l.tree.nodes) (entries_got fids_total l.tree.nodes)
      ∙ ap (λ b. cond b (object_at targets l q) None) (sym (contains_key-keys l.tree.nodes (owner q)))
      ∙ absent q (owner q) (get l.tree.nodes (owner q)) (layout_at l (owner q)) (names_of l.tree (owner q))
