-- A tree that is made of two lists changes as the lists do.
use Rattle.std.proofs.Common.{◌≡◌, ◌≢◌, ◌==◌, ◌||◌, ◌-◌, nat_le, is_some, ℕ, Bool, true, false, cond, if◌then◌else◌, List, [], ◌∷◌, ◌++◌, Option, Some, None, inl, inr, refl, sym, ap, ◌∙◌}
use Rattle.std.proofs.lemmas.Bool.Decides.{eqb_tells}
use Rattle.std.specs.Cmp.{eq_by_cmp_equiv}
use Rattle.std.specs.Option.{unwrap_or}
use Rattle.std.specs.BTreeMap.{is_at}
use Rattle.std.specs.Map.{lookup}
use Rattle.std.specs.FinMap.{FinMap, from_entries, get, insert, remove, empty, len, get-empty, get-insert, get-remove, len-remove, len-empty, empty_of_len, same_map}
use Rattle.fid_space.specs.declared.fid.Fid.{Fid}
use Rattle.tree_model.specs.declared.node.Node.{Node}
use Rattle.tree_model.specs.Tree.{Tree, Names, Grown, fid_cmp, name_cmp, made, names_of}
use Rattle.tree_model.specs.Changes.{changed, changed_all, with_names, taken_name}
use Rattle.tree_model.specs.Changes.{Change, PutNode, DropNode, PutName, DropName}
use Rattle.tree_model.specs.Step.{changed_node, released, replaced, moved_node, same_node}
use Rattle.std.specs.Ordering.{eq_by_cmp}
use Rattle.tree_model.proofs.Fids.{told_apart}
use Rattle.tree_model.proofs.Maps.{got, put, taken, fids_total, exact_fids, names_total}

-- the value of a model over two lists
abbrev pub grown : ℕ → List (Fid × Node) → List (Fid × Names) → Grown
grown n nodes places = record { targets = n; tree = made nodes places }

abbrev pub change_of : Grown → Change → Grown
change_of g c = record { targets = g.targets; tree = changed g.tree c }

abbrev pub changes_of : Grown → List Change → Grown
changes_of g cs = record { targets = g.targets; tree = changed_all g.tree cs }

pub node_put : (n : ℕ) (nodes more : List (Fid × Node)) (places : List (Fid × Names)) (f : Fid) (v : Node)
    → ((q : Fid) → lookup (is_at (fid_cmp q)) more ≡ cond (is_at (fid_cmp f) q) (Some v) (lookup (is_at (fid_cmp q)) nodes))
    → grown n more places ≡ change_of (grown n nodes places) (PutNode f v)
node_put n nodes more places f v h =
    let e = put fid_cmp fids_total exact_fids nodes more f v h in
    λ i. record { targets = n; tree = record { nodes = e i; entries = from_entries places } }

pub node_taken : (n : ℕ) (nodes less : List (Fid × Node)) (places : List (Fid × Names)) (f : Fid)
    → ((q : Fid) → lookup (is_at (fid_cmp q)) less ≡ cond (is_at (fid_cmp f) q) None (lookup (is_at (fid_cmp q)) nodes))
    → grown n less places ≡ change_of (grown n nodes places) (DropNode f)
node_taken n nodes less places f h =
    let e = taken fid_cmp fids_total exact_fids nodes less f h in
    λ i. record { targets = n; tree = record { nodes = e i; entries = from_entries places } }

-- a node that is there is another from now on
pub node_changed : (n : ℕ) (nodes more : List (Fid × Node)) (places : List (Fid × Names)) (f : Fid) (old new : Node) (change : Node → Node)
    → new ≡ change old → lookup (is_at (fid_cmp f)) nodes ≡ Some old
    → ((q : Fid) → lookup (is_at (fid_cmp q)) more ≡ cond (is_at (fid_cmp f) q) (Some new) (lookup (is_at (fid_cmp q)) nodes))
    → grown n more places ≡ changes_of (grown n nodes places) (changed_node f (get (made nodes places).nodes f) change)
node_changed n nodes more places f old new change as_new is h =
    node_put n nodes more places f new h
    ∙ ap (λ v. change_of (grown n nodes places) (PutNode f v)) as_new
    ∙ ap (λ o. changes_of (grown n nodes places) (changed_node f o change)) (sym (got fid_cmp fids_total nodes f ∙ is))

-- no node is there to be changed
pub node_missing : (n : ℕ) (nodes : List (Fid × Node)) (places : List (Fid × Names)) (f : Fid) (change : Node → Node)
    → lookup (is_at (fid_cmp f)) nodes ≡ None → grown n nodes places ≡ changes_of (grown n nodes places) (changed_node f (get (made nodes places).nodes f) change)
node_missing n nodes places f change is =
    ap (λ o. changes_of (grown n nodes places) (changed_node f o change)) (sym (got fid_cmp fids_total nodes f ∙ is))

-- what a directory has
pub names_there : (places : List (Fid × Names)) (nodes : List (Fid × Node)) (d : Fid) (m : Names) → lookup (is_at (fid_cmp d)) places ≡ Some m → names_of (made nodes places) d ≡ m
names_there places nodes d m is = ap (λ o. unwrap_or o empty) (got fid_cmp fids_total places d ∙ is)

pub names_absent : (places : List (Fid × Names)) (nodes : List (Fid × Node)) (d : Fid) → lookup (is_at (fid_cmp d)) places ≡ None → names_of (made nodes places) d ≡ empty
names_absent places nodes d is = ap (λ o. unwrap_or o empty) (got fid_cmp fids_total places d ∙ is)

-- a map with an entry isn't empty
pub filled : (m : Names) (x : List ℕ) (f : Fid) → (len (insert m x f) == 0) ≡ false
filled m x f = elim (eqb_tells (len (insert m x f)) 0) [
  | inl h ↦ absurd (none_some (sym (get-empty {X = Fid} name_cmp x) ∙ ap (λ (k : Names). get k x) (sym (empty_of_len (insert m x f) h.1)) ∙ get-insert names_total m x f x
      ∙ ap (λ b. cond b (Some f) (get m x)) ((eq_by_cmp_equiv names_total).refl x)))
  | inr h ↦ h.0
]
  where
    none_some : None ≡ Some f → ⊥
    none_some e = cc

-- a name more among the entries
pub name_put : (n : ℕ) (t : Tree) (es : FinMap fid_cmp Names) (d : Fid) (x : List ℕ) (f : Fid) (m : Names) → names_of t d ≡ m → es ≡ insert t.entries d (insert m x f)
    → ◌≡◌ {A = Grown} (record { targets = n; tree = record { nodes = t.nodes; entries = es } }) (change_of (record { targets = n; tree = t }) (PutName d x f))
name_put n t es d x f m is e =
    let inserted : with_names t d (insert (names_of t d) x f) ≡ insert t.entries d (insert m x f) =
    ap (λ k. with_names t d (insert k x f)) is ∙ ap (λ b. if b then remove t.entries d else insert t.entries d (insert m x f)) (filled m x f) in
    let same = e ∙ sym inserted in
    λ i. record { targets = n; tree = record { nodes = t.nodes; entries = same i } }

pub none_left : (t : Tree) (d : Fid) (x : List ℕ) (o : Option Names) → get t.entries d ≡ o → len (unwrap_or (get (taken_name t d x o) d) empty) ≡ 0
    → remove (taken_name t d x o) d ≡ with_names t d (remove (names_of t d) x)
none_left t d x None is none =
    let there : names_of t d ≡ empty = ap (λ o. unwrap_or o empty) is in
    sym (ap (λ k. with_names t d (remove k x)) there ∙ ap (λ b. if b then remove t.entries d else insert t.entries d (remove empty x)) (none_of x))
  where
    none_of : (x : List ℕ) → (len (remove (empty {X = Fid} {R = name_cmp}) x) == 0) ≡ true
    none_of x = ap (λ k. k == 0) (len-remove names_total (empty {X = Fid}) x ∙ ap (λ b. cond b (len (empty {X = Fid} {R = name_cmp}) - 1) (len (empty {X = Fid} {R = name_cmp}))) (ap (λ o. is_some o) (get-empty {X = Fid} name_cmp x)) ∙ len-empty name_cmp Fid)
none_left t d x (Some m) is none =
    let there : names_of t d ≡ m = ap (λ o. unwrap_or o empty) is in
    let after : get (insert t.entries d (remove m x)) d ≡ Some (remove m x) =
    get-insert fids_total t.entries d (remove m x) d ∙ ap (λ b. cond b (Some (remove m x)) (get t.entries d)) ((eq_by_cmp_equiv fids_total).refl d) in
    let zero_left : len (remove m x) ≡ 0 = sym (ap (λ o. len (unwrap_or o empty)) after) ∙ none in
    let wanted : with_names t d (remove (names_of t d) x) ≡ remove t.entries d =
    ap (λ k. with_names t d (remove k x)) there ∙ ap (λ k. if k == 0 then remove t.entries d else insert t.entries d (remove m x)) zero_left in
    same_map fids_total exact_fids _ _ (λ q.
    get-remove fids_total (insert t.entries d (remove m x)) d q ∙ ap (λ o. cond (eq_by_cmp fid_cmp q d) None o) (get-insert fids_total t.entries d (remove m x) q)
    ∙ twice (eq_by_cmp fid_cmp q d) (Some (remove m x)) (get t.entries q) ∙ sym (get-remove fids_total t.entries d q)) ∙ sym wanted
  where
    twice : (b : Bool) (v o : Option Names) → cond b None (cond b v o) ≡ cond b None o
    twice true v o = refl
    twice false v o = refl

pub some_left : (t : Tree) (d : Fid) (x : List ℕ) (o : Option Names) → get t.entries d ≡ o → len (unwrap_or (get (taken_name t d x o) d) empty) ≢ 0
    → taken_name t d x o ≡ with_names t d (remove (names_of t d) x)
some_left t d x None is some = absurd (some (ap (λ o. len (unwrap_or o empty)) is ∙ len-empty name_cmp Fid))
some_left t d x (Some m) is some =
    let there : names_of t d ≡ m = ap (λ o. unwrap_or o empty) is in
    let after : get (insert t.entries d (remove m x)) d ≡ Some (remove m x) =
    get-insert fids_total t.entries d (remove m x) d ∙ ap (λ b. cond b (Some (remove m x)) (get t.entries d)) ((eq_by_cmp_equiv fids_total).refl d) in
    let left : (len (remove m x) == 0) ≡ false = elim (eqb_tells (len (remove m x)) 0) [ inl h ↦ absurd (some (ap (λ o. len (unwrap_or o empty)) after ∙ h.1)) | inr h ↦ h.0 ] in
    sym (ap (λ k. with_names t d (remove k x)) there ∙ ap (λ b. if b then remove t.entries d else insert t.entries d (remove m x)) left)

-- changes one after another
pub changed_all-append : (t : Tree) (xs ys : List Change) → changed_all t (xs ++ ys) ≡ changed_all (changed_all t xs) ys
changed_all-append t [] ys = refl
changed_all-append t (x ∷ xs) ys = changed_all-append (changed t x) xs ys

-- what is known of another node isn't changed
released_other : (t : Tree) (f g : Fid) (o : Option Node) → eq_by_cmp fid_cmp f g ≡ false → get (changed_all t (released g o)).nodes f ≡ get t.nodes f
released_other t f g None apart = refl
released_other t f g (Some node) apart = by_case (node.dir || nat_le node.links 1)
  where
    by_case : (b : Bool) → get (changed_all t (if b then DropNode g ∷ [] else PutNode g (record node { links = node.links - 1 }) ∷ [])).nodes f ≡ get t.nodes f
    by_case true = get-remove fids_total t.nodes g f ∙ ap (λ b. cond b None (get t.nodes f)) apart
    by_case false = get-insert fids_total t.nodes g (record node { links = node.links - 1 }) f ∙ ap (λ b. cond b (Some (record node { links = node.links - 1 })) (get t.nodes f)) apart

replaced_other : (t u : Tree) (f : Fid) (old : Option Fid) → same_node f old ≡ false → get (changed_all t (replaced u old)).nodes f ≡ get t.nodes f
replaced_other t u f None apart = refl
replaced_other t u f (Some old) apart = released_other t f old (get u.nodes old) (told_apart f old apart)

-- a name that goes, a node that it replaces, and a name that comes
pub moved_all : (t : Tree) (p : Fid) (x : List ℕ) (q : Fid) (y : List ℕ) (m : Fid) (old : Option Fid) → same_node m old ≡ false
    → changed_all (changed (changed_all (changed t (DropName p x)) (replaced t old)) (PutName q y m)) (moved_node p q m (get (changed_all (changed t (DropName p x)) (replaced t old)).nodes m))
    ≡ changed_all t (DropName p x ∷ (replaced t old ++ (PutName q y m ∷ moved_node p q m (get t.nodes m))))
moved_all t p x q y m old apart =
    let after = changed_all (changed t (DropName p x)) (replaced t old) in
    ap (λ o. changed_all (changed after (PutName q y m)) (moved_node p q m o)) (replaced_other (changed t (DropName p x)) t m old apart)
    ∙ sym (changed_all-append (changed t (DropName p x)) (replaced t old) (PutName q y m ∷ moved_node p q m (get t.nodes m)))
