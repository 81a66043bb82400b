-- What stands at one FID, or at one name, after the objects of a target were added.
use Rattle.std.proofs.Common.{◌≡◌, ◌||◌, ℕ, Bool, true, false, cond, List, [], ◌∷◌, ◌++◌, map, length, Option, Some, None, if◌then◌else◌, inl, inr, refl, sym, ap, ◌∙◌, append_assoc, arith}
use Rattle.std.proofs.lemmas.Bool.Decides.{eqb_tells}
use Rattle.std.specs.List.{flat_map, list_any, AllByRecursion}
use Rattle.std.specs.Option.{unwrap_or}
use Rattle.std.specs.FinMap.{get, empty, insert, remove, entries, len, get-insert, get-remove, same_map, len-empty, len-entries, FinMap}
use Rattle.fid_space.specs.declared.fid.Fid.{Fid}
use Rattle.tree_model.specs.declared.node.Node.{Node}
use Rattle.tree_model.specs.Fids.{fid_cmp, name_cmp}
use Rattle.tree_model.specs.Tree.{Tree, Names, names_of, named}
use Rattle.tree_model.specs.Changes.{Change, PutNode, DropNode, PutName, DropName, NewLayout, NextLayout, MoveNames, changed, changed_all, with_names}
use Rattle.tree_model.specs.Step.{changed_node, same_place}
use Rattle.tree_model.proofs.Maps.{fids_total, exact_fids, names_total, exact_names}
use Rattle.object_store.specs.Objects.{Object, ObjectMap, Attributes}
use Rattle.object_store.specs.Following.{Entry, Attribute}
use Rattle.tree_sound.proofs.Basics.{same, by_bool, same_itself, some_is, none_is}
use Rattle.tree_sound.proofs.Points.{names_are}
use Rattle.share_tree.specs.Told.{node_in, all_entries, attributes_in, all_attributes}
use Rattle.share_tree.specs.Made.{with_node, with_nodes, with_entries, with_attribute, with_attributes, with_objects}
use Rattle.share_tree.proofs.Suffixes.{Without, Found, found_there, none_there, put_all, put_again}

-- no object has the FID
abbrev Lacks : Fid → List (Fid × Object) → Type 0
Lacks f os = Without fids_total f os

-- ---- nodes

nodes_append : (t : Tree) (xs ys : List (Fid × Object)) → with_nodes t (xs ++ ys) ≡ with_nodes (with_nodes t xs) ys
nodes_append t [] ys = refl
nodes_append t (x ∷ xs) ys = nodes_append (with_node t x.0 (node_in x.1.body)) xs ys

node_other : (f g : Fid) (o : Option Node) (t : Tree) → same f g ≡ false → get (with_node t g o).nodes f ≡ get t.nodes f
node_other f g None t h = refl
node_other f g (Some n) t h = get-insert fids_total t.nodes g n f ∙ ap (λ b. cond b (Some n) (get t.nodes f)) h

nodes_other : (f : Fid) (os : List (Fid × Object)) (t : Tree) → Lacks f os → get (with_nodes t os).nodes f ≡ get t.nodes f
nodes_other f [] t h = refl
nodes_other f (o ∷ os) t h = nodes_other f os (with_node t o.0 (node_in o.1.body)) h.1 ∙ node_other f o.0 (node_in o.1.body) t h.0

abbrev own_node : Option Node → Option Node → Option Node
own_node None old = old
own_node (Some n) old = Some n

node_own : (f : Fid) (o : Option Node) (t : Tree) → get (with_node t f o).nodes f ≡ own_node o (get t.nodes f)
node_own f None t = refl
node_own f (Some n) t = get-insert fids_total t.nodes f n f ∙ ap (λ b. cond b (Some n) (get t.nodes f)) (same_itself f)

nodes_found : (f : Fid) (o : Object) (os : List (Fid × Object)) (t : Tree) → Found fids_total exact_fids os f o → get (with_nodes t os).nodes f ≡ own_node (node_in o.body) (get t.nodes f)
nodes_found f o os t at =
    ap (λ xs. get (with_nodes t xs).nodes f) at.is
    ∙ ap (λ (u : Tree). get u.nodes f) (nodes_append t at.before ((f, o) ∷ at.rest))
    ∙ nodes_other f at.rest (with_node (with_nodes t at.before) f (node_in o.body)) at.high
    ∙ node_own f (node_in o.body) (with_nodes t at.before)
    ∙ ap (λ n. own_node (node_in o.body) n) (nodes_other f at.before t at.low)

-- ---- attributes

abbrev set_all : List (List ℕ × List ℕ) → Node → Node
set_all xs n = record n { xattrs = put_all names_total exact_names n.xattrs xs }

attributes_append : (t : Tree) (xs ys : List Attribute) → with_attributes t (xs ++ ys) ≡ with_attributes (with_attributes t xs) ys
attributes_append t [] ys = refl
attributes_append t (x ∷ xs) ys = attributes_append (with_attribute t x) xs ys

attribute_other : (f : Fid) (a : Attribute) (t : Tree) → same f a.0 ≡ false → get (with_attribute t a).nodes f ≡ get t.nodes f
attribute_other f a t h = by_node (get t.nodes a.0)
  where
    by_node : (o : Option Node) → get (changed_all t (changed_node a.0 o (λ n. record n { xattrs = insert n.xattrs a.1 a.2 }))).nodes f ≡ get t.nodes f
    by_node None = refl
    by_node (Some n) =
        let m : Node = record n { xattrs = insert n.xattrs a.1 a.2 } in
        get-insert fids_total t.nodes a.0 m f ∙ ap (λ b. cond b (Some m) (get t.nodes f)) h

object_attributes_other : (f g : Fid) (xs : List (List ℕ × List ℕ)) (t : Tree) → same f g ≡ false → get (with_attributes t (map (λ a. (g, a.0, a.1)) xs)).nodes f ≡ get t.nodes f
object_attributes_other f g [] t h = refl
object_attributes_other f g (x ∷ xs) t h = object_attributes_other f g xs (with_attribute t (g, x.0, x.1)) h ∙ attribute_other f (g, x.0, x.1) t h

attributes_other : (f : Fid) (os : List (Fid × Object)) (t : Tree) → Lacks f os → get (with_attributes t (flat_map attributes_in os)).nodes f ≡ get t.nodes f
attributes_other f [] t h = refl
attributes_other f (o ∷ os) t h =
    ap (λ (u : Tree). get u.nodes f) (attributes_append t (attributes_in o) (flat_map attributes_in os))
    ∙ attributes_other f os (with_attributes t (attributes_in o)) h.1
    ∙ object_attributes_other f o.0 (entries o.1.attributes) t h.0

attribute_own : (f : Fid) (x : List ℕ × List ℕ) (t : Tree) (n : Node) → get t.nodes f ≡ Some n → get (with_attribute t (f, x.0, x.1)).nodes f ≡ Some (record n { xattrs = insert n.xattrs x.0 x.1 })
attribute_own f x t n h =
    let m : Node = record n { xattrs = insert n.xattrs x.0 x.1 } in
    ap (λ o. get (changed_all t (changed_node f o (λ k. record k { xattrs = insert k.xattrs x.0 x.1 }))).nodes f) h
    ∙ get-insert fids_total t.nodes f m f ∙ ap (λ b. cond b (Some m) (get t.nodes f)) (same_itself f)

attributes_own : (f : Fid) (xs : List (List ℕ × List ℕ)) (t : Tree) (n : Node) → get t.nodes f ≡ Some n → get (with_attributes t (map (λ a. (f, a.0, a.1)) xs)).nodes f ≡ Some (set_all xs n)
attributes_own f [] t n h = h
attributes_own f (x ∷ xs) t n h = attributes_own f xs (with_attribute t (f, x.0, x.1)) (record n { xattrs = insert n.xattrs x.0 x.1 }) (attribute_own f x t n h)

pub flat_append : {A B : Type 0} (g : A → List B) (xs : List A) (y : A) (ys : List A) → flat_map g (xs ++ y ∷ ys) ≡ flat_map g xs ++ (g y ++ flat_map g ys)
flat_append g [] y ys = refl
flat_append g (x ∷ xs) y ys = ap (λ zs. g x ++ zs) (flat_append g xs y ys) ∙ sym (append_assoc (g x) (flat_map g xs) (g y ++ flat_map g ys))

no_length : {A : Type 0} (xs : List A) → length xs ≡ 0 → xs ≡ []
no_length [] h = refl
no_length (x ∷ xs) h = absurd (omega (arith, h))

no_entries : entries (empty {X = List ℕ} {R = name_cmp}) ≡ []
no_entries = no_length (entries (empty {X = List ℕ} {R = name_cmp})) (sym (len-entries (empty {X = List ℕ} {R = name_cmp})) ∙ len-empty name_cmp (List ℕ))

-- the attributes of the objects around one
module _ (f : Fid) (o : Object) (os : List (Fid × Object)) (t : Tree) (at : Found fids_total exact_fids os f o) where
  attributes_around : get (with_attributes t (flat_map attributes_in os)).nodes f ≡ get (with_attributes (with_attributes t (flat_map attributes_in at.before)) (attributes_in (f, o))).nodes f
  attributes_around =
      ap (λ xs. get (with_attributes t (flat_map attributes_in xs)).nodes f) at.is
      ∙ ap (λ xs. get (with_attributes t xs).nodes f) (flat_append attributes_in at.before (f, o) at.rest)
      ∙ ap (λ (u : Tree). get u.nodes f) (attributes_append t (flat_map attributes_in at.before) (attributes_in (f, o) ++ flat_map attributes_in at.rest))
      ∙ ap (λ (u : Tree). get u.nodes f) (attributes_append (with_attributes t (flat_map attributes_in at.before)) (attributes_in (f, o)) (flat_map attributes_in at.rest))
      ∙ attributes_other f at.rest (with_attributes (with_attributes t (flat_map attributes_in at.before)) (attributes_in (f, o))) at.high

  attributes_found : (n : Node) → get t.nodes f ≡ Some n → get (with_attributes t (flat_map attributes_in os)).nodes f ≡ Some (set_all (entries o.attributes) n)
  attributes_found n h =
      attributes_around ∙ attributes_own f (entries o.attributes) (with_attributes t (flat_map attributes_in at.before)) n (attributes_other f at.before t at.low ∙ h)

  no_attributes : o.attributes ≡ empty → get (with_attributes t (flat_map attributes_in os)).nodes f ≡ get t.nodes f
  no_attributes h =
      let before = with_attributes t (flat_map attributes_in at.before) in
      attributes_around
      ∙ ap (λ (m : Attributes). get (with_attributes before (map (λ a. (f, a.0, a.1)) (entries m))).nodes f) h
      ∙ ap (λ xs. get (with_attributes before (map (λ a. (f, a.0, a.1)) xs)).nodes f) no_entries
      ∙ attributes_other f at.before t at.low

-- ---- the other parts

entries_keep_nodes : (es : List Entry) (t : Tree) → (with_entries t es).nodes ≡ t.nodes
entries_keep_nodes [] t = refl
entries_keep_nodes (e ∷ es) t = entries_keep_nodes es (changed t (PutName e.1 e.2 e.3))

node_keeps_entries : (t : Tree) (f : Fid) (o : Option Node) → (with_node t f o).entries ≡ t.entries
node_keeps_entries t f None = refl
node_keeps_entries t f (Some n) = refl

nodes_keep_entries : (os : List (Fid × Object)) (t : Tree) → (with_nodes t os).entries ≡ t.entries
nodes_keep_entries [] t = refl
nodes_keep_entries (o ∷ os) t = nodes_keep_entries os (with_node t o.0 (node_in o.1.body)) ∙ node_keeps_entries t o.0 (node_in o.1.body)

attribute_keeps_entries : (t : Tree) (a : Attribute) → (with_attribute t a).entries ≡ t.entries
attribute_keeps_entries t a = by_node (get t.nodes a.0)
  where
    by_node : (o : Option Node) → (changed_all t (changed_node a.0 o (λ n. record n { xattrs = insert n.xattrs a.1 a.2 }))).entries ≡ t.entries
    by_node None = refl
    by_node (Some n) = refl

attributes_keep_entries : (xs : List Attribute) (t : Tree) → (with_attributes t xs).entries ≡ t.entries
attributes_keep_entries [] t = refl
attributes_keep_entries (a ∷ more) t = attributes_keep_entries more (with_attribute t a) ∙ attribute_keeps_entries t a

-- ---- a node after the objects of a target

module _ (m : ObjectMap) (t : Tree) (f : Fid) where
  abbrev between : Tree
  between = with_entries (with_nodes t (entries m)) (all_entries m)

  same_between : get between.nodes f ≡ get (with_nodes t (entries m)).nodes f
  same_between = ap (λ ns. get ns f) (entries_keep_nodes (all_entries m) (with_nodes t (entries m)))

  pub node_absent : get m f ≡ None → get (with_objects t m).nodes f ≡ get t.nodes f
  unfolding with_objects
  node_absent h =
      let none = none_there fids_total m f h in
      attributes_other f (entries m) between none ∙ same_between ∙ nodes_other f (entries m) t none

  pub node_there : (o : Object) (n : Node) → get m f ≡ Some o → node_in o.body ≡ Some n → n.xattrs ≡ empty → get (with_objects t m).nodes f ≡ Some (record n { xattrs = o.attributes })
  unfolding with_objects
  node_there o n h is bare =
      let at = found_there fids_total exact_fids m f o h in
      let before : get between.nodes f ≡ Some n = same_between ∙ nodes_found f o (entries m) t at ∙ ap (λ x. own_node x (get t.nodes f)) is in
      attributes_found f o (entries m) between at n before
      ∙ ap (λ (x : Attributes). Some (record n { xattrs = put_all names_total exact_names x (entries o.attributes) })) bare
      ∙ ap (λ (x : Attributes). Some (record n { xattrs = x })) (put_again names_total exact_names o.attributes)

  pub node_of_stripe : (o : Object) → get m f ≡ Some o → node_in o.body ≡ None → o.attributes ≡ empty → get (with_objects t m).nodes f ≡ get t.nodes f
  unfolding with_objects
  node_of_stripe o h is bare =
      let at = found_there fids_total exact_fids m f o h in
      no_attributes f o (entries m) between at bare ∙ same_between ∙ nodes_found f o (entries m) t at ∙ ap (λ x. own_node x (get t.nodes f)) is

-- ---- a name after the objects of a target

-- whether an entry is of this name of this directory
abbrev pub hits : Fid → List ℕ → Entry → Bool
hits d x e = same_place e.1 e.2 d x

abbrev pub IsTrue : Fid → List ℕ → Option Fid → Entry → Type 0
IsTrue d x w e = hits d x e ≡ true → Some e.3 ≡ w

name_put : (t : Tree) (e : Entry) (d : Fid) (x : List ℕ) → named (changed t (PutName e.1 e.2 e.3)) d x ≡ cond (hits d x e) (Some e.3) (named t d x)
name_put t e d x = names_are (record { tree = t; layouts = empty }) (PutName e.1 e.2 e.3 ∷ []) d x

entries_named : (d : Fid) (x : List ℕ) (w : Option Fid) (es : List Entry) → AllByRecursion (IsTrue d x w) es → (t : Tree) → named (with_entries t es) d x ≡ cond (list_any (hits d x) es) w (named t d x)
entries_named d x w [] h t = refl
entries_named d x w (e ∷ es) h t =
    let any = list_any (hits d x) es in
    entries_named d x w es h.1 (changed t (PutName e.1 e.2 e.3))
    ∙ ap (λ o. cond any w o) (name_put t e d x)
    ∙ by_hit (hits d x e) any h.0
  where
    by_hit : (b any : Bool) → (b ≡ true → Some e.3 ≡ w) → cond any w (cond b (Some e.3) (named t d x)) ≡ cond (b || any) w (named t d x)
    by_hit true true k = refl
    by_hit true false k = k refl
    by_hit false any k = refl

pub names_there : (m : ObjectMap) (t : Tree) (d : Fid) (x : List ℕ) (w : Option Fid) → AllByRecursion (IsTrue d x w) (all_entries m)
    → named (with_objects t m) d x ≡ cond (list_any (hits d x) (all_entries m)) w (named t d x)
unfolding with_objects
names_there m t d x w h =
    let first = with_nodes t (entries m) in
    let shown : FinMap fid_cmp Names → Option Fid = λ es. get (unwrap_or (get es d) empty) x in
    ap shown (attributes_keep_entries (all_attributes m) (with_entries first (all_entries m)))
    ∙ entries_named d x w (all_entries m) h first
    ∙ ap (λ o. cond (list_any (hits d x) (all_entries m)) w o) (ap shown (nodes_keep_entries (entries m) t))

-- ---- a directory without an entry isn't kept

abbrev pub IsTidy : Tree → Type 0
IsTidy t = (d : Fid) (names : Names) → get t.entries d ≡ Some names → names ≡ empty → ⊥

tidy_names : (t : Tree) (d : Fid) (m : Names) → IsTidy t → IsTidy (record { nodes = t.nodes; entries = with_names t d m })
tidy_names t d m tidy q names h none = elim (eqb_tells (len m) 0) [
  | inl e ↦
      let got = sym (ap (λ b. get (if b then remove t.entries d else insert t.entries d m) q) e.0 ∙ get-remove fids_total t.entries d q) ∙ h in
      by_bool (same q d)
      (λ s. none_is (sym (ap (λ b. cond b None (get t.entries q)) s) ∙ got))
      (λ s. tidy q names (sym (ap (λ b. cond b None (get t.entries q)) s) ∙ got) none)
  | inr e ↦
      let got = sym (ap (λ b. get (if b then remove t.entries d else insert t.entries d m) q) e.0 ∙ get-insert fids_total t.entries d m q) ∙ h in
      by_bool (same q d)
      (λ s.
      let is : m ≡ names = some_is (sym (ap (λ b. cond b (Some m) (get t.entries q)) s) ∙ got) in
      e.1 (ap (λ (k : Names). len k) (is ∙ none) ∙ len-empty name_cmp Fid))
      (λ s. tidy q names (sym (ap (λ b. cond b (Some m) (get t.entries q)) s) ∙ got) none)
]

pub tidy_changed : (t : Tree) (c : Change) → IsTidy t → IsTidy (changed t c)
tidy_changed t (PutNode f n) h = h
tidy_changed t (DropNode f) h = h
tidy_changed t (PutName d x f) h = tidy_names t d (insert (names_of t d) x f) h
tidy_changed t (DropName d x) h = tidy_names t d (remove (names_of t d) x) h
tidy_changed t (NewLayout d count index) h = h
tidy_changed t (NextLayout d count index) h = h
tidy_changed t (MoveNames d) h = h

entries_tidy : (es : List Entry) (t : Tree) → IsTidy t → IsTidy (with_entries t es)
entries_tidy [] t h = h
entries_tidy (e ∷ es) t h = entries_tidy es (changed t (PutName e.1 e.2 e.3)) (tidy_changed t (PutName e.1 e.2 e.3) h)

same_tidy : (t u : Tree) → t.entries ≡ u.entries → IsTidy u → IsTidy t
same_tidy t u e h d names is none = h d names (ap (λ es. get es d) (sym e) ∙ is) none

pub objects_tidy : (m : ObjectMap) (t : Tree) → IsTidy t → IsTidy (with_objects t m)
unfolding with_objects
objects_tidy m t h =
    let first = with_nodes t (entries m) in
    let second = with_entries first (all_entries m) in
    same_tidy (with_attributes second (all_attributes m)) second (attributes_keep_entries (all_attributes m) second)
    (entries_tidy (all_entries m) first (same_tidy first t (nodes_keep_entries (entries m) t) h))

-- tidy trees with the same nodes and names are one
pub same_trees : (t u : Tree) → IsTidy t → IsTidy u → ((f : Fid) → get t.nodes f ≡ get u.nodes f) → ((d : Fid) (x : List ℕ) → named t d x ≡ named u d x) → t ≡ u
same_trees t u th uh nodes names =
    let ns = same_map fids_total exact_fids t.nodes u.nodes nodes in
    let es = same_map fids_total exact_fids t.entries u.entries (λ d. at d (get t.entries d) (get u.entries d) refl refl (same_map names_total exact_names (names_of t d) (names_of u d) (names d))) in
    λ i. record { nodes = ns i; entries = es i }
  where
    at : (d : Fid) (a b : Option Names) → get t.entries d ≡ a → get u.entries d ≡ b → names_of t d ≡ names_of u d → a ≡ b
    at d None None ta ub e = refl
    at d None (Some k) ta ub e = absurd (uh d k ub (sym (ap (λ o. unwrap_or o empty) ub) ∙ sym e ∙ ap (λ o. unwrap_or o empty) ta))
    at d (Some k) None ta ub e = absurd (th d k ta (sym (ap (λ o. unwrap_or o empty) ta) ∙ e ∙ ap (λ o. unwrap_or o empty) ub))
    at d (Some k) (Some j) ta ub e = ap (λ n. Some n) (sym (ap (λ o. unwrap_or o empty) ta) ∙ e ∙ ap (λ o. unwrap_or o empty) ub)
