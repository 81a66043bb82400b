-- The loops over what objects tell: how far one is, and that it goes on.
use Rattle.std.proofs.Common.{◌≡◌, ℕ, List, [], ◌∷◌, ◌++◌, Option, Some, None, refl, sym, ap, ◌∙◌}
use Rattle.std.specs.Option.{option_map}
use Rattle.std.specs.FinMap.{entries}
use Rattle.fid_space.specs.declared.fid.Fid.{Fid}
use Rattle.tree_model.specs.declared.reply.Reply.{Reply}
use Rattle.tree_model.specs.Fids.{fid_cmp}
use Rattle.tree_model.specs.Tree.{Tree}
use Rattle.tree_model.specs.Changes.{PutName, changed}
use Rattle.tree_model.proofs.Maps.{fids_total}
use Rattle.object_store.specs.Objects.{Object, ObjectMap}
use Rattle.object_store.specs.Following.{Entry, Attribute, behind, or_else, attr_of, first_node, next_node, next_entry, next_attribute}
use Rattle.tree_sound.proofs.Basics.{some_is, none_is}
use Rattle.share_tree.specs.Told.{parent_in, node_from}
use Rattle.share_tree.specs.Made.{with_node, with_nodes, with_entries, with_attribute, with_attributes}
use Rattle.share_tree.specs.TreeLaws.{head}
use Rattle.share_tree.proofs.Suffixes.{ends_later, behind_entry, got_entry, ends_behind}
use Rattle.share_tree.proofs.Parents.{node_is_told, no_node}
use Rattle.share_tree.proofs.Following.{left_entries, entry_key, entry_on, next_is_first, left_attributes, attribute_key, attribute_on, next_attribute_is_first}

-- ---- nodes

nodes_on : (m : ObjectMap) (os before : List (Fid × Object)) → entries m ≡ before ++ os → (f : Fid) (r : Reply) → first_node os ≡ Some (f, r) → (t : Tree)
    → with_nodes t os ≡ with_nodes (with_node t f (node_from r (parent_in m f))) (behind fid_cmp (Some f) (entries m))
nodes_on m [] before is f r h t = absurd (none_is h)
nodes_on m (o ∷ os) before is f r h t = by_attr (λ g. nodes_on m os (before ++ o ∷ []) (ends_later (entries m) before os o is) f r g t) (attr_of o.1.body) refl h
  where
    by_attr : (first_node os ≡ Some (f, r) → with_nodes t os ≡ with_nodes (with_node t f (node_from r (parent_in m f))) (behind fid_cmp (Some f) (entries m)))
        → (x : Option Reply) → attr_of o.1.body ≡ x → or_else (option_map (λ reply. (o.0, reply)) x) (first_node os) ≡ Some (f, r)
        → with_nodes t (o ∷ os) ≡ with_nodes (with_node t f (node_from r (parent_in m f))) (behind fid_cmp (Some f) (entries m))
    by_attr later None at g = ap (λ n. with_nodes (with_node t o.0 n) os) (no_node o.1.body at) ∙ later g
    by_attr later (Some x) at g =
        let pair : ◌≡◌ {A = Fid × Reply} (o.0, x) (f, r) = some_is g in
        let told = node_is_told m o.0 o.1 x (got_entry fids_total m before o os is) at in
        let rest = behind_entry fids_total m before o os is in
        ap (λ n. with_nodes (with_node t o.0 n) os) (sym told)
        ∙ ap (λ es. with_nodes (with_node t o.0 (node_from x (parent_in m o.0))) es) (sym rest)
        ∙ ap (λ p. with_nodes (with_node t p.0 (node_from p.1 (parent_in m p.0))) (behind fid_cmp (Some p.0) (entries m))) pair

nodes_end : (os : List (Fid × Object)) (t : Tree) → first_node os ≡ None → with_nodes t os ≡ t
nodes_end [] t h = refl
nodes_end (o ∷ os) t h = by_attr (λ g. nodes_end os t g) (attr_of o.1.body) refl h
  where
    by_attr : (first_node os ≡ None → with_nodes t os ≡ t) → (x : Option Reply) → attr_of o.1.body ≡ x → or_else (option_map (λ reply. (o.0, reply)) x) (first_node os) ≡ None → with_nodes t (o ∷ os) ≡ t
    by_attr later None at g = ap (λ n. with_nodes (with_node t o.0 n) os) (no_node o.1.body at) ∙ later g
    by_attr later (Some x) at g = absurd (none_is (sym g))

pub node_on : (m : ObjectMap) (after : Option Fid) (f : Fid) (r : Reply) (t : Tree) → Some (f, r) ≡ next_node m after
    → with_nodes (with_node t f (node_from r (parent_in m f))) (behind fid_cmp (Some f) (entries m)) ≡ with_nodes t (behind fid_cmp after (entries m))
unfolding next_node
node_on m after f r t h =
    let ends = ends_behind fids_total m after in
    sym (nodes_on m (behind fid_cmp after (entries m)) ends.0 ends.1 f r (sym h) t)

pub node_end : (m : ObjectMap) (after : Option Fid) (t : Tree) → None ≡ next_node m after → with_nodes t (behind fid_cmp after (entries m)) ≡ t
unfolding next_node
node_end m after t h = nodes_end (behind fid_cmp after (entries m)) t (sym h)

-- ---- entries and attributes

pub entry_step : (m : ObjectMap) (after : Option (Fid × List ℕ)) (e : Entry) (t : Tree) → Some e ≡ next_entry m after
    → with_entries (changed t (PutName e.1 e.2 e.3)) (left_entries m (Some (entry_key e))) ≡ with_entries t (left_entries m after)
entry_step m after e t h = by_left (left_entries m after) refl (h ∙ next_is_first m after)
  where
    by_left : (xs : List Entry) → left_entries m after ≡ xs → Some e ≡ head xs
        → with_entries (changed t (PutName e.1 e.2 e.3)) (left_entries m (Some (entry_key e))) ≡ with_entries t xs
    by_left [] is g = absurd (none_is (sym g))
    by_left (x ∷ xs) is g =
        ap (λ (y : Entry). with_entries (changed t (PutName y.1 y.2 y.3)) (left_entries m (Some (entry_key y)))) (some_is g)
        ∙ ap (λ ys. with_entries (changed t (PutName x.1 x.2 x.3)) ys) (entry_on m after x xs is)

pub entry_end : (m : ObjectMap) (after : Option (Fid × List ℕ)) (t : Tree) → None ≡ next_entry m after → with_entries t (left_entries m after) ≡ t
entry_end m after t h = by_left (left_entries m after) (h ∙ next_is_first m after)
  where
    by_left : (xs : List Entry) → ◌≡◌ {A = Option Entry} None (head xs) → with_entries t xs ≡ t
    by_left [] g = refl
    by_left (x ∷ xs) g = absurd (none_is g)

pub attribute_step : (m : ObjectMap) (after : Option (Fid × List ℕ)) (a : Attribute) (t : Tree) → Some a ≡ next_attribute m after
    → with_attributes (with_attribute t a) (left_attributes m (Some (attribute_key a))) ≡ with_attributes t (left_attributes m after)
attribute_step m after a t h = by_left (left_attributes m after) refl (h ∙ next_attribute_is_first m after)
  where
    by_left : (xs : List Attribute) → left_attributes m after ≡ xs → Some a ≡ head xs → with_attributes (with_attribute t a) (left_attributes m (Some (attribute_key a))) ≡ with_attributes t xs
    by_left [] is g = absurd (none_is (sym g))
    by_left (x ∷ xs) is g =
        ap (λ (y : Attribute). with_attributes (with_attribute t y) (left_attributes m (Some (attribute_key y)))) (some_is g)
        ∙ ap (λ ys. with_attributes (with_attribute t x) ys) (attribute_on m after x xs is)

pub attribute_end : (m : ObjectMap) (after : Option (Fid × List ℕ)) (t : Tree) → None ≡ next_attribute m after → with_attributes t (left_attributes m after) ≡ t
attribute_end m after t h = by_left (left_attributes m after) (h ∙ next_attribute_is_first m after)
  where
    by_left : (xs : List Attribute) → ◌≡◌ {A = Option Attribute} None (head xs) → with_attributes t xs ≡ t
    by_left [] g = refl
    by_left (x ∷ xs) g = absurd (none_is g)
