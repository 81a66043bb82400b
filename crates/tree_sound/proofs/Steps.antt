-- Changes of trees, one after another: what each leaves at a FID, and elsewhere.
use Rattle.std.proofs.Common.{◌≡◌, ◌||◌, ◌-◌, nat_le, if◌then◌else◌, ℕ, suc, Bool, true, false, cond, List, [], ◌∷◌, ◌++◌, Option, Some, None, refl, ap, ◌∙◌}
use Rattle.std.specs.Option.{unwrap_or}
use Rattle.std.specs.FinMap.{get, insert, remove, get-insert, get-remove}
use Rattle.fid_space.specs.declared.fid.Fid.{Fid}
use Rattle.tree_model.specs.declared.node.Node.{Node}
use Rattle.tree_model.specs.Tree.{Names, names_of}
use Rattle.tree_model.specs.Changes.{Change, PutNode, DropNode, PutName, DropName, NewLayout, NextLayout}
use Rattle.tree_model.specs.Step.{released, replaced}
use Rattle.tree_model.specs.Keys.{Layout, Laid, layout_at, layout_with, plain_layout, laid_after, laid_after_all}
use Rattle.tree_model.proofs.Maps.{fids_total}
use Rattle.tree_model.proofs.Writing.{names_with}
use Rattle.tree_sound.proofs.Basics.{same, same_itself}

-- what a tree has at a FID
pub record Has (l : Laid) (f : Fid) (n : Option Node) (ly : Layout) (names : Names) : Type 0 where
  pub node : get l.tree.nodes f ≡ n
  pub layout : layout_at l f ≡ ly
  pub names_are : names_of l.tree f ≡ names

pub has_all : (l : Laid) (f : Fid) → Has l f (get l.tree.nodes f) (layout_at l f) (names_of l.tree f)
has_all l f = record { node = refl; layout = refl; names_are = refl }

-- two trees have the same at a FID
pub record Alike (l m : Laid) (f : Fid) : Type 0 where
  pub node : get m.tree.nodes f ≡ get l.tree.nodes f
  pub layout : layout_at m f ≡ layout_at l f
  pub names_are : names_of m.tree f ≡ names_of l.tree f

abbrev pub OnlyAt : Laid → Laid → Fid → Type 0
OnlyAt l m f = (d : Fid) → same d f ≡ false → Alike l m d

-- ---- what each change leaves

pub put_node_at : (l : Laid) (f d : Fid) (n : Node) → get (laid_after l (PutNode f n)).tree.nodes d ≡ cond (same d f) (Some n) (get l.tree.nodes d)
put_node_at l f d n = get-insert fids_total l.tree.nodes f n d

pub drop_node_at : (l : Laid) (f d : Fid) → get (laid_after l (DropNode f)).tree.nodes d ≡ cond (same d f) None (get l.tree.nodes d)
drop_node_at l f d = get-remove fids_total l.tree.nodes f d

pub drop_layout_at : (l : Laid) (f d : Fid) → layout_at (laid_after l (DropNode f)) d ≡ cond (same d f) plain_layout (layout_at l d)
drop_layout_at l f d = ap (λ o. unwrap_or o plain_layout) (get-remove fids_total l.layouts f d) ∙ inside (same d f)
  where
    inside : (b : Bool) → unwrap_or (cond b None (get l.layouts d)) plain_layout ≡ cond b plain_layout (unwrap_or (get l.layouts d) plain_layout)
    inside true = refl
    inside false = refl

set_layout_at : (l : Laid) (f d : Fid) (ly : Layout) → unwrap_or (get (insert l.layouts f ly) d) plain_layout ≡ cond (same d f) ly (layout_at l d)
set_layout_at l f d ly = ap (λ o. unwrap_or o plain_layout) (get-insert fids_total l.layouts f ly d) ∙ inside (same d f)
  where
    inside : (b : Bool) → unwrap_or (cond b (Some ly) (get l.layouts d)) plain_layout ≡ cond b ly (unwrap_or (get l.layouts d) plain_layout)
    inside true = refl
    inside false = refl

pub new_layout_at : (l : Laid) (f d : Fid) (c i : ℕ) → layout_at (laid_after l (NewLayout f c i)) d ≡ cond (same d f) (layout_with c i 0) (layout_at l d)
new_layout_at l f d c i = set_layout_at l f d (layout_with c i 0)

pub next_layout_at : (l : Laid) (f d : Fid) (c i : ℕ) → layout_at (laid_after l (NextLayout f c i)) d ≡ cond (same d f) (layout_with c i (suc (layout_at l f).generation)) (layout_at l d)
next_layout_at l f d c i = set_layout_at l f d (layout_with c i (suc (layout_at l f).generation))

pub put_name_at : (l : Laid) (f : Fid) (x : List ℕ) (c d : Fid) → names_of (laid_after l (PutName f x c)).tree d ≡ cond (same d f) (insert (names_of l.tree f) x c) (names_of l.tree d)
put_name_at l f x c d = names_with l.tree f (insert (names_of l.tree f) x c) d

pub drop_name_at : (l : Laid) (f : Fid) (x : List ℕ) (d : Fid) → names_of (laid_after l (DropName f x)).tree d ≡ cond (same d f) (remove (names_of l.tree f) x) (names_of l.tree d)
drop_name_at l f x d = names_with l.tree f (remove (names_of l.tree f) x) d

-- at the FID itself, and elsewhere
pub at_itself : {A : Type 0} (f : Fid) (x y : A) → cond (same f f) x y ≡ x
at_itself f x y = ap (λ b. cond b x y) (same_itself f)

pub elsewhere : {A : Type 0} (d f : Fid) (x y : A) → same d f ≡ false → cond (same d f) x y ≡ y
elsewhere d f x y h = ap (λ b. cond b x y) h

module _ (l : Laid) (f : Fid) where
  pub put_node_has : (n m : Node) (o : Option Node) (ly : Layout) (names : Names) → Has l f o ly names → Has (laid_after l (PutNode f m)) f (Some m) ly names
  put_node_has n m o ly names h = record { node = put_node_at l f f m ∙ at_itself f (Some m) (get l.tree.nodes f); layout = h.layout; names_are = h.names_are }

  pub put_node_only : (m : Node) → OnlyAt l (laid_after l (PutNode f m)) f
  put_node_only m d h = record { node = put_node_at l f d m ∙ elsewhere d f (Some m) (get l.tree.nodes d) h; layout = refl; names_are = refl }

  pub drop_node_has : (names : Names) → names_of l.tree f ≡ names → Has (laid_after l (DropNode f)) f None plain_layout names
  drop_node_has names h = record { node = drop_node_at l f f ∙ at_itself f None (get l.tree.nodes f); layout = drop_layout_at l f f ∙ at_itself f plain_layout (layout_at l f); names_are = h }

  pub drop_node_only : OnlyAt l (laid_after l (DropNode f)) f
  drop_node_only d h = record { node = drop_node_at l f d ∙ elsewhere d f None (get l.tree.nodes d) h; layout = drop_layout_at l f d ∙ elsewhere d f plain_layout (layout_at l d) h; names_are = refl }

  pub put_name_has : (x : List ℕ) (c : Fid) (o : Option Node) (ly : Layout) (names : Names) → Has l f o ly names → Has (laid_after l (PutName f x c)) f o ly (insert names x c)
  put_name_has x c o ly names h = record {
    node = h.node;
    layout = h.layout;
    names_are = put_name_at l f x c f ∙ at_itself f (insert (names_of l.tree f) x c) (names_of l.tree f) ∙ ap (λ m. insert m x c) h.names_are;
  }

  pub put_name_only : (x : List ℕ) (c : Fid) → OnlyAt l (laid_after l (PutName f x c)) f
  put_name_only x c d h = record { node = refl; layout = refl; names_are = put_name_at l f x c d ∙ elsewhere d f (insert (names_of l.tree f) x c) (names_of l.tree d) h }

  pub drop_name_has : (x : List ℕ) (o : Option Node) (ly : Layout) (names : Names) → Has l f o ly names → Has (laid_after l (DropName f x)) f o ly (remove names x)
  drop_name_has x o ly names h = record {
    node = h.node;
    layout = h.layout;
    names_are = drop_name_at l f x f ∙ at_itself f (remove (names_of l.tree f) x) (names_of l.tree f) ∙ ap (λ m. remove m x) h.names_are;
  }

  pub drop_name_only : (x : List ℕ) → OnlyAt l (laid_after l (DropName f x)) f
  drop_name_only x d h = record { node = refl; layout = refl; names_are = drop_name_at l f x d ∙ elsewhere d f (remove (names_of l.tree f) x) (names_of l.tree d) h }

  pub new_layout_has : (c i : ℕ) (o : Option Node) (ly : Layout) (names : Names) → Has l f o ly names → Has (laid_after l (NewLayout f c i)) f o (layout_with c i 0) names
  new_layout_has c i o ly names h = record { node = h.node; layout = new_layout_at l f f c i ∙ at_itself f (layout_with c i 0) (layout_at l f); names_are = h.names_are }

  pub new_layout_only : (c i : ℕ) → OnlyAt l (laid_after l (NewLayout f c i)) f
  new_layout_only c i d h = record { node = refl; layout = new_layout_at l f d c i ∙ elsewhere d f (layout_with c i 0) (layout_at l d) h; names_are = refl }

  pub next_layout_has : (c i : ℕ) (o : Option Node) (ly : Layout) (names : Names) → Has l f o ly names → Has (laid_after l (NextLayout f c i)) f o (layout_with c i (suc ly.generation)) names
  next_layout_has c i o ly names h = record {
    node = h.node;
    layout = next_layout_at l f f c i ∙ at_itself f (layout_with c i (suc (layout_at l f).generation)) (layout_at l f) ∙ ap (λ (y : Layout). layout_with c i (suc y.generation)) h.layout;
    names_are = h.names_are;
  }

  pub next_layout_only : (c i : ℕ) → OnlyAt l (laid_after l (NextLayout f c i)) f
  next_layout_only c i d h = record { node = refl; layout = next_layout_at l f d c i ∙ elsewhere d f (layout_with c i (suc (layout_at l f).generation)) (layout_at l d) h; names_are = refl }

pub only_twice : (l m k : Laid) (f : Fid) → OnlyAt l m f → OnlyAt m k f → OnlyAt l k f
only_twice l m k f g h d s =
    let a = g d s in
    let b = h d s in
    record { node = b.node ∙ a.node; layout = b.layout ∙ a.layout; names_are = b.names_are ∙ a.names_are }

-- ---- several changes

pub same_tree : (m : Laid) (f : Fid) → Alike m m f
same_tree m f = record { node = refl; layout = refl; names_are = refl }

pub released_only : (m : Laid) (c : Fid) (o : Option Node) → OnlyAt m (laid_after_all m (released c o)) c
released_only m c None d h = same_tree m d
released_only m c (Some n) d h = by_case (n.dir || nat_le n.links 1)
  where
    by_case : (b : Bool) → Alike m (laid_after_all m (if b then DropNode c ∷ [] else PutNode c (record n { links = n.links - 1 }) ∷ [])) d
    by_case true = drop_node_only m c d h
    by_case false = put_node_only m c (record n { links = n.links - 1 }) d h

pub laid_append : (l : Laid) (xs ys : List Change) → laid_after_all l (xs ++ ys) ≡ laid_after_all (laid_after_all l xs) ys
laid_append l [] ys = refl
laid_append l (x ∷ xs) ys = laid_append (laid_after l x) xs ys

-- the FID is no old node's
abbrev pub IsNotOld : Fid → Option Fid → Type 0
IsNotOld f None = Unit {0}
IsNotOld f (Some o) = same f o ≡ false

pub replaced_alike : (l m : Laid) (f : Fid) (old : Option Fid) → IsNotOld f old → Alike m (laid_after_all m (replaced l.tree old)) f
replaced_alike l m f None h = same_tree m f
replaced_alike l m f (Some o) h = released_only m o (get l.tree.nodes o) f h
