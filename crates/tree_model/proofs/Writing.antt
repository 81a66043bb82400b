-- Changes change what stands under the keys that they write, and nothing else; and alike over trees that have the same there.
use Rattle.std.proofs.Common.{◌≡◌, ◌&&◌, inl, inr, ℕ, suc, Bool, true, false, cond, if◌then◌else◌, Option, Some, None, List, [], ◌∷◌, ◌++◌, refl, sym, ap, ◌∙◌}
use Rattle.std.specs.List.{AllByRecursion}
use Rattle.std.specs.Option.{unwrap_or}
use Rattle.std.specs.Ordering.{eq_by_cmp}
use Rattle.std.specs.Cmp.{eq_by_cmp_equiv}
use Rattle.std.specs.FinMap.{get, insert, remove, empty, len, get-insert, get-remove, empty_of_len}
use Rattle.std.proofs.lemmas.Bool.Decides.{eqb_tells}
use Rattle.fid_space.specs.declared.fid.Fid.{Fid}
use Rattle.tree_model.specs.Tree.{Tree, Names, fid_cmp, name_cmp, same_fid, same_name, names_of, named}
use Rattle.tree_model.specs.Changes.{Change, PutNode, DropNode, PutName, DropName, NewLayout, NextLayout, MoveNames, changed, changed_all, with_names}
use Rattle.tree_model.specs.Effects.{node_after, names_after, name_after, layout_after}
use Rattle.tree_model.specs.declared.node.Node.{Node}
use Rattle.tree_model.specs.Keys.{Key, NodeKey, NameKey, AllKey, Value, NodeValue, NameValue, AllValue, Layout, Laid, meets, at, layout_at, layout_with, plain_layout, laid_after, laid_after_all, keys_of, keys_of_all}
use Rattle.tree_model.specs.Kept.{Misses}
use Rattle.tree_model.proofs.Maps.{fids_total, names_total}
use Rattle.tree_model.proofs.Fids.{fid_ties, name_ties, told_same}

-- what directories have after the entries of one are others
pub names_with : (t : Tree) (d : Fid) (m : Names) (q : Fid) → names_of (record { nodes = t.nodes; entries = with_names t d m }) q ≡ cond (eq_by_cmp fid_cmp q d) m (names_of t q)
names_with t d m q = elim (eqb_tells (len m) 0) [
  | inl h ↦
      ap (λ b. unwrap_or (get (if b then remove t.entries d else insert t.entries d m) q) empty) h.0
      ∙ ap (λ o. unwrap_or o empty) (get-remove fids_total t.entries d q) ∙ without (eq_by_cmp fid_cmp q d) (get t.entries q) m (sym (empty_of_len m h.1))
  | inr h ↦
      ap (λ b. unwrap_or (get (if b then remove t.entries d else insert t.entries d m) q) empty) h.0
      ∙ ap (λ o. unwrap_or o empty) (get-insert fids_total t.entries d m q) ∙ with (eq_by_cmp fid_cmp q d) (get t.entries q) m
]
  where
    without : (b : Bool) (o : Option Names) (k : Names) → empty ≡ k → unwrap_or (cond b None o) empty ≡ cond b k (unwrap_or o empty)
    without true o k e = e
    without false o k e = refl

    with : (b : Bool) (o : Option Names) (k : Names) → unwrap_or (cond b (Some k) o) empty ≡ cond b k (unwrap_or o empty)
    with true o k = refl
    with false o k = refl

-- what stands under a key after a change, from what stood there
abbrev effect : Change → Key → Value → Value
effect (PutNode f n) (NodeKey g) (NodeValue o lay) = NodeValue (cond (eq_by_cmp fid_cmp g f) (Some n) o) lay
effect (DropNode f) (NodeKey g) (NodeValue o lay) = NodeValue (cond (eq_by_cmp fid_cmp g f) None o) (cond (eq_by_cmp fid_cmp g f) plain_layout lay)
effect (PutName d x f) (NameKey e y) (NameValue o) = NameValue (cond (eq_by_cmp fid_cmp e d) (cond (eq_by_cmp name_cmp y x) (Some f) o) o)
effect (PutName d x f) (AllKey e) (AllValue m) = AllValue (cond (eq_by_cmp fid_cmp e d) (insert m x f) m)
effect (DropName d x) (NameKey e y) (NameValue o) = NameValue (cond (eq_by_cmp fid_cmp e d) (cond (eq_by_cmp name_cmp y x) None o) o)
effect (DropName d x) (AllKey e) (AllValue m) = AllValue (cond (eq_by_cmp fid_cmp e d) (remove m x) m)
effect (NewLayout d c i) (NodeKey g) (NodeValue o lay) = NodeValue o (cond (eq_by_cmp fid_cmp g d) (layout_with c i 0) lay)
effect (NextLayout d c i) (NodeKey g) (NodeValue o lay) = NodeValue o (cond (eq_by_cmp fid_cmp g d) (layout_with c i (suc lay.generation)) lay)
effect c k v = v

-- under a test that says that two FIDs are the same, what is said of one is said of the other
by_test : {A : Type 0} (P : Fid → A) (q d : Fid) (b : Bool) → eq_by_cmp fid_cmp q d ≡ b → (x y : A) → (q ≡ d → x ≡ y) → (z : A) → cond b x z ≡ cond b y z
by_test P q d true e x y same z = same (told_same q d e)
by_test P q d false e x y same z = refl

laid_or : (b : Bool) (lay : Layout) (o : Option Layout) → unwrap_or (cond b (Some lay) o) plain_layout ≡ cond b lay (unwrap_or o plain_layout)
laid_or true lay o = refl
laid_or false lay o = refl

laid_gone : (b : Bool) (o : Option Layout) → unwrap_or (cond b None o) plain_layout ≡ cond b plain_layout (unwrap_or o plain_layout)
laid_gone true o = refl
laid_gone false o = refl

get_in : (b : Bool) (m k : Names) (y : List ℕ) → get (cond b m k) y ≡ cond b (get m y) (get k y)
get_in true m k y = refl
get_in false m k y = refl

-- the names of one directory where the test says that it is the other
of_same : {A : Type 0} (t : Tree) (q d : Fid) (b : Bool) → eq_by_cmp fid_cmp q d ≡ b → (F : Names → A) (z : A) → cond b (F (names_of t d)) z ≡ cond b (F (names_of t q)) z
of_same t q d true e F z = ap (λ f. F (names_of t f)) (sym (told_same q d e))
of_same t q d false e F z = refl

of_same_layout : (l : Laid) (q d : Fid) (b : Bool) → eq_by_cmp fid_cmp q d ≡ b → (F : Layout → Layout) (z : Layout) → cond b (F (layout_at l d)) z ≡ cond b (F (layout_at l q)) z
of_same_layout l q d true e F z = ap (λ f. F (layout_at l f)) (sym (told_same q d e))
of_same_layout l q d false e F z = refl

takes_effect : (l : Laid) (c : Change) (k : Key) → at (laid_after l c) k ≡ effect c k (at l k)
takes_effect l (PutNode f n) (NodeKey g) = ap (λ o. NodeValue o (layout_at l g)) (get-insert fids_total l.tree.nodes f n g)
takes_effect l (DropNode f) (NodeKey g) =
    let node = get-remove fids_total l.tree.nodes f g in
    let lay = ap (λ o. unwrap_or o plain_layout) (get-remove fids_total l.layouts f g) ∙ laid_gone (eq_by_cmp fid_cmp g f) (get l.layouts g) in
    λ i. NodeValue (node i) (lay i)
takes_effect l (PutName d x f) (AllKey e) =
    ap AllValue (names_with l.tree d (insert (names_of l.tree d) x f) e ∙ of_same l.tree e d (eq_by_cmp fid_cmp e d) refl (λ m. insert m x f) (names_of l.tree e))
takes_effect l (PutName d x f) (NameKey e y) =
    ap NameValue (
    ap (λ (m : Names). get m y) (names_with l.tree d (insert (names_of l.tree d) x f) e) ∙ get_in (eq_by_cmp fid_cmp e d) (insert (names_of l.tree d) x f) (names_of l.tree e) y
    ∙ of_same l.tree e d (eq_by_cmp fid_cmp e d) refl (λ m. get (insert m x f) y) (named l.tree e y)
    ∙ ap (λ o. cond (eq_by_cmp fid_cmp e d) o (named l.tree e y)) (get-insert names_total (names_of l.tree e) x f y))
takes_effect l (DropName d x) (AllKey e) =
    ap AllValue (names_with l.tree d (remove (names_of l.tree d) x) e ∙ of_same l.tree e d (eq_by_cmp fid_cmp e d) refl (λ m. remove m x) (names_of l.tree e))
takes_effect l (DropName d x) (NameKey e y) =
    ap NameValue (
    ap (λ (m : Names). get m y) (names_with l.tree d (remove (names_of l.tree d) x) e) ∙ get_in (eq_by_cmp fid_cmp e d) (remove (names_of l.tree d) x) (names_of l.tree e) y
    ∙ of_same l.tree e d (eq_by_cmp fid_cmp e d) refl (λ m. get (remove m x) y) (named l.tree e y)
    ∙ ap (λ o. cond (eq_by_cmp fid_cmp e d) o (named l.tree e y)) (get-remove names_total (names_of l.tree e) x y))
takes_effect l (NewLayout d c i) (NodeKey g) =
    ap (λ lay. NodeValue (get l.tree.nodes g) lay)
    (ap (λ o. unwrap_or o plain_layout) (get-insert fids_total l.layouts d (layout_with c i 0) g) ∙ laid_or (eq_by_cmp fid_cmp g d) (layout_with c i 0) (get l.layouts g))
takes_effect l (NextLayout d c i) (NodeKey g) =
    let new = layout_with c i (suc (layout_at l d).generation) in
    ap (λ lay. NodeValue (get l.tree.nodes g) lay)
    (ap (λ o. unwrap_or o plain_layout) (get-insert fids_total l.layouts d new g) ∙ laid_or (eq_by_cmp fid_cmp g d) new (get l.layouts g)
    ∙ of_same_layout l g d (eq_by_cmp fid_cmp g d) refl (λ lay. layout_with c i (suc lay.generation)) (layout_at l g))
takes_effect l c k = refl

-- alike before, alike afterwards
pub same_after : (l m : Laid) (cs : List Change) (k : Key) → at l k ≡ at m k → at (laid_after_all l cs) k ≡ at (laid_after_all m cs) k
same_after l m [] k h = h
same_after l m (c ∷ cs) k h = same_after (laid_after l c) (laid_after m c) cs k (takes_effect l c k ∙ ap (effect c k) h ∙ sym (takes_effect m c k))

apart : (f g : Fid) → same_fid f g ≡ false → eq_by_cmp fid_cmp g f ≡ false
apart f g h = sym (fid_ties g f) ∙ flipped f g h
  where
    flipped : (f g : Fid) → same_fid f g ≡ false → same_fid g f ≡ false
    flipped f g h = fid_ties g f ∙ (eq_by_cmp_equiv fids_total).symm g f ∙ sym (fid_ties f g) ∙ h

name_apart : (x y : List ℕ) → same_name x y ≡ false → eq_by_cmp name_cmp y x ≡ false
name_apart x y h = (eq_by_cmp_equiv names_total).symm y x ∙ sym (name_ties x y) ∙ h

-- a name that isn't met: another directory, or another name
unmet : {A : Type 0} (d e : Fid) (x y : List ℕ) (v o : A) → (same_fid d e && same_name x y) ≡ false → cond (eq_by_cmp fid_cmp e d) (cond (eq_by_cmp name_cmp y x) v o) o ≡ o
unmet d e x y v o h = go (same_fid d e) refl
  where
    same_here : (b : Bool) → cond b o o ≡ o
    same_here true = refl
    same_here false = refl

    go : (b : Bool) → same_fid d e ≡ b → cond (eq_by_cmp fid_cmp e d) (cond (eq_by_cmp name_cmp y x) v o) o ≡ o
    go true is = ap (λ b. cond (eq_by_cmp fid_cmp e d) (cond b v o) o) (name_apart x y (ap (λ b. b && same_name x y) (sym is) ∙ h)) ∙ same_here (eq_by_cmp fid_cmp e d)
    go false is = ap (λ b. cond b (cond (eq_by_cmp name_cmp y x) v o) o) (apart d e is)

no_effect : (c : Change) (k : Key) (l : Laid) → Misses (keys_of c) k → effect c k (at l k) ≡ at l k
no_effect (PutNode f n) (NodeKey g) l h = ap (λ b. NodeValue (cond b (Some n) (get l.tree.nodes g)) (layout_at l g)) (apart f g h.0)
no_effect (DropNode f) (NodeKey g) l h = ap (λ b. NodeValue (cond b None (get l.tree.nodes g)) (cond b plain_layout (layout_at l g))) (apart f g h.0)
no_effect (PutName d x f) (NameKey e y) l h = ap NameValue (unmet d e x y (Some f) (named l.tree e y) h.0)
no_effect (PutName d x f) (AllKey e) l h = ap (λ b. AllValue (cond b (insert (names_of l.tree e) x f) (names_of l.tree e))) (apart d e h.0)
no_effect (DropName d x) (NameKey e y) l h = ap NameValue (unmet d e x y None (named l.tree e y) h.0)
no_effect (DropName d x) (AllKey e) l h = ap (λ b. AllValue (cond b (remove (names_of l.tree e) x) (names_of l.tree e))) (apart d e h.0)
no_effect (NewLayout d c i) (NodeKey g) l h = ap (λ b. NodeValue (get l.tree.nodes g) (cond b (layout_with c i 0) (layout_at l g))) (apart d g h.0)
no_effect (NextLayout d c i) (NodeKey g) l h = ap (λ b. NodeValue (get l.tree.nodes g) (cond b (layout_with c i (suc (layout_at l g).generation)) (layout_at l g))) (apart d g h.0)
no_effect c k l h = refl

pub all_left : {A : Type 0} (P : A → Type 0) (xs ys : List A) → AllByRecursion P (xs ++ ys) → AllByRecursion P xs
all_left P [] ys h = tt
all_left P (x ∷ xs) ys h = (h.0, all_left P xs ys h.1)

pub all_right : {A : Type 0} (P : A → Type 0) (xs ys : List A) → AllByRecursion P (xs ++ ys) → AllByRecursion P ys
all_right P [] ys h = h
all_right P (x ∷ xs) ys h = all_right P xs ys h.1

-- what isn't met stays
pub unmet_after : (l : Laid) (cs : List Change) (k : Key) → Misses (keys_of_all cs) k → at (laid_after_all l cs) k ≡ at l k
unmet_after l [] k h = refl
unmet_after l (c ∷ cs) k h =
    unmet_after (laid_after l c) cs k (all_right (λ w. meets w k ≡ false) (keys_of c) (keys_of_all cs) h)
    ∙ takes_effect l c k ∙ no_effect c k l (all_left (λ w. meets w k ≡ false) (keys_of c) (keys_of_all cs) h)

pub tree_after : (l : Laid) (cs : List Change) → (laid_after_all l cs).tree ≡ changed_all l.tree cs
tree_after l [] = refl
tree_after l (c ∷ cs) = tree_after (laid_after l c) cs

-- WHAT STANDS AFTER A CHANGE

abbrev node_in : Value → Option Node
node_in (NodeValue n l) = n
node_in v = None

abbrev layout_in : Value → Layout
layout_in (NodeValue n l) = l
layout_in v = plain_layout

abbrev name_in : Value → Option Fid
name_in (NameValue f) = f
name_in v = None

abbrev names_in : Value → Names
names_in (AllValue m) = m
names_in v = empty

abbrev bare : Tree → Laid
bare t = record { tree = t; layouts = empty }

pub nodes_after_is : (t : Tree) (c : Change) (f : Fid) → get (changed t c).nodes f ≡ node_after c f (get t.nodes f)
nodes_after_is t (PutNode g n) f = ap node_in (takes_effect (bare t) (PutNode g n) (NodeKey f))
nodes_after_is t (DropNode g) f = ap node_in (takes_effect (bare t) (DropNode g) (NodeKey f))
nodes_after_is t (PutName d x g) f = refl
nodes_after_is t (DropName d x) f = refl
nodes_after_is t (NewLayout d c i) f = refl
nodes_after_is t (NextLayout d c i) f = refl
nodes_after_is t (MoveNames d) f = refl

pub names_after_is : (t : Tree) (c : Change) (d : Fid) → names_of (changed t c) d ≡ names_after c d (names_of t d)
names_after_is t (PutNode g n) d = refl
names_after_is t (DropNode g) d = refl
names_after_is t (PutName e x g) d = ap names_in (takes_effect (bare t) (PutName e x g) (AllKey d))
names_after_is t (DropName e x) d = ap names_in (takes_effect (bare t) (DropName e x) (AllKey d))
names_after_is t (NewLayout e c i) d = refl
names_after_is t (NextLayout e c i) d = refl
names_after_is t (MoveNames e) d = refl

pub name_after_is : (t : Tree) (c : Change) (d : Fid) (y : List ℕ) → named (changed t c) d y ≡ name_after c d y (named t d y)
name_after_is t (PutNode g n) d y = refl
name_after_is t (DropNode g) d y = refl
name_after_is t (PutName e x g) d y = ap name_in (takes_effect (bare t) (PutName e x g) (NameKey d y))
name_after_is t (DropName e x) d y = ap name_in (takes_effect (bare t) (DropName e x) (NameKey d y))
name_after_is t (NewLayout e c i) d y = refl
name_after_is t (NextLayout e c i) d y = refl
name_after_is t (MoveNames e) d y = refl

pub layouts_after_is : (l : Laid) (c : Change) (f : Fid) → layout_at (laid_after l c) f ≡ layout_after c f (layout_at l f)
layouts_after_is l (PutNode g n) f = refl
layouts_after_is l (DropNode g) f = ap layout_in (takes_effect l (DropNode g) (NodeKey f))
layouts_after_is l (PutName d x g) f = refl
layouts_after_is l (DropName d x) f = refl
layouts_after_is l (NewLayout d c i) f = ap layout_in (takes_effect l (NewLayout d c i) (NodeKey f))
layouts_after_is l (NextLayout d c i) f = ap layout_in (takes_effect l (NextLayout d c i) (NodeKey f))
layouts_after_is l (MoveNames d) f = refl
