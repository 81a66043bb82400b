-- What stands at one FID or at one name after changes.
use Rattle.std.proofs.Common.{◌≡◌, ◌&&◌, ℕ, Bool, true, false, true≢false, cond, Option, Some, None, List, [], ◌∷◌, refl, sym, ap, ◌∙◌}
use Rattle.std.specs.Ordering.{eq_by_cmp}
use Rattle.std.specs.Cmp.{eq_by_cmp_equiv}
use Rattle.std.specs.FinMap.{FinMap, get, insert, remove, get-insert, get-remove}
use Rattle.fid_space.specs.declared.fid.Fid.{Fid}
use Rattle.tree_model.specs.declared.node.Node.{Node}
use Rattle.tree_model.specs.Tree.{Tree, Names, fid_cmp, name_cmp, same_fid, same_name, names_of, named}
use Rattle.tree_model.specs.Changes.{Change, PutNode, DropNode, PutName, DropName, NewLayout, NextLayout, MoveNames}
use Rattle.tree_model.specs.Keys.{Laid, laid_after, laid_after_all}
use Rattle.tree_model.specs.Step.{same_place}
use Rattle.tree_model.proofs.Maps.{fids_total, names_total}
use Rattle.tree_model.proofs.Fids.{fid_ties, name_ties, told_same, name_same}
use Rattle.tree_model.proofs.Writing.{names_with}
use Rattle.tree_sound.proofs.Basics.{same_is, same_self}

fid_eq : (e d : Fid) → eq_by_cmp fid_cmp e d ≡ same_fid d e
fid_eq e d = (eq_by_cmp_equiv fids_total).symm e d ∙ sym (fid_ties d e)

name_eq : (y x : List ℕ) → eq_by_cmp name_cmp y x ≡ same_name x y
name_eq y x = (eq_by_cmp_equiv names_total).symm y x ∙ sym (name_ties x y)

get_in : (b : Bool) (m k : Names) (y : List ℕ) → get (cond b m k) y ≡ cond b (get m y) (get k y)
get_in true m k y = refl
get_in false m k y = refl

of_same : (t : Tree) (q d : Fid) (b : Bool) → eq_by_cmp fid_cmp q d ≡ b → (F : Names → Option Fid) (z : Option Fid) → cond b (F (names_of t d)) z ≡ cond b (F (names_of t q)) z
of_same t q d true e F z = ap (λ f. F (names_of t f)) (sym (told_same q d e))
of_same t q d false e F z = refl

nested : (a b : Bool) (v o : Option Fid) → cond a (cond b v o) o ≡ cond (a && b) v o
nested true b v o = refl
nested false b v o = refl

placed : (d e : Fid) (x y : List ℕ) (v o : Option Fid) → cond (eq_by_cmp fid_cmp e d) (cond (eq_by_cmp name_cmp y x) v o) o ≡ cond (same_place d x e y) v o
placed d e x y v o =
    let a = fid_eq e d in
    let b = name_eq y x in
    nested (eq_by_cmp fid_cmp e d) (eq_by_cmp name_cmp y x) v o ∙ (λ i. cond (a i && b i) v o)

pub node_is : (f g : Fid) (n : Node) (m : FinMap fid_cmp Node) → get (insert m f n) g ≡ cond (same_fid f g) (Some n) (get m g)
node_is f g n m = get-insert fids_total m f n g ∙ ap (λ b. cond b (Some n) (get m g)) (fid_eq g f)

-- ---- one change

abbrev pub node_effect : Change → Fid → Option Node → Option Node
node_effect (PutNode f n) g o = cond (same_fid f g) (Some n) o
node_effect (DropNode f) g o = cond (same_fid f g) None o
node_effect (PutName d x f) g o = o
node_effect (DropName d x) g o = o
node_effect (NewLayout d c i) g o = o
node_effect (NextLayout d c i) g o = o
node_effect (MoveNames d) g o = o

abbrev pub name_effect : Change → Fid → List ℕ → Option Fid → Option Fid
name_effect (PutNode f n) e y o = o
name_effect (DropNode f) e y o = o
name_effect (PutName d x f) e y o = cond (same_place d x e y) (Some f) o
name_effect (DropName d x) e y o = cond (same_place d x e y) None o
name_effect (NewLayout d c i) e y o = o
name_effect (NextLayout d c i) e y o = o
name_effect (MoveNames d) e y o = o

node_after : (l : Laid) (c : Change) (g : Fid) → get (laid_after l c).tree.nodes g ≡ node_effect c g (get l.tree.nodes g)
node_after l (PutNode f n) g = get-insert fids_total l.tree.nodes f n g ∙ ap (λ b. cond b (Some n) (get l.tree.nodes g)) (fid_eq g f)
node_after l (DropNode f) g = get-remove fids_total l.tree.nodes f g ∙ ap (λ b. cond b None (get l.tree.nodes g)) (fid_eq g f)
node_after l (PutName d x f) g = refl
node_after l (DropName d x) g = refl
node_after l (NewLayout d c i) g = refl
node_after l (NextLayout d c i) g = refl
node_after l (MoveNames d) g = refl

name_after : (l : Laid) (c : Change) (e : Fid) (y : List ℕ) → named (laid_after l c).tree e y ≡ name_effect c e y (named l.tree e y)
name_after l (PutName d x f) e y =
    ap (λ (m : Names). get m y) (names_with l.tree d (insert (names_of l.tree d) x f) e) ∙ get_in (eq_by_cmp fid_cmp e d) (insert (names_of l.tree d) x f) (names_of l.tree e) y
    ∙ of_same l.tree e d (eq_by_cmp fid_cmp e d) refl (λ m. get (insert m x f) y) (named l.tree e y)
    ∙ ap (λ o. cond (eq_by_cmp fid_cmp e d) o (named l.tree e y)) (get-insert names_total (names_of l.tree e) x f y)
    ∙ placed d e x y (Some f) (named l.tree e y)
name_after l (DropName d x) e y =
    ap (λ (m : Names). get m y) (names_with l.tree d (remove (names_of l.tree d) x) e) ∙ get_in (eq_by_cmp fid_cmp e d) (remove (names_of l.tree d) x) (names_of l.tree e) y
    ∙ of_same l.tree e d (eq_by_cmp fid_cmp e d) refl (λ m. get (remove m x) y) (named l.tree e y)
    ∙ ap (λ o. cond (eq_by_cmp fid_cmp e d) o (named l.tree e y)) (get-remove names_total (names_of l.tree e) x y)
    ∙ placed d e x y None (named l.tree e y)
name_after l (PutNode f n) e y = refl
name_after l (DropNode f) e y = refl
name_after l (NewLayout d c i) e y = refl
name_after l (NextLayout d c i) e y = refl
name_after l (MoveNames d) e y = refl

-- ---- several changes

abbrev pub node_fold : List Change → Fid → Option Node → Option Node
node_fold [] g o = o
node_fold (c ∷ cs) g o = node_fold cs g (node_effect c g o)

abbrev pub name_fold : List Change → Fid → List ℕ → Option Fid → Option Fid
name_fold [] e y o = o
name_fold (c ∷ cs) e y o = name_fold cs e y (name_effect c e y o)

pub nodes_are : (l : Laid) (cs : List Change) (g : Fid) → get (laid_after_all l cs).tree.nodes g ≡ node_fold cs g (get l.tree.nodes g)
nodes_are l [] g = refl
nodes_are l (c ∷ cs) g = nodes_are (laid_after l c) cs g ∙ ap (λ o. node_fold cs g o) (node_after l c g)

pub names_are : (l : Laid) (cs : List Change) (e : Fid) (y : List ℕ) → named (laid_after_all l cs).tree e y ≡ name_fold cs e y (named l.tree e y)
names_are l [] e y = refl
names_are l (c ∷ cs) e y = names_are (laid_after l c) cs e y ∙ ap (λ o. name_fold cs e y o) (name_after l c e y)

and_both : (a b : Bool) → (a && b) ≡ true → (a ≡ true) × (b ≡ true)
and_both true b h = (refl, h)
and_both false b h = absurd (true≢false (sym h))

pub place_is : (d : Fid) (x : List ℕ) (e : Fid) (y : List ℕ) → same_place d x e y ≡ true → (d ≡ e) × (x ≡ y)
place_is d x e y h = let b = and_both (same_fid d e) (same_name x y) h in (same_is d e b.0, name_same x y (sym (name_ties x y) ∙ b.1))

pub place_self : (d : Fid) (x : List ℕ) → same_place d x d x ≡ true
place_self d x = ap (λ b. b && same_name x x) (same_self d) ∙ (name_ties x x ∙ (eq_by_cmp_equiv names_total).refl x)
