-- What stands at each FID stays sound through each change.
use Rattle.std.proofs.Common.{◌≡◌, ◌≤◌, ◌<◌, ◌-◌, ◌&&◌, ◌||◌, inl, not, nat_le, if◌then◌else◌, ℕ, zero, suc, Bool, true, false, true≢false, cond, List, [], ◌∷◌, Option, Some, None, refl, sym, ap, subst, ◌∙◌, arith}
use Rattle.std.proofs.lemmas.Bool.Decides.{nat_tests}
use Rattle.std.specs.Ordering.{eq_by_cmp}
use Rattle.std.specs.Option.{unwrap_or}
use Rattle.std.specs.FinMap.{empty, get, insert, remove, same_map, get-empty, get-insert, get-remove}
use Rattle.fid_space.specs.declared.fid.Fid.{Fid}
use Rattle.fid_space.specs.Places.{is_client}
use Rattle.tree_model.specs.declared.node.Node.{Node}
use Rattle.tree_model.specs.Fids.{fid_cmp, name_cmp}
use Rattle.tree_model.specs.Tree.{Names, names_of, same_fid, root_fid, root_node}
use Rattle.tree_model.specs.Names.{IsName}
use Rattle.tree_model.specs.Changes.{PutNode, DropNode, PutName, DropName, NewLayout, NextLayout}
use Rattle.tree_model.specs.Step.{is_dir, released, moved_node}
use Rattle.tree_model.specs.Keys.{Layout, Laid, layout_at, layout_with, plain_layout, laid_base, laid_after, laid_after_all}
use Rattle.tree_model.proofs.Maps.{fids_total, names_total, exact_names}
use Rattle.tree_model.proofs.Fids.{told_same, name_same}
use Rattle.tree_sound.specs.Sound.{AllAreSound, IsSoundAt, IsSoundNode, IsLaid, FitsNode}
use Rattle.tree_sound.proofs.Basics.{same, by_bool, none_is, neither}
use Rattle.tree_sound.proofs.Nodes.{links_fit, parent_fits, directory_fits}
use Rattle.tree_sound.proofs.Steps.{Has, has_all, OnlyAt, put_node_has, put_node_only, drop_node_has, drop_node_only, put_name_has, put_name_only, drop_name_has, drop_name_only, drop_name_at, new_layout_has, new_layout_only, next_layout_has, next_layout_only}

laid_more : (targets most more : ℕ) (f : Fid) (ly : Layout) → most ≤ more → IsLaid targets most f ly → IsLaid targets more f ly
laid_more targets most more f ly le s =
    let low = s.migrations in
    record { few = s.few; first = s.first; plain = s.plain; client = s.client; migrations = omega (arith, low, le) }

at_more : (targets most more : ℕ) (f : Fid) (o : Option Node) (ly : Layout) (names : Names) → most ≤ more → IsSoundAt targets most f o ly names → IsSoundAt targets more f o ly names
at_more targets most more f None ly names le s = s
at_more targets most more f (Some n) ly names le s =
    record { called = s.called; fid = s.fid; node = s.node; layout = laid_more targets most more f ly le s.layout; bare = s.bare; spelled = s.spelled }

carried : (targets most : ℕ) (f : Fid) (o p : Option Node) (ly lz : Layout) (ns ms : Names) → p ≡ o → lz ≡ ly → ms ≡ ns → IsSoundAt targets most f o ly ns → IsSoundAt targets most f p lz ms
carried targets most f o p ly lz ns ms a b c s =
    subst (λ x. IsSoundAt targets most f x lz ms) (sym a) (subst (λ x. IsSoundAt targets most f o x ms) (sym b) (subst (λ x. IsSoundAt targets most f o ly x) (sym c) s))

pub all_more : (targets most more : ℕ) (l : Laid) → most ≤ more → AllAreSound targets most l → AllAreSound targets more l
all_more targets most more l le sound f = at_more targets most more f (get l.tree.nodes f) (layout_at l f) (names_of l.tree f) le (sound f)

-- a change at one FID
pub sound_at_one : (targets most more : ℕ) (l m : Laid) (f : Fid) (o : Option Node) (ly : Layout) (names : Names) → most ≤ more → AllAreSound targets most l → Has m f o ly names → OnlyAt l m f
    → IsSoundAt targets more f o ly names → AllAreSound targets more m
sound_at_one targets most more l m f o ly names le sound has others s d =
    by_bool (same d f)
    (λ e. subst (λ x. IsSoundAt targets more x (get m.tree.nodes x) (layout_at m x) (names_of m.tree x)) (sym (told_same d f e))
    (carried targets more f o (get m.tree.nodes f) ly (layout_at m f) names (names_of m.tree f) has.node has.layout has.names_are s))
    (λ e.
    let a = others d e in
    carried targets more d (get l.tree.nodes d) (get m.tree.nodes d) (layout_at l d) (layout_at m d) (names_of l.tree d) (names_of m.tree d) a.node a.layout a.names_are
    (at_more targets most more d (get l.tree.nodes d) (layout_at l d) (names_of l.tree d) le (sound d)))

inserted_names : (names : Names) (x : List ℕ) (c : Fid) → IsName x → ((y : List ℕ) (z : Fid) → get names y ≡ Some z → IsName y) → (y : List ℕ) (z : Fid) → get (insert names x c) y ≡ Some z → IsName y
inserted_names names x c name kids y z e =
    by_bool (eq_by_cmp name_cmp y x)
    (λ s. subst IsName (sym (name_same y x s)) name)
    (λ s. kids y z (sym (get-insert names_total names x c y ∙ ap (λ b. cond b (Some c) (get names y)) s) ∙ e))

removed_names : (names : Names) (x : List ℕ) → ((y : List ℕ) (z : Fid) → get names y ≡ Some z → IsName y) → (y : List ℕ) (z : Fid) → get (remove names x) y ≡ Some z → IsName y
removed_names names x kids y z e =
    by_bool (eq_by_cmp name_cmp y x)
    (λ s. absurd (none_is (sym (get-remove names_total names x y ∙ ap (λ b. cond b None (get names y)) s) ∙ e)))
    (λ s. kids y z (sym (get-remove names_total names x y ∙ ap (λ b. cond b None (get names y)) s) ∙ e))

pub remove_none : (x : List ℕ) → ◌≡◌ {A = Names} (remove empty x) empty
remove_none x = same_map names_total exact_names _ _ (λ y. get-remove names_total empty x y ∙ ap (λ o. cond (eq_by_cmp name_cmp y x) None o) (get-empty {X = Fid} name_cmp y) ∙ nothing (eq_by_cmp name_cmp y x) ∙ sym (get-empty {X = Fid} name_cmp y))
  where
    nothing : (b : Bool) → ◌≡◌ {A = Option Fid} (cond b None None) None
    nothing true = refl
    nothing false = refl

-- a layout with a count and a first target that may stand
pub laid_with : (targets most : ℕ) (f : Fid) (c i g : ℕ) → c ≤ targets → i < targets → is_client targets f ≡ true → g ≤ most → IsLaid targets most f (layout_with c i g)
laid_with targets most f zero i g few low client le = record { few = omega arith; first = λ z. absurd (z refl); plain = λ _. refl; client = λ z. client; migrations = le }
laid_with targets most f (suc c) i g few low client le =
    record { few = few; first = λ z. low; plain = λ (e : suc c ≡ 0). absurd (omega (arith, e)); client = λ z. client; migrations = le }

pub laid_plain : (targets most : ℕ) (f : Fid) → IsLaid targets most f plain_layout
laid_plain targets most f = record { few = omega arith; first = λ z. absurd (z refl); plain = λ _. refl; client = λ z. absurd (z refl); migrations = omega arith }

pub generation_with : (c i g : ℕ) → (layout_with c i g).generation ≡ g
generation_with zero i g = refl
generation_with (suc c) i g = refl

module _ (targets most : ℕ) (l : Laid) (sound : AllAreSound targets most l) (f : Fid) where
  pub sound_node : (n : Node) → get l.tree.nodes f ≡ Some n → IsSoundNode targets most f n (layout_at l f) (names_of l.tree f)
  sound_node n e = subst (λ (o : Option Node). IsSoundAt targets most f o (layout_at l f) (names_of l.tree f)) e (sound f)

  pub sound_none : get l.tree.nodes f ≡ None → (layout_at l f ≡ plain_layout) × (names_of l.tree f ≡ empty)
  sound_none e = subst (λ (o : Option Node). IsSoundAt targets most f o (layout_at l f) (names_of l.tree f)) e (sound f)

  here : (n : Node) → get l.tree.nodes f ≡ Some n → Has l f (Some n) (layout_at l f) (names_of l.tree f)
  here n e = record { node = e; layout = refl; names_are = refl }

  pub keep_put : (m : Node) → IsSoundNode targets most f m (layout_at l f) (names_of l.tree f) → AllAreSound targets most (laid_after l (PutNode f m))
  keep_put m s =
      sound_at_one targets most most l (laid_after l (PutNode f m)) f (Some m) (layout_at l f) (names_of l.tree f) (omega arith) sound
      (put_node_has l f m m (get l.tree.nodes f) (layout_at l f) (names_of l.tree f) (has_all l f)) (put_node_only l f m) s

  pub keep_drop : names_of l.tree f ≡ empty → AllAreSound targets most (laid_after l (DropNode f))
  keep_drop e = sound_at_one targets most most l (laid_after l (DropNode f)) f None plain_layout empty (omega arith) sound (drop_node_has l f empty e) (drop_node_only l f) (refl, refl)

  -- a node again, with another body of its kind
  pub renewed : (n m : Node) → get l.tree.nodes f ≡ Some n → m.dir ≡ n.dir → FitsNode m → AllAreSound targets most (laid_after l (PutNode f m))
  renewed n m e kind_is fits =
      let s = sound_node n e in
      keep_put m (record { called = s.called; fid = s.fid; node = fits; layout = s.layout; bare = λ h. s.bare (sym kind_is ∙ h); spelled = s.spelled })

  pub keep_put_name : (x : List ℕ) (c : Fid) (n : Node) → get l.tree.nodes f ≡ Some n → n.dir ≡ true → IsName x → AllAreSound targets most (laid_after l (PutName f x c))
  keep_put_name x c n e dir name =
      let s = sound_node n e in
      let names = insert (names_of l.tree f) x c in
      sound_at_one targets most most l (laid_after l (PutName f x c)) f (Some n) (layout_at l f) names (omega arith) sound
      (put_name_has l f x c (Some n) (layout_at l f) (names_of l.tree f) (here n e)) (put_name_only l f x c)
      (record { called = s.called; fid = s.fid; node = s.node; layout = s.layout; bare = λ h. absurd (true≢false (sym dir ∙ h)); spelled = inserted_names (names_of l.tree f) x c name s.spelled })

  pub keep_drop_name : (x : List ℕ) (n : Node) → get l.tree.nodes f ≡ Some n → n.dir ≡ true → AllAreSound targets most (laid_after l (DropName f x))
  keep_drop_name x n e dir =
      let s = sound_node n e in
      let names = remove (names_of l.tree f) x in
      sound_at_one targets most most l (laid_after l (DropName f x)) f (Some n) (layout_at l f) names (omega arith) sound
      (drop_name_has l f x (Some n) (layout_at l f) (names_of l.tree f) (here n e)) (drop_name_only l f x)
      (record { called = s.called; fid = s.fid; node = s.node; layout = s.layout; bare = λ h. absurd (true≢false (sym dir ∙ h)); spelled = removed_names (names_of l.tree f) x s.spelled })

  new_layout : (more : ℕ) (m : Laid) (n : Node) (ly : Layout) → most ≤ more → get l.tree.nodes f ≡ Some n → n.dir ≡ true → IsLaid targets more f ly
      → Has m f (Some n) ly (names_of l.tree f) → OnlyAt l m f → AllAreSound targets more m
  new_layout more m n ly le e dir lay has others =
      let s = sound_node n e in
      sound_at_one targets most more l m f (Some n) ly (names_of l.tree f) le sound has others
      (record { called = s.called; fid = s.fid; node = s.node; layout = lay; bare = λ h. absurd (true≢false (sym dir ∙ h)); spelled = s.spelled })

  pub keep_new_layout : (c i : ℕ) (n : Node) → get l.tree.nodes f ≡ Some n → n.dir ≡ true → IsLaid targets most f (layout_with c i 0) → AllAreSound targets most (laid_after l (NewLayout f c i))
  keep_new_layout c i n e dir lay =
      new_layout most (laid_after l (NewLayout f c i)) n (layout_with c i 0) (omega arith) e dir lay
      (new_layout_has l f c i (Some n) (layout_at l f) (names_of l.tree f) (here n e)) (new_layout_only l f c i)

  pub keep_next_layout : (c i : ℕ) (n : Node) → get l.tree.nodes f ≡ Some n → n.dir ≡ true → c ≤ targets → i < targets → is_client targets f ≡ true → AllAreSound targets (suc most) (laid_after l (NextLayout f c i))
  keep_next_layout c i n e dir few low client =
      let seen = (sound_node n e).layout.migrations in
      new_layout (suc most) (laid_after l (NextLayout f c i)) n (layout_with c i (suc (layout_at l f).generation)) (omega arith) e dir
      (laid_with targets (suc most) f c i (suc (layout_at l f).generation) few low client (omega (arith, seen)))
      (next_layout_has l f c i (Some n) (layout_at l f) (names_of l.tree f) (here n e)) (next_layout_only l f c i)

  -- a node that loses a link, a directory of which has no entries
  pub keep_released : (o : Option Node) → get l.tree.nodes f ≡ o → (is_dir o ≡ true → names_of l.tree f ≡ empty) → AllAreSound targets most (laid_after_all l (released f o))
  keep_released None e bare = sound
  keep_released (Some n) e bare =
      let again : Node = record n { links = n.links - 1 } in
      let s = sound_node n e in
      let P : Bool → Type 0 = λ b. AllAreSound targets most (laid_after_all l (if b then DropNode f ∷ [] else PutNode f again ∷ [])) in
      by_bool (n.dir || nat_le n.links 1)
      (λ z. subst P (sym z) (keep_drop (by_bool n.dir bare (λ d. (s.bare d).1))))
      (λ z.
      let both = neither n.dir (nat_le n.links 1) z in
      let more : 1 < n.links = above n.links both.1 in
      let range = (s.node.file both.0).1 in
      subst P (sym z) (renewed n again e refl (links_fit n (n.links - 1) both.0 (omega (arith, more)) (omega (arith, range)) s.node)))
    where
      above : (k : ℕ) → nat_le k 1 ≡ false → 1 < k
      above k h = grind (arith, nat_tests)

  pub keep_moved : (p q : Fid) (o : Option Node) → get l.tree.nodes f ≡ o → AllAreSound targets most (laid_after_all l (moved_node p q f o))
  keep_moved p q None e = sound
  keep_moved p q (Some n) e =
      let again : Node = record n { parent = q } in
      let s = sound_node n e in
      let P : Bool → Type 0 = λ b. AllAreSound targets most (laid_after_all l (if b then PutNode f again ∷ [] else [])) in
      by_bool (n.dir && not (same_fid p q))
      (λ z. subst P (sym z) (renewed n again e refl (parent_fits n q (front n.dir (not (same_fid p q)) z) s.node)))
      (λ z. subst P (sym z) sound)
    where
      front : (a b : Bool) → (a && b) ≡ true → a ≡ true
      front true b h = refl
      front false b h = h

-- a directory without entries has none after a name goes somewhere
pub still_bare : (l : Laid) (p c : Fid) (x : List ℕ) → names_of l.tree c ≡ empty → names_of (laid_after l (DropName p x)).tree c ≡ empty
still_bare l p c x h =
    drop_name_at l p x c
    ∙ by_bool (same c p)
    (λ s. ap (λ b. cond b (remove (names_of l.tree p) x) (names_of l.tree c)) s ∙ ap (λ f. remove (names_of l.tree f) x) (sym (told_same c p s)) ∙ ap (λ (m : Names). remove m x) h ∙ remove_none x)
    (λ s. ap (λ b. cond b (remove (names_of l.tree p) x) (names_of l.tree c)) s ∙ h)

-- ---- the root alone

root_sound : (targets : ℕ) → IsSoundNode targets 0 root_fid root_node plain_layout empty
root_sound targets = record {
  called = inl refl;
  fid = (omega arith, omega arith, omega arith);
  node = directory_fits root_fid;
  layout = laid_plain targets 0 root_fid;
  bare = λ h. absurd (true≢false h);
  spelled = λ x c e. absurd (none_is (sym (get-empty {X = Fid} name_cmp x) ∙ e));
}

pub base_all : (targets : ℕ) → AllAreSound targets 0 laid_base
base_all targets f =
    let node = get-insert fids_total empty root_fid root_node f ∙ ap (λ o. cond (same f root_fid) (Some root_node) o) (get-empty {X = Node} fid_cmp f) in
    let layout : layout_at laid_base f ≡ plain_layout = ap (λ o. unwrap_or o plain_layout) (get-empty {X = Layout} fid_cmp f) in
    let names : names_of laid_base.tree f ≡ empty = ap (λ o. unwrap_or o empty) (get-empty {X = Names} fid_cmp f) in
    by_bool (same f root_fid)
    (λ s. carried targets 0 f (Some root_node) (get laid_base.tree.nodes f) plain_layout (layout_at laid_base f) empty (names_of laid_base.tree f) (node ∙ ap (λ b. cond b (Some root_node) None) s) layout names
    (subst (λ x. IsSoundNode targets 0 x root_node plain_layout empty) (sym (told_same f root_fid s)) (root_sound targets)))
    (λ s. carried targets 0 f None (get laid_base.tree.nodes f) plain_layout (layout_at laid_base f) empty (names_of laid_base.tree f) (node ∙ ap (λ b. cond b (Some root_node) None) s) layout names (refl, refl))
