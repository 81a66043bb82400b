-- The updates of unlink, rmdir and rename.
use Rattle.std.proofs.Common.{◌≡◌, ◌≢◌, ◌≤◌, ◌<◌, ◌-◌, ◌&&◌, ◌||◌, not, nat_le, if◌then◌else◌, ℕ, Bool, true, false, List, [], ◌∷◌, ◌++◌, Option, Some, None, refl, sym, subst, ◌∙◌, arith}
use Rattle.std.specs.FinMap.{get}
use Rattle.fid_space.specs.declared.fid.Fid.{Fid}
use Rattle.fid_space.specs.FidText.{IsFid}
use Rattle.tree_model.specs.declared.node.Node.{Node}
use Rattle.tree_model.specs.Tree.{Names, names_of, same_fid}
use Rattle.tree_model.specs.Changes.{PutNode, DropNode, PutName, DropName}
use Rattle.tree_model.specs.Step.{released, replaced, moved_node}
use Rattle.tree_model.specs.Keys.{Layout, Laid, layout_at, plain_layout, laid_after, laid_after_all}
use Rattle.out_update.specs.declared.update.Kind.TheVariants as kind
use Rattle.out_update.specs.Spelling.{fid_bytes}
use Rattle.striped_dir.specs.Parts.{destroy_of}
use Rattle.object_store.specs.Bodies.{is_allowed}
use Rattle.tree_shares.specs.Shares.{body_of}
use Rattle.tree_sound.specs.Sound.{IsSound}
use Rattle.tree_shares.specs.Updates.{update, inserted, deleted, destroyed_stripes, gone_node, gone, parent_updates}
use Rattle.tree_shares.proofs.Owner.{Clients}
use Rattle.tree_shares.proofs.Nodes.{effect_ref_del, effect_parent}
use Rattle.tree_shares.proofs.Chains.{Goes, along}
use Rattle.tree_shares.proofs.Going.{goes_node, goes_inserted, goes_deleted, goes_destroyed, goes_last}
use Rattle.tree_shares.proofs.Ops.{at_node, has_node, clients}
use Rattle.tree_sound.proofs.Basics.{by_bool}
use Rattle.tree_sound.proofs.Steps.{Has, IsNotOld, laid_append, replaced_alike}

-- what is needed of a node that loses a link
abbrev pub IsReady : Fid → Option Node → Layout → Type 0
IsReady f None ly = Unit {0}
IsReady f (Some n) ly = (f.ver ≡ 0) × (ly.count ≢ 0 → Clients f) × (is_allowed (body_of n ly) ≡ true) × (n.dir ≡ false → ly ≡ plain_layout)

pub goes_released : (targets batch : ℕ) (m : Laid) (c : Fid) (o : Option Node) (ly : Layout) (names : Names) → Has m c o ly names → IsReady c o ly → Goes targets (gone_node targets batch c ly o) m (laid_after_all m (released c o))
goes_released targets batch m c None ly names has ready = λ q. refl
goes_released targets batch m c (Some n) ly names has ready =
    let again : Node = record n { links = n.links - 1 } in
    let P : Bool → Bool → Type 0 = λ b e. Goes targets (if b then destroyed_stripes targets batch c ly ++ destroy_of batch c ∷ [] else update kind.RefDel batch c [] ∷ []) m
    (laid_after_all m (if b || e then DropNode c ∷ [] else PutNode c again ∷ [])) in
    by_bool n.dir
    (λ d. subst (λ b. P b (nat_le n.links 1)) (sym d) (goes_destroyed targets batch c m n ly names has ready.0 ready.1))
    (λ d. by_bool (nat_le n.links 1)
    (λ e. subst (λ b. P b (nat_le n.links 1)) (sym d) (subst (λ b. P false b) (sym e)
    (let plain = ready.3 d in
    subst (λ y. Goes targets (update kind.RefDel batch c [] ∷ []) m (laid_after m (DropNode c))) plain
    (goes_last targets batch c m n names (record { node = has.node; layout = has.layout ∙ plain; names_are = has.names_are }) ready.0 d e))))
    (λ e. subst (λ b. P b (nat_le n.links 1)) (sym d) (subst (λ b. P false b) (sym e)
    (goes_node targets kind.RefDel batch c [] m n again ly names has ready.0 (effect_ref_del batch c n ly names d ready.2 e)))))

pub goes_parent : (targets batch : ℕ) (m : Laid) (p q f : Fid) (o : Option Node) (ly : Layout) (names : Names) → Has m f o ly names → IsReady f o ly → IsFid q
    → Goes targets (parent_updates batch p q f o) m (laid_after_all m (moved_node p q f o))
goes_parent targets batch m p q f None ly names has ready fits = λ x. refl
goes_parent targets batch m p q f (Some n) ly names has ready fits =
    let again : Node = record n { parent = q } in
    let P : Bool → Type 0 = λ b. Goes targets (if b then update kind.ParentSet batch f (fid_bytes q ∷ []) ∷ [] else []) m (laid_after_all m (if b then PutNode f again ∷ [] else [])) in
    by_bool (n.dir && not (same_fid p q))
    (λ e. subst P (sym e) (goes_node targets kind.ParentSet batch f (fid_bytes q ∷ []) m n again ly names has ready.0 (effect_parent batch f q n ly names (front n.dir (not (same_fid p q)) e) fits ready.2)))
    (λ e. subst P (sym e) (λ x. refl))
  where
    front : (a b : Bool) → (a && b) ≡ true → a ≡ true
    front true b h = refl
    front false b h = h

module _ (targets batch most : ℕ) (few : targets ≤ 16) (l : Laid) (sound : IsSound targets most l) (bound : most < 0x0ffffffe) where
  ready_of : (f : Fid) (o : Option Node) → get l.tree.nodes f ≡ o → IsReady f o (layout_at l f)
  ready_of f None e = tt
  ready_of f (Some n) e =
      let s = at_node targets batch most few l sound bound f n e in
      (s.version, clients targets batch most few l sound bound f n e, s.allowed few (omega (arith, bound)), s.bare)

  ready : (f : Fid) → IsReady f (get l.tree.nodes f) (layout_at l f)
  ready f = ready_of f (get l.tree.nodes f) refl

  pub made_unlink : (p : Fid) (x : List ℕ) (c : Fid) (n : Node) → get l.tree.nodes p ≡ Some n
      → Goes targets (deleted targets batch p (layout_at l p) x ∷ gone targets batch l (Some c)) l (laid_after_all l (DropName p x ∷ released c (get l.tree.nodes c)))
  made_unlink p x c n e =
      let m = laid_after l (DropName p x) in
      let s = at_node targets batch most few l sound bound p n e in
      along targets (deleted targets batch p (layout_at l p) x ∷ []) (gone targets batch l (Some c)) l m (laid_after_all m (released c (get l.tree.nodes c)))
      (goes_deleted targets batch p x l n (layout_at l p) (names_of l.tree p) (has_node targets batch most few l sound bound p n e) s.version (clients targets batch most few l sound bound p n e))
      (goes_released targets batch m c (get l.tree.nodes c) (layout_at l c) (names_of m.tree c) (record { node = refl; layout = refl; names_are = refl }) (ready c))

  goes_replaced : (m : Laid) (old : Option Fid) → ((f : Fid) → get m.tree.nodes f ≡ get l.tree.nodes f) → ((f : Fid) → layout_at m f ≡ layout_at l f) → Goes targets (gone targets batch l old) m (laid_after_all m (replaced l.tree old))
  goes_replaced m None nodes layouts = λ q. refl
  goes_replaced m (Some o) nodes layouts =
      goes_released targets batch m o (get l.tree.nodes o) (layout_at l o) (names_of m.tree o) (record { node = nodes o; layout = layouts o; names_are = refl }) (ready o)

  pub made_rename : (p : Fid) (x : List ℕ) (q : Fid) (y : List ℕ) (m : Fid) (old : Option Fid) (n k : Node) → get l.tree.nodes p ≡ Some n → get l.tree.nodes q ≡ Some k → IsFid m → IsNotOld q old → IsNotOld m old
      → Goes targets (deleted targets batch p (layout_at l p) x ∷ (gone targets batch l old ++ (inserted targets batch q (layout_at l q) y m ∷ parent_updates batch p q m (get l.tree.nodes m)))) l
      (laid_after_all l (DropName p x ∷ (replaced l.tree old ++ (PutName q y m ∷ moved_node p q m (get l.tree.nodes m)))))
  made_rename p x q y m old n k e h fits not_q not_m =
      let first = laid_after l (DropName p x) in
      let second = laid_after_all first (replaced l.tree old) in
      let third = laid_after second (PutName q y m) in
      let last = laid_after_all third (moved_node p q m (get l.tree.nodes m)) in
      let s = at_node targets batch most few l sound bound p n e in
      let t = at_node targets batch most few l sound bound q k h in
      let at_q = replaced_alike l first q old not_q in
      let at_m = replaced_alike l first m old not_m in
      let us = gone targets batch l old in
      let tail = parent_updates batch p q m (get l.tree.nodes m) in
      subst (λ z. Goes targets (deleted targets batch p (layout_at l p) x ∷ (us ++ (inserted targets batch q (layout_at l q) y m ∷ tail))) l z)
      (sym (laid_append first (replaced l.tree old) (PutName q y m ∷ moved_node p q m (get l.tree.nodes m))))
      (along targets (deleted targets batch p (layout_at l p) x ∷ []) (us ++ (inserted targets batch q (layout_at l q) y m ∷ tail)) l first last
      (goes_deleted targets batch p x l n (layout_at l p) (names_of l.tree p) (has_node targets batch most few l sound bound p n e) s.version (clients targets batch most few l sound bound p n e))
      (along targets us (inserted targets batch q (layout_at l q) y m ∷ tail) first second last (goes_replaced first old (λ f. refl) (λ f. refl))
      (along targets (inserted targets batch q (layout_at l q) y m ∷ []) tail second third last
      (goes_inserted targets batch q y m second k (layout_at l q) (names_of second.tree q) (record { node = at_q.node ∙ h; layout = at_q.layout; names_are = refl }) t.version (clients targets batch most few l sound bound q k h) fits)
      (goes_parent targets batch third p q m (get l.tree.nodes m) (layout_at l m) (names_of third.tree m) (record { node = at_m.node; layout = at_m.layout; names_are = refl }) (ready m) t.fid))))
