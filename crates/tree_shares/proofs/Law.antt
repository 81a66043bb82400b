-- The law of shares, operation by operation.
use Rattle.std.proofs.Common.{◌≡◌, ◌≤◌, ◌<◌, ◌+◌, ◌||◌, nat_lt, if◌then◌else◌, ℕ, Bool, true, List, [], ◌∷◌, ◌++◌, Option, Some, None, refl, sym, ap, subst, ◌∙◌, arith}
use Rattle.std.specs.FinMap.{get, len}
use Rattle.fid_space.specs.declared.fid.Fid.{Fid}
use Rattle.fid_space.specs.FidText.{IsFid}
use Rattle.fid_space.specs.Places.{is_client}
use Rattle.tree_model.specs.declared.node.Node.{Node}
use Rattle.tree_model.specs.declared.errno.Errno.{Errno}
use Rattle.tree_model.specs.declared.errno.Errno.TheVariants.{EINVAL, EFBIG}
use Rattle.tree_model.specs.declared.op.Op.{Op}
use Rattle.tree_model.specs.declared.op.Op.TheVariants as ops
use Rattle.tree_model.specs.OpText.{IsOp}
use Rattle.tree_model.specs.Tree.{Tree, names_of, named, same_fid, root_fid, file_node}
use Rattle.tree_model.specs.Changes.{Change, PutNode, PutName, DropName}
use Rattle.tree_model.specs.Step.{first_fault, parent_fault, taken_fault, client_fault, layout_fault, stripes_fault, link_fault, found_fault, there_fault, over_fault, loop_fault, moved_fault, create_fault, same_place, same_node, replaced, renamed, moved_node, changed_node, unlinked, op_fault, op_changes}
use Rattle.tree_model.specs.Keys.{Laid, layout_at, plain_layout, laid_after}
use Rattle.tree_model.specs.Looks.{changes}
use Rattle.tree_model.specs.Laws.{unless}
use Rattle.tree_model.specs.Kept.{laid_step}
use Rattle.out_update.specs.declared.update.Update.{Update}
use Rattle.object_store.specs.Meaning.{after_all}
use Rattle.tree_shares.specs.Shares.{share}
use Rattle.tree_sound.specs.Sound.{IsSound}
use Rattle.tree_shares.specs.Updates.{inserted, deleted, created_node, gone, rename_updates, op_updates, updates, placed_updates, updates_at}
use Rattle.tree_shares.proofs.Effects.{effects}
use Rattle.tree_shares.proofs.Pointwise.{from_objects}
use Rattle.tree_shares.proofs.Finding.{found_object}
use Rattle.tree_shares.proofs.Chains.{Goes}
use Rattle.tree_shares.proofs.Ops.{Made, at_node, made_attr, made_xattr_set, made_xattr_del, made_create, made_mkdir, made_link, made_migrate}
use Rattle.tree_shares.proofs.Moving.{made_unlink, made_rename}
use Rattle.tree_sound.proofs.Basics.{neither, by_bool}
use Rattle.tree_sound.proofs.Faults.{first_none, parent_none, taken_none, absent_none, unmet, client_none, stripes_none, link_none, found_none, setxattr_there, xattr_there, not_old_at, decides}

-- a node that is there: what is changed of it is that node
module _ (targets : ℕ) (l : Laid) (f : Fid) (us : List Update) (change : Node → Node) where
  node_there : (n : Node) → get l.tree.nodes f ≡ Some n → Goes targets us l (laid_after l (PutNode f (change n))) → Made targets us l (changed_node f (get l.tree.nodes f) change)
  node_there n e g = subst (λ (o : Option Node). Made targets us l (changed_node f o change)) (sym e) g

module _ (targets batch most : ℕ) (few : targets ≤ 16) (l : Laid) (sound : IsSound targets most l) (bound : most < 0x0ffffffe) where
  abbrev t : Tree
  t = l.tree

  create_goes : (p : Fid) (x : List ℕ) (f : Fid) → IsFid f → create_fault targets t p x f None ≡ None
      → Made targets (created_node batch f file_node plain_layout ∷ inserted targets batch p (layout_at l p) x f ∷ []) l (PutNode f file_node ∷ PutName p x f ∷ [])
  create_goes p x f fits h =
      let a = first_none (client_fault targets f) (first_fault (layout_fault targets None) (first_fault (parent_fault (get t.nodes p)) (first_fault (taken_fault (named t p x)) (taken_fault (get t.nodes f))))) h in
      let b = first_none (parent_fault (get t.nodes p)) (first_fault (taken_fault (named t p x)) (taken_fault (get t.nodes f))) a.1 in
      let c = first_none (taken_fault (named t p x)) (taken_fault (get t.nodes f)) b.1 in
      let n = parent_none (get t.nodes p) b.0 in
      made_create targets batch most few l sound bound p x f n.0 (client_none targets f a.0) fits n.1 (taken_none (get t.nodes f) c.1)

  mkdir_goes : (p : Fid) (x : List ℕ) (f : Fid) (s : Option (ℕ × ℕ)) → IsFid f → create_fault targets t p x f s ≡ None
      → Made targets (op_updates targets batch l (ops.Mkdir p x f s)) l (op_changes t (ops.Mkdir p x f s))
  mkdir_goes p x f s fits h =
      let a = first_none (client_fault targets f) (first_fault (layout_fault targets s) (first_fault (parent_fault (get t.nodes p)) (first_fault (taken_fault (named t p x)) (taken_fault (get t.nodes f))))) h in
      let d = first_none (layout_fault targets s) (first_fault (parent_fault (get t.nodes p)) (first_fault (taken_fault (named t p x)) (taken_fault (get t.nodes f)))) a.1 in
      let b = first_none (parent_fault (get t.nodes p)) (first_fault (taken_fault (named t p x)) (taken_fault (get t.nodes f))) d.1 in
      let c = first_none (taken_fault (named t p x)) (taken_fault (get t.nodes f)) b.1 in
      let n = parent_none (get t.nodes p) b.0 in
      by_stripes s d.0 n.0 n.1 (client_none targets f a.0) (taken_none (get t.nodes f) c.1)
    where
      by_stripes : (z : Option (ℕ × ℕ)) → layout_fault targets z ≡ None → (n : Node) → get t.nodes p ≡ Some n → is_client targets f ≡ true → get t.nodes f ≡ None
          → Made targets (op_updates targets batch l (ops.Mkdir p x f z)) l (op_changes t (ops.Mkdir p x f z))
      by_stripes None g n e client none = made_mkdir targets batch most few l sound bound p x f n 0 0 client fits e none (omega arith) (omega arith)
      by_stripes (Some z) g n e client none =
          let low = stripes_none targets z.0 z.1 g in
          let count = low.0 in
          let index = low.1 in
          made_mkdir targets batch most few l sound bound p x f n z.0 z.1 client fits e none (omega (arith, count)) (omega (arith, index))

  link_goes : (p : Fid) (x : List ℕ) (f : Fid) → IsFid f → op_fault targets t (ops.Link p x f) ≡ None → Made targets (op_updates targets batch l (ops.Link p x f)) l (op_changes t (ops.Link p x f))
  link_goes p x f fits h =
      let a = first_none (parent_fault (get t.nodes p)) (first_fault (taken_fault (named t p x)) (link_fault (get t.nodes f))) h in
      let b = first_none (taken_fault (named t p x)) (link_fault (get t.nodes f)) a.1 in
      let n = parent_none (get t.nodes p) a.0 in
      let k = link_none (get t.nodes f) b.1 in
      subst (λ (o : Option Node). Made targets (op_updates targets batch l (ops.Link p x f)) l (PutName p x f ∷ changed_node f o (λ n. record n { links = n.links + 1 }))) (sym k.1)
      (made_link targets batch most few l sound bound p x f n.0 k.0 fits n.1 n.2 k.1 k.2 k.3)

  unlink_goes : (p : Fid) (x : List ℕ) (fault : Fid → Option Errno) → first_fault (parent_fault (get t.nodes p)) (found_fault (named t p x) fault) ≡ None
      → Made targets (deleted targets batch p (layout_at l p) x ∷ gone targets batch l (named t p x)) l (unlinked t p x (named t p x))
  unlink_goes p x fault h =
      let a = first_none (parent_fault (get t.nodes p)) (found_fault (named t p x) fault) h in
      let n = parent_none (get t.nodes p) a.0 in
      let c = found_none (named t p x) fault a.1 in
      subst (λ (o : Option Fid). Made targets (deleted targets batch p (layout_at l p) x ∷ gone targets batch l o) l (unlinked t p x o)) (sym c.1)
      (made_unlink targets batch most few l sound bound p x c.0 n.0 n.1)

  rename_goes : (p : Fid) (x : List ℕ) (q : Fid) (y : List ℕ) → op_fault targets t (ops.Rename p x q y) ≡ None → Made targets (op_updates targets batch l (ops.Rename p x q y)) l (op_changes t (ops.Rename p x q y))
  rename_goes p x q y h =
      let a = first_none (parent_fault (get t.nodes p)) (found_fault (named t p x) (moved_fault t p x q y)) h in
      let n = parent_none (get t.nodes p) a.0 in
      let c = found_none (named t p x) (moved_fault t p x q y) a.1 in
      let m = c.0 in
      let rest : Option Errno = first_fault (loop_fault t p q m) (there_fault (named t q y) (over_fault t m)) in
      let b = first_none (parent_fault (get t.nodes q)) (if same_place p x q y then None else rest) c.2 in
      let k = parent_none (get t.nodes q) b.0 in
      let fits : IsFid m = (at_node targets batch most few l sound bound p n.0 n.1).children x m c.1 in
      let us : List Update = rename_updates targets batch l p x q y (Some m) in
      let big : List Change = DropName p x ∷ (replaced t (named t q y) ++ (PutName q y m ∷ moved_node p q m (get t.nodes m))) in
      let whole : Bool → Type 0 = λ z. Made targets us l (if z then [] else big) in
      subst (λ (o : Option Fid). Made targets (rename_updates targets batch l p x q y o) l (renamed t p x q y o)) (sym c.1)
      (by_bool (same_place p x q y || same_node m (named t q y))
      (λ z. subst whole (sym z) (λ w. refl))
      (λ z.
      let both = neither (same_place p x q y) (same_node m (named t q y)) z in
      let inner : rest ≡ None = sym (ap (λ v. if v then None else rest) both.0) ∙ b.1 in
      let there = (first_none (loop_fault t p q m) (there_fault (named t q y) (over_fault t m)) inner).1 in
      let others = not_old_at l q y m k.0 k.1 k.2 (named t q y) refl there both.1 in
      subst whole (sym z) (made_rename targets batch most few l sound bound p x q y m (named t q y) n.0 k.0 n.1 k.1 fits others.0 others.1)))

  migrate_goes : (d : Fid) (c i : ℕ) → op_fault targets t (ops.Migrate d c i) ≡ None → Made targets (op_updates targets batch l (ops.Migrate d c i)) l (op_changes t (ops.Migrate d c i))
  migrate_goes d c i h =
      let big = if nat_lt 32 (len (names_of t d)) then Some EFBIG else None in
      let asked = if same_fid d root_fid then Some EINVAL else stripes_fault targets c i in
      let a = first_none (parent_fault (get t.nodes d)) (first_fault asked big) h in
      let b = first_none asked big a.1 in
      let r = unmet (same_fid d root_fid) EINVAL (stripes_fault targets c i) b.0 in
      let low = stripes_none targets c i r.1 in
      let count = low.0 in
      let index = low.1 in
      let n = parent_none (get t.nodes d) a.0 in
      made_migrate targets batch most few l sound bound d c i n.0 n.1 n.2 r.0 (omega (arith, count)) (omega (arith, index))

  pub op_goes : (op : Op) → IsOp targets op → op_fault targets t op ≡ None → Made targets (op_updates targets batch l op) l (op_changes t op)
  op_goes (ops.Create p x f) is h = create_goes p x f is.2.0 h
  op_goes (ops.Mkdir p x f s) is h = mkdir_goes p x f s is.2.0 h
  op_goes (ops.Link p x f) is h = link_goes p x f is.2.0 h
  op_goes (ops.Unlink p x) is h = unlink_goes p x _ h
  op_goes (ops.Rmdir p x) is h = unlink_goes p x _ h
  op_goes (ops.Rename p x q y) is h = rename_goes p x q y h
  op_goes (ops.SetAttr f mode uid gid) is h =
      let n = absent_none (get t.nodes f) h in
      node_there targets l f _ _ n.0 n.1 (made_attr targets batch most few l sound bound f mode uid gid n.0 n.1 is.1 is.2 is.3)
  op_goes (ops.SetXattr f x v) is h =
      let n = setxattr_there (get t.nodes f) x h in
      node_there targets l f _ _ n.0 n.1 (made_xattr_set targets batch most few l sound bound f x v n.0 n.1)
  op_goes (ops.DelXattr f x) is h =
      let n = xattr_there (get t.nodes f) x h in
      node_there targets l f _ _ n.0 n.1 (made_xattr_del targets batch most few l sound bound f x n.0 n.1)
  op_goes (ops.Migrate d c i) is h = migrate_goes d c i h
  op_goes (ops.Lookup p x) is h = λ q. refl
  op_goes (ops.GetAttr f) is h = λ q. refl
  op_goes (ops.GetXattr f x) is h = λ q. refl

  pub changes_are : (op : Op) → changes targets t op ≡ unless (op_fault targets t op) (op_changes t op)
  changes_are op = decides targets t op (op_fault targets t op) refl

  by_fault : (op : Op) (f : Option Errno) → op_fault targets t op ≡ f → IsOp targets op → Made targets (op_updates targets batch l op) l (unless f (op_changes t op))
  by_fault op None e is = op_goes op is e
  by_fault op (Some x) e is = λ q. refl

  pub all_go : (op : Op) → IsOp targets op → Goes targets (updates targets batch l op) l (laid_step targets l op)
  all_go op is = subst (λ (cs : List Change). Made targets (op_updates targets batch l op) l cs) (sym (changes_are op)) (by_fault op (op_fault targets t op) refl is)

  -- the part of each target makes its share of the tree that of the next
  pub parts_make_shares : (more : ℕ) (op : Op) → IsOp targets op → IsSound targets more (laid_step targets l op) → (target : ℕ)
      → after_all (share targets l target) (updates_at target (placed_updates targets batch l op)) ≡ share targets (laid_step targets l op) target
  parts_make_shares more op is after_sound target =
      from_objects targets l (laid_step targets l op) (updates targets batch l op)
      (λ q. ap (effects (updates targets batch l op) q) (found_object targets most few l sound q) ∙ all_go op is q ∙ sym (found_object targets more few (laid_step targets l op) after_sound q)) target
