-- What is looked at has a place.
use Rattle.std.proofs.Common.{◌≡◌, ◌≤◌, ◌&&◌, ⊎_elim, is_some, ℕ, zero, suc, Bool, true, false, not, nat_lt, if◌then◌else◌, Option, Some, None, List, [], refl, sym, subst, true≢false}
use Rattle.std.specs.List.{AllByRecursion}
use Rattle.std.specs.FinMap.{get, len}
use Rattle.fid_space.specs.declared.fid.Fid.{Fid}
use Rattle.fid_space.specs.Places.{place_of, is_stripe}
use Rattle.tree_model.specs.declared.node.Node.{Node}
use Rattle.tree_model.specs.declared.op.Op.{Op}
use Rattle.tree_model.specs.declared.op.Op.TheVariants as ops
use Rattle.tree_model.specs.declared.reply.Reply.{Reply}
use Rattle.tree_model.specs.declared.errno.Errno.{Errno}
use Rattle.tree_model.specs.declared.errno.Errno.TheVariants.{EINVAL, EFBIG}
use Rattle.tree_model.specs.Tree.{Names, names_of, named, same_fid, root_fid}
use Rattle.tree_model.specs.Changes.{Change}
use Rattle.tree_model.specs.Keys.{Laid, layout_at}
use Rattle.tree_model.specs.Looks.{Plan, AskNode, AskName, AskAll, Decide, asked, check, found, on_directory, walk, whole_walk, replace_plan, create_plan, plan, looks}
use Rattle.tree_model.specs.Step.{client_fault, layout_fault, taken_fault, absent_fault, link_fault, file_fault, directory_fault, setxattr_fault, xattr_fault, stripes_fault, attr_reply, xattr_reply, parent_fault, is_dir, kind_fault, empty_fault, same_place, parent_of}
use Rattle.tree_model.specs.OpText.{IsOp, IsPlaced}
use Rattle.op_laws.specs.Objects.{is_among, parts_of, stripes_of, owner, there}
use Rattle.op_laws.proofs.Ground.{Ground}
use Rattle.op_laws.specs.Laws.{IsAsked}
use Rattle.op_laws.proofs.Lists.{or_first}
use Rattle.op_laws.proofs.Names.{node_placed}
use Rattle.op_laws.proofs.Stripes.{part_is, of_stripe}
use Rattle.op_laws.proofs.Places.{striped, stripe_there}
use Rattle.tree_sound.proofs.Basics.{In, ok_true, dir_of, dir_some}

module _ (targets : ℕ) (l : Laid) (sound : Ground targets l) where
  abbrev N : Fid → List ℕ → Option Fid
  N = named l.tree

  abbrev IsDir : Fid → Type 0
  IsDir d = is_dir (get l.tree.nodes d) ≡ true

  abbrev Placed : Fid → Type 0
  Placed f = (t : ℕ) × (place_of targets f ≡ Some t)

  dir_placed : (d : Fid) → IsDir d → Placed d
  dir_placed d h = node_placed targets d (sound.called d (dir_some (get l.tree.nodes d) h))

  -- the directory that names a directory is its parent
  parent_dir : (d : Fid) (o : Option Node) → get l.tree.nodes d ≡ o → is_dir o ≡ true → IsDir (parent_of o)
  parent_dir d None e h = absurd (true≢false (sym h))
  parent_dir d (Some n) e h = sound.parent d n e h

  named_placed : (d : Fid) (x : List ℕ) (f : Fid) → N d x ≡ Some f → Placed f
  named_placed d x f e = node_placed targets f (sound.called f (sound.there d x f e))

  Asks : Plan → Type 0
  Asks p = AllByRecursion (IsAsked targets l) (asked p l.tree)

  ask_node : (f : Fid) (next : Option Node → Plan) → Placed f → Asks (next (get l.tree.nodes f)) → Asks (AskNode f next)
  unfolding Asks
  ask_node f next h k = (h, k)

  ask_name : (d : Fid) (x : List ℕ) (next : Option Fid → Plan) → IsDir d → Asks (next (N d x)) → Asks (AskName d x next)
  unfolding Asks
  ask_name d x next h k = (h, k)

  ask_all : (d : Fid) (next : Names → Plan) → IsDir d → Asks (next (names_of l.tree d)) → Asks (AskAll d next)
  unfolding Asks
  ask_all d next h k = (h, k)

  decide : (r : Reply) (cs : List Change) → Asks (Decide r cs)
  unfolding Asks
  decide r cs = tt

  checked : (f : Option Errno) (next : Plan) → (f ≡ None → Asks next) → Asks (check f next)
  checked None next h = h refl
  checked (Some e) next h = decide _ _

  either : (b : Bool) (p q : Plan) → (b ≡ true → Asks p) → (b ≡ false → Asks q) → Asks (if b then p else q)
  either true p q h k = h refl
  either false p q h k = k refl

  where_found : (o : Option Fid) (next : Fid → Plan) → ((c : Fid) → o ≡ Some c → Asks (next c)) → Asks (found o next)
  where_found None next h = decide _ _
  where_found (Some c) next h = h c refl

  directory : (d : Fid) (next : Plan) → Placed d → (IsDir d → Asks next) → Asks (on_directory d next)
  directory d next a h = ask_node d _ a (checked (parent_fault (get l.tree.nodes d)) next (λ e. h (dir_of (get l.tree.nodes d) e)))

  walked : (n : ℕ) (m f : Fid) (next : Plan) → IsDir f → Asks next → Asks (walk n m f next)
  walked zero m f next d h = either (same_fid f root_fid) next _ (λ _. h) (λ _. either (same_fid f m) _ _ (λ _. decide _ _) (λ _. decide _ _))
  walked (suc n) m f next d h =
      either (same_fid f root_fid) next _ (λ _. h) (λ _. either (same_fid f m) _ _ (λ _. decide _ _)
      (λ _. ask_node f _ (dir_placed f d) (walked n m (parent_of (get l.tree.nodes f)) next (parent_dir f (get l.tree.nodes f) refl d) h)))

  whole : (m f : Fid) (next : Plan) → IsDir f → Asks next → Asks (whole_walk m f next)
  unfolding whole_walk
  whole m f next d h = walked 1023 m f next d h

  placed_is : (f : Fid) → IsPlaced targets f → Placed f
  placed_is f h = by_option (place_of targets f) h.1
    where
      by_option : (o : Option ℕ) → is_some o ≡ true → (t : ℕ) × (o ≡ Some t)
      by_option None e = absurd (true≢false (sym e))
      by_option (Some t) e = (t, refl)

  create_asks : (p : Fid) (x : List ℕ) (f : Fid) (s : Option (ℕ × ℕ)) (cs : List Change) → Placed p → Placed f → Asks (create_plan targets p x f s cs)
  create_asks p x f s cs a b =
      checked (client_fault targets f) _ (λ _. checked (layout_fault targets s) _ (λ _. directory p _ a (λ dir. ask_name p x _ dir (checked (taken_fault (N p x)) _ (λ _.
      ask_node f _ b (checked (taken_fault (get l.tree.nodes f)) _ (λ _. decide _ _)))))))

  replace_asks : (p : Fid) (x : List ℕ) (q : Fid) (y : List ℕ) (m : Fid) (o : Option Fid) → N q y ≡ o → Asks (replace_plan p x q y m (get l.tree.nodes m) o)
  replace_asks p x q y m None e = decide _ _
  replace_asks p x q y m (Some old) e =
      let other = get l.tree.nodes old in
      either (same_fid m old) _ _ (λ _. decide _ _)
      (λ _. ask_node old _ (named_placed q y old e) (checked (kind_fault (is_dir (get l.tree.nodes m)) (is_dir other)) _ (λ _. either (is_dir other) _ _
      (λ dir. ask_all old _ dir (checked (empty_fault (names_of l.tree old)) _ (λ _. decide _ _))) (λ _. decide _ _))))

  read_asks : (f : Fid) (fault : Option Node → Option Errno) (reply : Option Node → Reply) → Placed f → Asks (AskNode f (λ node. check (fault node) (Decide (reply node) [])))
  read_asks f fault reply a = ask_node f _ a (checked (fault (get l.tree.nodes f)) _ (λ _. decide _ _))

  op_asks : (op : Op) → IsOp targets op → Asks (plan targets op)
  op_asks (ops.Create p x f) h = create_asks p x f None _ (placed_is p h.0) (placed_is f h.2)
  op_asks (ops.Mkdir p x f s) h = create_asks p x f s _ (placed_is p h.0) (placed_is f h.2)
  op_asks (ops.Link p x f) h =
      directory p _ (placed_is p h.0) (λ dir. ask_name p x _ dir (checked (taken_fault (N p x)) _ (λ _. ask_node f _ (placed_is f h.2) (checked (link_fault (get l.tree.nodes f)) _ (λ _. decide _ _)))))
  op_asks (ops.Unlink p x) h =
      directory p _ (placed_is p h.0) (λ dir. ask_name p x _ dir (where_found (N p x) _ (λ c e. ask_node c _ (named_placed p x c e) (checked (file_fault (get l.tree.nodes c)) _ (λ _. decide _ _)))))
  op_asks (ops.Rmdir p x) h =
      directory p _ (placed_is p h.0) (λ dir. ask_name p x _ dir (where_found (N p x) _ (λ c e. ask_node c _ (named_placed p x c e) (checked (directory_fault (get l.tree.nodes c)) _ (λ d.
      ask_all c _ (ok_true (is_dir (get l.tree.nodes c)) _ d) (checked (empty_fault (names_of l.tree c)) _ (λ _. decide _ _)))))))
  op_asks (ops.Rename p x q y) h =
      directory p _ (placed_is p h.0) (λ dir. ask_name p x _ dir (where_found (N p x) _ (λ m e. directory q _ (placed_is q h.2) (λ into. either (same_place p x q y) _ _ (λ _. decide _ _)
      (λ _. ask_node m _ (named_placed p x m e) (
      let last : Asks (AskName q y (replace_plan p x q y m (get l.tree.nodes m))) = ask_name q y _ into (replace_asks p x q y m (N q y) refl) in
      either (is_dir (get l.tree.nodes m) && not (same_fid p q)) _ _ (λ _. whole m q _ into last) (λ _. last)))))))
  op_asks (ops.SetAttr f m u g) h = ask_node f _ (placed_is f h.0) (checked (absent_fault (get l.tree.nodes f)) _ (λ _. decide _ _))
  op_asks (ops.SetXattr f x v) h = ask_node f _ (placed_is f h.0) (checked (setxattr_fault (get l.tree.nodes f) x) _ (λ _. decide _ _))
  op_asks (ops.DelXattr f x) h = ask_node f _ (placed_is f h.0) (checked (xattr_fault (get l.tree.nodes f) x) _ (λ _. decide _ _))
  op_asks (ops.Migrate d c i) h =
      directory d _ (placed_is d h.0) (λ dir. checked (if same_fid d root_fid then Some EINVAL else stripes_fault targets c i) _ (λ _.
      ask_all d _ dir (checked (if nat_lt 32 (len (names_of l.tree d)) then Some EFBIG else None) _ (λ _. decide _ _))))
  op_asks (ops.Lookup p x) h = directory p _ (placed_is p h.0) (λ dir. ask_name p x _ dir (checked (absent_fault (N p x)) _ (λ _. decide _ _)))
  op_asks (ops.GetAttr f) h = read_asks f (λ node. absent_fault node) attr_reply (placed_is f h)
  op_asks (ops.GetXattr f x) h = read_asks f (λ node. xattr_fault node x) (λ node. xattr_reply node x) (placed_is f h.0)

  pub all_asked : (op : Op) → IsOp targets op → AllByRecursion (IsAsked targets l) (looks targets l.tree op)
  unfolding Asks
  all_asked op h = op_asks op h

  pub part_there : (d x : Fid) → 1 ≤ targets → targets ≤ 16 → IsDir d → In (parts_of targets d (layout_at l d)) x → (there targets l x ≡ true) × Placed x
  part_there d x some few dir h = ⊎_elim
      (λ e. (subst (λ x. there targets l x ≡ true) e (node_there d (dir_some (get l.tree.nodes d) dir)), subst Placed e (dir_placed d dir)))
      (λ s.
      let is = striped targets some few l sound d x s in
      let o = of_stripe targets d (layout_at l d) x some few is.0 s in (stripe_there targets some few l d x is.0 s, (_, o.placed)))
      (part_is targets d (layout_at l d).count (layout_at l d).start (layout_at l d).generation x h)
    where
      node_there : (d : Fid) → is_some (get l.tree.nodes d) ≡ true → there targets l d ≡ true
      node_there d h = or_first (is_some (get l.tree.nodes d)) (is_stripe targets d && is_among (stripes_of targets (owner targets d) (layout_at l (owner targets d))) d) h
