-- What stands at each FID is sound after each operation.
use Rattle.std.proofs.Common.{◌≡◌, ◌+◌, ◌||◌, inr, ⊎_elim, nat_lt, if◌then◌else◌, ℕ, suc, Bool, true, false, List, [], ◌∷◌, ◌++◌, Option, Some, None, refl, sym, ap, subst, ◌∙◌, arith}
use Rattle.std.specs.FinMap.{empty, get, insert, remove, len, get-empty}
use Rattle.fid_space.specs.declared.fid.Fid.{Fid}
use Rattle.fid_space.specs.FidText.{IsFid}
use Rattle.fid_space.specs.Places.{is_client}
use Rattle.tree_model.specs.declared.node.Node.{Node}
use Rattle.tree_model.specs.declared.errno.Errno.{Errno}
use Rattle.tree_model.specs.declared.errno.Errno.TheVariants.{EINVAL, EFBIG}
use Rattle.tree_model.specs.declared.op.Op.{Op}
use Rattle.tree_model.specs.declared.op.Op.TheVariants as ops
use Rattle.tree_model.specs.OpText.{IsOp}
use Rattle.tree_model.specs.Fids.{name_cmp}
use Rattle.tree_model.specs.Tree.{Tree, Names, names_of, named, same_fid, root_fid, directory_in, file_node}
use Rattle.tree_model.specs.Names.{IsName}
use Rattle.tree_model.specs.Changes.{Change, PutNode, PutName, DropName, NewLayout}
use Rattle.tree_model.specs.Step.{first_fault, parent_fault, taken_fault, client_fault, layout_fault, stripes_fault, link_fault, file_fault, directory_fault, found_fault, kind_fault, empty_fault, there_fault, over_fault, loop_fault, moved_fault, create_fault, setxattr_fault, is_dir, same_place, same_node, released, replaced, renamed, moved_node, changed_node, unlinked, op_fault, op_changes}
use Rattle.tree_model.specs.Keys.{Laid, layout_with, laid_after, laid_after_all}
use Rattle.tree_model.specs.Laws.{unless}
use Rattle.tree_model.specs.Kept.{laid_step}
use Rattle.tree_model.proofs.Fids.{told_same}
use Rattle.tree_sound.specs.Sound.{AllAreSound, IsNodeFid, IsLaid, FitsNode}
use Rattle.tree_sound.proofs.Basics.{same, by_bool, not_both, neither, some_none, no_self}
use Rattle.tree_sound.proofs.Nodes.{file_fits, directory_fits, links_fit, attributes_fit, xattr_set_fits, xattr_del_fits}
use Rattle.tree_sound.proofs.Steps.{put_node_at, elsewhere, at_itself, laid_append, replaced_alike}
use Rattle.tree_sound.proofs.Faults.{first_none, parent_none, taken_none, absent_none, unmet, client_none, stripes_none, link_none, found_none, file_only, setxattr_there, xattr_there, no_len, not_old_at, decides}
use Rattle.tree_sound.proofs.Keeping.{all_more, laid_with, laid_plain, sound_node, sound_none, keep_put, renewed, keep_put_name, keep_drop_name, keep_new_layout, keep_next_layout, keep_released, keep_moved, still_bare}

module _ (targets most : ℕ) (l : Laid) (sound : AllAreSound targets most l) where
  abbrev t : Tree
  t = l.tree

  abbrev Keeps : List Change → Type 0
  Keeps cs = AllAreSound targets most (laid_after_all l cs)

  there : (f : Fid) (change : Node → Node) (n : Node) → get t.nodes f ≡ Some n → AllAreSound targets most (laid_after l (PutNode f (change n))) → Keeps (changed_node f (get t.nodes f) change)
  there f change n e s = subst (λ (o : Option Node). Keeps (changed_node f o change)) (sym e) s

  -- a new node
  keep_new : (f : Fid) (m : Node) → is_client targets f ≡ true → IsFid f → get t.nodes f ≡ None → FitsNode m → AllAreSound targets most (laid_after l (PutNode f m))
  keep_new f m client fits none node =
      let was = sound_none targets most l sound f none in
      keep_put targets most l sound f m (record {
        called = inr client;
        fid = fits;
        node = node;
        layout = subst (λ y. IsLaid targets most f y) (sym was.0) (laid_plain targets most f);
        bare = λ h. was;
        spelled = λ x z e. some_none (get (names_of t f) x) z e (ap (λ (ns : Names). get ns x) was.1 ∙ get-empty {X = Fid} name_cmp x);
      })

  apart : (p f : Fid) (n : Node) → get t.nodes p ≡ Some n → get t.nodes f ≡ None → same p f ≡ false
  apart p f n e h = by_bool (same p f) (λ s. some_none (get t.nodes f) n (ap (λ x. get t.nodes x) (sym (told_same p f s)) ∙ e) h) (λ s. s)

  p_after : (p f : Fid) (n m : Node) → get t.nodes p ≡ Some n → get t.nodes f ≡ None → get (laid_after l (PutNode f m)).tree.nodes p ≡ Some n
  p_after p f n m e none = put_node_at l f p m ∙ elsewhere p f (Some m) (get t.nodes p) (apart p f n e none) ∙ e

  keep_create : (p : Fid) (x : List ℕ) (f : Fid) → IsName x → IsFid f → create_fault targets t p x f None ≡ None → Keeps (PutNode f file_node ∷ PutName p x f ∷ [])
  keep_create p x f name fits h =
      let a = first_none (client_fault targets f) (first_fault (layout_fault targets None) (first_fault (parent_fault (get t.nodes p)) (first_fault (taken_fault (named t p x)) (taken_fault (get t.nodes f))))) h in
      let b = first_none (parent_fault (get t.nodes p)) (first_fault (taken_fault (named t p x)) (taken_fault (get t.nodes f))) a.1 in
      let c = first_none (taken_fault (named t p x)) (taken_fault (get t.nodes f)) b.1 in
      let n = parent_none (get t.nodes p) b.0 in
      let none = taken_none (get t.nodes f) c.1 in
      let m = laid_after l (PutNode f file_node) in
      keep_put_name targets most m
      (keep_new f file_node (client_none targets f a.0) fits none file_fits)
      p x f n.0 (p_after p f n.0 file_node n.1 none) n.2 name

  keep_mkdir_of : (p : Fid) (x : List ℕ) (f : Fid) (n : Node) (k i : ℕ) → IsName x → is_client targets f ≡ true → IsFid f → get t.nodes p ≡ Some n → n.dir ≡ true → get t.nodes f ≡ None → IsLaid targets most f (layout_with k i 0)
      → AllAreSound targets most (laid_after (laid_after (laid_after l (PutNode f (directory_in p))) (NewLayout f k i)) (PutName p x f))
  keep_mkdir_of p x f n k i name client fits e d none lay =
      let dir = directory_in p in
      let m = laid_after l (PutNode f dir) in
      let o = laid_after m (NewLayout f k i) in
      let first = keep_new f dir client fits none (directory_fits p) in
      let f_is : get m.tree.nodes f ≡ Some dir = put_node_at l f f dir ∙ at_itself f (Some dir) (get t.nodes f) in
      let second = keep_new_layout targets most m first f k i dir f_is refl lay in
      keep_put_name targets most o second p x f n (p_after p f n dir e none) d name

  keep_mkdir : (p : Fid) (x : List ℕ) (f : Fid) (s : Option (ℕ × ℕ)) → IsName x → IsFid f → create_fault targets t p x f s ≡ None → Keeps (op_changes t (ops.Mkdir p x f s))
  keep_mkdir p x f s name fits h =
      let a = first_none (client_fault targets f) (first_fault (layout_fault targets s) (first_fault (parent_fault (get t.nodes p)) (first_fault (taken_fault (named t p x)) (taken_fault (get t.nodes f))))) h in
      let d = first_none (layout_fault targets s) (first_fault (parent_fault (get t.nodes p)) (first_fault (taken_fault (named t p x)) (taken_fault (get t.nodes f)))) a.1 in
      let b = first_none (parent_fault (get t.nodes p)) (first_fault (taken_fault (named t p x)) (taken_fault (get t.nodes f))) d.1 in
      let c = first_none (taken_fault (named t p x)) (taken_fault (get t.nodes f)) b.1 in
      let n = parent_none (get t.nodes p) b.0 in
      by_stripes s d.0 n.0 n.1 n.2 (client_none targets f a.0) (taken_none (get t.nodes f) c.1)
    where
      by_stripes : (z : Option (ℕ × ℕ)) → layout_fault targets z ≡ None → (n : Node) → get t.nodes p ≡ Some n → n.dir ≡ true → is_client targets f ≡ true → get t.nodes f ≡ None → Keeps (op_changes t (ops.Mkdir p x f z))
      by_stripes None g n e d client none = keep_mkdir_of p x f n 0 0 name client fits e d none (laid_plain targets most f)
      by_stripes (Some z) g n e d client none =
          let low = stripes_none targets z.0 z.1 g in
          keep_mkdir_of p x f n z.0 z.1 name client fits e d none (laid_with targets most f z.0 z.1 0 low.0 low.1 client (omega arith))

  keep_link : (p : Fid) (x : List ℕ) (f : Fid) → IsName x → op_fault targets t (ops.Link p x f) ≡ None → Keeps (op_changes t (ops.Link p x f))
  keep_link p x f name h =
      let a = first_none (parent_fault (get t.nodes p)) (first_fault (taken_fault (named t p x)) (link_fault (get t.nodes f))) h in
      let b = first_none (taken_fault (named t p x)) (link_fault (get t.nodes f)) a.1 in
      let n = parent_none (get t.nodes p) a.0 in
      let k = link_none (get t.nodes f) b.1 in
      let again : Node = record k.0 { links = k.0.links + 1 } in
      let m = laid_after l (PutName p x f) in
      let first = keep_put_name targets most l sound p x f n.0 n.1 n.2 name in
      let s = sound_node targets most l sound f k.0 k.1 in
      let more = k.3 in
      subst (λ (o : Option Node). Keeps (PutName p x f ∷ changed_node f o (λ n. record n { links = n.links + 1 }))) (sym k.1)
      (renewed targets most m first f k.0 again k.1 refl (links_fit k.0 (k.0.links + 1) k.2 (omega arith) (omega (arith, more)) s.node))

  keep_unlinked : (p : Fid) (x : List ℕ) (c : Fid) (n : Node) → get t.nodes p ≡ Some n → n.dir ≡ true → (is_dir (get t.nodes c) ≡ true → names_of t c ≡ empty) → Keeps (DropName p x ∷ released c (get t.nodes c))
  keep_unlinked p x c n e d bare =
      keep_released targets most (laid_after l (DropName p x)) (keep_drop_name targets most l sound p x n e d) c (get t.nodes c) refl (λ z. still_bare l p c x (bare z))

  keep_unlink : (p : Fid) (x : List ℕ) → op_fault targets t (ops.Unlink p x) ≡ None → Keeps (unlinked t p x (named t p x))
  keep_unlink p x h =
      let a = first_none (parent_fault (get t.nodes p)) (found_fault (named t p x) (λ child. file_fault (get t.nodes child))) h in
      let n = parent_none (get t.nodes p) a.0 in
      let c = found_none (named t p x) (λ child. file_fault (get t.nodes child)) a.1 in
      subst (λ (o : Option Fid). Keeps (unlinked t p x o)) (sym c.1) (keep_unlinked p x c.0 n.0 n.1 n.2 (λ z. not_both (is_dir (get t.nodes c.0)) z (file_only (get t.nodes c.0) c.2)))

  keep_rmdir : (p : Fid) (x : List ℕ) → op_fault targets t (ops.Rmdir p x) ≡ None → Keeps (unlinked t p x (named t p x))
  keep_rmdir p x h =
      let fault : Fid → Option Errno = λ child. first_fault (directory_fault (get t.nodes child)) (empty_fault (names_of t child)) in
      let a = first_none (parent_fault (get t.nodes p)) (found_fault (named t p x) fault) h in
      let n = parent_none (get t.nodes p) a.0 in
      let c = found_none (named t p x) fault a.1 in
      let b = first_none (directory_fault (get t.nodes c.0)) (empty_fault (names_of t c.0)) c.2 in
      subst (λ (o : Option Fid). Keeps (unlinked t p x o)) (sym c.1) (keep_unlinked p x c.0 n.0 n.1 n.2 (λ z. no_len (names_of t c.0) b.1))

  -- a replaced directory has no entries
  old_bare : (m o : Fid) → same_fid m o ≡ false → over_fault t m o ≡ None → is_dir (get t.nodes o) ≡ true → names_of t o ≡ empty
  old_bare m o other fault d =
      let kinds = kind_fault (is_dir (get t.nodes m)) (is_dir (get t.nodes o)) in
      let check = if is_dir (get t.nodes o) then empty_fault (names_of t o) else None in
      let inner : first_fault kinds check ≡ None = sym (ap (λ b. if b then None else first_fault kinds check) other) ∙ fault in
      no_len (names_of t o) (sym (ap (λ b. if b then empty_fault (names_of t o) else None) d) ∙ (first_none kinds check inner).1)

  keep_replaced : (p : Fid) (x : List ℕ) (n : Node) (m : Fid) (old : Option Fid) → get t.nodes p ≡ Some n → n.dir ≡ true → there_fault old (over_fault t m) ≡ None → same_node m old ≡ false
      → AllAreSound targets most (laid_after_all (laid_after l (DropName p x)) (replaced t old))
  keep_replaced p x n m None e d fault other = keep_drop_name targets most l sound p x n e d
  keep_replaced p x n m (Some o) e d fault other = keep_unlinked p x o n e d (old_bare m o other fault)

  keep_rename : (p : Fid) (x : List ℕ) (q : Fid) (y : List ℕ) → IsName y → op_fault targets t (ops.Rename p x q y) ≡ None → Keeps (op_changes t (ops.Rename p x q y))
  keep_rename p x q y name h =
      let a = first_none (parent_fault (get t.nodes p)) (found_fault (named t p x) (moved_fault t p x q y)) h in
      let n = parent_none (get t.nodes p) a.0 in
      let c = found_none (named t p x) (moved_fault t p x q y) a.1 in
      let m = c.0 in
      let old = named t q y in
      let rest : Option Errno = first_fault (loop_fault t p q m) (there_fault old (over_fault t m)) in
      let b = first_none (parent_fault (get t.nodes q)) (if same_place p x q y then None else rest) c.2 in
      let k = parent_none (get t.nodes q) b.0 in
      let big : List Change = DropName p x ∷ (replaced t old ++ (PutName q y m ∷ moved_node p q m (get t.nodes m))) in
      let whole : Bool → Type 0 = λ z. Keeps (if z then [] else big) in
      subst (λ (o : Option Fid). Keeps (renamed t p x q y o)) (sym c.1)
      (by_bool (same_place p x q y || same_node m old)
      (λ z. subst whole (sym z) sound)
      (λ z.
      let both = neither (same_place p x q y) (same_node m old) z in
      let inner : rest ≡ None = sym (ap (λ v. if v then None else rest) both.0) ∙ b.1 in
      let fault = (first_none (loop_fault t p q m) (there_fault old (over_fault t m)) inner).1 in
      let others = not_old_at l q y m k.0 k.1 k.2 old refl fault both.1 in
      let first = laid_after l (DropName p x) in
      let second = laid_after_all first (replaced t old) in
      let third = laid_after second (PutName q y m) in
      let at_q = replaced_alike l first q old others.0 in
      let at_m = replaced_alike l first m old others.1 in
      let s2 = keep_replaced p x n.0 m old n.1 n.2 fault both.1 in
      let s3 = keep_put_name targets most second s2 q y m k.0 (at_q.node ∙ k.1) k.2 name in
      let s4 = keep_moved targets most third s3 m p q (get t.nodes m) at_m.node in
      subst whole (sym z) (subst (λ w. AllAreSound targets most w) (sym (laid_append first (replaced t old) (PutName q y m ∷ moved_node p q m (get t.nodes m)))) s4)))

  -- what is no root a client named
  client_of : (f : Fid) → IsNodeFid targets f → same_fid f root_fid ≡ false → is_client targets f ≡ true
  client_of f called other = ⊎_elim (λ (e : f ≡ root_fid). absurd (no_self f root_fid other e)) (λ c. c) called

  keep_migrate : (d : Fid) (c i : ℕ) → op_fault targets t (ops.Migrate d c i) ≡ None → AllAreSound targets (suc most) (laid_after_all l (op_changes t (ops.Migrate d c i)))
  keep_migrate d c i h =
      let big = if nat_lt 32 (len (names_of t d)) then Some EFBIG else None in
      let asked = if same_fid d root_fid then Some EINVAL else stripes_fault targets c i in
      let a = first_none (parent_fault (get t.nodes d)) (first_fault asked big) h in
      let b = first_none asked big a.1 in
      let r = unmet (same_fid d root_fid) EINVAL (stripes_fault targets c i) b.0 in
      let low = stripes_none targets c i r.1 in
      let n = parent_none (get t.nodes d) a.0 in
      keep_next_layout targets most l sound d c i n.0 n.1 n.2 low.0 low.1 (client_of d (sound_node targets most l sound d n.0 n.1).called r.0)

  more_of : (m : Laid) → AllAreSound targets most m → AllAreSound targets (suc most) m
  more_of m s = all_more targets most (suc most) m (omega arith) s

  op_keeps : (op : Op) → IsOp targets op → op_fault targets t op ≡ None → AllAreSound targets (suc most) (laid_after_all l (op_changes t op))
  op_keeps (ops.Create p x f) is h = more_of _ (keep_create p x f is.1 is.2.0 h)
  op_keeps (ops.Mkdir p x f s) is h = more_of _ (keep_mkdir p x f s is.1 is.2.0 h)
  op_keeps (ops.Link p x f) is h = more_of _ (keep_link p x f is.1 h)
  op_keeps (ops.Unlink p x) is h = more_of _ (keep_unlink p x h)
  op_keeps (ops.Rmdir p x) is h = more_of _ (keep_rmdir p x h)
  op_keeps (ops.Rename p x q y) is h = more_of _ (keep_rename p x q y is.3 h)
  op_keeps (ops.SetAttr f mode uid gid) is h =
      let n = absent_none (get t.nodes f) h in
      let s = sound_node targets most l sound f n.0 n.1 in
      more_of _ (there f _ n.0 n.1 (renewed targets most l sound f n.0 (record n.0 { mode = mode; uid = uid; gid = gid }) n.1 refl (attributes_fit n.0 mode uid gid is.1 is.2 is.3 s.node)))
  op_keeps (ops.SetXattr f x v) is h =
      let n = setxattr_there (get t.nodes f) x h in
      let s = sound_node targets most l sound f n.0 n.1 in
      let room : setxattr_fault (Some n.0) x ≡ None = ap (λ (o : Option Node). setxattr_fault o x) (sym n.1) ∙ h in
      more_of _ (there f _ n.0 n.1 (renewed targets most l sound f n.0 (record n.0 { xattrs = insert n.0.xattrs x v }) n.1 refl (xattr_set_fits n.0 x v is.1 is.2 room s.node)))
  op_keeps (ops.DelXattr f x) is h =
      let n = xattr_there (get t.nodes f) x h in
      let s = sound_node targets most l sound f n.0 n.1 in
      more_of _ (there f _ n.0 n.1 (renewed targets most l sound f n.0 (record n.0 { xattrs = remove n.0.xattrs x }) n.1 refl (xattr_del_fits n.0 x s.node)))
  op_keeps (ops.Migrate d c i) is h = keep_migrate d c i h
  op_keeps (ops.Lookup p x) is h = more_of _ sound
  op_keeps (ops.GetAttr f) is h = more_of _ sound
  op_keeps (ops.GetXattr f x) is h = more_of _ sound

  by_fault : (op : Op) (f : Option Errno) → op_fault targets t op ≡ f → IsOp targets op → AllAreSound targets (suc most) (laid_after_all l (unless f (op_changes t op)))
  by_fault op None e is = op_keeps op is e
  by_fault op (Some x) e is = more_of l sound

  pub step_keeps : (op : Op) → IsOp targets op → AllAreSound targets (suc most) (laid_step targets l op)
  step_keeps op is = subst (λ (cs : List Change). AllAreSound targets (suc most) (laid_after_all l cs)) (sym (decides targets t op (op_fault targets t op) refl)) (by_fault op (op_fault targets t op) refl is)
