-- Each operation's changes are licensed by what it looks at.
use Rattle.std.proofs.Common.{◌≡◌, ◌<◌, ◌≤◌, ◌||◌, ◌&&◌, ◌+◌, ◌-◌, ◌⊎◌, inl, inr, ⊎_elim, is_some, ℕ, zero, suc, Bool, true, false, not, nat_le, nat_lt, if◌then◌else◌, Option, Some, None, List, [], ◌∷◌, ◌++◌, refl, sym, ap, ◌∙◌, subst, arith, true≢false}
use Rattle.std.proofs.lemmas.Bool.Decides.{nat_tests}
use Rattle.std.specs.List.{AllByRecursion}
use Rattle.std.specs.FinMap.{get, insert, remove, len}
use Rattle.fid_space.specs.declared.fid.Fid.{Fid}
use Rattle.fid_space.specs.Places.{is_client}
use Rattle.tree_model.specs.declared.node.Node.{Node}
use Rattle.tree_model.specs.declared.op.Op.{Op}
use Rattle.tree_model.specs.declared.op.Op.TheVariants as ops
use Rattle.tree_model.specs.declared.reply.Reply.{Reply}
use Rattle.tree_model.specs.declared.reply.Reply.TheVariants as replies
use Rattle.tree_model.specs.declared.errno.Errno.{Errno}
use Rattle.tree_model.specs.declared.errno.Errno.TheVariants.{EINVAL, EFBIG}
use Rattle.tree_model.specs.Tree.{Names, names_of, named, same_fid, root_fid, directory_in, file_node}
use Rattle.tree_model.specs.Changes.{Change, PutNode, DropNode, PutName, DropName, NewLayout, NextLayout, MoveNames}
use Rattle.tree_model.specs.Keys.{Key, NodeKey, NameKey, AllKey, Layout, Laid, plain_layout, layout_at, layout_with}
use Rattle.tree_model.specs.Looks.{Plan, AskNode, AskName, AskAll, Decide, decided, asked, check, found, on_directory, walk, whole_walk, rename_to, replace_plan, move_plan, create_plan, plan, looks, changes}
use Rattle.tree_model.specs.Step.{client_fault, layout_fault, taken_fault, absent_fault, link_fault, file_fault, directory_fault, setxattr_fault, xattr_fault, stripes_fault, attr_reply, xattr_reply, parent_fault, is_dir, kind_fault, empty_fault, same_place, parent_of, released, changed_node, moved_node, new_layout}
use Rattle.tree_model.specs.Laws.{Among}
use Rattle.tree_sound.specs.Sound.{IsNodeFid}
use Rattle.op_laws.proofs.Ground.{Ground}
use Rattle.op_laws.proofs.Facts.{Lays, Same, New, Next, Good, Easy, easy, nothing, put_layout, own_layout, as_layout, next_of}
use Rattle.tree_sound.proofs.Basics.{same_self, ok_true, ok_false, ok_other, dir_of, dir_some, none_of}

-- ---- what checks say

pub in_limits : (targets c i : ℕ) → (nat_le c targets && nat_lt i targets) ≡ true → (c ≤ targets) × (i < targets)
in_limits targets c i h = (grind (arith, nat_tests), grind (arith, nat_tests))

module _ (targets : ℕ) (l : Laid) (some : 1 ≤ targets) (sound : Ground targets l) (looked : List Key) where
  abbrev Fine : List Change → Type 0
  Fine cs = Good targets l looked cs

  -- a plan whose looks are all among these: its changes are good
  Goes : Plan → Type 0
  Goes p = ((k : Key) → Among (asked p l.tree) k → Among looked k) → Fine (decided p l.tree).1

  ask_node : (f : Fid) (next : Option Node → Plan) → (Among looked (NodeKey f) → Goes (next (get l.tree.nodes f))) → Goes (AskNode f next)
  unfolding Goes
  ask_node f next h = λ within. h (within (NodeKey f) (inl refl)) (λ k a. within k (inr a))

  ask_name : (d : Fid) (x : List ℕ) (next : Option Fid → Plan) → (Among looked (NameKey d x) → Goes (next (named l.tree d x))) → Goes (AskName d x next)
  unfolding Goes
  ask_name d x next h = λ within. h (within (NameKey d x) (inl refl)) (λ k a. within k (inr a))

  ask_all : (d : Fid) (next : Names → Plan) → (Among looked (AllKey d) → Goes (next (names_of l.tree d))) → Goes (AskAll d next)
  unfolding Goes
  ask_all d next h = λ within. h (within (AllKey d) (inl refl)) (λ k a. within k (inr a))

  decide : (r : Reply) (cs : List Change) → Fine cs → Goes (Decide r cs)
  unfolding Goes
  decide r cs h = λ within. h

  refused : (r : Reply) → Goes (Decide r [])
  refused r = decide r [] (nothing targets l looked)

  checked : (f : Option Errno) (next : Plan) → (f ≡ None → Goes next) → Goes (check f next)
  checked None next h = h refl
  checked (Some e) next h = refused (replies.Err e)

  either : (b : Bool) (p q : Plan) → (b ≡ true → Goes p) → (b ≡ false → Goes q) → Goes (if b then p else q)
  either true p q h k = h refl
  either false p q h k = k refl

  where_found : (o : Option Fid) (next : Fid → Plan) → ((c : Fid) → Goes (next c)) → Goes (found o next)
  where_found None next h = refused _
  where_found (Some c) next h = h c

  directory : (d : Fid) (next : Plan) → (Among looked (NodeKey d) → IsNodeFid targets d → is_dir (get l.tree.nodes d) ≡ true → Goes next) → Goes (on_directory d next)
  directory d next h =
      ask_node d _ (λ a. checked (parent_fault (get l.tree.nodes d)) next (λ e.
      let is = dir_of (get l.tree.nodes d) e in h a (sound.called d (dir_some (get l.tree.nodes d) is)) is))

  walked : (n : ℕ) (m f : Fid) (next : Plan) → Goes next → Goes (walk n m f next)
  walked zero m f next h = either (same_fid f root_fid) next _ (λ _. h) (λ _. either (same_fid f m) _ _ (λ _. refused _) (λ _. refused _))
  walked (suc n) m f next h =
      either (same_fid f root_fid) next _ (λ _. h) (λ _. either (same_fid f m) _ _ (λ _. refused _)
      (λ _. ask_node f _ (λ _. walked n m (parent_of (get l.tree.nodes f)) next h)))

  whole : (m f : Fid) (next : Plan) → Goes next → Goes (whole_walk m f next)
  unfolding whole_walk
  whole m f next h = walked 1023 m f next h

  -- ---- lists of changes

  abbrev AreEasy : List Change → Type 0
  AreEasy cs = AllByRecursion (Easy targets l looked) cs

  all_append : {A : Type 0} (P : A → Type 0) (xs ys : List A) → AllByRecursion P xs → AllByRecursion P ys → AllByRecursion P (xs ++ ys)
  all_append P [] ys h k = k
  all_append P (x ∷ xs) ys h k = (h.0, all_append P xs ys h.1 k)

  one_or_other : (b : Bool) (cs ds : List Change) → AreEasy cs → AreEasy ds → AreEasy (if b then cs else ds)
  one_or_other true cs ds h k = h
  one_or_other false cs ds h k = k

  changed_easy : (f : Fid) (node : Option Node) (change : Node → Node) → Among looked (NodeKey f) → (is_some node ≡ true → IsNodeFid targets f) → AreEasy (changed_node f node change)
  changed_easy f None change a h = tt
  changed_easy f (Some n) change a h = (((a, h refl), tt), tt)

  released_easy : (f : Fid) (node : Option Node) → Among looked (NodeKey f) → (is_some node ≡ true → IsNodeFid targets f) → (layout_at l f ≡ plain_layout) ⊎ Among looked (AllKey f) → AreEasy (released f node)
  released_easy f None a h k = tt
  released_easy f (Some n) a h k =
      one_or_other (n.dir || nat_le n.links 1) (DropNode f ∷ []) (PutNode f (record n { links = n.links - 1 }) ∷ []) (((a, h refl, k), tt), tt) (((a, h refl), tt), tt)

  moved_easy : (p q f : Fid) (node : Option Node) → Among looked (NodeKey f) → (is_some node ≡ true → IsNodeFid targets f) → AreEasy (moved_node p q f node)
  moved_easy p q f node a h =
      one_or_other (is_dir node && not (same_fid p q)) (changed_node f node (λ n. record n { parent = q })) [] (changed_easy f node (λ n. record n { parent = q }) a h) tt

  abbrev Dir : Fid → Type 0
  Dir d = IsNodeFid targets d × (is_dir (get l.tree.nodes d) ≡ true)

  -- what is no directory has no layout
  unlaid : (f : Fid) → is_dir (get l.tree.nodes f) ≡ false → layout_at l f ≡ plain_layout
  unlaid f h = sound.unlaid f h

  -- ---- operations

  create_goes : (p : Fid) (x : List ℕ) (f : Fid) (s : Option (ℕ × ℕ)) (cs : List Change)
      → (Among looked (NodeKey f) → Among looked (NameKey p x) → Dir p → is_client targets f ≡ true → layout_fault targets s ≡ None → get l.tree.nodes f ≡ None → Fine cs)
      → Goes (create_plan targets p x f s cs)
  create_goes p x f s cs h =
      checked (client_fault targets f) _ (λ client. checked (layout_fault targets s) _ (λ lay. directory p _ (λ a placed dir.
      ask_name p x _ (λ b. checked (taken_fault (named l.tree p x)) _ (λ _. ask_node f _ (λ c.
      checked (taken_fault (get l.tree.nodes f)) _ (λ free.
      decide replies.Ok cs (h c b (placed, dir) (ok_true (is_client targets f) EINVAL client) lay (none_of (get l.tree.nodes f) (ok_false (is_some (get l.tree.nodes f)) _ free))))))))))

  mkdir_good : (p : Fid) (x : List ℕ) (f : Fid) (n : Node) (c i : ℕ) → Among looked (NodeKey f) → Among looked (NameKey p x) → Dir p → is_client targets f ≡ true → c ≤ targets → i < targets
      → get l.tree.nodes f ≡ None → Fine (PutNode f n ∷ PutName p x f ∷ NewLayout f c i ∷ [])
  mkdir_good p x f n c i a b dir client few first free = record {
    each = ((a, inr client), ((b, dir.0, dir.1), ((a, client, free, few, first, (n, inl refl)), tt)));
    lays = λ d. ⊎_elim
        (λ (h : (d ≡ f) × (get (insert l.layouts f (layout_with c i 0)) f ≡ Some (layout_with c i 0))). subst (λ e. Lays targets l looked (PutNode f n ∷ PutName p x f ∷ NewLayout f c i ∷ []) e) (sym h.0) (New c i (inr (inr (inl refl))) (as_layout h.1)))
        (λ e. Same (as_layout e)) (put_layout l.layouts f (layout_with c i 0) d);
  }

  mkdir_with : (p : Fid) (x : List ℕ) (f : Fid) (n : Node) (s : Option (ℕ × ℕ)) → Among looked (NodeKey f) → Among looked (NameKey p x) → Dir p → is_client targets f ≡ true → layout_fault targets s ≡ None
      → get l.tree.nodes f ≡ None → Fine (PutNode f n ∷ PutName p x f ∷ new_layout f s)
  mkdir_with p x f n None a b dir client lay free = mkdir_good p x f n 0 0 a b dir client (omega arith) (omega (arith, some)) free
  mkdir_with p x f n (Some s) a b dir client lay free =
      let fits = in_limits targets s.0 s.1 (ok_true (nat_le s.0 targets && nat_lt s.1 targets) EINVAL lay) in
      mkdir_good p x f n s.0 s.1 a b dir client fits.0 fits.1 free

  migrate_good : (d : Fid) (c i : ℕ) → Among looked (NodeKey d) → Among looked (AllKey d) → is_client targets d ≡ true → is_dir (get l.tree.nodes d) ≡ true → c ≤ targets → i < targets
      → Fine (NextLayout d c i ∷ MoveNames d ∷ [])
  migrate_good d c i a b client dir few first =
      let next : Layout = next_of targets l looked d c i in
      record {
        each = ((a, b, client, dir, few, first), ((c, i, inl refl, as_layout (own_layout l.layouts d next)), tt));
        lays = λ e. ⊎_elim
            (λ (h : (e ≡ d) × (get (insert l.layouts d next) d ≡ Some next)). subst (λ f. Lays targets l looked (NextLayout d c i ∷ MoveNames d ∷ []) f) (sym h.0) (Next c i (inl refl) (as_layout h.1)))
            (λ same. Same (as_layout same)) (put_layout l.layouts d next e);
      }

  rename_goes : (p : Fid) (x : List ℕ) (q : Fid) (y : List ℕ) (m : Fid) (node : Option Node) (gone : List Change)
      → Among looked (NameKey p x) → Dir p → Among looked (NameKey q y) → Dir q → Among looked (NodeKey m) → (is_some node ≡ true → IsNodeFid targets m) → AreEasy gone → Goes (rename_to p x q y m node gone)
  rename_goes p x q y m node gone a dir b into c called h =
      decide replies.Ok (DropName p x ∷ (gone ++ (PutName q y m ∷ moved_node p q m node)))
      (easy targets l looked (DropName p x ∷ (gone ++ (PutName q y m ∷ moved_node p q m node)))
      (((a, dir.0, dir.1), tt), all_append (Easy targets l looked) gone (PutName q y m ∷ moved_node p q m node) h (((b, into.0, into.1), tt), moved_easy p q m node c called)))

  replace_goes : (p : Fid) (x : List ℕ) (q : Fid) (y : List ℕ) (m : Fid) (node : Option Node) (o : Option Fid)
      → Among looked (NameKey p x) → Dir p → Among looked (NameKey q y) → Dir q → Among looked (NodeKey m) → (is_some node ≡ true → IsNodeFid targets m) → Goes (replace_plan p x q y m node o)
  replace_goes p x q y m node None a dir b into c called = rename_goes p x q y m node [] a dir b into c called tt
  replace_goes p x q y m node (Some old) a dir b into c called =
      let other = get l.tree.nodes old in
      either (same_fid m old) _ _ (λ _. refused _)
      (λ _. ask_node old _ (λ d. checked (kind_fault (is_dir node) (is_dir other)) _ (λ _. either (is_dir other) _ _
      (λ _. ask_all old _ (λ e. checked (empty_fault (names_of l.tree old)) _ (λ _.
      rename_goes p x q y m node (released old other) a dir b into c called (released_easy old other d (sound.called old) (inr e)))))
      (λ file. rename_goes p x q y m node (released old other) a dir b into c called (released_easy old other d (sound.called old) (inl (unlaid old file)))))))

  renames_go : (p : Fid) (x : List ℕ) (q : Fid) (y : List ℕ) (o : Option Fid) → Among looked (NameKey p x) → Dir p
      → Goes (found o (λ m. on_directory q (if same_place p x q y then Decide replies.Ok [] else AskNode m (move_plan p x q y m))))
  renames_go p x q y o a dir =
      where_found o _ (λ m. directory q _ (λ b placed into. either (same_place p x q y) _ _ (λ _. refused _)
      (λ _. ask_node m _ (λ c.
      let node = get l.tree.nodes m in
      let last : Goes (AskName q y (replace_plan p x q y m node)) = ask_name q y _ (λ e. replace_goes p x q y m node (named l.tree q y) a dir e (placed, into) c (sound.called m)) in
      either (is_dir node && not (same_fid p q)) _ _ (λ _. whole m q _ last) (λ _. last)))))

  node_goes : (f : Fid) (fault : Option Node → Option Errno) (change : Node → Node) → Goes (AskNode f (λ node. check (fault node) (Decide replies.Ok (changed_node f node change))))
  node_goes f fault change =
      ask_node f _ (λ a. checked (fault (get l.tree.nodes f)) _ (λ _.
      decide replies.Ok (changed_node f (get l.tree.nodes f) change) (easy targets l looked _ (changed_easy f (get l.tree.nodes f) change a (sound.called f)))))

  read_goes : (f : Fid) (fault : Option Node → Option Errno) (reply : Option Node → Reply) → Goes (AskNode f (λ node. check (fault node) (Decide (reply node) [])))
  read_goes f fault reply = ask_node f _ (λ a. checked (fault (get l.tree.nodes f)) _ (λ _. refused _))

  named_goes : (p : Fid) (x : List ℕ) (next : Option Fid → Plan) → (Among looked (NameKey p x) → Dir p → Goes (next (named l.tree p x))) → Goes (on_directory p (AskName p x next))
  named_goes p x next h = directory p _ (λ a placed dir. ask_name p x next (λ b. h b (placed, dir)))

  op_goes : (op : Op) → Goes (plan targets op)
  op_goes (ops.Create p x f) =
      create_goes p x f None _ (λ a b dir client lay free. easy targets l looked (PutNode f file_node ∷ PutName p x f ∷ []) (((a, inr client), tt), (((b, dir.0, dir.1), tt), tt)))
  op_goes (ops.Mkdir p x f s) = create_goes p x f s _ (λ a b dir client lay free. mkdir_with p x f (directory_in p) s a b dir client lay free)
  op_goes (ops.Link p x f) =
      named_goes p x _ (λ b dir. checked (taken_fault (named l.tree p x)) _ (λ _. ask_node f _ (λ a. checked (link_fault (get l.tree.nodes f)) _ (λ _.
      decide replies.Ok _ (easy targets l looked _ (((b, dir.0, dir.1), tt), changed_easy f (get l.tree.nodes f) (λ n. record n { links = n.links + 1 }) a (sound.called f)))))))
  op_goes (ops.Unlink p x) =
      named_goes p x _ (λ b dir. where_found (named l.tree p x) _ (λ child. ask_node child _ (λ a. checked (file_fault (get l.tree.nodes child)) _ (λ file.
      decide replies.Ok _ (easy targets l looked _ (((b, dir.0, dir.1), tt), released_easy child (get l.tree.nodes child) a (sound.called child) (inl (unlaid child (ok_false (is_dir (get l.tree.nodes child)) _ file)))))))))
  op_goes (ops.Rmdir p x) =
      named_goes p x _ (λ b dir. where_found (named l.tree p x) _ (λ child. ask_node child _ (λ a. checked (directory_fault (get l.tree.nodes child)) _ (λ _.
      ask_all child _ (λ c. checked (empty_fault (names_of l.tree child)) _ (λ _.
      decide replies.Ok _ (easy targets l looked _ (((b, dir.0, dir.1), tt), released_easy child (get l.tree.nodes child) a (sound.called child) (inr c)))))))))
  op_goes (ops.Rename p x q y) = named_goes p x _ (λ b dir. renames_go p x q y (named l.tree p x) b dir)
  op_goes (ops.SetAttr f m u g) = node_goes f (λ node. absent_fault node) (λ n. record n { mode = m; uid = u; gid = g })
  op_goes (ops.SetXattr f x v) = node_goes f (λ node. setxattr_fault node x) (λ n. record n { xattrs = insert n.xattrs x v })
  op_goes (ops.DelXattr f x) = node_goes f (λ node. xattr_fault node x) (λ n. record n { xattrs = remove n.xattrs x })
  op_goes (ops.Migrate d c i) =
      directory d _ (λ a placed dir. checked (if same_fid d root_fid then Some EINVAL else stripes_fault targets c i) _ (λ ok.
      ask_all d _ (λ b. checked (if nat_lt 32 (len (names_of l.tree d)) then Some EFBIG else None) _ (λ _.
      let both = ok_other (same_fid d root_fid) EINVAL (stripes_fault targets c i) ok in
      let fits = in_limits targets c i (ok_true (nat_le c targets && nat_lt i targets) EINVAL both.1) in
      decide replies.Ok _ (migrate_good d c i a b (no_root d placed both.0) dir fits.0 fits.1)))))
    where
      no_root : (d : Fid) → IsNodeFid targets d → same_fid d root_fid ≡ false → is_client targets d ≡ true
      no_root d (inl e) h = absurd (true≢false (sym (ap (λ f. same_fid f root_fid) e ∙ same_self root_fid) ∙ h))
      no_root d (inr c) h = c
  op_goes (ops.Lookup p x) = named_goes p x _ (λ b dir. checked (absent_fault (named l.tree p x)) _ (λ _. refused _))
  op_goes (ops.GetAttr f) = read_goes f (λ node. absent_fault node) attr_reply
  op_goes (ops.GetXattr f x) = read_goes f (λ node. xattr_fault node x) (λ node. xattr_reply node x)

-- the changes are good
pub op_good : (targets : ℕ) (l : Laid) (op : Op) → 1 ≤ targets → Ground targets l → Good targets l (looks targets l.tree op) (changes targets l.tree op)
unfolding Goes
op_good targets l op some sound = op_goes targets l some sound (looks targets l.tree op) op (λ k a. a)
