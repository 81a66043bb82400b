-- A walk over the plan of each operation, to the shape of its change.
use Rattle.std.proofs.Common.{◌≡◌, ◌<◌, ◌||◌, ◌&&◌, ◌+◌, ◌-◌, ◌==◌, is_some, ℕ, zero, suc, Bool, true, false, true≢false, not, nat_le, nat_lt, if◌then◌else◌, Option, Some, None, List, [], ◌∷◌, refl, sym, ap, ◌∙◌, arith}
use Rattle.std.proofs.lemmas.Bool.Decides.{nat_tests}
use Rattle.std.proofs.lemmas.Bool.{eqb-true}
use Rattle.std.specs.FinMap.{get, insert, remove, len, empty, empty_of_len}
use Rattle.fid_space.specs.declared.fid.Fid.{Fid}
use Rattle.fid_space.specs.Places.{is_client}
use Rattle.tree_model.specs.declared.node.Node.{Node}
use Rattle.tree_model.specs.declared.op.Op.{Op}
use Rattle.tree_model.specs.declared.op.Op.TheVariants as ops
use Rattle.tree_model.specs.declared.reply.Reply.{Reply}
use Rattle.tree_model.specs.declared.reply.Reply.TheVariants as replies
use Rattle.tree_model.specs.declared.errno.Errno.{Errno}
use Rattle.tree_model.specs.declared.errno.Errno.TheVariants.{EPERM, EINVAL, EFBIG, EMLINK, ENOTEMPTY}
use Rattle.tree_model.specs.Tree.{Tree, Names, names_of, named, same_fid, root_fid, directory_in}
use Rattle.tree_model.specs.Changes.{Change, PutNode, DropNode, PutName}
use Rattle.tree_model.specs.Looks.{Plan, AskNode, AskName, AskAll, Decide, decided, check, found, on_directory, walk, whole_walk, rename_to, replace_plan, move_plan, create_plan, plan, changes}
use Rattle.tree_model.specs.Step.{client_fault, layout_fault, taken_fault, absent_fault, link_fault, file_fault, directory_fault, setxattr_fault, xattr_fault, stripes_fault, attr_reply, xattr_reply, parent_fault, is_dir, kind_fault, empty_fault, same_place, parent_of, released, changed_node, moved_node, new_layout}
use Rattle.tree_sound.specs.Shapes.{Shape, Nothing, File, Directory, Linked, Left, Renamed, Changed, Migrated, Releases, Absent, Goes, Fewer, Moving, Stays, Turns, Over, Free, Instead, IsAlike}
use Rattle.tree_sound.specs.SoundLaws.{ChangesHaveShapes}
use Rattle.tree_sound.proofs.Basics.{ok_true, ok_false, ok_other, dir_of, none_of}

pub releases : (t : Tree) (c : Fid) (o : Option Node) → get t.nodes c ≡ o → Releases t c (released c o)
releases t c None e = Absent e
releases t c (Some n) e = by_test (n.dir || nat_le n.links 1) refl
  where
    by_test : (b : Bool) → (n.dir || nat_le n.links 1) ≡ b → Releases t c (if b then DropNode c ∷ [] else PutNode c (record n { links = n.links - 1 }) ∷ [])
    by_test true h = Goes n e h
    by_test false h = Fewer n e h

pub moving : (t : Tree) (p q m : Fid) (o : Option Node) → get t.nodes m ≡ o → Moving t p q m (moved_node p q m o)
moving t p q m None e = Stays (ap (λ o. is_dir o && not (same_fid p q)) e)
moving t p q m (Some n) e = by_tests n.dir (same_fid p q) refl refl
  where
    by_tests : (a b : Bool) → n.dir ≡ a → same_fid p q ≡ b → Moving t p q m (if a && not b then PutNode m (record n { parent = q }) ∷ [] else [])
    by_tests true true h k = Stays (ap (λ o. is_dir o && not (same_fid p q)) e ∙ ap (λ b. n.dir && not b) k ∙ ap (λ a. a && false) h)
    by_tests true false h k = Turns n e h k
    by_tests false b h k = Stays (ap (λ o. is_dir o && not (same_fid p q)) e ∙ ap (λ a. a && not (same_fid p q)) h)

module _ (targets : ℕ) (t : Tree) where
  abbrev S : List Change → Type 0
  S cs = Shape targets t cs

  Ends : Plan → Type 0
  Ends p = S (decided p t).1

  ask_node : (f : Fid) (next : Option Node → Plan) → Ends (next (get t.nodes f)) → Ends (AskNode f next)
  unfolding Ends
  ask_node f next h = h

  ask_name : (d : Fid) (x : List ℕ) (next : Option Fid → Plan) → Ends (next (named t d x)) → Ends (AskName d x next)
  unfolding Ends
  ask_name d x next h = h

  ask_all : (d : Fid) (next : Names → Plan) → Ends (next (names_of t d)) → Ends (AskAll d next)
  unfolding Ends
  ask_all d next h = h

  decide : (r : Reply) (cs : List Change) → S cs → Ends (Decide r cs)
  unfolding Ends
  decide r cs h = h

  refused : (r : Reply) → Ends (Decide r [])
  refused r = decide r [] Nothing

  checked : (f : Option Errno) (next : Plan) → (f ≡ None → Ends next) → Ends (check f next)
  checked None next h = h refl
  checked (Some e) next h = refused (replies.Err e)

  either : (b : Bool) (p q : Plan) → (b ≡ true → Ends p) → (b ≡ false → Ends q) → Ends (if b then p else q)
  either true p q h k = h refl
  either false p q h k = k refl

  where_found : (o : Option Fid) (next : Fid → Plan) → ((c : Fid) → o ≡ Some c → Ends (next c)) → Ends (found o next)
  where_found None next h = refused _
  where_found (Some c) next h = h c refl

  directory : (d : Fid) (next : Plan) → (is_dir (get t.nodes d) ≡ true → Ends next) → Ends (on_directory d next)
  directory d next h = ask_node d _ (checked (parent_fault (get t.nodes d)) next (λ e. h (dir_of (get t.nodes d) e)))

  walked : (n : ℕ) (m f : Fid) (next : Plan) → Ends next → Ends (walk n m f next)
  walked zero m f next h = either (same_fid f root_fid) next _ (λ _. h) (λ _. either (same_fid f m) _ _ (λ _. refused _) (λ _. refused _))
  walked (suc n) m f next h =
      either (same_fid f root_fid) next _ (λ _. h) (λ _. either (same_fid f m) _ _ (λ _. refused _) (λ _. ask_node f _ (walked n m (parent_of (get t.nodes f)) next h)))

  whole : (m f : Fid) (next : Plan) → Ends next → Ends (whole_walk m f next)
  unfolding whole_walk
  whole m f next h = walked 1023 m f next h

  bare_of : (m : Names) → empty_fault m ≡ None → m ≡ empty
  bare_of m h = empty_of_len m (eqb-true (len m) 0 (ok_true (len m == 0) ENOTEMPTY h))

  create_ends : (p : Fid) (x : List ℕ) (f : Fid) (s : Option (ℕ × ℕ)) (cs : List Change)
      → (is_dir (get t.nodes p) ≡ true → named t p x ≡ None → get t.nodes f ≡ None → is_client targets f ≡ true → S cs) → Ends (create_plan targets p x f s cs)
  create_ends p x f s cs h =
      checked (client_fault targets f) _ (λ client. checked (layout_fault targets s) _ (λ _. directory p _ (λ dir. ask_name p x _ (checked (taken_fault (named t p x)) _ (λ free.
      ask_node f _ (checked (taken_fault (get t.nodes f)) _ (λ new.
      decide replies.Ok cs (h dir (none_of (named t p x) (ok_false (is_some (named t p x)) _ free)) (none_of (get t.nodes f) (ok_false (is_some (get t.nodes f)) _ new)) (ok_true (is_client targets f) EINVAL client)))))))))

  mkdir_ends : (p : Fid) (x : List ℕ) (f : Fid) (s : Option (ℕ × ℕ)) → is_dir (get t.nodes p) ≡ true → named t p x ≡ None → get t.nodes f ≡ None → is_client targets f ≡ true
      → S (PutNode f (directory_in p) ∷ PutName p x f ∷ new_layout f s)
  mkdir_ends p x f None dir free new client = Directory p x f 0 0 dir free new client
  mkdir_ends p x f (Some s) dir free new client = Directory p x f s.0 s.1 dir free new client

  link_ends : (p : Fid) (x : List ℕ) (f : Fid) (o : Option Node) → get t.nodes f ≡ o → is_dir (get t.nodes p) ≡ true → named t p x ≡ None → link_fault o ≡ None
      → S (PutName p x f ∷ changed_node f o (λ n. record n { links = n.links + 1 }))
  link_ends p x f None e dir free h = cc
  link_ends p x f (Some n) e dir free h =
      let both = ok_other n.dir EPERM (if nat_le 65000 n.links then Some EMLINK else None) h in
      let low = ok_false (nat_le 65000 n.links) EMLINK both.1 in
      Linked p x f n dir free e both.0 (below n.links low)
    where
      below : (k : ℕ) → nat_le 65000 k ≡ false → k < 65000
      below k h = grind (arith, nat_tests)

  rename_ends : (p : Fid) (x : List ℕ) (q : Fid) (y : List ℕ) (m : Fid) (gone : List Change) → is_dir (get t.nodes p) ≡ true → is_dir (get t.nodes q) ≡ true → named t p x ≡ Some m
      → same_place p x q y ≡ false → Over t m q y gone → Ends (rename_to p x q y m (get t.nodes m) gone)
  rename_ends p x q y m gone dir into e apart o =
      decide replies.Ok _ (Renamed p x q y m gone (moved_node p q m (get t.nodes m)) dir into e apart o (moving t p q m (get t.nodes m) refl))

  replace_ends : (p : Fid) (x : List ℕ) (q : Fid) (y : List ℕ) (m : Fid) (o : Option Fid) → named t q y ≡ o → is_dir (get t.nodes p) ≡ true → is_dir (get t.nodes q) ≡ true → named t p x ≡ Some m
      → same_place p x q y ≡ false → Ends (replace_plan p x q y m (get t.nodes m) o)
  replace_ends p x q y m None at dir into e apart = rename_ends p x q y m [] dir into e apart (Free at)
  replace_ends p x q y m (Some old) at dir into e apart =
      let other = get t.nodes old in
      either (same_fid m old) _ _ (λ _. refused _)
      (λ same. ask_node old _ (checked (kind_fault (is_dir (get t.nodes m)) (is_dir other)) _ (λ _. either (is_dir other) _ _
      (λ _. ask_all old _ (checked (empty_fault (names_of t old)) _ (λ none.
      rename_ends p x q y m (released old other) dir into e apart (Instead old (released old other) at same (λ _. bare_of (names_of t old) none) (releases t old other refl)))))
      (λ file. rename_ends p x q y m (released old other) dir into e apart
      (Instead old (released old other) at same (λ d. absurd (true≢false (sym d ∙ file))) (releases t old other refl))))))

  renames_end : (p : Fid) (x : List ℕ) (q : Fid) (y : List ℕ) → is_dir (get t.nodes p) ≡ true
      → Ends (found (named t p x) (λ m. on_directory q (if same_place p x q y then Decide replies.Ok [] else AskNode m (move_plan p x q y m))))
  renames_end p x q y dir =
      where_found (named t p x) _ (λ m e. directory q _ (λ into. either (same_place p x q y) _ _ (λ _. refused _)
      (λ apart. ask_node m _ (
      let last : Ends (AskName q y (replace_plan p x q y m (get t.nodes m))) = ask_name q y _ (replace_ends p x q y m (named t q y) refl dir into e apart) in
      either (is_dir (get t.nodes m) && not (same_fid p q)) _ _ (λ _. whole m q _ last) (λ _. last)))))

  changed_ends : (f : Fid) (o : Option Node) (change : Node → Node) → get t.nodes f ≡ o → ((n : Node) → IsAlike n (change n)) → S (changed_node f o change)
  changed_ends f None change e h = Nothing
  changed_ends f (Some n) change e h = Changed f n (change n) e (h n)

  node_ends : (f : Fid) (fault : Option Node → Option Errno) (change : Node → Node) → ((n : Node) → IsAlike n (change n)) → Ends (AskNode f (λ node. check (fault node) (Decide replies.Ok (changed_node f node change))))
  node_ends f fault change h = ask_node f _ (checked (fault (get t.nodes f)) _ (λ _. decide replies.Ok _ (changed_ends f (get t.nodes f) change refl h)))

  read_ends : (f : Fid) (fault : Option Node → Option Errno) (reply : Option Node → Reply) → Ends (AskNode f (λ node. check (fault node) (Decide (reply node) [])))
  read_ends f fault reply = ask_node f _ (checked (fault (get t.nodes f)) _ (λ _. refused _))

  op_ends : (op : Op) → Ends (plan targets op)
  op_ends (ops.Create p x f) = create_ends p x f None _ (λ dir free new client. File p x f dir free new client)
  op_ends (ops.Mkdir p x f s) = create_ends p x f s _ (λ dir free new client. mkdir_ends p x f s dir free new client)
  op_ends (ops.Link p x f) =
      directory p _ (λ dir. ask_name p x _ (checked (taken_fault (named t p x)) _ (λ free. ask_node f _ (checked (link_fault (get t.nodes f)) _ (λ ok.
      decide replies.Ok _ (link_ends p x f (get t.nodes f) refl dir (none_of (named t p x) (ok_false (is_some (named t p x)) _ free)) ok))))))
  op_ends (ops.Unlink p x) =
      directory p _ (λ dir. ask_name p x _ (where_found (named t p x) _ (λ c e. ask_node c _ (checked (file_fault (get t.nodes c)) _ (λ file.
      decide replies.Ok _ (Left p x c (released c (get t.nodes c)) dir e (λ d. absurd (true≢false (sym d ∙ ok_false (is_dir (get t.nodes c)) _ file))) (releases t c (get t.nodes c) refl)))))))
  op_ends (ops.Rmdir p x) =
      directory p _ (λ dir. ask_name p x _ (where_found (named t p x) _ (λ c e. ask_node c _ (checked (directory_fault (get t.nodes c)) _ (λ _.
      ask_all c _ (checked (empty_fault (names_of t c)) _ (λ none.
      decide replies.Ok _ (Left p x c (released c (get t.nodes c)) dir e (λ _. bare_of (names_of t c) none) (releases t c (get t.nodes c) refl)))))))))
  op_ends (ops.Rename p x q y) = directory p _ (λ dir. ask_name p x _ (renames_end p x q y dir))
  op_ends (ops.SetAttr f m u g) = node_ends f (λ node. absent_fault node) (λ n. record n { mode = m; uid = u; gid = g }) (λ n. record { dir = refl; links = refl; parent = refl })
  op_ends (ops.SetXattr f x v) = node_ends f (λ node. setxattr_fault node x) (λ n. record n { xattrs = insert n.xattrs x v }) (λ n. record { dir = refl; links = refl; parent = refl })
  op_ends (ops.DelXattr f x) = node_ends f (λ node. xattr_fault node x) (λ n. record n { xattrs = remove n.xattrs x }) (λ n. record { dir = refl; links = refl; parent = refl })
  op_ends (ops.Migrate d c i) =
      directory d _ (λ dir. checked (if same_fid d root_fid then Some EINVAL else stripes_fault targets c i) _ (λ _.
      ask_all d _ (checked (if nat_lt 32 (len (names_of t d)) then Some EFBIG else None) _ (λ _. decide replies.Ok _ (Migrated d c i dir)))))
  op_ends (ops.Lookup p x) = directory p _ (λ dir. ask_name p x _ (checked (absent_fault (named t p x)) _ (λ _. refused _)))
  op_ends (ops.GetAttr f) = read_ends f (λ node. absent_fault node) attr_reply
  op_ends (ops.GetXattr f x) = read_ends f (λ node. xattr_fault node x) (λ node. xattr_reply node x)

  shape : (op : Op) → Shape targets t (changes targets t op)
  unfolding Ends
  shape op = op_ends op

pub shapes : ChangesHaveShapes
shapes targets t op = shape targets t op
