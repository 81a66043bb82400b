-- The updates of an operation depend only on what it looks at.
use Rattle.std.proofs.Common.{◌≡◌, ◌⊎◌, ◌&&◌, inl, inr, ⊎_elim, ℕ, zero, suc, Bool, true, false, not, nat_lt, if◌then◌else◌, Option, Some, None, List, [], ◌∷◌, ◌++◌, refl, sym, ap, ◌∙◌, subst}
use Rattle.std.specs.List.{AllByRecursion}
use Rattle.std.specs.FinMap.{get, empty, insert, remove, len}
use Rattle.fid_space.specs.declared.fid.Fid.{Fid}
use Rattle.tree_model.specs.declared.node.Node.{Node}
use Rattle.tree_model.specs.declared.errno.Errno.{Errno}
use Rattle.tree_model.specs.declared.errno.Errno.TheVariants.{EINVAL, EFBIG}
use Rattle.tree_model.specs.declared.op.Op.{Op}
use Rattle.tree_model.specs.declared.op.Op.TheVariants as ops
use Rattle.tree_model.specs.declared.reply.Reply.{Reply}
use Rattle.tree_model.specs.declared.reply.Reply.TheVariants as replies
use Rattle.tree_model.specs.Tree.{Names, names_of, named, same_fid, root_fid, file_node, directory_in}
use Rattle.tree_model.specs.Changes.{Change}
use Rattle.tree_model.specs.Keys.{NodeKey, NameKey, AllKey, Value, NodeValue, NameValue, AllValue, Layout, Laid, at, layout_at, layout_with, plain_layout}
use Rattle.tree_model.specs.Looks.{Plan, AskNode, AskName, AskAll, Decide, decided, asked, check, found, on_directory, walk, whole_walk, rename_to, replace_plan, create_plan, plan, changes}
use Rattle.tree_model.specs.Step.{client_fault, layout_fault, taken_fault, absent_fault, link_fault, file_fault, directory_fault, setxattr_fault, xattr_fault, stripes_fault, attr_reply, xattr_reply, parent_fault, is_dir, kind_fault, empty_fault, same_place, parent_of, released, changed_node}
use Rattle.tree_model.specs.Laws.{Agree}
use Rattle.tree_model.proofs.Deciding.{same_plan}
use Rattle.tree_model.proofs.Placing.{same_on}
use Rattle.out_update.specs.declared.update.Update.{Update}
use Rattle.out_update.specs.declared.update.Kind.TheVariants as kind
use Rattle.tree_shares.specs.Updates.{update, inserted, deleted, created_node, created_stripes, gone_node, gone, layout_of_stripes, parent_updates, rename_updates, migrate_updates, op_updates, unless_none, updates, placed}
use Rattle.tree_shares.specs.Parts.{parts_from, parts}
use Rattle.tree_shares.specs.PartLaws.{PartsFollowLooks}

node_in : Value → Option Node
node_in (NodeValue n lay) = n
node_in (NameValue f) = None
node_in (AllValue m) = None

layout_in : Value → Layout
layout_in (NodeValue n lay) = lay
layout_in (NameValue f) = plain_layout
layout_in (AllValue m) = plain_layout

fid_in : Value → Option Fid
fid_in (NodeValue n lay) = None
fid_in (NameValue f) = f
fid_in (AllValue m) = None

names_in : Value → Names
names_in (NodeValue n lay) = empty
names_in (NameValue f) = empty
names_in (AllValue m) = m

module _ (targets batch : ℕ) (l m : Laid) where
  record Alike (f : Fid) : Type 0 where
    node : get l.tree.nodes f ≡ get m.tree.nodes f
    layout : layout_at l f ≡ layout_at m f

  alike : (f : Fid) → at l (NodeKey f) ≡ at m (NodeKey f) → Alike f
  unfolding node_in layout_in
  alike f h = record { node = ap node_in h; layout = ap layout_in h }

  name_alike : (d : Fid) (x : List ℕ) → at l (NameKey d x) ≡ at m (NameKey d x) → named l.tree d x ≡ named m.tree d x
  unfolding fid_in
  name_alike d x h = ap fid_in h

  all_alike : (d : Fid) → at l (AllKey d) ≡ at m (AllKey d) → names_of l.tree d ≡ names_of m.tree d
  unfolding names_in
  all_alike d h = ap names_in h

  -- ---- updates of what is alike

  gone_alike : (o : Option Fid) → ((c : Fid) → o ≡ Some c → Alike c) → gone targets batch l o ≡ gone targets batch m o
  gone_alike None h = refl
  gone_alike (Some c) h = let a = h c refl in let n = a.node in let y = a.layout in λ i. gone_node targets batch c (y i) (n i)

  left_alike : (p : Fid) (x : List ℕ) → Alike p → named l.tree p x ≡ named m.tree p x → ((c : Fid) → named l.tree p x ≡ Some c → Alike c)
      → deleted targets batch p (layout_at l p) x ∷ gone targets batch l (named l.tree p x) ≡ deleted targets batch p (layout_at m p) x ∷ gone targets batch m (named m.tree p x)
  left_alike p x a e h =
      let y = a.layout in
      let g : gone targets batch l (named l.tree p x) ≡ gone targets batch m (named m.tree p x) = gone_alike (named l.tree p x) h ∙ ap (λ o. gone targets batch m o) e in
      λ i. deleted targets batch p (y i) x ∷ g i

  rename_alike : (p : Fid) (x : List ℕ) (q : Fid) (y : List ℕ) (o : Option Fid) → Alike p → Alike q → ((c : Fid) → o ≡ Some c → Alike c) → named l.tree q y ≡ named m.tree q y → ((c : Fid) → named l.tree q y ≡ Some c → Alike c)
      → rename_updates targets batch l p x q y o ≡ rename_updates targets batch m p x q y o
  rename_alike p x q y None a b h e k = refl
  rename_alike p x q y (Some moved) a b h e k =
      let u = a.layout in
      let v = b.layout in
      let n = (h moved refl).node in
      let g : gone targets batch l (named l.tree q y) ≡ gone targets batch m (named m.tree q y) = gone_alike (named l.tree q y) k ∙ ap (λ o. gone targets batch m o) e in
      λ i. deleted targets batch p (u i) x ∷ (g i ++ (inserted targets batch q (v i) y moved ∷ parent_updates batch p q moved (n i)))

  -- ---- the walk

  module _ (us vs : List Update) where
    Goes : Plan → Type 0
    Goes p = AllByRecursion (λ k. at l k ≡ at m k) (asked p l.tree) → ((decided p l.tree).1 ≡ []) ⊎ (us ≡ vs)

    ask_node : (f : Fid) (next : Option Node → Plan) → (Alike f → Goes (next (get l.tree.nodes f))) → Goes (AskNode f next)
    unfolding Goes
    ask_node f next h = λ agree. h (alike f agree.0) agree.1

    ask_name : (d : Fid) (x : List ℕ) (next : Option Fid → Plan) → (named l.tree d x ≡ named m.tree d x → Goes (next (named l.tree d x))) → Goes (AskName d x next)
    unfolding Goes
    ask_name d x next h = λ agree. h (name_alike d x agree.0) agree.1

    ask_all : (d : Fid) (next : Names → Plan) → (names_of l.tree d ≡ names_of m.tree d → Goes (next (names_of l.tree d))) → Goes (AskAll d next)
    unfolding Goes
    ask_all d next h = λ agree. h (all_alike d agree.0) agree.1

    refused : (r : Reply) → Goes (Decide r [])
    unfolding Goes
    refused r = λ agree. inl refl

    decide : (r : Reply) (cs : List Change) → us ≡ vs → Goes (Decide r cs)
    unfolding Goes
    decide r cs e = λ agree. inr e

    checked : (f : Option Errno) (next : Plan) → Goes next → Goes (check f next)
    checked None next h = h
    checked (Some e) next h = refused (replies.Err e)

    either : (b : Bool) (p q : Plan) → Goes p → Goes q → Goes (if b then p else q)
    either true p q h k = h
    either false p q h k = k

    where_found : (o : Option Fid) (next : Fid → Plan) → ((c : Fid) → o ≡ Some c → Goes (next c)) → Goes (found o next)
    where_found None next h = refused _
    where_found (Some c) next h = h c refl

    directory : (d : Fid) (next : Plan) → (Alike d → Goes next) → Goes (on_directory d next)
    directory d next h = ask_node d _ (λ a. checked (parent_fault (get l.tree.nodes d)) next (h a))

    walked : (n : ℕ) (k f : Fid) (next : Plan) → Goes next → Goes (walk n k f next)
    walked zero k f next h = either (same_fid f root_fid) next _ h (either (same_fid f k) _ _ (refused _) (refused _))
    walked (suc n) k f next h =
        either (same_fid f root_fid) next _ h (either (same_fid f k) _ _ (refused _) (ask_node f _ (λ _. walked n k (parent_of (get l.tree.nodes f)) next h)))

    whole : (k f : Fid) (next : Plan) → Goes next → Goes (whole_walk k f next)
    unfolding whole_walk
    whole k f next h = walked 1023 k f next h

    create_goes : (p : Fid) (x : List ℕ) (f : Fid) (s : Option (ℕ × ℕ)) (cs : List Change) → (Alike p → us ≡ vs) → Goes (create_plan targets p x f s cs)
    create_goes p x f s cs h =
        checked (client_fault targets f) _ (checked (layout_fault targets s) _ (directory p _ (λ a. ask_name p x _ (λ _. checked (taken_fault (named l.tree p x)) _
        (ask_node f _ (λ _. checked (taken_fault (get l.tree.nodes f)) _ (decide replies.Ok cs (h a))))))))

    replace_goes : (p : Fid) (x : List ℕ) (q : Fid) (y : List ℕ) (k : Fid) (o : Option Fid) → (((c : Fid) → o ≡ Some c → Alike c) → us ≡ vs) → Goes (replace_plan p x q y k (get l.tree.nodes k) o)
    replace_goes p x q y k None h = decide replies.Ok _ (h (λ c (e : None ≡ Some c). cc))
    replace_goes p x q y k (Some old) h =
        let other = get l.tree.nodes old in
        either (same_fid k old) _ _ (refused _)
        (ask_node old _ (λ a.
        let last : Goes (rename_to p x q y k (get l.tree.nodes k) (released old other)) = decide replies.Ok _ (h (λ c e. subst Alike (same_some old c e) a)) in
        checked (kind_fault (is_dir (get l.tree.nodes k)) (is_dir other)) _
        (either (is_dir other) _ _ (ask_all old _ (λ _. checked (empty_fault (names_of l.tree old)) _ last)) last)))
      where
        same_some : (a b : Fid) → ◌≡◌ {A = Option Fid} (Some a) (Some b) → a ≡ b
        same_some a b e = cc

    read_goes : (f : Fid) (fault : Option Node → Option Errno) (reply : Option Node → Reply) → Goes (AskNode f (λ node. check (fault node) (Decide (reply node) [])))
    read_goes f fault reply = ask_node f _ (λ _. checked (fault (get l.tree.nodes f)) _ (refused _))

    node_goes : (f : Fid) (fault : Option Node → Option Errno) (change : Node → Node) → us ≡ vs → Goes (AskNode f (λ node. check (fault node) (Decide replies.Ok (changed_node f node change))))
    node_goes f fault change e = ask_node f _ (λ _. checked (fault (get l.tree.nodes f)) _ (decide replies.Ok _ e))

  abbrev Follows : Op → Type 0
  Follows op = Goes (op_updates targets batch l op) (op_updates targets batch m op) (plan targets op)

  abbrev U : Op → List Update
  U op = op_updates targets batch l op

  abbrev V : Op → List Update
  V op = op_updates targets batch m op

  renames_go : (p : Fid) (x : List ℕ) (q : Fid) (y : List ℕ) → Follows (ops.Rename p x q y)
  renames_go p x q y =
      let op = ops.Rename p x q y in
      directory (U op) (V op) p _ (λ a. ask_name (U op) (V op) p x _ (λ e. where_found (U op) (V op) (named l.tree p x) _ (λ k here. directory (U op) (V op) q _ (λ b.
      either (U op) (V op) (same_place p x q y) _ _ (refused (U op) (V op) _) (ask_node (U op) (V op) k _ (λ c.
      let last : Goes (U op) (V op) (AskName q y (replace_plan p x q y k (get l.tree.nodes k))) =
      ask_name (U op) (V op) q y _ (λ g. replace_goes (U op) (V op) p x q y k (named l.tree q y) (λ old.
      rename_alike p x q y (named l.tree p x) a b (λ d there. subst Alike (same_some k d (sym here ∙ there)) c) g old ∙ ap (λ o. rename_updates targets batch m p x q y o) e)) in
      either (U op) (V op) (is_dir (get l.tree.nodes k) && not (same_fid p q)) _ _ (whole (U op) (V op) k q _ last) last))))))
    where
      same_some : (a b : Fid) → ◌≡◌ {A = Option Fid} (Some a) (Some b) → a ≡ b
      same_some a b e = cc

  leaves_go : (op : Op) (p : Fid) (x : List ℕ) (next : Fid → Plan)
      → U op ≡ deleted targets batch p (layout_at l p) x ∷ gone targets batch l (named l.tree p x) → V op ≡ deleted targets batch p (layout_at m p) x ∷ gone targets batch m (named m.tree p x)
      → ((c : Fid) → (Alike c → U op ≡ V op) → Goes (U op) (V op) (next c)) → Goes (U op) (V op) (on_directory p (AskName p x (λ there. found there next)))
  leaves_go op p x next us vs h =
      directory (U op) (V op) p _ (λ a. ask_name (U op) (V op) p x _ (λ e. where_found (U op) (V op) (named l.tree p x) _ (λ c here.
      h c (λ b. us ∙ left_alike p x a e (λ d there. subst Alike (same_some c d (sym here ∙ there)) b) ∙ sym vs))))
    where
      same_some : (a b : Fid) → ◌≡◌ {A = Option Fid} (Some a) (Some b) → a ≡ b
      same_some a b e = cc

  op_goes : (op : Op) → Follows op
  op_goes (ops.Create p x f) =
      let op = ops.Create p x f in
      create_goes (U op) (V op) p x f None _ (λ a. ap (λ y. created_node batch f file_node (layout_with 0 0 0) ∷ inserted targets batch p y x f ∷ []) a.layout)
  op_goes (ops.Mkdir p x f s) =
      let op = ops.Mkdir p x f s in
      create_goes (U op) (V op) p x f s _ (λ a. ap (λ y. created_node batch f (directory_in p) (layout_of_stripes s) ∷ (created_stripes targets batch f (layout_of_stripes s) ++ inserted targets batch p y x f ∷ [])) a.layout)
  op_goes (ops.Link p x f) =
      let op = ops.Link p x f in
      directory (U op) (V op) p _ (λ a. ask_name (U op) (V op) p x _ (λ _. checked (U op) (V op) (taken_fault (named l.tree p x)) _ (ask_node (U op) (V op) f _ (λ _.
      checked (U op) (V op) (link_fault (get l.tree.nodes f)) _ (decide (U op) (V op) replies.Ok _ (ap (λ y. update kind.RefAdd batch f [] ∷ inserted targets batch p y x f ∷ []) a.layout))))))
  op_goes (ops.Unlink p x) =
      let op = ops.Unlink p x in
      leaves_go op p x _ refl refl (λ c h. ask_node (U op) (V op) c _ (λ b. checked (U op) (V op) (file_fault (get l.tree.nodes c)) _ (decide (U op) (V op) replies.Ok _ (h b))))
  op_goes (ops.Rmdir p x) =
      let op = ops.Rmdir p x in
      leaves_go op p x _ refl refl (λ c h. ask_node (U op) (V op) c _ (λ b. checked (U op) (V op) (directory_fault (get l.tree.nodes c)) _
      (ask_all (U op) (V op) c _ (λ _. checked (U op) (V op) (empty_fault (names_of l.tree c)) _ (decide (U op) (V op) replies.Ok _ (h b))))))
  op_goes (ops.Rename p x q y) = renames_go p x q y
  op_goes (ops.SetAttr f mode uid gid) = node_goes _ _ f (λ node. absent_fault node) (λ n. record n { mode = mode; uid = uid; gid = gid }) refl
  op_goes (ops.SetXattr f x v) = node_goes _ _ f (λ node. setxattr_fault node x) (λ n. record n { xattrs = insert n.xattrs x v }) refl
  op_goes (ops.DelXattr f x) = node_goes _ _ f (λ node. xattr_fault node x) (λ n. record n { xattrs = remove n.xattrs x }) refl
  op_goes (ops.Migrate d c i) =
      let op = ops.Migrate d c i in
      directory (U op) (V op) d _ (λ a. checked (U op) (V op) (if same_fid d root_fid then Some EINVAL else stripes_fault targets c i) _
      (ask_all (U op) (V op) d _ (λ e. checked (U op) (V op) (if nat_lt 32 (len (names_of l.tree d)) then Some EFBIG else None) _
      (decide (U op) (V op) replies.Ok _ (let y = a.layout in λ k. migrate_updates targets batch d (y k) (layout_with c i (suc (y k).generation)) (e k))))))
  op_goes (ops.Lookup p x) =
      let op = ops.Lookup p x in
      directory (U op) (V op) p _ (λ a. ask_name (U op) (V op) p x _ (λ _. checked (U op) (V op) (absent_fault (named l.tree p x)) _ (refused (U op) (V op) _)))
  op_goes (ops.GetAttr f) = read_goes _ _ f (λ node. absent_fault node) attr_reply
  op_goes (ops.GetXattr f x) = read_goes _ _ f (λ node. xattr_fault node x) (λ node. xattr_reply node x)

  either_way : (op : Op) → Agree targets l m op → (changes targets l.tree op ≡ []) ⊎ (op_updates targets batch l op ≡ op_updates targets batch m op)
  unfolding Goes
  either_way op agree = op_goes op agree

  pub same_updates : (op : Op) → Agree targets l m op → updates targets batch l op ≡ updates targets batch m op
  same_updates op agree =
      let same : changes targets l.tree op ≡ changes targets m.tree op = ap (λ (o : Reply × List Change). o.1) (same_plan (plan targets op) l m agree).0 in
      ⊎_elim
      (λ (none : changes targets l.tree op ≡ []).
      ap (λ cs. unless_none cs (op_updates targets batch l op)) none ∙ sym (ap (λ cs. unless_none cs (op_updates targets batch m op)) (sym same ∙ none)))
      (λ (e : op_updates targets batch l op ≡ op_updates targets batch m op). λ i. unless_none (same i) (e i))
      (either_way op agree)

pub same_parts : PartsFollowLooks
unfolding parts
same_parts targets batch l m op agree =
    let us = same_updates targets batch l m op agree in
    let set = same_on targets l m op agree in
    (us, λ i. parts_from targets 0 (set i) (placed targets (us i)))
