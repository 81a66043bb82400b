-- The checks of an operation ask for the keys that its plan looks at, and come to its reply.
use Rattle.std.proofs.Common.{bit_and, ◌≡◌, ◌<◌, ◌≤◌, ℕ, zero, suc, ◌+◌, ◌%◌, ◌==◌, ◌&&◌, Bool, true, false, if◌then◌else◌, Option, Some, None, Result, Ok, Err, is_some, List, [], ◌∷◌, ◌++◌, length, filter, refl, sym, ap, subst, ◌∙◌, arith, nat_le}
use Rattle.std.proofs.Math.Dec.{eqb-suc-zero}
use Rattle.std.specs.List.{AllByRecursion, flat_map}
use Rattle.std.specs.Option.{option_map}
use Rattle.std.specs.FinMap.{get, insert, remove, len}
use Rattle.fid_space.specs.declared.fid.Fid.{Fid}
use Rattle.tree_model.specs.declared.node.Node.{Node}
use Rattle.tree_model.specs.declared.op.Op.{Op}
use Rattle.tree_model.specs.declared.op.Op.TheVariants as ops
use Rattle.tree_model.specs.declared.reply.Reply.{Reply}
use Rattle.tree_model.specs.declared.reply.Reply.TheVariants as replies
use Rattle.tree_model.specs.declared.errno.Errno.{Errno}
use Rattle.tree_model.specs.declared.errno.Errno.TheVariants.{ENOENT, ENOTDIR, ENOTEMPTY, ENOSPC, EINVAL, ELOOP, EISDIR, EPERM, EMLINK, ENODATA}
use Rattle.tree_model.specs.Tree.{Names, named, names_of, same_fid, root_fid}
use Rattle.tree_model.specs.Step.{parent_fault, client_fault, layout_fault, taken_fault, absent_fault, fid_reply, setxattr_fault, released, changed_node, parent_of, is_dir, kind_fault, same_place}
use Rattle.tree_model.specs.Step.{directory_fault, file_fault, link_fault, xattr_fault, xattr_reply, value_reply, empty_fault as names_fault, attr_reply as node_reply}
use Rattle.tree_model.specs.Changes.{Change, DropName, PutName}
use Rattle.tree_model.specs.Keys.{Key, NodeKey, NameKey, AllKey, Laid, layout_at}
use Rattle.tree_model.specs.Looks.{Plan, AskName, AskAll, Decide, decided, asked, plan, walk, whole_walk}
use Rattle.tree_model.specs.Looks.{AskNode as PlanNode, check as plan_check, found as plan_found, on_directory as plan_directory}
use Rattle.striped_dir.specs.declared.layout.Layout.{Layout}
use Rattle.striped_dir.specs.Layouts.{laid}
use Rattle.striped_dir.specs.Parts.{part_of_name}
use Rattle.object_store.specs.Meaning.{is_directory}
use Rattle.plan_base.specs.declared.seen.Seen.{Seen}
use Rattle.plan_base.specs.declared.outcome.Outcome.{Outcome}
use Rattle.plan_base.specs.declared.question.Question.{Question}
use Rattle.plan_base.specs.declared.question.Question.TheVariants as question
use Rattle.plan_base.specs.declared.question.Stop.{Stop}
use Rattle.plan_base.specs.declared.question.Stop.TheVariants as stop
use Rattle.plan_base.specs.Stops.{◌>>=◌, unless}
use Rattle.plan_base.specs.Places.{parts_of}
use Rattle.plan_base.specs.Asks.{Asks, AskDirectory, AskNode, AskValue, AskEntry, AskEmpty, AskWalk, Refuse, Settle, directory_seen, parent_seen}
use Rattle.plan_base.specs.Places.{node_place, stripes_gone}
use Rattle.plan_base.specs.Updates.{on_target, xattr_set_update, ref_add_update, ref_del_update, xattr_del_update, attr_set_update}
use Rattle.plan_base.specs.Planning.{check, found, found_node, as_directory, empty_fault, space_fault, settled, deleted, new_asks, asks, Move, is_dir_seen, layout_seen, moved_with, inserted, found_value}
use Rattle.plan_base.specs.Planning.{attr_reply as seen_reply, link_fault as seen_link_fault}
use Rattle.plan_laws.proofs.Counting.{no_names}
use Rattle.striped_dir.specs.Parts.{destroy_of}
use Rattle.plan_laws.specs.Truth.{kept, kind_of_node, seen_node, seen_of, value_at, value_of, none_of, over, part_questions, walk_over, walk_questions, if_none, if_ok, questions, keys_of_question, keys_asked, IsLaid, reply_at, Same, Matches}

pub same_check : (l : Laid) (f : Option Errno) (a : Asks) (p : Plan) → Matches l a p → Matches l (check f a) (plan_check f p)
same_check l None a p m = m
same_check l (Some e) a p m = record { same = (refl, refl, tt) }

pub same_directory : (l : Laid) (d : Fid) (next : Seen → Asks) (p : Plan)
    → ((n : Node) → get l.tree.nodes d ≡ Some n → n.dir ≡ true → Matches l (next (seen_node (layout_at l d) n)) p)
    → Matches l (AskDirectory d next) (plan_directory d p)
same_directory l d next p m = record { same = by_node (get l.tree.nodes d) m }
  where
    by_dir : (n : Node) (b : Bool) → (b ≡ true → Matches l (next (seen_node (layout_at l d) n)) p)
        → Same l ((if is_directory (kind_of_node b) then Ok (seen_node (layout_at l d) n) else Err (stop.Refused ENOTDIR)) >>= (λ s. over l (next s)))
        (question.Node d ∷ if_ok (if is_directory (kind_of_node b) then Ok (seen_node (layout_at l d) n) else Err (stop.Refused ENOTDIR)) (λ s. questions l (next s)))
        (decided (plan_check (if b then None else Some ENOTDIR) p) l.tree) (NodeKey d ∷ asked (plan_check (if b then None else Some ENOTDIR) p) l.tree)
    by_dir n true m = ((m refl).same.0, ap (λ ks. NodeKey d ∷ ks) (m refl).same.1, (tt, (m refl).same.2))
    by_dir n false m = (refl, refl, (tt, tt))

    by_node : (o : Option Node) → ((n : Node) → o ≡ Some n → n.dir ≡ true → Matches l (next (seen_node (layout_at l d) n)) p)
        → Same l (directory_seen (option_map (seen_node (layout_at l d)) o) >>= (λ s. over l (next s))) (question.Node d ∷ if_ok (directory_seen (option_map (seen_node (layout_at l d)) o)) (λ s. questions l (next s)))
        (decided (plan_check (parent_fault o) p) l.tree) (NodeKey d ∷ asked (plan_check (parent_fault o) p) l.tree)
    by_node None m = (refl, refl, (tt, tt))
    by_node (Some n) m = by_dir n n.dir (m n refl)

pub same_entry : (l : Laid) (d : Fid) (layout : Layout) (x : List ℕ) (next : Option Fid → Asks) (other : Option Fid → Plan) → (layout ≡ kept (layout_at l d)) × (is_dir (get l.tree.nodes d) ≡ true)
    → Matches l (next (named l.tree d x)) (other (named l.tree d x)) → Matches l (AskEntry d layout x next) (AskName d x other)
same_entry l d layout x next other e m = record { same = (m.same.0, ap (λ ks. NameKey d x ∷ ks) m.same.1, (e, m.same.2)) }

pub same_node : (l : Laid) (f : Fid) (next : Option Seen → Asks) (other : Option Node → Plan)
    → Matches l (next (seen_of l f)) (other (get l.tree.nodes f)) → Matches l (AskNode f next) (PlanNode f other)
same_node l f next other m = record { same = (m.same.0, ap (λ ks. NodeKey f ∷ ks) m.same.1, (tt, m.same.2)) }

pub same_value : (l : Laid) (f : Fid) (x : List ℕ) (next : Option (List ℕ) → Asks) (p : Plan) → Matches l (next (value_of l f x)) p → Matches l (AskValue f x next) p
same_value l f x next p m = record { same = (m.same.0, m.same.1, (tt, m.same.2)) }

pub same_settle : (l : Laid) (o : Outcome) (r : Reply) (cs : List Change) → o.reply ≡ r → Matches l (Settle o) (Decide r cs)
same_settle l o r cs e = record { same = (e, refl, tt) }

-- ---- parts

later_parts : (d : Fid) (layout : Layout) (i left : ℕ) (qs : List Question) → keys_asked (part_questions d layout (suc i) left ++ qs) ≡ keys_asked qs
unfolding part_questions
later_parts d layout i zero qs = refl
later_parts d layout i (suc left) qs = later_parts d layout (suc i) left qs

parts_keys : (d : Fid) (layout : Layout) (n : ℕ) (qs : List Question) → keys_asked (part_questions d layout 0 (if n == 0 then 1 else n) ++ qs) ≡ AllKey d ∷ keys_asked qs
unfolding part_questions
parts_keys d layout zero qs = refl
parts_keys d layout (suc n) qs =
    ap (λ b. keys_asked (part_questions d layout 0 (if b then 1 else suc n) ++ qs)) (eqb-suc-zero n) ∙ ap (λ ks. AllKey d ∷ ks) (later_parts d layout 0 n qs)

parts_laid : (l : Laid) (d : Fid) (layout : Layout) (i left : ℕ) (qs : List Question) → (layout ≡ kept (layout_at l d)) × (is_dir (get l.tree.nodes d) ≡ true) → i + left ≤ parts_of (laid layout) → AllByRecursion (IsLaid l) qs
    → AllByRecursion (IsLaid l) (part_questions d layout i left ++ qs)
unfolding part_questions
parts_laid l d layout i zero qs e below h = h
parts_laid l d layout i (suc left) qs e below h = ((e.0, e.1, omega (arith, below)), parts_laid l d layout (suc i) left qs e (omega (arith, below)) h)

pub same_empty : (l : Laid) (d : Fid) (layout : Layout) (next : Bool → Asks) (other : Names → Plan) → (layout ≡ kept (layout_at l d)) × (is_dir (get l.tree.nodes d) ≡ true)
    → Matches l (next (none_of layout (names_of l.tree d) 0 (parts_of (laid layout)))) (other (names_of l.tree d)) → Matches l (AskEmpty d layout next) (AskAll d other)
same_empty l d layout next other e m =
    record { same = (m.same.0, parts_keys d layout layout.count (questions l (next (none_of layout (names_of l.tree d) 0 (parts_of (laid layout))))) ∙ ap (λ ks. AllKey d ∷ ks) m.same.1, parts_laid l d layout 0 (parts_of (laid layout)) _ e (omega arith) m.same.2) }

-- ---- operations

pub no_entry_left : (l : Laid) (b : Bool) (names : Names) (a : Asks) (p : Plan) → b ≡ (len names == 0) → Matches l a p
    → Matches l (check (empty_fault b) a) (plan_check (names_fault names) p)
no_entry_left l b names a p e m = by_test b (len names == 0) e
  where
    by_test : (b c : Bool) → b ≡ c → Matches l (check (empty_fault b) a) (plan_check (if c then None else Some ENOTEMPTY) p)
    by_test true true e = m
    by_test false false e = record { same = (refl, refl, tt) }
    by_test true false e = cc
    by_test false true e = cc

new_node : (l : Laid) (p : Fid) (x : List ℕ) (f : Fid) (outcome : Seen → Outcome) (cs : List Change)
    → ((s : Seen) → (outcome s).reply ≡ replies.Ok)
    → Matches l (new_asks p x f outcome)
    (plan_directory p (AskName p x (λ there. plan_check (taken_fault there) (PlanNode f (λ node. plan_check (taken_fault node) (Decide replies.Ok cs))))))
new_node l p x f outcome cs r = same_directory l p _ _ (λ n g d.
    same_entry l p (kept (layout_at l p)) x _ _ (refl, ap is_dir g ∙ d) (same_check l (taken_fault (named l.tree p x)) _ _
    (same_node l f _ _ (by_node (get l.tree.nodes f) (seen_node (layout_at l p) n)))))
  where
    by_node : (o : Option Node) (s : Seen) → Matches l (check (taken_fault (option_map (seen_node (layout_at l f)) o)) (Settle (outcome s))) (plan_check (taken_fault o) (Decide replies.Ok cs))
    by_node None s = same_settle l (outcome s) replies.Ok cs (r s)
    by_node (Some n) s = record { same = (refl, refl, tt) }

pub create_matches : (targets batch : ℕ) (l : Laid) (p : Fid) (x : List ℕ) (f : Fid) → Matches l (asks targets batch (ops.Create p x f)) (plan targets (ops.Create p x f))
create_matches targets batch l p x f = same_check l (client_fault targets f) _ _ (new_node l p x f _ _ (λ s. refl))

pub mkdir_matches : (targets batch : ℕ) (l : Laid) (p : Fid) (x : List ℕ) (f : Fid) (s : Option (ℕ × ℕ))
    → Matches l (asks targets batch (ops.Mkdir p x f s)) (plan targets (ops.Mkdir p x f s))
mkdir_matches targets batch l p x f s = same_check l (client_fault targets f) _ _ (same_check l (layout_fault targets s) _ _ (new_node l p x f _ _ (λ s. refl)))

pub lookup_matches : (targets batch : ℕ) (l : Laid) (p : Fid) (x : List ℕ) → Matches l (asks targets batch (ops.Lookup p x)) (plan targets (ops.Lookup p x))
lookup_matches targets batch l p x = same_directory l p _ _ (λ n g d. same_entry l p (kept (layout_at l p)) x _ _ (refl, ap is_dir g ∙ d) (by_name (named l.tree p x)))
  where
    by_name : (o : Option Fid) → Matches l (found o (λ child. Settle (settled (replies.Fid child) []))) (plan_check (absent_fault o) (Decide (fid_reply o) []))
    by_name None = record { same = (refl, refl, tt) }
    by_name (Some child) = record { same = (refl, refl, tt) }

pub rmdir_matches : (targets batch : ℕ) (l : Laid) (p : Fid) (x : List ℕ) → Matches l (asks targets batch (ops.Rmdir p x)) (plan targets (ops.Rmdir p x))
rmdir_matches targets batch l p x = same_directory l p _ _ (λ n g d. same_entry l p (kept (layout_at l p)) x _ _ (refl, ap is_dir g ∙ d) (by_name (seen_node (layout_at l p) n) (named l.tree p x)))
  where
    gone : Seen → Fid → Seen → Outcome
    gone seen child old = settled replies.Ok (deleted targets batch p seen x ∷ (stripes_gone targets child (laid old.body.layout) batch ++ (on_target (node_place targets child) (destroy_of batch child) ∷ [])))

    by_dir : (s : Seen) (child : Fid) (n : Node) (b : Bool) → is_dir (get l.tree.nodes child) ≡ b
        → Matches l (if is_directory (kind_of_node b) then AskEmpty child (kept (layout_at l child)) (λ is_empty. check (empty_fault is_empty) (Settle (gone s child (seen_node (layout_at l child) n)))) else Refuse ENOTDIR)
        (plan_check (if b then None else Some ENOTDIR) (AskAll child (λ names. plan_check (names_fault names) (Decide replies.Ok (DropName p x ∷ released child (Some n))))))
    by_dir s child n true e = same_empty l child (kept (layout_at l child)) _ _ (refl, e)
        (no_entry_left l _ (names_of l.tree child) _ _ (no_names (kept (layout_at l child)) (names_of l.tree child)) (same_settle l (gone s child (seen_node (layout_at l child) n)) replies.Ok _ refl))
    by_dir s child n false e = record { same = (refl, refl, tt) }

    by_node : (s : Seen) (child : Fid) (o : Option Node) → get l.tree.nodes child ≡ o
        → Matches l (as_directory (option_map (seen_node (layout_at l child)) o) (λ old. AskEmpty child old.body.layout (λ is_empty. check (empty_fault is_empty) (Settle (gone s child old)))))
        (plan_check (directory_fault o) (AskAll child (λ names. plan_check (names_fault names) (Decide replies.Ok (DropName p x ∷ released child o)))))
    by_node s child None e = record { same = (refl, refl, tt) }
    by_node s child (Some n) e = by_dir s child n n.dir (ap is_dir e)

    by_name : (s : Seen) (o : Option Fid)
        → Matches l (found o (λ child. AskNode child (λ node. as_directory node (λ old. AskEmpty child old.body.layout (λ is_empty. check (empty_fault is_empty) (Settle (gone s child old)))))))
        (plan_found o (λ child. PlanNode child (λ node. plan_check (directory_fault node) (AskAll child (λ names. plan_check (names_fault names) (Decide replies.Ok (DropName p x ∷ released child node)))))))
    by_name s None = record { same = (refl, refl, tt) }
    by_name s (Some child) = same_node l child _ _ (by_node s child (get l.tree.nodes child) refl)

pub setxattr_matches : (targets batch : ℕ) (l : Laid) (f : Fid) (x v : List ℕ) → Matches l (asks targets batch (ops.SetXattr f x v)) (plan targets (ops.SetXattr f x v))
setxattr_matches targets batch l f x v = same_node l f _ _ (by_node (get l.tree.nodes f) refl)
  where
    set : Outcome
    set = settled replies.Ok (on_target (node_place targets f) (xattr_set_update batch f x v) ∷ [])

    by_value : (n : Node) (old : Option (List ℕ)) (many : Bool) (cs : List Change)
        → Matches l (check (if is_some old then None else (if many then Some ENOSPC else None)) (Settle set)) (plan_check (if is_some old then None else (if many then Some ENOSPC else None)) (Decide replies.Ok cs))
    by_value n old many cs = same_check l (if is_some old then None else (if many then Some ENOSPC else None)) _ _ (same_settle l set replies.Ok cs refl)

    by_node : (o : Option Node) → get l.tree.nodes f ≡ o
        → Matches l (found_node (option_map (seen_node (layout_at l f)) o) (λ seen. AskValue f x (λ old. check (space_fault seen old) (Settle set))))
        (plan_check (setxattr_fault o x) (Decide replies.Ok (changed_node f o (λ n. record n { xattrs = insert n.xattrs x v }))))
    by_node None e = record { same = (refl, refl, tt) }
    by_node (Some n) e = same_value l f x _ _ (subst (λ (w : Option (List ℕ)). Matches l (check (space_fault (seen_node (layout_at l f) n) w) (Settle set))
        (plan_check (setxattr_fault (Some n) x) (Decide replies.Ok (changed_node f (Some n) (λ n. record n { xattrs = insert n.xattrs x v })))))
        (sym (ap (λ o. value_at o x) e)) (by_value n (get n.xattrs x) (nat_le 16 (len n.xattrs)) _))

-- ---- the others

is_dir_told : (n : Node) → is_directory (kind_of_node n.dir) ≡ n.dir
is_dir_told n = by_dir n.dir
  where
    by_dir : (b : Bool) → is_directory (kind_of_node b) ≡ b
    by_dir true = refl
    by_dir false = refl

pub unlink_matches : (targets batch : ℕ) (l : Laid) (p : Fid) (x : List ℕ) → Matches l (asks targets batch (ops.Unlink p x)) (plan targets (ops.Unlink p x))
unlink_matches targets batch l p x = same_directory l p _ _ (λ n g d. same_entry l p (kept (layout_at l p)) x _ _ (refl, ap is_dir g ∙ d) (by_name (seen_node (layout_at l p) n) (named l.tree p x)))
  where
    gone : Seen → Fid → Outcome
    gone s child = settled replies.Ok (deleted targets batch p s x ∷ on_target (node_place targets child) (ref_del_update batch child) ∷ [])

    by_dir : (s : Seen) (child : Fid) (a b : Bool) (cs : List Change) → a ≡ b
        → Matches l (check (if a then Some EISDIR else None) (Settle (gone s child))) (plan_check (if b then Some EISDIR else None) (Decide replies.Ok cs))
    by_dir s child true true cs e = record { same = (refl, refl, tt) }
    by_dir s child false false cs e = same_settle l (gone s child) replies.Ok cs refl
    by_dir s child true false cs e = cc
    by_dir s child false true cs e = cc

    by_node : (s : Seen) (child : Fid) (o : Option Node)
        → Matches l (check (if is_dir_seen (option_map (seen_node (layout_at l child)) o) then Some EISDIR else None) (Settle (gone s child)))
        (plan_check (file_fault o) (Decide replies.Ok (DropName p x ∷ released child o)))
    by_node s child None = same_settle l (gone s child) replies.Ok _ refl
    by_node s child (Some n) = by_dir s child (is_directory (kind_of_node n.dir)) n.dir _ (is_dir_told n)

    by_name : (s : Seen) (o : Option Fid)
        → Matches l (found o (λ child. AskNode child (λ node. check (if is_dir_seen node then Some EISDIR else None) (Settle (gone s child)))))
        (plan_found o (λ child. PlanNode child (λ node. plan_check (file_fault node) (Decide replies.Ok (DropName p x ∷ released child node)))))
    by_name s None = record { same = (refl, refl, tt) }
    by_name s (Some child) = same_node l child _ _ (by_node s child (get l.tree.nodes child))

pub setattr_matches : (targets batch : ℕ) (l : Laid) (f : Fid) (m u g : ℕ) → Matches l (asks targets batch (ops.SetAttr f m u g)) (plan targets (ops.SetAttr f m u g))
setattr_matches targets batch l f m u g = same_node l f _ _ (by_node (get l.tree.nodes f))
  where
    by_node : (o : Option Node) → Matches l (check (absent_fault (option_map (seen_node (layout_at l f)) o)) (Settle (settled replies.Ok (on_target (node_place targets f) (attr_set_update batch f m u g) ∷ []))))
        (plan_check (absent_fault o) (Decide replies.Ok (changed_node f o (λ n. record n { mode = m; uid = u; gid = g }))))
    by_node None = record { same = (refl, refl, tt) }
    by_node (Some n) = same_settle l _ replies.Ok _ refl

pub getattr_matches : (targets batch : ℕ) (l : Laid) (f : Fid) → ((n : Node) → get l.tree.nodes f ≡ Some n → bit_and n.mode 0xffff ≡ n.mode) → Matches l (asks targets batch (ops.GetAttr f)) (plan targets (ops.GetAttr f))
getattr_matches targets batch l f h = same_node l f _ _ (by_node (get l.tree.nodes f) h)
  where
    by_node : (o : Option Node) → ((n : Node) → o ≡ Some n → bit_and n.mode 0xffff ≡ n.mode) → Matches l (found_node (option_map (seen_node (layout_at l f)) o) (λ seen. Settle (settled (seen_reply seen) [])))
        (plan_check (absent_fault o) (Decide (node_reply o) []))
    by_node None h = record { same = (refl, refl, tt) }
    by_node (Some n) h = same_settle l _ _ [] (λ i. replies.Attr (is_dir_told n i) (h n refl i) n.uid n.gid n.links)

pub link_matches : (targets batch : ℕ) (l : Laid) (p : Fid) (x : List ℕ) (f : Fid) → Matches l (asks targets batch (ops.Link p x f)) (plan targets (ops.Link p x f))
link_matches targets batch l p x f = same_directory l p _ _ (λ n g d.
    same_entry l p (kept (layout_at l p)) x _ _ (refl, ap is_dir g ∙ d) (same_check l (taken_fault (named l.tree p x)) _ _ (same_node l f _ _ (by_node (seen_node (layout_at l p) n) (get l.tree.nodes f)))))
  where
    more : Seen → Outcome
    more s = settled replies.Ok (on_target (node_place targets f) (ref_add_update batch f) ∷ inserted targets batch p s x f ∷ [])

    by_dir : (s : Seen) (a b full : Bool) (cs : List Change) → a ≡ b
        → Matches l (check (if a then Some EPERM else (if full then Some EMLINK else None)) (Settle (more s))) (plan_check (if b then Some EPERM else (if full then Some EMLINK else None)) (Decide replies.Ok cs))
    by_dir s true true full cs e = record { same = (refl, refl, tt) }
    by_dir s false false true cs e = record { same = (refl, refl, tt) }
    by_dir s false false false cs e = same_settle l (more s) replies.Ok cs refl
    by_dir s true false full cs e = cc
    by_dir s false true full cs e = cc

    by_node : (s : Seen) (o : Option Node) → Matches l (check (seen_link_fault (option_map (seen_node (layout_at l f)) o)) (Settle (more s)))
        (plan_check (link_fault o) (Decide replies.Ok (PutName p x f ∷ changed_node f o (λ n. record n { links = n.links + 1 }))))
    by_node s None = record { same = (refl, refl, tt) }
    by_node s (Some n) = by_dir s (is_directory (kind_of_node n.dir)) n.dir (nat_le 65000 n.links) _ (is_dir_told n)

pub delxattr_matches : (targets batch : ℕ) (l : Laid) (f : Fid) (x : List ℕ) → Matches l (asks targets batch (ops.DelXattr f x)) (plan targets (ops.DelXattr f x))
delxattr_matches targets batch l f x = same_node l f _ _ (by_node (get l.tree.nodes f) refl)
  where
    gone : Outcome
    gone = settled replies.Ok (on_target (node_place targets f) (xattr_del_update batch f x) ∷ [])

    by_node : (o : Option Node) → get l.tree.nodes f ≡ o
        → Matches l (found_node (option_map (seen_node (layout_at l f)) o) (λ seen. AskValue f x (λ old. check (if is_some old then None else Some ENODATA) (Settle gone))))
        (plan_check (xattr_fault o x) (Decide replies.Ok (changed_node f o (λ n. record n { xattrs = remove n.xattrs x }))))
    by_node None e = record { same = (refl, refl, tt) }
    by_node (Some n) e = same_value l f x _ _ (subst (λ (w : Option (List ℕ)). Matches l (check (if is_some w then None else Some ENODATA) (Settle gone))
        (plan_check (xattr_fault (Some n) x) (Decide replies.Ok (changed_node f (Some n) (λ n. record n { xattrs = remove n.xattrs x })))))
        (sym (ap (λ o. value_at o x) e)) (same_check l (if is_some (get n.xattrs x) then None else Some ENODATA) _ _ (same_settle l gone replies.Ok _ refl)))

pub getxattr_matches : (targets batch : ℕ) (l : Laid) (f : Fid) (x : List ℕ) → Matches l (asks targets batch (ops.GetXattr f x)) (plan targets (ops.GetXattr f x))
getxattr_matches targets batch l f x = same_node l f _ _ (by_node (get l.tree.nodes f) refl)
  where
    by_value : (v : Option (List ℕ)) → Matches l (found_value v) (plan_check (if is_some v then None else Some ENODATA) (Decide (value_reply v) []))
    by_value None = record { same = (refl, refl, tt) }
    by_value (Some v) = same_settle l _ _ [] refl

    by_node : (o : Option Node) → get l.tree.nodes f ≡ o
        → Matches l (found_node (option_map (seen_node (layout_at l f)) o) (λ seen. AskValue f x found_value)) (plan_check (xattr_fault o x) (Decide (xattr_reply o x) []))
    by_node None e = record { same = (refl, refl, tt) }
    by_node (Some n) e = same_value l f x _ _ (subst (λ (w : Option (List ℕ)). Matches l (found_value w) (plan_check (xattr_fault (Some n) x) (Decide (xattr_reply (Some n) x) [])))
        (sym (ap (λ o. value_at o x) e)) (by_value (get n.xattrs x)))
