-- What plans decide: by what they ask alone; and operations decide by their plans.
use Rattle.std.proofs.Common.{◌≡◌, ◌||◌, ◌&&◌, ℕ, zero, suc, Bool, true, false, not, nat_lt, if◌then◌else◌, Option, Some, None, List, [], ◌∷◌, ◌++◌, refl, sym, ap, ◌∙◌}
use Rattle.std.specs.List.{AllByRecursion}
use Rattle.std.specs.FinMap.{get, len}
use Rattle.fid_space.specs.declared.fid.Fid.{Fid}
use Rattle.tree_model.specs.declared.node.Node.{Node}
use Rattle.tree_model.specs.declared.op.Op.{Op}
use Rattle.tree_model.specs.declared.op.Op.TheVariants as ops
use Rattle.tree_model.specs.declared.reply.Reply.{Reply}
use Rattle.tree_model.specs.declared.reply.Reply.TheVariants as replies
use Rattle.tree_model.specs.declared.errno.Errno.{Errno}
use Rattle.tree_model.specs.declared.errno.Errno.TheVariants.{EINVAL, ELOOP, EFBIG}
use Rattle.tree_model.specs.Tree.{Tree, Names, names_of, named, same_fid, root_fid}
use Rattle.tree_model.specs.Changes.{Change, changed_all, DropName, PutName}
use Rattle.tree_model.specs.Keys.{NodeKey, NameKey, AllKey, Value, NodeValue, NameValue, AllValue, Laid, at}
use Rattle.tree_model.specs.Looks.{create_plan, Plan, AskNode, AskName, AskAll, Decide, decided, asked, check, found, on_directory, walk, whole_walk, rename_to, replace_plan, move_plan, plan, changes}
use Rattle.tree_model.specs.Laws.{unless}
use Rattle.tree_model.specs.Step.{create_fault, client_fault, layout_fault, taken_fault, absent_fault, link_fault, file_fault, directory_fault, unlinked, renamed, setxattr_fault, xattr_fault, stripes_fault, step, checked, first_fault, op_fault, op_changes, op_reply, parent_fault, found_fault, there_fault, is_dir, kind_fault, empty_fault, over_fault, walk_fault, loop_fault, moved_fault, same_place, same_node, parent_of, released, replaced, moved_node}

node_of : Value → Option Node
node_of (NodeValue n l) = n
node_of (NameValue f) = None
node_of (AllValue m) = None

name_of : Value → Option Fid
name_of (NodeValue n l) = None
name_of (NameValue f) = f
name_of (AllValue m) = None

all_of : Names → Value → Names
all_of d (NodeValue n l) = d
all_of d (NameValue f) = d
all_of d (AllValue m) = m

-- a plan decides and asks alike over trees that have the same under each key that it asks for
pub same_plan : (p : Plan) (l m : Laid) → AllByRecursion (λ k. at l k ≡ at m k) (asked p l.tree) → (decided p l.tree ≡ decided p m.tree) × (asked p l.tree ≡ asked p m.tree)
unfolding node_of name_of all_of
same_plan (AskNode f next) l m h =
    let v : get l.tree.nodes f ≡ get m.tree.nodes f = ap node_of h.0 in
    let more = same_plan (next (get l.tree.nodes f)) l m h.1 in
    (more.0 ∙ ap (λ o. decided (next o) m.tree) v, ap (λ ks. NodeKey f ∷ ks) (more.1 ∙ ap (λ o. asked (next o) m.tree) v))
same_plan (AskName d x next) l m h =
    let v : named l.tree d x ≡ named m.tree d x = ap name_of h.0 in
    let more = same_plan (next (named l.tree d x)) l m h.1 in
    (more.0 ∙ ap (λ o. decided (next o) m.tree) v, ap (λ ks. NameKey d x ∷ ks) (more.1 ∙ ap (λ o. asked (next o) m.tree) v))
same_plan (AskAll d next) l m h =
    let v : names_of l.tree d ≡ names_of m.tree d = ap (all_of (names_of l.tree d)) h.0 in
    let more = same_plan (next (names_of l.tree d)) l m h.1 in
    (more.0 ∙ ap (λ o. decided (next o) m.tree) v, ap (λ ks. AllKey d ∷ ks) (more.1 ∙ ap (λ o. asked (next o) m.tree) v))
same_plan (Decide r cs) l m h = (refl, refl)

-- THE STEP

abbrev Outcome : Type 0
Outcome = Reply × List Change

-- a fault alone, or what comes without one
abbrev guarded : Option Errno → Outcome → Outcome
guarded None out = out
guarded (Some e) out = (replies.Err e, [])

decided_check : (f : Option Errno) (next : Plan) (t : Tree) → decided (check f next) t ≡ guarded f (decided next t)
decided_check None next t = refl
decided_check (Some e) next t = refl

guarded_first : (a b : Option Errno) (out : Outcome) → guarded (first_fault a b) out ≡ guarded a (guarded b out)
guarded_first None b out = refl
guarded_first (Some e) b out = refl

-- a check, and then the rest
then_check : (a b : Option Errno) (next : Plan) (t : Tree) (out : Outcome) → decided next t ≡ guarded b out → decided (check a next) t ≡ guarded (first_fault a b) out
then_check None b next t out e = e
then_check (Some f) b next t out e = refl

-- the last check
last_check : (a : Option Errno) (next : Plan) (t : Tree) (out : Outcome) → decided next t ≡ out → decided (check a next) t ≡ guarded a out
last_check None next t out e = e
last_check (Some f) next t out e = refl

abbrev done : Tree → Op → Outcome
done t op = (op_reply t op, op_changes t op)

-- the walk of a rename
walk_decides : (t : Tree) (m : Fid) (n : ℕ) (f : Fid) (next : Plan) → decided (walk n m f next) t ≡ guarded (walk_fault t m n f) (decided next t)
unfolding walk_fault
walk_decides t m zero f next = by_tests (same_fid f root_fid) (same_fid f m)
  where
    by_tests : (a b : Bool) → decided (if a then next else (if b then Decide (replies.Err EINVAL) [] else Decide (replies.Err ELOOP) [])) t
        ≡ guarded (if a then None else (if b then Some EINVAL else Some ELOOP)) (decided next t)
    by_tests true b = refl
    by_tests false true = refl
    by_tests false false = refl
walk_decides t m (suc n) f next = by_tests (same_fid f root_fid) (same_fid f m) (walk_decides t m n (parent_of (get t.nodes f)) next)
  where
    by_tests : (a b : Bool) → decided (walk n m (parent_of (get t.nodes f)) next) t ≡ guarded (walk_fault t m n (parent_of (get t.nodes f))) (decided next t)
        → decided (if a then next else (if b then Decide (replies.Err EINVAL) [] else AskNode f (λ node. walk n m (parent_of node) next))) t
        ≡ guarded (if a then None else (if b then Some EINVAL else walk_fault t m n (parent_of (get t.nodes f)))) (decided next t)
    by_tests true b more = refl
    by_tests false true more = refl
    by_tests false false more = more

whole_decides : (t : Tree) (m : Fid) (f : Fid) (next : Plan) → decided (whole_walk m f next) t ≡ guarded (walk_fault t m 1023 f) (decided next t)
unfolding whole_walk
whole_decides t m f next = walk_decides t m 1023 f next

-- what a rename changes where the names differ
abbrev moves : Tree → Fid → List ℕ → Fid → List ℕ → Fid → List Change → List Change
moves t p x q y m gone = DropName p x ∷ (gone ++ (PutName q y m ∷ moved_node p q m (get t.nodes m)))

replace_decides : (t : Tree) (p : Fid) (x : List ℕ) (q : Fid) (y : List ℕ) (m : Fid) (o : Option Fid)
    → decided (replace_plan p x q y m (get t.nodes m) o) t
    ≡ guarded (there_fault o (over_fault t m)) (replies.Ok, (if same_node m o then [] else moves t p x q y m (replaced t o)))
replace_decides t p x q y m None = refl
replace_decides t p x q y m (Some old) = by_same (same_fid m old)
  where
    by_dir : (b : Bool) (k : Option Errno) → decided (check k (if b then AskAll old (λ names. check (empty_fault names) (rename_to p x q y m (get t.nodes m) (released old (get t.nodes old))))
        else rename_to p x q y m (get t.nodes m) (released old (get t.nodes old)))) t
        ≡ guarded (first_fault k (if b then empty_fault (names_of t old) else None)) (replies.Ok, moves t p x q y m (released old (get t.nodes old)))
    by_dir true k = then_check k (empty_fault (names_of t old)) _ t _ (last_check (empty_fault (names_of t old)) _ t _ refl)
    by_dir false k = then_check k None _ t _ refl

    by_same : (b : Bool) → decided (if b then Decide replies.Ok [] else AskNode old (λ other. check (kind_fault (is_dir (get t.nodes m)) (is_dir other))
        (if is_dir other then AskAll old (λ names. check (empty_fault names) (rename_to p x q y m (get t.nodes m) (released old other))) else rename_to p x q y m (get t.nodes m) (released old other)))) t
        ≡ guarded (if b then None else first_fault (kind_fault (is_dir (get t.nodes m)) (is_dir (get t.nodes old))) (if is_dir (get t.nodes old) then empty_fault (names_of t old) else None))
        (replies.Ok, (if b then [] else moves t p x q y m (released old (get t.nodes old))))
    by_same true = refl
    by_same false = by_dir (is_dir (get t.nodes old)) (kind_fault (is_dir (get t.nodes m)) (is_dir (get t.nodes old)))

move_decides : (t : Tree) (p : Fid) (x : List ℕ) (q : Fid) (y : List ℕ) (m : Fid)
    → decided (move_plan p x q y m (get t.nodes m)) t
    ≡ guarded (first_fault (loop_fault t p q m) (there_fault (named t q y) (over_fault t m))) (replies.Ok, (if same_node m (named t q y) then [] else moves t p x q y m (replaced t (named t q y))))
move_decides t p x q y m = by_test (is_dir (get t.nodes m) && not (same_fid p q))
  where
    out : Outcome
    out = (replies.Ok, (if same_node m (named t q y) then [] else moves t p x q y m (replaced t (named t q y))))

    rest : Option Errno
    rest = there_fault (named t q y) (over_fault t m)

    by_test : (b : Bool) → decided (if b then whole_walk m q (AskName q y (replace_plan p x q y m (get t.nodes m))) else AskName q y (replace_plan p x q y m (get t.nodes m))) t
        ≡ guarded (first_fault (if b then walk_fault t m 1023 q else None) (there_fault (named t q y) (over_fault t m)))
        (replies.Ok, (if same_node m (named t q y) then [] else moves t p x q y m (replaced t (named t q y))))
    by_test true =
        whole_decides t m q (AskName q y (replace_plan p x q y m (get t.nodes m)))
        ∙ ap (guarded (walk_fault t m 1023 q)) (replace_decides t p x q y m (named t q y))
        ∙ sym (guarded_first (walk_fault t m 1023 q) (there_fault (named t q y) (over_fault t m)) _)
    by_test false = replace_decides t p x q y m (named t q y)

-- under one test both branches go out alike
rename_decides : (t : Tree) (p : Fid) (x : List ℕ) (q : Fid) (y : List ℕ) (m : Fid)
    → decided (on_directory q (if same_place p x q y then Decide replies.Ok [] else AskNode m (move_plan p x q y m))) t
    ≡ guarded (moved_fault t p x q y m) (replies.Ok, (if same_place p x q y || same_node m (named t q y) then [] else moves t p x q y m (replaced t (named t q y))))
rename_decides t p x q y m = by_place (same_place p x q y)
  where
    by_place : (b : Bool) → decided (check (parent_fault (get t.nodes q)) (if b then Decide replies.Ok [] else AskNode m (move_plan p x q y m))) t
        ≡ guarded (first_fault (parent_fault (get t.nodes q)) (if b then None else first_fault (loop_fault t p q m) (there_fault (named t q y) (over_fault t m))))
        (replies.Ok, (if b || same_node m (named t q y) then [] else moves t p x q y m (replaced t (named t q y))))
    by_place true = then_check (parent_fault (get t.nodes q)) None _ t _ refl
    by_place false = then_check (parent_fault (get t.nodes q)) (first_fault (loop_fault t p q m) (there_fault (named t q y) (over_fault t m))) _ t _ (move_decides t p x q y m)

-- what an operation's plan decides: its first fault, or else its reply and its changes
create_decides : (targets : ℕ) (t : Tree) (p : Fid) (x : List ℕ) (f : Fid) (s : Option (ℕ × ℕ)) (cs : List Change)
    → decided (create_plan targets p x f s cs) t ≡ guarded (create_fault targets t p x f s) (replies.Ok, cs)
create_decides targets t p x f s cs =
    let e = taken_fault (get t.nodes f) in
    let d = taken_fault (named t p x) in
    let c = parent_fault (get t.nodes p) in
    let b = layout_fault targets s in
    then_check (client_fault targets f) (first_fault b (first_fault c (first_fault d e))) _ t _
    (then_check b (first_fault c (first_fault d e)) _ t _ (then_check c (first_fault d e) _ t _ (then_check d e _ t _ (last_check e _ t _ refl))))

-- a file or a directory whose name goes
unlink_decides : (t : Tree) (p : Fid) (x : List ℕ) (o : Option Fid)
    → decided (found o (λ child. AskNode child (λ node. check (file_fault node) (Decide replies.Ok (DropName p x ∷ released child node))))) t
    ≡ guarded (found_fault o (λ child. file_fault (get t.nodes child))) (replies.Ok, unlinked t p x o)
unlink_decides t p x None = refl
unlink_decides t p x (Some child) = last_check (file_fault (get t.nodes child)) _ t _ refl

rmdir_decides : (t : Tree) (p : Fid) (x : List ℕ) (o : Option Fid)
    → decided (found o (λ child. AskNode child (λ node. check (directory_fault node) (AskAll child (λ names. check (empty_fault names) (Decide replies.Ok (DropName p x ∷ released child node))))))) t
    ≡ guarded (found_fault o (λ child. first_fault (directory_fault (get t.nodes child)) (empty_fault (names_of t child)))) (replies.Ok, unlinked t p x o)
rmdir_decides t p x None = refl
rmdir_decides t p x (Some child) = then_check (directory_fault (get t.nodes child)) (empty_fault (names_of t child)) _ t _ (last_check (empty_fault (names_of t child)) _ t _ refl)

renames_decide : (t : Tree) (p : Fid) (x : List ℕ) (q : Fid) (y : List ℕ) (o : Option Fid)
    → decided (found o (λ m. on_directory q (if same_place p x q y then Decide replies.Ok [] else AskNode m (move_plan p x q y m)))) t
    ≡ guarded (found_fault o (moved_fault t p x q y)) (replies.Ok, renamed t p x q y o)
renames_decide t p x q y None = refl
renames_decide t p x q y (Some m) = rename_decides t p x q y m

pub op_decides : (targets : ℕ) (t : Tree) (op : Op) → decided (plan targets op) t ≡ guarded (op_fault targets t op) (done t op)
op_decides targets t (ops.Create p x f) = create_decides targets t p x f None (op_changes t (ops.Create p x f))
op_decides targets t (ops.Mkdir p x f s) = create_decides targets t p x f s (op_changes t (ops.Mkdir p x f s))
op_decides targets t (ops.Link p x f) =
    then_check (parent_fault (get t.nodes p)) (first_fault (taken_fault (named t p x)) (link_fault (get t.nodes f))) _ t _
    (then_check (taken_fault (named t p x)) (link_fault (get t.nodes f)) _ t _ (last_check (link_fault (get t.nodes f)) _ t _ refl))
op_decides targets t (ops.Unlink p x) = then_check (parent_fault (get t.nodes p)) (found_fault (named t p x) (λ child. file_fault (get t.nodes child))) _ t _ (unlink_decides t p x (named t p x))
op_decides targets t (ops.Rmdir p x) =
    then_check (parent_fault (get t.nodes p)) (found_fault (named t p x) (λ child. first_fault (directory_fault (get t.nodes child)) (empty_fault (names_of t child)))) _ t _
    (rmdir_decides t p x (named t p x))
op_decides targets t (ops.Rename p x q y) = then_check (parent_fault (get t.nodes p)) (found_fault (named t p x) (moved_fault t p x q y)) _ t _ (renames_decide t p x q y (named t p x))
op_decides targets t (ops.SetAttr f m u g) = last_check (absent_fault (get t.nodes f)) _ t _ refl
op_decides targets t (ops.SetXattr f x v) = last_check (setxattr_fault (get t.nodes f) x) _ t _ refl
op_decides targets t (ops.DelXattr f x) = last_check (xattr_fault (get t.nodes f) x) _ t _ refl
op_decides targets t (ops.Migrate d c i) =
    let b = if same_fid d root_fid then Some EINVAL else stripes_fault targets c i in
    let e = if nat_lt 32 (len (names_of t d)) then Some EFBIG else None in
    then_check (parent_fault (get t.nodes d)) (first_fault b e) _ t _ (then_check b e _ t _ (last_check e _ t _ refl))
op_decides targets t (ops.Lookup p x) = then_check (parent_fault (get t.nodes p)) (absent_fault (named t p x)) _ t _ (last_check (absent_fault (named t p x)) _ t _ refl)
op_decides targets t (ops.GetAttr f) = last_check (absent_fault (get t.nodes f)) _ t _ refl
op_decides targets t (ops.GetXattr f x) = last_check (xattr_fault (get t.nodes f) x) _ t _ refl

stepped : (f : Option Errno) (t : Tree) (out : Outcome) → checked f t (changed_all t out.1, out.0) ≡ (changed_all t (guarded f out).1, (guarded f out).0)
stepped None t out = refl
stepped (Some e) t out = refl

-- the step is what the plan decides
pub step_decided : (targets : ℕ) (t : Tree) (op : Op) → step targets t op ≡ (changed_all t (decided (plan targets op) t).1, (decided (plan targets op) t).0)
step_decided targets t op =
    stepped (op_fault targets t op) t (done t op) ∙ ap (λ (o : Outcome). (changed_all t o.1, o.0)) (sym (op_decides targets t op))

-- the changes that the plan decides
of_fault : (f : Option Errno) (out : Outcome) → (guarded f out).1 ≡ unless f out.1
of_fault None out = refl
of_fault (Some e) out = refl

pub changes_decided : (targets : ℕ) (t : Tree) (op : Op) → changes targets t op ≡ unless (op_fault targets t op) (op_changes t op)
changes_decided targets t op = ap (λ (o : Outcome). o.1) (op_decides targets t op) ∙ of_fault (op_fault targets t op) (done t op)
