-- What an operation looks at, one key after another, up to the check that decides.
use Rattle.std.specs.Prelude.{ℕ, zero, suc, ◌+◌, ◌&&◌, not, nat_lt, Option, Some, None, if◌then◌else◌, List, [], ◌∷◌, ◌++◌}
use Rattle.std.specs.FinMap.{get, insert, remove, len}
use Rattle.fid_space.specs.declared.fid.Fid.{Fid}
use Rattle.tree_model.specs.declared.node.Node.{Node}
use Rattle.tree_model.specs.declared.op.Op.{Op}
use Rattle.tree_model.specs.declared.op.Op.TheVariants as ops
use Rattle.tree_model.specs.declared.reply.Reply.{Reply}
use Rattle.tree_model.specs.declared.reply.Reply.TheVariants as replies
use Rattle.tree_model.specs.declared.errno.Errno.{Errno}
use Rattle.tree_model.specs.declared.errno.Errno.TheVariants.{ENOENT, EINVAL, EFBIG, ELOOP}
use Rattle.tree_model.specs.Tree.{Tree, Names, same_fid, names_of, named, root_fid, directory_in, file_node}
use Rattle.tree_model.specs.Changes.{Change, PutNode, PutName, DropName, NextLayout, MoveNames}
use Rattle.tree_model.specs.Keys.{Key, NodeKey, NameKey, AllKey, keys_of_all}
use Rattle.tree_model.specs.Step.{parent_fault, taken_fault, absent_fault, client_fault, stripes_fault, layout_fault, link_fault, is_dir, file_fault, directory_fault, empty_fault, parent_of, kind_fault, same_place, setxattr_fault, xattr_fault, released, changed_node, moved_node, new_layout, fid_reply, attr_reply, xattr_reply}

-- a plan asks for what stands under a key, and goes on by what it is told, until it decides
pub data Plan : Type 0 where
  AskNode : (fid : Fid) (next : Option Node → Plan) → Plan
  AskName : (directory : Fid) (name : List ℕ) (next : Option Fid → Plan) → Plan
  AskAll : (directory : Fid) (next : Names → Plan) → Plan
  Decide : (reply : Reply) (changes : List Change) → Plan

-- what a plan decides over a tree
abbrev pub decided : Plan → Tree → Reply × List Change
decided (AskNode fid next) t = decided (next (get t.nodes fid)) t
decided (AskName directory name next) t = decided (next (named t directory name)) t
decided (AskAll directory next) t = decided (next (names_of t directory)) t
decided (Decide reply changes) t = (reply, changes)

-- the keys that it asks for
abbrev pub asked : Plan → Tree → List Key
asked (AskNode fid next) t = NodeKey fid ∷ asked (next (get t.nodes fid)) t
asked (AskName directory name next) t = NameKey directory name ∷ asked (next (named t directory name)) t
asked (AskAll directory next) t = AllKey directory ∷ asked (next (names_of t directory)) t
asked (Decide reply changes) t = []

abbrev pub refuse : Errno → Plan
refuse e = Decide (replies.Err e) []

-- on past a check
abbrev pub check : Option Errno → Plan → Plan
check None next = next
check (Some e) next = refuse e

-- on where a name stands for something
abbrev pub found : Option Fid → (Fid → Plan) → Plan
found None next = refuse ENOENT
found (Some child) next = next child

abbrev pub on_directory : Fid → Plan → Plan
on_directory directory next = AskNode directory (λ node. check (parent_fault node) next)

-- a rename's walk from a directory up, which may ask for so many more
abbrev pub walk : ℕ → Fid → Fid → Plan → Plan
walk zero moved at next =
    if same_fid at root_fid then next else (if same_fid at moved then refuse EINVAL else refuse ELOOP)
walk (suc left) moved at next =
    if same_fid at root_fid then next
    else (if same_fid at moved then refuse EINVAL else AskNode at (λ node. walk left moved (parent_of node) next))

unfoldable pub whole_walk : Fid → Fid → Plan → Plan
whole_walk moved at next = walk 1023 moved at next

abbrev pub create_plan : ℕ → Fid → List ℕ → Fid → Option (ℕ × ℕ) → List Change → Plan
create_plan targets parent name fid stripes changes =
    check (client_fault targets fid) (check (layout_fault targets stripes) (on_directory parent (AskName parent name (λ there.
    check (taken_fault there) (AskNode fid (λ node. check (taken_fault node) (Decide replies.Ok changes)))))))

-- what comes after the checks of a rename: the name goes, an old node goes, the name comes
abbrev pub rename_to : Fid → List ℕ → Fid → List ℕ → Fid → Option Node → List Change → Plan
rename_to parent name to_parent to_name moved node gone =
    Decide replies.Ok (DropName parent name ∷ (gone ++ (PutName to_parent to_name moved ∷ moved_node parent to_parent moved node)))

abbrev pub replace_plan : Fid → List ℕ → Fid → List ℕ → Fid → Option Node → Option Fid → Plan
replace_plan parent name to_parent to_name moved node None = rename_to parent name to_parent to_name moved node []
replace_plan parent name to_parent to_name moved node (Some old) =
    if same_fid moved old then Decide replies.Ok []
    else AskNode old (λ other. check (kind_fault (is_dir node) (is_dir other))
    (if is_dir other then AskAll old (λ names. check (empty_fault names) (rename_to parent name to_parent to_name moved node (released old other)))
    else rename_to parent name to_parent to_name moved node (released old other)))

abbrev pub move_plan : Fid → List ℕ → Fid → List ℕ → Fid → Option Node → Plan
move_plan parent name to_parent to_name moved node =
    if is_dir node && not (same_fid parent to_parent)
    then whole_walk moved to_parent (AskName to_parent to_name (replace_plan parent name to_parent to_name moved node))
    else AskName to_parent to_name (replace_plan parent name to_parent to_name moved node)

abbrev pub plan : ℕ → Op → Plan
plan targets (ops.Create parent name fid) = create_plan targets parent name fid None (PutNode fid file_node ∷ PutName parent name fid ∷ [])
plan targets (ops.Mkdir parent name fid stripes) =
    create_plan targets parent name fid stripes (PutNode fid (directory_in parent) ∷ PutName parent name fid ∷ new_layout fid stripes)
plan targets (ops.Link parent name fid) =
    on_directory parent (AskName parent name (λ there. check (taken_fault there) (AskNode fid (λ node. check (link_fault node)
    (Decide replies.Ok (PutName parent name fid ∷ changed_node fid node (λ n. record n { links = n.links + 1 })))))))
plan targets (ops.Unlink parent name) =
    on_directory parent (AskName parent name (λ there. found there (λ child. AskNode child (λ node. check (file_fault node)
    (Decide replies.Ok (DropName parent name ∷ released child node))))))
plan targets (ops.Rmdir parent name) =
    on_directory parent (AskName parent name (λ there. found there (λ child. AskNode child (λ node. check (directory_fault node)
    (AskAll child (λ names. check (empty_fault names) (Decide replies.Ok (DropName parent name ∷ released child node))))))))
plan targets (ops.Rename parent name to_parent to_name) =
    on_directory parent (AskName parent name (λ there. found there (λ moved. on_directory to_parent
    (if same_place parent name to_parent to_name then Decide replies.Ok []
    else AskNode moved (move_plan parent name to_parent to_name moved)))))
plan targets (ops.SetAttr fid mode uid gid) =
    AskNode fid (λ node. check (absent_fault node) (Decide replies.Ok (changed_node fid node (λ n. record n { mode = mode; uid = uid; gid = gid }))))
plan targets (ops.SetXattr fid name value) =
    AskNode fid (λ node. check (setxattr_fault node name) (Decide replies.Ok (changed_node fid node (λ n. record n { xattrs = insert n.xattrs name value }))))
plan targets (ops.DelXattr fid name) =
    AskNode fid (λ node. check (xattr_fault node name) (Decide replies.Ok (changed_node fid node (λ n. record n { xattrs = remove n.xattrs name }))))
plan targets (ops.Migrate directory count index) =
    on_directory directory (check (if same_fid directory root_fid then Some EINVAL else stripes_fault targets count index)
    (AskAll directory (λ names. check (if nat_lt 32 (len names) then Some EFBIG else None)
    (Decide replies.Ok (NextLayout directory count index ∷ MoveNames directory ∷ [])))))
plan targets (ops.Lookup parent name) =
    on_directory parent (AskName parent name (λ there. check (absent_fault there) (Decide (fid_reply there) [])))
plan targets (ops.GetAttr fid) = AskNode fid (λ node. check (absent_fault node) (Decide (attr_reply node) []))
plan targets (ops.GetXattr fid name) = AskNode fid (λ node. check (xattr_fault node name) (Decide (xattr_reply node name) []))

-- the keys that the checks need up to the one that decides
abbrev pub looks : ℕ → Tree → Op → List Key
looks targets t op = asked (plan targets op) t

-- the changes: none where the operation is refused, reads, or leaves all as it was
abbrev pub changes : ℕ → Tree → Op → List Change
changes targets t op = (decided (plan targets op) t).1

-- the keys that it writes
abbrev pub writes : ℕ → Tree → Op → List Key
writes targets t op = keys_of_all (changes targets t op)
