-- One step of the tree: the first check that fails is the reply, and the tree stays; else the change is made.
use Rattle.std.specs.Prelude.{ℕ, zero, suc, ◌+◌, ◌-◌, ◌==◌, ◌&&◌, ◌||◌, Bool, true, false, not, nat_le, nat_lt, Option, Some, None, if◌then◌else◌, is_some, List, [], ◌∷◌, ◌++◌}
use Rattle.std.specs.FinMap.{get, insert, remove, len}
use Rattle.fid_space.specs.declared.fid.Fid.{Fid}
use Rattle.fid_space.specs.Places.{is_client}
use Rattle.tree_model.specs.declared.node.Node.{Node}
use Rattle.tree_model.specs.declared.op.Op.{Op}
use Rattle.tree_model.specs.declared.op.Op.TheVariants as ops
use Rattle.tree_model.specs.declared.reply.Reply.{Reply}
use Rattle.tree_model.specs.declared.reply.Reply.TheVariants as replies
use Rattle.tree_model.specs.declared.errno.Errno.{Errno}
use Rattle.tree_model.specs.declared.errno.Errno.TheVariants.{EPERM, ENOENT, EEXIST, ENOTDIR, EISDIR, EINVAL, EFBIG, ENOSPC, EMLINK, ENOTEMPTY, ELOOP, ENODATA}
use Rattle.tree_model.specs.Tree.{Tree, Names, same_fid, same_name, names_of, named, root_fid, directory_in, file_node}
use Rattle.tree_model.specs.Changes.{Change, PutNode, DropNode, PutName, DropName, NewLayout, NextLayout, MoveNames, changed_all}

-- CHECKS

-- the first fault of two checks
abbrev pub first_fault : Option Errno → Option Errno → Option Errno
first_fault None other = other
first_fault (Some e) other = Some e

-- the checks of a parent: the node is there, and is a directory
abbrev pub parent_fault : Option Node → Option Errno
parent_fault None = Some ENOENT
parent_fault (Some node) = if node.dir then None else Some ENOTDIR

-- the check of what mustn't be there yet
abbrev pub taken_fault : {A : Type 0} → Option A → Option Errno
taken_fault there = if is_some there then Some EEXIST else None

-- the check of what must be there
abbrev pub absent_fault : {A : Type 0} → Option A → Option Errno
absent_fault there = if is_some there then None else Some ENOENT

-- the check of a FID that a client gives a new node
abbrev pub client_fault : ℕ → Fid → Option Errno
client_fault targets fid = if is_client targets fid then None else Some EINVAL

-- the check of a count of stripes and the first one's target
abbrev pub stripes_fault : ℕ → ℕ → ℕ → Option Errno
stripes_fault targets count index = if nat_le count targets && nat_lt index targets then None else Some EINVAL

abbrev pub layout_fault : ℕ → Option (ℕ × ℕ) → Option Errno
layout_fault targets None = None
layout_fault targets (Some stripes) = stripes_fault targets stripes.0 stripes.1

-- a file that gets one link more
abbrev pub link_fault : Option Node → Option Errno
link_fault None = Some ENOENT
link_fault (Some node) = if node.dir then Some EPERM else (if nat_le 65000 node.links then Some EMLINK else None)

abbrev pub is_dir : Option Node → Bool
is_dir None = false
is_dir (Some node) = node.dir

abbrev pub file_fault : Option Node → Option Errno
file_fault child = if is_dir child then Some EISDIR else None

abbrev pub directory_fault : Option Node → Option Errno
directory_fault child = if is_dir child then None else Some ENOTDIR

abbrev pub empty_fault : Names → Option Errno
empty_fault names = if len names == 0 then None else Some ENOTEMPTY

-- the check of what a name must stand for, where it stands for something
abbrev pub found_fault : Option Fid → (Fid → Option Errno) → Option Errno
found_fault None fault = Some ENOENT
found_fault (Some child) fault = fault child

-- a check that is made where a name stands for something
abbrev pub there_fault : Option Fid → (Fid → Option Errno) → Option Errno
there_fault None fault = None
there_fault (Some child) fault = fault child

-- the parent of a directory, which its node has
abbrev pub parent_of : Option Node → Fid
parent_of None = root_fid
parent_of (Some node) = node.parent

-- The walk of a rename from a directory up: the moved directory mustn't be met before the root. So many
-- further directories may be asked for their parent.
unfoldable pub walk_fault : Tree → Fid → ℕ → Fid → Option Errno
walk_fault t moved zero at =
    if same_fid at root_fid then None else (if same_fid at moved then Some EINVAL else Some ELOOP)
walk_fault t moved (suc left) at =
    if same_fid at root_fid then None
    else (if same_fid at moved then Some EINVAL else walk_fault t moved left (parent_of (get t.nodes at)))

-- a walk compares 1,024 directories, and so asks 1,023 of them
abbrev pub loop_fault : Tree → Fid → Fid → Fid → Option Errno
loop_fault t parent to_parent moved =
    if is_dir (get t.nodes moved) && not (same_fid parent to_parent) then walk_fault t moved 1023 to_parent else None

-- whether a node of this kind may come in the place of one of that kind
abbrev pub kind_fault : Bool → Bool → Option Errno
kind_fault true false = Some ENOTDIR
kind_fault false true = Some EISDIR
kind_fault true true = None
kind_fault false false = None

-- the moved node comes in the place of another
abbrev pub over_fault : Tree → Fid → Fid → Option Errno
over_fault t moved old =
    if same_fid moved old then None
    else first_fault (kind_fault (is_dir (get t.nodes moved)) (is_dir (get t.nodes old)))
    (if is_dir (get t.nodes old) then empty_fault (names_of t old) else None)

abbrev pub same_place : Fid → List ℕ → Fid → List ℕ → Bool
same_place parent name to_parent to_name = same_fid parent to_parent && same_name name to_name

abbrev pub moved_fault : Tree → Fid → List ℕ → Fid → List ℕ → Fid → Option Errno
moved_fault t parent name to_parent to_name moved =
    first_fault (parent_fault (get t.nodes to_parent))
    (if same_place parent name to_parent to_name then None
    else first_fault (loop_fault t parent to_parent moved) (there_fault (named t to_parent to_name) (over_fault t moved)))

abbrev pub setxattr_fault : Option Node → List ℕ → Option Errno
setxattr_fault None name = Some ENOENT
setxattr_fault (Some node) name =
    if is_some (get node.xattrs name) then None else (if nat_le 16 (len node.xattrs) then Some ENOSPC else None)

abbrev pub xattr_fault : Option Node → List ℕ → Option Errno
xattr_fault None name = Some ENOENT
xattr_fault (Some node) name = if is_some (get node.xattrs name) then None else Some ENODATA

abbrev pub migrate_fault : ℕ → Tree → Fid → ℕ → ℕ → Option Errno
migrate_fault targets t directory count index =
    first_fault (parent_fault (get t.nodes directory))
    (first_fault (if same_fid directory root_fid then Some EINVAL else stripes_fault targets count index)
    (if nat_lt 32 (len (names_of t directory)) then Some EFBIG else None))

-- a new node
abbrev pub create_fault : ℕ → Tree → Fid → List ℕ → Fid → Option (ℕ × ℕ) → Option Errno
create_fault targets t parent name fid stripes =
    first_fault (client_fault targets fid) (first_fault (layout_fault targets stripes) (first_fault (parent_fault (get t.nodes parent))
    (first_fault (taken_fault (named t parent name)) (taken_fault (get t.nodes fid)))))

-- the first check of an operation that fails
abbrev pub op_fault : ℕ → Tree → Op → Option Errno
op_fault targets t (ops.Create parent name fid) = create_fault targets t parent name fid None
op_fault targets t (ops.Mkdir parent name fid stripes) = create_fault targets t parent name fid stripes
op_fault targets t (ops.Link parent name fid) =
    first_fault (parent_fault (get t.nodes parent)) (first_fault (taken_fault (named t parent name)) (link_fault (get t.nodes fid)))
op_fault targets t (ops.Unlink parent name) =
    first_fault (parent_fault (get t.nodes parent)) (found_fault (named t parent name) (λ child. file_fault (get t.nodes child)))
op_fault targets t (ops.Rmdir parent name) =
    first_fault (parent_fault (get t.nodes parent)) (found_fault (named t parent name)
    (λ child. first_fault (directory_fault (get t.nodes child)) (empty_fault (names_of t child))))
op_fault targets t (ops.Rename parent name to_parent to_name) =
    first_fault (parent_fault (get t.nodes parent)) (found_fault (named t parent name) (moved_fault t parent name to_parent to_name))
op_fault targets t (ops.SetAttr fid mode uid gid) = absent_fault (get t.nodes fid)
op_fault targets t (ops.SetXattr fid name value) = setxattr_fault (get t.nodes fid) name
op_fault targets t (ops.DelXattr fid name) = xattr_fault (get t.nodes fid) name
op_fault targets t (ops.Migrate directory count index) = migrate_fault targets t directory count index
op_fault targets t (ops.Lookup parent name) = first_fault (parent_fault (get t.nodes parent)) (absent_fault (named t parent name))
op_fault targets t (ops.GetAttr fid) = absent_fault (get t.nodes fid)
op_fault targets t (ops.GetXattr fid name) = xattr_fault (get t.nodes fid) name

-- CHANGES

-- one link less: a directory, or a file whose last link it was, is gone
abbrev pub released : Fid → Option Node → List Change
released fid None = []
released fid (Some node) =
    if node.dir || nat_le node.links 1 then DropNode fid ∷ [] else PutNode fid (record node { links = node.links - 1 }) ∷ []

abbrev pub changed_node : Fid → Option Node → (Node → Node) → List Change
changed_node fid None change = []
changed_node fid (Some node) change = PutNode fid (change node) ∷ []

-- a directory that changes its parent
abbrev pub moved_node : Fid → Fid → Fid → Option Node → List Change
moved_node parent to_parent fid node =
    if is_dir node && not (same_fid parent to_parent) then changed_node fid node (λ n. record n { parent = to_parent }) else []

abbrev pub replaced : Tree → Option Fid → List Change
replaced t None = []
replaced t (Some old) = released old (get t.nodes old)

abbrev pub same_node : Fid → Option Fid → Bool
same_node moved None = false
same_node moved (Some old) = same_fid moved old

abbrev pub renamed : Tree → Fid → List ℕ → Fid → List ℕ → Option Fid → List Change
renamed t parent name to_parent to_name None = []
renamed t parent name to_parent to_name (Some moved) =
    if same_place parent name to_parent to_name || same_node moved (named t to_parent to_name) then []
    else DropName parent name ∷ (replaced t (named t to_parent to_name)
    ++ (PutName to_parent to_name moved ∷ moved_node parent to_parent moved (get t.nodes moved)))

abbrev pub new_layout : Fid → Option (ℕ × ℕ) → List Change
new_layout fid None = NewLayout fid 0 0 ∷ []
new_layout fid (Some stripes) = NewLayout fid stripes.0 stripes.1 ∷ []

abbrev pub unlinked : Tree → Fid → List ℕ → Option Fid → List Change
unlinked t parent name None = []
unlinked t parent name (Some child) = DropName parent name ∷ released child (get t.nodes child)

-- what an operation changes where no check fails
abbrev pub op_changes : Tree → Op → List Change
op_changes t (ops.Create parent name fid) = PutNode fid file_node ∷ PutName parent name fid ∷ []
op_changes t (ops.Mkdir parent name fid stripes) = PutNode fid (directory_in parent) ∷ PutName parent name fid ∷ new_layout fid stripes
op_changes t (ops.Link parent name fid) = PutName parent name fid ∷ changed_node fid (get t.nodes fid) (λ n. record n { links = n.links + 1 })
op_changes t (ops.Unlink parent name) = unlinked t parent name (named t parent name)
op_changes t (ops.Rmdir parent name) = unlinked t parent name (named t parent name)
op_changes t (ops.Rename parent name to_parent to_name) = renamed t parent name to_parent to_name (named t parent name)
op_changes t (ops.SetAttr fid mode uid gid) = changed_node fid (get t.nodes fid) (λ n. record n { mode = mode; uid = uid; gid = gid })
op_changes t (ops.SetXattr fid name value) = changed_node fid (get t.nodes fid) (λ n. record n { xattrs = insert n.xattrs name value })
op_changes t (ops.DelXattr fid name) = changed_node fid (get t.nodes fid) (λ n. record n { xattrs = remove n.xattrs name })
op_changes t (ops.Migrate directory count index) = NextLayout directory count index ∷ MoveNames directory ∷ []
op_changes t (ops.Lookup parent name) = []
op_changes t (ops.GetAttr fid) = []
op_changes t (ops.GetXattr fid name) = []

-- REPLIES

abbrev pub fid_reply : Option Fid → Reply
fid_reply None = replies.Err ENOENT
fid_reply (Some fid) = replies.Fid fid

abbrev pub attr_reply : Option Node → Reply
attr_reply None = replies.Err ENOENT
attr_reply (Some node) = replies.Attr node.dir node.mode node.uid node.gid node.links

abbrev pub value_reply : Option (List ℕ) → Reply
value_reply None = replies.Err ENODATA
value_reply (Some value) = replies.Value value

abbrev pub xattr_reply : Option Node → List ℕ → Reply
xattr_reply None name = replies.Err ENOENT
xattr_reply (Some node) name = value_reply (get node.xattrs name)

-- what an operation answers where no check fails
abbrev pub op_reply : Tree → Op → Reply
op_reply t (ops.Lookup parent name) = fid_reply (named t parent name)
op_reply t (ops.GetAttr fid) = attr_reply (get t.nodes fid)
op_reply t (ops.GetXattr fid name) = xattr_reply (get t.nodes fid) name
op_reply t _ = replies.Ok

-- the change and the reply, or the fault alone
abbrev pub checked : Option Errno → Tree → Tree × Reply → Tree × Reply
checked None old done = done
checked (Some e) old done = (old, replies.Err e)

-- the tree after an operation in a cluster of so many targets, and the reply
abbrev pub step : ℕ → Tree → Op → Tree × Reply
step targets t op = checked (op_fault targets t op) t (changed_all t (op_changes t op), op_reply t op)
