-- What is checked of each operation, and what is settled where no check fails.
use Rattle.std.specs.Prelude.{bit_and, ℕ, suc, ◌==◌, ◌≤◌, ◌&&◌, Bool, false, not, nat_le, nat_lt, length, is_some, Option, Some, None, if◌then◌else◌, List, [], ◌∷◌, ◌++◌}
use Rattle.std.specs.List.{flat_map}
use Rattle.std.specs.FinMap.{entries, from_entries}
use Rattle.fid_space.specs.declared.fid.Fid.{Fid}
use Rattle.out_update.specs.declared.update.Update.{Update}
use Rattle.tree_model.specs.declared.errno.Errno.{Errno}
use Rattle.tree_model.specs.declared.errno.Errno.TheVariants.{EPERM, ENOENT, ENOTDIR, EISDIR, EINVAL, EFBIG, ENOTEMPTY, ENOSPC, EMLINK, ENODATA}
use Rattle.tree_model.specs.declared.op.Op.{Op}
use Rattle.tree_model.specs.declared.op.Op.TheVariants as ops
use Rattle.tree_model.specs.declared.reply.Reply.{Reply}
use Rattle.tree_model.specs.declared.reply.Reply.TheVariants as replies
use Rattle.tree_model.specs.Fids.{name_cmp}
use Rattle.tree_model.specs.Tree.{same_fid, root_fid}
use Rattle.tree_model.specs.Step.{client_fault, stripes_fault, layout_fault, taken_fault, absent_fault, kind_fault, same_place, fid_reply}
use Rattle.striped_dir.specs.declared.layout.Layout.{Layout}
use Rattle.striped_dir.specs.Layouts.{laid}
use Rattle.striped_dir.specs.Parts.{made_stripes, destroy_of}
use Rattle.object_store.specs.Meaning.{is_directory}
use Rattle.plan_base.specs.declared.seen.Seen.{Seen}
use Rattle.plan_base.specs.declared.outcome.Outcome.{Outcome}
use Rattle.plan_base.specs.Asks.{Asks, AskDirectory, AskNode, AskValue, AskEntry, AskEmpty, AskNames, AskWalk, Refuse, Settle}
use Rattle.plan_base.specs.Places.{node_place, entry_at, stripes_made, stripes_gone}
use Rattle.plan_base.specs.Updates.{Placed, on_target, create_update, insert_update, delete_update, xattr_set_update, ref_del_update, ref_add_update, xattr_del_update, attr_set_update, parent_set_update, layout_set_update, file_body, directory_body}

-- ---- checks

abbrev pub check : Option Errno → Asks → Asks
check None next = next
check (Some e) next = Refuse e

abbrev pub found : Option Fid → (Fid → Asks) → Asks
found None next = Refuse ENOENT
found (Some child) next = next child

-- a node that is there
abbrev pub found_node : Option Seen → (Seen → Asks) → Asks
found_node None next = Refuse ENOENT
found_node (Some seen) next = next seen

-- a child that is a directory; a child that isn't there counts as a file
abbrev pub as_directory : Option Seen → (Seen → Asks) → Asks
as_directory None next = Refuse ENOTDIR
as_directory (Some seen) next = if is_directory seen.body.kind then next seen else Refuse ENOTDIR

abbrev pub empty_fault : Bool → Option Errno
empty_fault is_empty = if is_empty then None else Some ENOTEMPTY

-- a new attribute beside 16 others
abbrev pub space_fault : Seen → Option (List ℕ) → Option Errno
space_fault seen value = if is_some value then None else (if nat_le 16 seen.attributes then Some ENOSPC else None)

-- ---- what is settled

abbrev pub settled : Reply → List Placed → Outcome
settled reply placed = record { reply = reply; placed = placed }

abbrev pub entry_in : ℕ → Fid → Seen → List ℕ → ℕ × Fid
entry_in targets directory seen name = entry_at targets directory (laid seen.body.layout) name

abbrev pub inserted : ℕ → ℕ → Fid → Seen → List ℕ → Fid → Placed
inserted targets batch directory seen name child =
    on_target (entry_in targets directory seen name).0 (insert_update batch (entry_in targets directory seen name).1 name child)

abbrev pub deleted : ℕ → ℕ → Fid → Seen → List ℕ → Placed
deleted targets batch directory seen name =
    on_target (entry_in targets directory seen name).0 (delete_update batch (entry_in targets directory seen name).1 name)

-- a layout of a new directory
abbrev pub first_layout : Option (ℕ × ℕ) → Layout
first_layout None = record { count = 0; start = 0; generation = 0 }
first_layout (Some stripes) = if stripes.0 == 0 then record { count = 0; start = 0; generation = 0 } else record { count = stripes.0; start = stripes.1; generation = 0 }

-- ---- operations

-- a new node: its name and its FID mustn't be there
abbrev pub new_asks : Fid → List ℕ → Fid → (Seen → Outcome) → Asks
new_asks parent name fid outcome =
    AskDirectory parent (λ seen. AskEntry parent seen.body.layout name (λ there. check (taken_fault there) (AskNode fid (λ node. check (taken_fault node) (Settle (outcome seen))))))

abbrev pub create_asks : ℕ → ℕ → Fid → List ℕ → Fid → Asks
create_asks targets batch parent name fid =
    check (client_fault targets fid) (new_asks parent name fid (λ seen.
    settled replies.Ok (on_target (node_place targets fid) (create_update batch fid file_body) ∷ inserted targets batch parent seen name fid ∷ [])))

abbrev pub mkdir_asks : ℕ → ℕ → Fid → List ℕ → Fid → Option (ℕ × ℕ) → Asks
mkdir_asks targets batch parent name fid stripes =
    check (client_fault targets fid) (check (layout_fault targets stripes) (new_asks parent name fid (λ seen.
    settled replies.Ok (on_target (node_place targets fid) (create_update batch fid (directory_body parent (first_layout stripes)))
    ∷ (made_stripes targets fid (laid (first_layout stripes)) batch ++ (inserted targets batch parent seen name fid ∷ []))))))

abbrev pub rmdir_asks : ℕ → ℕ → Fid → List ℕ → Asks
rmdir_asks targets batch parent name =
    AskDirectory parent (λ seen. AskEntry parent seen.body.layout name (λ there. found there (λ child. AskNode child (λ node. as_directory node (λ old.
    AskEmpty child old.body.layout (λ is_empty. check (empty_fault is_empty) (Settle (settled replies.Ok
    (deleted targets batch parent seen name ∷ (stripes_gone targets child (laid old.body.layout) batch
    ++ (on_target (node_place targets child) (destroy_of batch child) ∷ [])))))))))))

abbrev pub setxattr_asks : ℕ → ℕ → Fid → List ℕ → List ℕ → Asks
setxattr_asks targets batch fid name value =
    AskNode fid (λ node. found_node node (λ seen. AskValue fid name (λ old. check (space_fault seen old)
    (Settle (settled replies.Ok (on_target (node_place targets fid) (xattr_set_update batch fid name value) ∷ []))))))

-- ---- rename

abbrev pub is_dir_seen : Option Seen → Bool
is_dir_seen None = false
is_dir_seen (Some seen) = is_directory seen.body.kind

abbrev pub layout_seen : Option Seen → Layout
layout_seen None = record { count = 0; start = 0; generation = 0 }
layout_seen (Some seen) = seen.body.layout

-- a rename: from here a name goes to there, and stands for the moved node
pub record Move : Type 0 where
  pub targets : ℕ
  pub batch : ℕ
  pub parent : Fid
  pub from : Seen
  pub name : List ℕ
  pub to_parent : Fid
  pub to : Seen
  pub to_name : List ℕ
  pub moved : Fid
  pub node : Option Seen

-- a node whose name goes: a directory with its stripes, or a link of a file
abbrev pub released : ℕ → ℕ → Fid → Option Seen → List Placed
released targets batch fid seen =
    if is_dir_seen seen
    then stripes_gone targets fid (laid (layout_seen seen)) batch ++ (on_target (node_place targets fid) (destroy_of batch fid) ∷ [])
    else on_target (node_place targets fid) (ref_del_update batch fid) ∷ []

abbrev pub changes_parent : Option Seen → Fid → Fid → Bool
changes_parent node parent to_parent = is_dir_seen node && not (same_fid parent to_parent)

-- a directory that gets another parent
abbrev pub parent_change : ℕ → ℕ → Fid → Option Seen → Fid → Fid → List Placed
parent_change targets batch moved node parent to_parent =
    if changes_parent node parent to_parent then on_target (node_place targets moved) (parent_set_update batch moved to_parent) ∷ [] else []

unfoldable pub moved_with : Move → List Placed → Outcome
moved_with m gone =
    settled replies.Ok (deleted m.targets m.batch m.parent m.from m.name ∷ (gone ++ (inserted m.targets m.batch m.to_parent m.to m.to_name m.moved ∷ parent_change m.targets m.batch m.moved m.node m.parent m.to_parent)))

abbrev pub over_asks : Move → Fid → Asks
over_asks m old =
    if same_fid m.moved old then Settle (settled replies.Ok [])
    else AskNode old (λ other. check (kind_fault (is_dir_seen m.node) (is_dir_seen other))
    (if is_dir_seen other then AskEmpty old (layout_seen other) (λ is_empty. check (empty_fault is_empty) (Settle (moved_with m (released m.targets m.batch old other))))
    else Settle (moved_with m (released m.targets m.batch old other))))

abbrev pub replace_asks : Move → Option Fid → Asks
replace_asks m None = Settle (moved_with m [])
replace_asks m (Some old) = over_asks m old

abbrev pub place_asks : Move → Asks
place_asks m = AskEntry m.to_parent m.to.body.layout m.to_name (replace_asks m)

abbrev pub move_asks : Move → Asks
move_asks m = if changes_parent m.node m.parent m.to_parent then AskWalk m.moved m.to_parent (place_asks m) else place_asks m

abbrev pub rename_asks : ℕ → ℕ → Fid → List ℕ → Fid → List ℕ → Asks
rename_asks targets batch parent name to_parent to_name =
    AskDirectory parent (λ from. AskEntry parent from.body.layout name (λ there. found there (λ moved. AskDirectory to_parent (λ to.
    if same_place parent name to_parent to_name then Settle (settled replies.Ok [])
    else AskNode moved (λ node. move_asks (record {
      targets = targets;
      batch = batch;
      parent = parent;
      from = from;
      name = name;
      to_parent = to_parent;
      to = to;
      to_name = to_name;
      moved = moved;
      node = node;
    }))))))

abbrev pub lookup_asks : Fid → List ℕ → Asks
lookup_asks parent name =
    AskDirectory parent (λ seen. AskEntry parent seen.body.layout name (λ there. found there (λ child. Settle (settled (replies.Fid child) []))))

-- a file that gets one link more
abbrev pub link_fault : Option Seen → Option Errno
link_fault None = Some ENOENT
link_fault (Some seen) = if is_directory seen.body.kind then Some EPERM else (if nat_le 65000 seen.body.links then Some EMLINK else None)

abbrev pub link_asks : ℕ → ℕ → Fid → List ℕ → Fid → Asks
link_asks targets batch parent name fid =
    AskDirectory parent (λ seen. AskEntry parent seen.body.layout name (λ there. check (taken_fault there) (AskNode fid (λ node. check (link_fault node)
    (Settle (settled replies.Ok (on_target (node_place targets fid) (ref_add_update batch fid) ∷ inserted targets batch parent seen name fid ∷ [])))))))

abbrev pub unlink_asks : ℕ → ℕ → Fid → List ℕ → Asks
unlink_asks targets batch parent name =
    AskDirectory parent (λ seen. AskEntry parent seen.body.layout name (λ there. found there (λ child. AskNode child (λ node.
    check (if is_dir_seen node then Some EISDIR else None)
    (Settle (settled replies.Ok (deleted targets batch parent seen name ∷ on_target (node_place targets child) (ref_del_update batch child) ∷ [])))))))

abbrev pub setattr_asks : ℕ → ℕ → Fid → ℕ → ℕ → ℕ → Asks
setattr_asks targets batch fid mode uid gid =
    AskNode fid (λ node. check (absent_fault node) (Settle (settled replies.Ok (on_target (node_place targets fid) (attr_set_update batch fid mode uid gid) ∷ []))))

abbrev pub delxattr_asks : ℕ → ℕ → Fid → List ℕ → Asks
delxattr_asks targets batch fid name =
    AskNode fid (λ node. found_node node (λ seen. AskValue fid name (λ old. check (if is_some old then None else Some ENODATA)
    (Settle (settled replies.Ok (on_target (node_place targets fid) (xattr_del_update batch fid name) ∷ []))))))

abbrev pub attr_reply : Seen → Reply
attr_reply seen = replies.Attr (is_directory seen.body.kind) (bit_and seen.body.mode 0xffff) seen.body.uid seen.body.gid seen.body.links

abbrev pub getattr_asks : Fid → Asks
getattr_asks fid = AskNode fid (λ node. found_node node (λ seen. Settle (settled (attr_reply seen) [])))

abbrev pub found_value : Option (List ℕ) → Asks
found_value None = Refuse ENODATA
found_value (Some value) = Settle (settled (replies.Value value) [])

abbrev pub getxattr_asks : Fid → List ℕ → Asks
getxattr_asks fid name = AskNode fid (λ node. found_node node (λ seen. AskValue fid name found_value))

-- ---- migrate

-- one generation more; the last one stays
abbrev pub next_generation : ℕ → ℕ
next_generation generation = if nat_lt generation 0x0ffffffe then suc generation else generation

-- the layout after another one
abbrev pub next_layout : Layout → ℕ → ℕ → Layout
next_layout old count index =
    if count == 0 then record { count = 0; start = 0; generation = next_generation old.generation }
    else record { count = count; start = index; generation = next_generation old.generation }

-- a migrate: a directory with one layout gets another
pub record Migration : Type 0 where
  pub targets : ℕ
  pub batch : ℕ
  pub directory : Fid
  pub old : Layout
  pub new : Layout

abbrev pub taken_from : Migration → List ℕ → Placed
taken_from m name =
    let at = entry_at m.targets m.directory (laid m.old) name in
    on_target at.0 (delete_update m.batch at.1 name)

abbrev pub brought_to : Migration → List ℕ → Fid → Placed
brought_to m name child =
    let at = entry_at m.targets m.directory (laid m.new) name in
    on_target at.0 (insert_update m.batch at.1 name child)

-- an entry leaves a plain directory, and comes to its new place
abbrev pub moved_entry : Migration → List ℕ × Fid → List Placed
moved_entry m e = if m.old.count == 0 then taken_from m e.0 ∷ brought_to m e.0 e.1 ∷ [] else brought_to m e.0 e.1 ∷ []

-- by the bytes of their names; those of a plain directory that stays plain stand where they are
abbrev pub moved_entries : Migration → List (List ℕ × Fid) → List Placed
moved_entries m told =
    if (m.old.count == 0) && (m.new.count == 0) then [] else flat_map (moved_entry m) (entries (from_entries {R = name_cmp} told))

unfoldable pub migrated : Migration → List (List ℕ × Fid) → Outcome
migrated m told =
    settled replies.Ok (on_target (node_place m.targets m.directory) (layout_set_update m.batch m.directory m.new)
    ∷ (stripes_made m.targets m.directory (laid m.new) m.batch ++ (moved_entries m told ++ stripes_gone m.targets m.directory (laid m.old) m.batch)))

abbrev pub migrate_fault : ℕ → Fid → ℕ → ℕ → Option Errno
migrate_fault targets directory count index = if same_fid directory root_fid then Some EINVAL else stripes_fault targets count index

abbrev pub many_fault : List (List ℕ × Fid) → Option Errno
many_fault told = if nat_lt 32 (length told) then Some EFBIG else None

abbrev pub migrate_asks : ℕ → ℕ → Fid → ℕ → ℕ → Asks
migrate_asks targets batch directory count index =
    AskDirectory directory (λ seen. check (migrate_fault targets directory count index)
    (AskNames directory seen.body.layout (λ told. check (many_fault told) (Settle (migrated (record {
      targets = targets;
      batch = batch;
      directory = directory;
      old = seen.body.layout;
      new = next_layout seen.body.layout count index;
    }) told)))))

abbrev pub asks : ℕ → ℕ → Op → Asks
asks targets batch (ops.Create parent name fid) = create_asks targets batch parent name fid
asks targets batch (ops.Mkdir parent name fid stripes) = mkdir_asks targets batch parent name fid stripes
asks targets batch (ops.Rmdir parent name) = rmdir_asks targets batch parent name
asks targets batch (ops.SetXattr fid name value) = setxattr_asks targets batch fid name value
asks targets batch (ops.Lookup parent name) = lookup_asks parent name
asks targets batch (ops.Rename parent name to_parent to_name) = rename_asks targets batch parent name to_parent to_name
asks targets batch (ops.Link parent name fid) = link_asks targets batch parent name fid
asks targets batch (ops.Unlink parent name) = unlink_asks targets batch parent name
asks targets batch (ops.SetAttr fid mode uid gid) = setattr_asks targets batch fid mode uid gid
asks targets batch (ops.DelXattr fid name) = delxattr_asks targets batch fid name
asks targets batch (ops.GetAttr fid) = getattr_asks fid
asks targets batch (ops.GetXattr fid name) = getxattr_asks fid name
asks targets batch (ops.Migrate directory count index) = migrate_asks targets batch directory count index

-- stripes that a cluster may have
abbrev pub AreSmall : Option (ℕ × ℕ) → Type 0
AreSmall None = Unit {0}
AreSmall (Some stripes) = (stripes.0 ≤ 16) × (stripes.1 ≤ 15)
