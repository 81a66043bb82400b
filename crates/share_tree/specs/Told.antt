-- What objects tell of a tree: the nodes, the entries and the extended attributes, each list by the FIDs of the
-- objects and then by names.
use Rattle.std.specs.Prelude.{ℕ, Bool, true, false, List, [], map, Option, Some, None}
use Rattle.std.specs.List.{flat_map}
use Rattle.std.specs.Option.{option_map, unwrap_or}
use Rattle.std.specs.FinMap.{entries, empty}
use Rattle.byte_grammar.specs.Values.{◌>>=◌, part_at}
use Rattle.fid_space.specs.declared.fid.Fid.{Fid}
use Rattle.tree_model.specs.declared.node.Node.{Node}
use Rattle.tree_model.specs.declared.reply.Reply.{Reply}
use Rattle.tree_model.specs.declared.reply.Reply.TheVariants as replies
use Rattle.tree_model.specs.Tree.{no_fid}
use Rattle.out_update.specs.declared.update.Update.{Update}
use Rattle.out_update.specs.declared.update.Kind.TheVariants as kind
use Rattle.out_update.specs.Spelling.{fid_bytes}
use Rattle.out_update.specs.Values.{fid_value}
use Rattle.object_store.specs.declared.body.Body.{Body}
use Rattle.object_store.specs.declared.body.ObjectKind.{ObjectKind}
use Rattle.object_store.specs.declared.body.ObjectKind.TheVariants.{File, Directory, Stripe}
use Rattle.object_store.specs.Objects.{Object, ObjectMap}
use Rattle.object_store.specs.Following.{Entry, Attribute, directory_of}
use Rattle.object_store.specs.Reads.{reads}

-- ---- nodes

-- a FID as its 16 bytes tell it: itself, where its numbers fit
abbrev pub told_fid : Fid → Fid
told_fid f = unwrap_or (option_map (λ v. v.0) (fid_value (fid_bytes f))) no_fid

abbrev pub file_node : ℕ → ℕ → ℕ → ℕ → Node
file_node mode uid gid links = record { dir = false; mode = mode; uid = uid; gid = gid; links = links; parent = no_fid; xattrs = empty }

abbrev pub directory_node : ℕ → ℕ → ℕ → ℕ → Fid → Node
directory_node mode uid gid links parent = record { dir = true; mode = mode; uid = uid; gid = gid; links = links; parent = parent; xattrs = empty }

-- the node that a body is, without attributes; a stripe is none
abbrev pub node_in : Body → Option Node
node_in b = by_kind b.kind
  where
    by_kind : ObjectKind → Option Node
    by_kind File = Some (file_node b.mode b.uid b.gid b.links)
    by_kind Directory = Some (directory_node b.mode b.uid b.gid b.links (told_fid b.fid))
    by_kind Stripe = None

-- ---- entries and attributes

-- what the entries of an object say: the object, its directory, the name and the child
abbrev pub entries_in : Fid × Object → List Entry
entries_in o = map (λ e. (o.0, directory_of o.0 o.1.body, e.0, e.1)) (entries o.1.entries)

abbrev pub all_entries : ObjectMap → List Entry
all_entries m = flat_map entries_in (entries m)

abbrev pub attributes_in : Fid × Object → List Attribute
attributes_in o = map (λ a. (o.0, a.0, a.1)) (entries o.1.attributes)

abbrev pub all_attributes : ObjectMap → List Attribute
all_attributes m = flat_map attributes_in (entries m)

-- ---- how the parent of a directory is asked for

abbrev pub question : Fid → Update
question f = record { kind = kind.AttrGet; batch = 0; fid = f; params = [] }

-- In the 48 bytes of a body the FID stands at byte 28.
unfoldable pub fid_in : List ℕ → Option Fid
fid_in body = do
  other ← part_at 28 body
  fid ← fid_value other.1
  Some fid.0

abbrev pub parent_in : ObjectMap → Fid → Fid
parent_in m f = unwrap_or (fid_in (reads m (question f)).body) no_fid

-- the node with these attributes, and this parent if it is a directory
abbrev pub node_from : Reply → Fid → Option Node
node_from (replies.Attr dir mode uid gid links) parent = Some (by_dir dir)
  where
    by_dir : Bool → Node
    by_dir true = directory_node mode uid gid links parent
    by_dir false = file_node mode uid gid links
node_from _ parent = None
