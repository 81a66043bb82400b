-- The one text of a tree.
use Rattle.std.specs.Prelude.{ℕ, ◌+◌, List, [], ◌∷◌, ◌++◌, codes}
use Rattle.std.specs.List.{flat_map}
use Rattle.std.specs.Fmt.{decimal}
use Rattle.std.specs.FinMap.{entries, len}
use Rattle.fid_space.specs.declared.fid.Fid.{Fid}
use Rattle.fid_space.specs.FidText.{fid_text}
use Rattle.tree_model.specs.declared.node.Node.{Node}
use Rattle.tree_model.specs.Names.{name_word}
use Rattle.fid_space.specs.HexText.{hex_text}
use Rattle.tree_model.specs.ReplyText.{attr_text}
use Rattle.tree_model.specs.Tree.{Tree, Names}

abbrev pub node_text : Fid × Node → List ℕ
node_text e = codes "node " ++ (fid_text e.0 ++ (codes " " ++ (attr_text e.1.dir e.1.mode e.1.uid e.1.gid e.1.links ++ codes "\n")))

abbrev pub entry_text : Fid → List ℕ × Fid → List ℕ
entry_text directory e = codes "entry " ++ (fid_text directory ++ (codes " " ++ (name_word e.0 ++ (codes " " ++ (fid_text e.1 ++ codes "\n")))))

-- by the bytes of the names
abbrev pub names_text : Fid × Names → List ℕ
names_text e = flat_map (entry_text e.0) (entries e.1)

abbrev pub xattr_text : Fid → List ℕ × List ℕ → List ℕ
xattr_text fid e = codes "xattr " ++ (fid_text fid ++ (codes " " ++ (name_word e.0 ++ (codes " " ++ (hex_text e.1 ++ codes "\n")))))

abbrev pub xattrs_text : Fid × Node → List ℕ
xattrs_text e = flat_map (xattr_text e.0) (entries e.1.xattrs)

-- how many entries the directories have
abbrev pub entry_count : List (Fid × Names) → ℕ
entry_count [] = 0
entry_count (e ∷ es) = len e.1 + entry_count es

-- the first line: how many nodes, and how many entries
abbrev pub tree_head : ℕ → ℕ → List ℕ
tree_head nodes entries = codes "tree " ++ (decimal nodes ++ (codes " " ++ (decimal entries ++ codes "\n")))

-- nodes by their FIDs, entries by directory and name, extended attributes by FID and name
unfoldable pub tree_text : Tree → List ℕ
tree_text t =
    tree_head (len t.nodes) (entry_count (entries t.entries))
    ++ (flat_map node_text (entries t.nodes) ++ (flat_map names_text (entries t.entries) ++ flat_map xattrs_text (entries t.nodes)))
