-- The one text of an operation: its words, parted by one space.
use Rattle.std.specs.Prelude.{◌≡◌, ◌≤◌, ◌<◌, ◌^◌, ℕ, true, length, List, [], ◌∷◌, codes, Option, Some, None}
use Rattle.std.specs.List.{join_with_byte}
use Rattle.std.specs.Fmt.{decimal}
use Rattle.fid_space.specs.declared.fid.Fid.{Fid}
use Rattle.fid_space.specs.FidText.{fid_text, IsFid}
use Rattle.fid_space.specs.Places.{has_place}
use Rattle.tree_model.specs.Names.{AreBytes, IsName, name_word}
use Rattle.fid_space.specs.HexText.{hex_text}
use Rattle.tree_model.specs.declared.op.Op.{Op}
use Rattle.tree_model.specs.declared.op.Op.TheVariants as ops

-- the words that say how many stripes there are, and where the first one stands
abbrev pub stripes_words : Option (ℕ × ℕ) → List (List ℕ)
stripes_words None = []
stripes_words (Some stripes) = decimal stripes.0 ∷ decimal stripes.1 ∷ []

abbrev pub op_words : Op → List (List ℕ)
op_words (ops.Create parent name fid) = codes "create" ∷ fid_text parent ∷ name_word name ∷ fid_text fid ∷ []
op_words (ops.Mkdir parent name fid stripes) = codes "mkdir" ∷ fid_text parent ∷ name_word name ∷ fid_text fid ∷ stripes_words stripes
op_words (ops.Link parent name fid) = codes "link" ∷ fid_text parent ∷ name_word name ∷ fid_text fid ∷ []
op_words (ops.Unlink parent name) = codes "unlink" ∷ fid_text parent ∷ name_word name ∷ []
op_words (ops.Rmdir parent name) = codes "rmdir" ∷ fid_text parent ∷ name_word name ∷ []
op_words (ops.Rename parent name to_parent to_name) = codes "rename" ∷ fid_text parent ∷ name_word name ∷ fid_text to_parent ∷ name_word to_name ∷ []
op_words (ops.SetAttr fid mode uid gid) = codes "setattr" ∷ fid_text fid ∷ decimal mode ∷ decimal uid ∷ decimal gid ∷ []
op_words (ops.SetXattr fid name value) = codes "setxattr" ∷ fid_text fid ∷ name_word name ∷ hex_text value ∷ []
op_words (ops.DelXattr fid name) = codes "delxattr" ∷ fid_text fid ∷ name_word name ∷ []
op_words (ops.Migrate directory count index) = codes "migrate" ∷ fid_text directory ∷ decimal count ∷ decimal index ∷ []
op_words (ops.Lookup parent name) = codes "lookup" ∷ fid_text parent ∷ name_word name ∷ []
op_words (ops.GetAttr fid) = codes "getattr" ∷ fid_text fid ∷ []
op_words (ops.GetXattr fid name) = codes "getxattr" ∷ fid_text fid ∷ name_word name ∷ []

abbrev pub op_text : Op → List ℕ
op_text op = join_with_byte 32 (op_words op)

-- a FID that a text may name: it has a place in the cluster
abbrev pub IsPlaced : ℕ → Fid → Type 0
IsPlaced targets f = IsFid f × (has_place targets f ≡ true)

-- the value of an extended attribute
abbrev pub IsXattrValue : List ℕ → Type 0
IsXattrValue value = AreBytes value × (length value ≤ 4096)

abbrev pub AreStripes : Option (ℕ × ℕ) → Type 0
AreStripes None = Unit {0}
AreStripes (Some stripes) = (stripes.0 < 2 ^ 32) × (stripes.1 < 2 ^ 32)

-- what has a text, in a cluster of so many targets
abbrev pub IsOp : ℕ → Op → Type 0
IsOp targets (ops.Create parent name fid) = IsPlaced targets parent × IsName name × IsPlaced targets fid
IsOp targets (ops.Mkdir parent name fid stripes) = IsPlaced targets parent × IsName name × IsPlaced targets fid × AreStripes stripes
IsOp targets (ops.Link parent name fid) = IsPlaced targets parent × IsName name × IsPlaced targets fid
IsOp targets (ops.Unlink parent name) = IsPlaced targets parent × IsName name
IsOp targets (ops.Rmdir parent name) = IsPlaced targets parent × IsName name
IsOp targets (ops.Rename parent name to_parent to_name) = IsPlaced targets parent × IsName name × IsPlaced targets to_parent × IsName to_name
IsOp targets (ops.SetAttr fid mode uid gid) = IsPlaced targets fid × (mode ≤ 4095) × (uid < 2 ^ 32) × (gid < 2 ^ 32)
IsOp targets (ops.SetXattr fid name value) = IsPlaced targets fid × IsName name × IsXattrValue value
IsOp targets (ops.DelXattr fid name) = IsPlaced targets fid × IsName name
IsOp targets (ops.Migrate directory count index) = IsPlaced targets directory × (count < 2 ^ 32) × (index < 2 ^ 32)
IsOp targets (ops.Lookup parent name) = IsPlaced targets parent × IsName name
IsOp targets (ops.GetAttr fid) = IsPlaced targets fid
IsOp targets (ops.GetXattr fid name) = IsPlaced targets fid × IsName name
