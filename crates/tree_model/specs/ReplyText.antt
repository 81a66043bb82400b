-- The one text of a reply.
use Rattle.std.specs.Prelude.{ℕ, ◌/◌, ◌%◌, Bool, true, false, List, ◌++◌, codes}
use Rattle.std.specs.Fmt.{decimal}
use Rattle.fid_space.specs.FidText.{fid_text}
use Rattle.fid_space.specs.HexText.{hex_text}
use Rattle.tree_model.specs.declared.reply.Reply.{Reply}
use Rattle.tree_model.specs.declared.reply.Reply.TheVariants as replies
use Rattle.tree_model.specs.declared.errno.Errno.{Errno}
use Rattle.tree_model.specs.declared.errno.Errno.TheVariants.{EPERM, ENOENT, EEXIST, ENOTDIR, EISDIR, EINVAL, EFBIG, ENOSPC, EMLINK, ENOTEMPTY, ELOOP, ENODATA}

abbrev pub errno_word : Errno → List ℕ
errno_word EPERM = codes "EPERM"
errno_word ENOENT = codes "ENOENT"
errno_word EEXIST = codes "EEXIST"
errno_word ENOTDIR = codes "ENOTDIR"
errno_word EISDIR = codes "EISDIR"
errno_word EINVAL = codes "EINVAL"
errno_word EFBIG = codes "EFBIG"
errno_word ENOSPC = codes "ENOSPC"
errno_word EMLINK = codes "EMLINK"
errno_word ENOTEMPTY = codes "ENOTEMPTY"
errno_word ELOOP = codes "ELOOP"
errno_word ENODATA = codes "ENODATA"

abbrev pub kind_word : Bool → List ℕ
kind_word true = codes "dir"
kind_word false = codes "file"

-- a mode in four octal digits
abbrev pub mode_text : ℕ → List ℕ
mode_text mode = decimal (mode / 512 % 8) ++ (decimal (mode / 64 % 8) ++ (decimal (mode / 8 % 8) ++ decimal (mode % 8)))

-- what a node is, its mode, owner, group and links
abbrev pub attr_text : Bool → ℕ → ℕ → ℕ → ℕ → List ℕ
attr_text dir mode uid gid links =
    kind_word dir ++ (codes " " ++ (mode_text mode ++ (codes " " ++ (decimal uid ++ (codes " " ++ (decimal gid ++ (codes " " ++ decimal links)))))))

abbrev pub reply_text : Reply → List ℕ
reply_text replies.Ok = codes "OK"
reply_text (replies.Fid f) = fid_text f
reply_text (replies.Attr dir mode uid gid links) = attr_text dir mode uid gid links
reply_text (replies.Value bytes) = hex_text bytes
reply_text (replies.Err e) = errno_word e
