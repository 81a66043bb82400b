-- The image of a target, as its disk keeps it: a magic, how many operations were accepted, and these in
-- their order. Numbers are little-endian.
use Rattle.std.specs.Prelude.{◌≡◌, ◌+◌, ◌==◌, nat_lt, ℕ, zero, suc, length, drop, List, [], ◌∷◌, ◌++◌, if◌then◌else◌, Option, Some, None, Result, Ok, Err}
use Rattle.std.specs.List.{flat_map}
use Rattle.std.specs.Option.{option_map}
use Rattle.byteorder.specs.Endian.{little_bytes, little_number}
use Rattle.fid_space.specs.declared.fid.Fid.{Fid}
use Rattle.tree_model.specs.declared.op.Op.{Op}
use Rattle.tree_model.specs.declared.op.Op.TheVariants as ops
use Rattle.tree_model.specs.declared.reply.Reply.{Reply}
use Rattle.tree_model.specs.declared.reply.Reply.TheVariants as replies
use Rattle.tree_model.specs.Errnos.{errno_code}
use Rattle.tree_model.specs.History.{Item}
use Rattle.target_disk.specs.Tables.{Saved, opened}

abbrev pub image_magic : ℕ
image_magic = 0x444e4530

-- a number of 32 bits, and one of 64
unfoldable pub word32 : ℕ → List ℕ
word32 n = little_bytes 4 n

unfoldable pub word64 : ℕ → List ℕ
word64 n = little_bytes 8 n

abbrev pub fid_bytes : Fid → List ℕ
fid_bytes f = word64 f.seq ++ (word32 f.oid ++ word32 f.ver)

-- 0, or the number of the error; what a read answers is no reply of an operation that is kept
abbrev pub reply_code : Reply → ℕ
reply_code replies.Ok = 0
reply_code (replies.Fid f) = 0
reply_code (replies.Attr dir mode uid gid links) = 0
reply_code (replies.Value bytes) = 0
reply_code (replies.Err e) = errno_code e

-- the name's length, the parent, the file and the name; no other operation is accepted yet
abbrev pub op_bytes : Op → List ℕ
op_bytes (ops.Create parent name fid) = word32 (length name) ++ (fid_bytes parent ++ (fid_bytes fid ++ name))
op_bytes _ = []

-- an operation: its number, its client, the code of its reply, and what it asked for
unfoldable pub item_bytes : Item → List ℕ
item_bytes i = word32 i.request.number ++ (word32 i.request.client ++ (word32 (reply_code i.reply) ++ op_bytes i.request.op))

abbrev pub items_bytes : List Item → List ℕ
items_bytes items = flat_map item_bytes items

unfoldable pub head_bytes : ℕ → List ℕ
head_bytes count = word32 image_magic ++ word32 count

-- the image of what was accepted
abbrev pub image_of : List Item → List ℕ
image_of items = head_bytes (length items) ++ items_bytes items

-- READING

-- the number of 32 bits at a place
unfoldable pub number_at : ℕ → List ℕ → ℕ
number_at at bytes = little_number 4 (drop at bytes)

-- how long the operation is that these bytes begin with, where it is there whole
unfoldable pub item_len : List ℕ → Option ℕ
item_len bytes =
    if nat_lt (length bytes) 48 then None
    else (if nat_lt (length bytes) (48 + number_at 12 bytes) then None else Some (48 + number_at 12 bytes))

abbrev pub with_number : ℕ → Result (List ℕ) ℕ → Result (List ℕ) ℕ
with_number n (Ok ns) = Ok (n ∷ ns)
with_number n (Err place) = Err place

abbrev pub after_item : ℕ → ℕ → Option (Result (List ℕ) ℕ) → Result (List ℕ) ℕ
after_item end n None = Err end
after_item end n (Some rest) = with_number n rest

-- the numbers of so many operations, with nothing behind them; else the place where bytes are missing or
-- left, which is the image's end
unfoldable pub numbers_from : ℕ → ℕ → List ℕ → Result (List ℕ) ℕ
numbers_from end zero bytes = if length bytes == 0 then Ok [] else Err end
numbers_from end (suc count) bytes = after_item end (number_at 0 bytes) (option_map (λ len. numbers_from end count (drop len bytes)) (item_len bytes))

-- the numbers of the operations that an image holds, or the place of its first field that can't stand
unfoldable pub numbers_in : List ℕ → Result (List ℕ) ℕ
numbers_in image =
    if nat_lt (length image) 4 then Err (length image)
    else (if number_at 0 image == image_magic
    then (if nat_lt (length image) 8 then Err (length image) else numbers_from (length image) (number_at 4 image) (drop 8 image))
    else Err 0)

-- HELD

-- a disk's bytes hold what was accepted: they open as its image
abbrev pub Holds : List ℕ → List Item → Type 0
Holds bytes items = (saved : Saved) × (opened bytes ≡ Some saved) × (saved.bytes ≡ image_of items)
