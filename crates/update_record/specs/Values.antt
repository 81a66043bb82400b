-- The record that bytes spell, where they spell one. Nothing is judged here.
use Rattle.std.specs.Prelude.{ℕ, nat_lt, ◌==◌, if◌then◌else◌, List, [], ◌∷◌, Option, Some, None}
use Rattle.std.specs.Int.{w32, w64}
use Rattle.tree_model.specs.declared.errno.Errno.TheVariants.{EPERM, ENOENT, EEXIST, ENOTDIR, EISDIR, EINVAL, EFBIG, ENOSPC, EMLINK, ENOTEMPTY, ELOOP, ENODATA}
use Rattle.tree_model.specs.declared.reply.Reply.{Reply}
use Rattle.tree_model.specs.declared.reply.Reply.TheVariants as replies
use Rattle.byte_grammar.specs.Values.{◌>>=◌, part_at, number_at, many}
use Rattle.out_update.specs.declared.update.Update.{Update}
use Rattle.out_update.specs.Values.{request_at, front}
use Rattle.update_record.specs.declared.operation.Record.{Record}
use Rattle.update_record.specs.Spelling.{reply_code}

abbrev pub answers : List Reply
answers =
    replies.Ok ∷ replies.Err EPERM ∷ replies.Err ENOENT ∷ replies.Err EEXIST ∷ replies.Err ENOTDIR ∷ replies.Err EISDIR ∷ replies.Err EINVAL ∷ replies.Err EFBIG ∷ replies.Err ENOSPC
    ∷ replies.Err EMLINK ∷ replies.Err ENOTEMPTY ∷ replies.Err ELOOP ∷ replies.Err ENODATA ∷ []

abbrev pub first_with : ℕ → List Reply → Option Reply
first_with n [] = None
first_with n (r ∷ rs) = if reply_code r == n then Some r else first_with n rs

-- the answer with this code
unfoldable pub answer_at : ℕ → Option Reply
answer_at n = first_with n answers

-- a number of four bytes that is below 256
unfoldable pub small_at : List ℕ → Option (ℕ × List ℕ)
small_at bytes = do
  n ← number_at w32 bytes
  if nat_lt n.0 256 then Some (n.0, n.1) else None

unfoldable pub part_value : List ℕ → Option ((ℕ × List Update) × List ℕ)
part_value bytes = do
  target ← small_at bytes
  size ← number_at w32 target.1
  request ← request_at size.1
  Some ((target.0, request.0), request.1)

-- a record, and the bytes behind it
unfoldable pub record_at : List ℕ → Option (Record × List ℕ)
record_at bytes = do
  magic ← part_at 4 bytes
  epoch ← number_at w32 magic.1
  master ← small_at epoch.1
  number ← number_at w32 master.1
  batch ← number_at w64 number.1
  stamp ← number_at w64 batch.1
  client ← small_at stamp.1
  code ← number_at w32 client.1
  reply ← answer_at code.0
  count ← number_at w32 code.1
  space ← part_at 4 count.1
  parts ← many part_value count.0 space.1
  Some (record { id = record { epoch = epoch.0; master = master.0; batch = batch.0 }; stamp = stamp.0; number = number.0; client = client.0; reply = reply; parts = parts.0 }, parts.1)

abbrev pub record_value : List ℕ → Option Record
record_value bytes = front (record_at bytes)
