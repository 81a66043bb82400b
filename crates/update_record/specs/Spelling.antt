-- Records, and the one spelling of each.
use Rattle.std.specs.Prelude.{◌≡◌, ℕ, ◌+◌, ◌^◌, ◌<◌, ◌≤◌, Bool, true, false, ◌==◌, ◌||◌, if◌then◌else◌, List, [], ◌∷◌, ◌++◌, length, Option, Some, None}
use Rattle.std.specs.List.{flat_map, AllByRecursion}
use Rattle.std.specs.Int.{w32, w64}
use Rattle.fid_space.specs.Targets.{joined}
use Rattle.tree_model.specs.Errnos.{errno_code}
use Rattle.tree_model.specs.declared.reply.Reply.{Reply}
use Rattle.tree_model.specs.declared.reply.Reply.TheVariants as replies
use Rattle.byte_grammar.specs.Numbers.{word, zeros}
use Rattle.out_update.specs.declared.update.Update.{Update}
use Rattle.out_update.specs.Spelling.{request_text, FitsUpdateOf}
use Rattle.update_record.specs.declared.operation.Record.{Record}

-- an accepted operation is answered `Ok` or an error, and this is its code
abbrev pub is_answer : Reply → Bool
is_answer replies.Ok = true
is_answer (replies.Err e) = true
is_answer _ = false

abbrev pub reply_code : Reply → ℕ
reply_code (replies.Err e) = errno_code e
reply_code _ = 0

-- a part: its target, the length of its request, and the request
abbrev pub part_text : (ℕ × List Update) → List ℕ
part_text part = word w32 part.0 ++ (word w32 (length (request_text part.1)) ++ request_text part.1)

unfoldable pub parts_text : List (ℕ × List Update) → List ℕ
parts_text parts = flat_map part_text parts

abbrev pub record_magic : ℕ
record_magic = 0x31445055

-- magic, epoch, master, number and batch
abbrev pub front_text : Record → List ℕ
front_text r = word w32 record_magic ++ (word w32 r.id.epoch ++ (word w32 r.id.master ++ (word w32 r.number ++ word w64 r.id.batch)))

-- stamp, client, code, count of parts, and zeros
abbrev pub middle_text : Record → List ℕ
middle_text r = word w64 r.stamp ++ (word w32 r.client ++ (word w32 (reply_code r.reply) ++ (word w32 (length r.parts) ++ zeros 4)))

abbrev pub record_text : Record → List ℕ
record_text r = front_text r ++ (middle_text r ++ parts_text r.parts)

-- ---- who takes part

-- whether a target takes part
abbrev pub has_target : ℕ → List (ℕ × List Update) → Bool
has_target t [] = false
has_target t (part ∷ parts) = (part.0 == t) || has_target t parts

-- the updates of a target
abbrev pub part_for : ℕ → List (ℕ × List Update) → Option (List Update)
part_for t [] = None
part_for t (part ∷ parts) = if part.0 == t then Some part.1 else part_for t parts

-- a set with the targets of the parts
abbrev pub targets_from : ℕ → List (ℕ × List Update) → ℕ
targets_from set [] = set
targets_from set (part ∷ parts) = targets_from (joined set part.0) parts

-- ---- what has a spelling

-- a part of the record with this batch, whose target is this one or a greater one
pub record FitsPart (batch : ℕ) (least : ℕ) (part : ℕ × List Update) : Type 0 where
  pub rises : least ≤ part.0
  pub target : part.0 ≤ 15
  pub count : length part.1 ≤ 128
  pub each : AllByRecursion (FitsUpdateOf (Some batch)) part.1

-- each target is above the one before
unfoldable pub FitsParts : ℕ → ℕ → List (ℕ × List Update) → Type 0
FitsParts batch least [] = Unit {0}
FitsParts batch least (part ∷ parts) = FitsPart batch least part × FitsParts batch (part.0 + 1) parts

-- Each record that this system makes is so: its master is one of the targets that take part, and its
-- updates are of writing types, with its batch.
pub record FitsRecord (r : Record) : Type 0 where
  pub epoch_set : 1 ≤ r.id.epoch
  pub epoch : r.id.epoch < 2 ^ 32
  pub master : r.id.master ≤ 15
  pub number_set : 1 ≤ r.number
  pub number : r.number ≤ 65536
  pub batch_set : 1 ≤ r.id.batch
  pub batch : r.id.batch < 2 ^ 64
  pub stamp_set : 1 ≤ r.stamp
  pub stamp : r.stamp < 2 ^ 64
  pub client : r.client ≤ 63
  pub answer : is_answer r.reply ≡ true
  pub some_part : 1 ≤ length r.parts
  pub few_parts : length r.parts ≤ 16
  pub each : FitsParts r.id.batch 0 r.parts
  pub master_in : has_target r.id.master r.parts ≡ true
  pub size : length (record_text r) ≤ 24576

-- the bytes are the record's spelling
abbrev pub spells_record : Record → List ℕ → Type 0
spells_record r bytes = FitsRecord r × (bytes ≡ record_text r)
