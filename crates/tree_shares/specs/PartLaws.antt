-- What is so of the parts of an operation.
use Rattle.std.specs.Prelude.{◌≡◌, ◌<◌, ◌≤◌, ◌^◌, ℕ, true, length, Some, None, if◌then◌else◌}
use Rattle.fid_space.specs.Targets.{is_member}
use Rattle.tree_model.specs.declared.op.Op.{Op}
use Rattle.tree_model.specs.OpText.{IsOp}
use Rattle.tree_model.specs.Keys.{Laid}
use Rattle.tree_model.specs.Laws.{Agree}
use Rattle.tree_model.specs.Participants.{home_of}
use Rattle.tree_model.specs.Striped.{on}
use Rattle.update_record.specs.declared.operation.Record.{Record}
use Rattle.update_record.specs.Spelling.{FitsParts, has_target, part_for, targets_from, record_text}
use Rattle.tree_sound.specs.Sound.{IsSound}
use Rattle.tree_shares.specs.Updates.{updates, placed_updates, updates_at}
use Rattle.tree_shares.specs.Parts.{parts}

-- a target has a part exactly where the operation is on it, with the updates that are placed there
abbrev pub PartsAreOfTargets : Type 0
PartsAreOfTargets =
    (targets batch : ℕ) (l : Laid) (op : Op) (target : ℕ) → 1 ≤ targets
    → (has_target target (parts targets batch l op) ≡ is_member (on targets l op) target)
    × (part_for target (parts targets batch l op) ≡ (if is_member (on targets l op) target then Some (updates_at target (placed_updates targets batch l op)) else None))

-- as a set, they are the targets that the operation is on, all of the cluster
abbrev pub PartsAreOn : Type 0
PartsAreOn =
    (targets batch : ℕ) (l : Laid) (op : Op) → 1 ≤ targets
    → (targets_from 0 (parts targets batch l op) ≡ on targets l op) × ((target : ℕ) → is_member (on targets l op) target ≡ true → target < targets)

-- the home has a part
abbrev pub HomeTakesPart : Type 0
HomeTakesPart = (targets batch : ℕ) (l : Laid) (op : Op) (home : ℕ) → 1 ≤ targets → home_of targets op ≡ Some home → has_target home (parts targets batch l op) ≡ true

-- a record may have these parts, and there are few of them
abbrev pub PartsFit : Type 0
PartsFit =
    (targets most batch : ℕ) (l : Laid) (op : Op) → 1 ≤ targets → targets ≤ 16 → most < 0x0ffffffe → batch < 2 ^ 64 → IsSound targets most l → IsOp targets op
    → FitsParts batch 0 (parts targets batch l op) × (length (parts targets batch l op) ≤ targets)

-- a record of them has at most 21,984 bytes, and so fewer than 24,576
abbrev pub RecordsAreShort : Type 0
RecordsAreShort =
    (targets most batch : ℕ) (l : Laid) (op : Op) (r : Record) → 1 ≤ targets → targets ≤ 16 → most < 0x0ffffffe → batch < 2 ^ 64 → IsSound targets most l → IsOp targets op
    → r.parts ≡ parts targets batch l op → length (record_text r) ≤ 21984

-- the updates and the parts depend only on what the operation looks at
abbrev pub PartsFollowLooks : Type 0
PartsFollowLooks =
    (targets batch : ℕ) (l m : Laid) (op : Op) → Agree targets l m op
    → (updates targets batch l op ≡ updates targets batch m op) × (parts targets batch l op ≡ parts targets batch m op)
