-- What joins the parts of an operation, the shares of the targets and the objects that are written.
use Rattle.std.specs.Prelude.{◌≡◌, ◌<◌, ℕ, true, map, List, [], Some}
use Rattle.std.specs.List.{AllByRecursion}
use Rattle.std.specs.Option.{unwrap_or}
use Rattle.fid_space.specs.declared.fid.Fid.{Fid}
use Rattle.fid_space.specs.Places.{place_of}
use Rattle.tree_model.specs.declared.op.Op.{Op}
use Rattle.tree_model.specs.OpText.{IsOp}
use Rattle.tree_model.specs.Keys.{Laid}
use Rattle.tree_model.specs.Kept.{laid_step}
use Rattle.out_update.specs.declared.update.Update.{Update}
use Rattle.object_store.specs.Meaning.{after_all}
use Rattle.update_record.specs.Spelling.{has_target, part_for}
use Rattle.tree_sound.specs.Sound.{IsSound}
use Rattle.tree_shares.specs.Shares.{share}
use Rattle.tree_shares.specs.Updates.{updates}
use Rattle.tree_shares.specs.Parts.{parts, named_in}
use Rattle.op_laws.specs.Objects.{is_among, wrote}
use Rattle.op_laws.specs.Laws.{IsCount}

-- each update is in one part: that of the place of its object
abbrev pub EachUpdateHasItsPart : Type 0
EachUpdateHasItsPart =
    (targets most batch : ℕ) (l : Laid) (op : Op) → IsCount targets → IsSound targets most l
    → AllByRecursion (λ u. (t : ℕ) × (place_of targets u.fid ≡ Some t) × (has_target t (parts targets batch l op) ≡ true)) (updates targets batch l op)

-- the objects that the parts name are those that are written
abbrev pub PartsNameWhatIsWritten : Type 0
PartsNameWhatIsWritten =
    (targets most batch : ℕ) (l : Laid) (op : Op) (x : Fid) → IsCount targets → IsSound targets most l
    → is_among (named_in (parts targets batch l op)) x ≡ is_among (wrote targets l op) x

-- a written object is named in the part of its own place
abbrev pub IsWrittenHere : ℕ → ℕ → Laid → Op → Fid → ℕ → List Update → Type 0
IsWrittenHere targets batch l op x t us = (place_of targets x ≡ Some t) × (part_for t (parts targets batch l op) ≡ Some us) × (is_among (map (λ u. u.fid) us) x ≡ true)

abbrev pub WrittenHere : Type 0
WrittenHere =
    (targets most batch : ℕ) (l : Laid) (op : Op) (x : Fid) → IsCount targets → IsSound targets most l → is_among (wrote targets l op) x ≡ true
    → (t : ℕ) × (us : List Update) × IsWrittenHere targets batch l op x t us

-- the part of a target makes its share that after the operation; a target without a part keeps its share
abbrev pub PartsMakeShares : Type 0
PartsMakeShares =
    (targets most batch : ℕ) (l : Laid) (op : Op) (target : ℕ) → IsCount targets → most < 0x0ffffffe → IsSound targets most l → IsOp targets op
    → after_all (share targets l target) (unwrap_or (part_for target (parts targets batch l op)) []) ≡ share targets (laid_step targets l op) target
