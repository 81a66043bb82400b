-- What is so of the operations.
use Rattle.op_laws.specs.Near.{IsOne, key_fid}
use Rattle.fid_space.specs.declared.fid.Fid.{Fid}
use Rattle.object_store.specs.Meaning.{after_all}
use Rattle.op_laws.specs.Objects.{is_among, owner, saw, stands, there}
use Rattle.std.specs.Option.{unwrap_or}
use Rattle.std.specs.Prelude.{Bool, List, Some, [], false, true, ℕ, ◌<◌, ◌≡◌, ◌⊎◌}
use Rattle.tree_model.specs.History.{Item}
use Rattle.tree_model.specs.Kept.{laid_step}
use Rattle.tree_model.specs.Keys.{Key, Laid, meets}
use Rattle.tree_model.specs.Laws.{Agree, Among, LayoutsAreBeside, OnlyLooksMatter, OnlyWrittenChange, SameChange, StepIsDecided}
use Rattle.tree_model.specs.Looks.{looks, writes}
use Rattle.tree_model.specs.OpText.{IsOp}
use Rattle.tree_model.specs.Participants.{home_of}
use Rattle.tree_model.specs.Striped.{on}
use Rattle.tree_model.specs.declared.op.Op.{Op}
use Rattle.tree_shares.specs.Parts.{named_in, parts}
use Rattle.tree_shares.specs.Shares.{share}
use Rattle.update_protocol.specs.Facts.{Fits, laid, place}
use Rattle.update_protocol.specs.Lists.{IsIn}
use Rattle.update_record.specs.Spelling.{has_target, part_for, targets_from}

-- an operation writes an object: its parts for a batch name it
abbrev pub has_written : ℕ → Laid → ℕ → Op → Fid → Bool
has_written targets l batch op f = is_among (named_in (parts targets batch l op)) f

pub record Laws (targets : ℕ) : Type 0 where
  -- of the tree model
  pub looks_matter : OnlyLooksMatter
  pub same_change : SameChange
  pub only_written : OnlyWrittenChange
  pub decided : StepIsDecided
  pub beside_tree : LayoutsAreBeside
  -- from agreement
  pub same_parts : (l m : Laid) (batch : ℕ) (op : Op) → Agree targets l m op → parts targets batch l op ≡ parts targets batch m op
  pub same_saw : (l m : Laid) (op : Op) → Agree targets l m op → saw targets l op ≡ saw targets m op
  -- a part changes a target's share as the operation changes the tree
  pub takes_part : (h : List Item) (batch : ℕ) (op : Op) (t : ℕ) → Fits targets h → IsOp targets op → t < targets
      → share targets (laid_step targets (laid targets h) op) t ≡ after_all (share targets (laid targets h) t) (unwrap_or (part_for t (parts targets batch (laid targets h) op)) [])
  -- the home takes part
  pub home_in : (h : List Item) (batch : ℕ) (op : Op) (m : ℕ) → Fits targets h → IsOp targets op → home_of targets op ≡ Some m → has_target m (parts targets batch (laid targets h) op) ≡ true
  -- who takes part, as a set
  pub on_is : (h : List Item) (batch : ℕ) (op : Op) → Fits targets h → IsOp targets op → targets_from 0 (parts targets batch (laid targets h) op) ≡ on targets (laid targets h) op
  pub wrote_on : (h : List Item) (batch : ℕ) (op : Op) (f : Fid) → Fits targets h → IsOp targets op → has_written targets (laid targets h) batch op f ≡ true → has_target (place targets f) (parts targets batch (laid targets h) op) ≡ true
  -- who writes an object writes its node, or an entry of it; of a stripe those of its directory
  pub wrote_near : (h : List Item) (batch : ℕ) (op : Op) (f : Fid) → Fits targets h → IsOp targets op → has_written targets (laid targets h) batch op f ≡ true
      → (k : Key) × Among (writes targets (laid targets h).tree op) k × (key_fid k ≡ owner targets f) × IsOne k
  -- who looks at a key is told the writers of all objects at which it stands
  pub looks_told : (h : List Item) (op : Op) (k : Key) (f : Fid) → Fits targets h → IsOp targets op → IsIn k (looks targets (laid targets h).tree op) → is_among (stands targets (laid targets h) k) f ≡ true → is_among (saw targets (laid targets h) op) f ≡ true
  -- a key that is met stands afterwards at an object that was written
  pub writes_object : (h : List Item) (batch : ℕ) (op : Op) (w k : Key) → Fits targets h → IsOp targets op → IsIn w (writes targets (laid targets h).tree op) → meets w k ≡ true
      → (f : Fid) × (is_among (stands targets (laid_step targets (laid targets h) op) k) f ≡ true) × (has_written targets (laid targets h) batch op f ≡ true)
  -- a key stays where it stands; or the writers of all objects where it stood were told, and one was written where it stands afterwards
  pub moves : (h : List Item) (batch : ℕ) (op : Op) (k : Key) → Fits targets h → IsOp targets op
      → ((f : Fid) → is_among (stands targets (laid targets h) k) f ≡ true → is_among (stands targets (laid_step targets (laid targets h) op) k) f ≡ true)
      ⊎ (((f : Fid) → is_among (stands targets (laid targets h) k) f ≡ true → is_among (saw targets (laid targets h) op) f ≡ true)
      × ((f : Fid) × (is_among (stands targets (laid_step targets (laid targets h) op) k) f ≡ true) × (has_written targets (laid targets h) batch op f ≡ true)))
  -- what is written without being told its writer isn't there; with it stands an object whose writer is told, and which whoever made it go wrote too
  pub beside : (h : List Item) (batch : ℕ) (op : Op) (f : Fid) → Fits targets h → IsOp targets op → has_written targets (laid targets h) batch op f ≡ true
      → (is_among (saw targets (laid targets h) op) f ≡ true) ⊎ ((there targets (laid targets h) f ≡ false) × (is_among (saw targets (laid targets h) op) (owner targets f) ≡ true))
  pub gone : (h : List Item) (batch : ℕ) (op : Op) (f : Fid) → Fits targets h → IsOp targets op → has_written targets (laid targets h) batch op f ≡ true
      → there targets (laid_step targets (laid targets h) op) f ≡ false → has_written targets (laid targets h) batch op (owner targets f) ≡ true
  pub stays : (h : List Item) (batch : ℕ) (op : Op) (f : Fid) → Fits targets h → IsOp targets op → has_written targets (laid targets h) batch op f ≡ false
      → there targets (laid_step targets (laid targets h) op) f ≡ there targets (laid targets h) f
