-- The cause of a line that says that a commit was shared.
use Rattle.std.specs.Prelude.{false, true, ℕ, ◌≡◌}
use Rattle.fid_space.specs.Targets.{is_member}
use Rattle.tree_model.specs.Striped.{on}
use Rattle.tree_model.specs.declared.op.Request.{Request}
use Rattle.op_laws.specs.Near.{IsNear}
use Rattle.update_protocol.specs.Facts.{laid}
use Rattle.update_protocol.specs.Lists.{IsIn}
use Rattle.update_protocol.specs.Recovery.{before_item}
use Rattle.update_protocol.specs.Rows.{pending}
use Rattle.update_protocol.specs.World.{World, after_items, at, is_on, request_of}

module _ (targets : ℕ) where
  -- an item that is pending at t is near to the request, and lacks one of its participants
  pub record Cause (w : World) (t k : ℕ) (r : Request) : Type 0 where
    pub pends : IsIn k (pending w t)
    pub near : IsNear targets (laid targets (before_item w.base w.since k)) (request_of (at w.since k)).op (laid targets (after_items w.base w.since)) r.op
    pub lacks : ℕ
    pub takes_part : is_member (on targets (laid targets (after_items w.base w.since)) r.op) lacks ≡ true
    pub uncovered : is_on (at w.since k) lacks ≡ false
