-- The parts of an operation, as an update record has them: the updates of each target that takes part.
use Rattle.std.specs.Prelude.{ℕ, zero, suc, ◌+◌, List, [], ◌∷◌, map, if◌then◌else◌}
use Rattle.std.specs.List.{flat_map}
use Rattle.fid_space.specs.declared.fid.Fid.{Fid}
use Rattle.fid_space.specs.Targets.{is_member}
use Rattle.tree_model.specs.declared.op.Op.{Op}
use Rattle.tree_model.specs.Keys.{Laid}
use Rattle.tree_model.specs.Striped.{on}
use Rattle.out_update.specs.declared.update.Update.{Update}
use Rattle.tree_shares.specs.Updates.{placed_updates, updates_at}

-- of so many targets from one on, those that are members of the set
abbrev pub parts_from : ℕ → ℕ → ℕ → List (ℕ × Update) → List (ℕ × List Update)
parts_from zero target set placed = []
parts_from (suc n) target set placed =
    if is_member set target then (target, updates_at target placed) ∷ parts_from n (target + 1) set placed else parts_from n (target + 1) set placed

-- by rising targets, the home always
unfoldable pub parts : ℕ → ℕ → Laid → Op → List (ℕ × List Update)
parts targets batch l op = parts_from targets 0 (on targets l op) (placed_updates targets batch l op)

-- the objects that parts name
abbrev pub named_in : List (ℕ × List Update) → List Fid
named_in parts = flat_map (λ part. map (λ u. u.fid) part.1) parts
