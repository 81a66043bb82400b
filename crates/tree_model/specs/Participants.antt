-- The home of an operation, and sets of targets with a place more.
use Rattle.std.specs.Prelude.{ℕ, Option, Some, None}
use Rattle.fid_space.specs.declared.fid.Fid.{Fid}
use Rattle.fid_space.specs.Places.{place_of}
use Rattle.fid_space.specs.Targets.{joined}
use Rattle.tree_model.specs.declared.op.Op.{Op}
use Rattle.tree_model.specs.declared.op.Op.TheVariants as ops

-- the first FID in an operation's text
abbrev pub first_fid : Op → Fid
first_fid (ops.Create parent name fid) = parent
first_fid (ops.Mkdir parent name fid stripes) = parent
first_fid (ops.Link parent name fid) = parent
first_fid (ops.Unlink parent name) = parent
first_fid (ops.Rmdir parent name) = parent
first_fid (ops.Rename parent name to_parent to_name) = parent
first_fid (ops.SetAttr fid mode uid gid) = fid
first_fid (ops.SetXattr fid name value) = fid
first_fid (ops.DelXattr fid name) = fid
first_fid (ops.Migrate directory count index) = directory
first_fid (ops.Lookup parent name) = parent
first_fid (ops.GetAttr fid) = fid
first_fid (ops.GetXattr fid name) = fid

-- the target of the first FID in an operation's text
abbrev pub home_of : ℕ → Op → Option ℕ
home_of targets op = place_of targets (first_fid op)

-- a set of targets with a place more
abbrev pub with_place : ℕ → Option ℕ → ℕ
with_place set None = set
with_place set (Some target) = joined set target
