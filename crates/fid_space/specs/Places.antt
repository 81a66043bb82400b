-- Where a FID lives, in a cluster of so many targets: each target owns one range of sequences, and the
-- first target owns the root's sequence besides. The object id and the version say nothing of the place.
use Rattle.std.specs.Prelude.{◌&&◌, ◌==◌, Bool, nat_le, nat_lt, ◌+◌, ◌-◌, ◌*◌, ◌/◌, ◌%◌, ℕ, Option, Some, None, is_some, if◌then◌else◌}
use Rattle.fid_space.specs.declared.fid.Fid.{Fid}

-- the first sequence of a target
abbrev pub base_of : ℕ → ℕ
base_of target = 0x200000400 + target * 0x100000

-- the sequences of the targets, one range after another
abbrev pub in_range : ℕ → Fid → Bool
in_range targets f = nat_le (base_of 0) f.seq && nat_lt f.seq (base_of targets)

-- the target that holds the FID's sequence
abbrev pub place_of : ℕ → Fid → Option ℕ
place_of targets f =
    if f.seq == 0x200000007 then Some 0
    else (if in_range targets f then Some ((f.seq - base_of 0) / 0x100000) else None)

abbrev pub has_place : ℕ → Fid → Bool
has_place targets f = is_some (place_of targets f)

-- the distance of a sequence from its target's first
abbrev pub offset_of : Fid → ℕ
offset_of f = (f.seq - base_of 0) % 0x100000

-- what a client may name
abbrev pub is_client : ℕ → Fid → Bool
is_client targets f = in_range targets f && nat_lt (offset_of f) 0x8000 && nat_le 1 f.oid && (f.ver == 0)

-- the FID that a client makes on a target
abbrev pub client_fid : ℕ → ℕ → ℕ → Option Fid
client_fid target client oid =
    if nat_lt target 16 && nat_lt client 0x8000 && nat_le 1 oid
    then Some (record { seq = base_of target + client; oid = oid; ver = 0 })
    else None

-- The FID of a directory's stripe. Its sequence has the stripe's target, and in the offset the target and
-- the client of the directory; its version has the stripe's index and the generation of the layout.
abbrev pub stripe_of : Fid → ℕ → ℕ → ℕ → Fid
stripe_of dir target index generation =
    record { seq = base_of target + (0x80000 + ((dir.seq - base_of 0) / 0x100000 * 0x8000 + offset_of dir)); oid = dir.oid; ver = 1 + index + 16 * generation }

abbrev pub stripe_fid : Fid → ℕ → ℕ → ℕ → Option Fid
stripe_fid dir target index generation =
    if is_client 16 dir && nat_lt target 16 && nat_lt index 16 && nat_le generation 0x0ffffffe
    then Some (stripe_of dir target index generation)
    else None

-- a FID in the upper half of a target's range, which the FIDs of stripes are
abbrev pub is_stripe : ℕ → Fid → Bool
is_stripe targets f = in_range targets f && nat_le 0x80000 (offset_of f)
