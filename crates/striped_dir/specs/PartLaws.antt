-- What is so of the parts of a directory.
use Rattle.std.specs.Prelude.{◌≡◌, ◌<◌, ◌≤◌, ◌^◌, ℕ, max, Some}
use Rattle.fid_space.specs.declared.fid.Fid.{Fid}
use Rattle.fid_space.specs.FidText.{IsFid}
use Rattle.fid_space.specs.Places.{place_of}
use Rattle.out_update.specs.Spelling.{FitsUpdate}
use Rattle.tree_model.specs.Keys.{Layout}
use Rattle.striped_dir.specs.Parts.{FitsDirectory, part_at, stripe_at, create_of, destroy_of}

-- a part stands on the target that its object's FID says
abbrev pub PartsHaveTheirPlace : Type 0
PartsHaveTheirPlace =
    (targets : ℕ) (d : Fid) (l : Layout) (i t : ℕ) (f : Fid) → 1 ≤ targets → targets ≤ 16 → FitsDirectory targets d l → i < max l.count 1 → part_at targets d l i ≡ Some (t, f) → place_of targets f ≡ Some t

-- two parts of a directory in one layout are two objects
abbrev pub OnePartPerObject : Type 0
OnePartPerObject =
    (targets : ℕ) (d : Fid) (l : Layout) (i j t u : ℕ) (f : Fid) → 1 ≤ targets → targets ≤ 16 → FitsDirectory targets d l → i < max l.count 1 → j < max l.count 1 → part_at targets d l i ≡ Some (t, f)
    → part_at targets d l j ≡ Some (u, f) → i ≡ j

-- the updates that make and remove a stripe have a spelling
abbrev pub StripesAreSpelled : Type 0
StripesAreSpelled =
    (targets : ℕ) (d : Fid) (l : Layout) (batch i : ℕ) → 1 ≤ targets → targets ≤ 16 → IsFid d → FitsDirectory targets d l → 1 ≤ batch → batch < 2 ^ 64 → i < l.count
    → FitsUpdate (create_of batch d i (stripe_at targets d l i).1) × FitsUpdate (destroy_of batch (stripe_at targets d l i).1)
