-- What is so of the FIDs of stripes.
use Rattle.std.specs.Prelude.{◌≡◌, ◌<◌, ℕ, true, false, Some}
use Rattle.fid_space.specs.declared.fid.Fid.{Fid}
use Rattle.fid_space.specs.Places.{place_of, is_client, is_stripe, stripe_fid}

-- two stripes with one FID are one stripe
abbrev pub OneStripePerFid : Type 0
OneStripePerFid =
    (d e : Fid) (t u i j g h : ℕ) (f : Fid) → stripe_fid d t i g ≡ Some f → stripe_fid e u j h ≡ Some f → (d ≡ e) × (t ≡ u) × (i ≡ j) × (g ≡ h)

-- no client makes it, in a cluster of any size
abbrev pub NoClientFid : Type 0
NoClientFid = (targets : ℕ) (d : Fid) (t i g : ℕ) (f : Fid) → stripe_fid d t i g ≡ Some f → is_client targets f ≡ false

-- its place is its target, in each cluster that has this target, and it counts as a stripe there
abbrev pub PlaceIsTarget : Type 0
PlaceIsTarget = (targets : ℕ) (d : Fid) (t i g : ℕ) (f : Fid) → t < targets → stripe_fid d t i g ≡ Some f → (place_of targets f ≡ Some t) × (is_stripe targets f ≡ true)
