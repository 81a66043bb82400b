-- The objects that hold a directory's entries, and the updates that make and remove its stripes.
use Rattle.std.specs.Prelude.{◌≡◌, ◌≢◌, ◌%◌, ℕ, zero, suc, true, List, [], ◌∷◌, ◌++◌, map, Option, Some}
use Rattle.std.specs.Option.{option_map}
use Rattle.std.specs.List.{range_with_len}
use Rattle.std.specs.Int.{w32}
use Rattle.byte_grammar.specs.Numbers.{word, zeros}
use Rattle.fid_space.specs.declared.fid.Fid.{Fid}
use Rattle.fid_space.specs.Places.{place_of, has_place, is_client, stripe_of}
use Rattle.out_update.specs.declared.update.Update.{Update}
use Rattle.out_update.specs.declared.update.Kind.TheVariants as kind
use Rattle.out_update.specs.Spelling.{fid_bytes}
use Rattle.tree_model.specs.Keys.{Layout}
use Rattle.tree_model.specs.Striped.{fnv1a_64, stripe_target}
use Rattle.striped_dir.specs.Layouts.{FitsLayout}

-- a directory and its layout: it has a place in the cluster, and a client made it where it has stripes
pub record FitsDirectory (targets : ℕ) (directory : Fid) (l : Layout) : Type 0 where
  pub layout : FitsLayout l
  pub placed : has_place targets directory ≡ true
  pub named : l.count ≢ 0 → is_client targets directory ≡ true

-- the target and the object of a stripe
abbrev pub stripe_at : ℕ → Fid → Layout → ℕ → ℕ × Fid
stripe_at targets directory l index = (stripe_target targets l index, stripe_of directory (stripe_target targets l index) index l.generation)

-- the target and the object of a part: a stripe, or the directory itself where it has none
abbrev pub part_at : ℕ → Fid → Layout → ℕ → Option (ℕ × Fid)
part_at targets directory l index = by_count l.count
  where
    by_count : ℕ → Option (ℕ × Fid)
    by_count zero = option_map (λ target. (target, directory)) (place_of targets directory)
    by_count (suc more) = Some (stripe_at targets directory l index)

-- the part that has a name: the hash says which stripe
abbrev pub part_of_name : Layout → List ℕ → ℕ
part_of_name l name = by_count l.count
  where
    by_count : ℕ → ℕ
    by_count zero = 0
    by_count (suc more) = fnv1a_64 name % suc more

-- the target and the object that hold the entry of a name
abbrev pub place_at : ℕ → Fid → Layout → List ℕ → Option (ℕ × Fid)
place_at targets directory l name = part_at targets directory l (part_of_name l name)

-- ---- the updates of stripes

-- the body of a stripe: kind 3, zeros, its directory and its index
unfoldable pub stripe_body : Fid → ℕ → List ℕ
stripe_body directory index = word w32 3 ++ (zeros 24 ++ (fid_bytes directory ++ word w32 index))

abbrev pub create_of : ℕ → Fid → ℕ → Fid → Update
create_of batch directory index object = record { kind = kind.Create; batch = batch; fid = object; params = stripe_body directory index ∷ [] }

abbrev pub destroy_of : ℕ → Fid → Update
destroy_of batch object = record { kind = kind.Destroy; batch = batch; fid = object; params = [] }

-- a stripe's target with the one update that makes it, or that removes it
abbrev pub made_stripe : ℕ → Fid → Layout → ℕ → ℕ → ℕ × List Update
made_stripe targets directory l batch index =
    ((stripe_at targets directory l index).0, create_of batch directory index (stripe_at targets directory l index).1 ∷ [])

abbrev pub removed_stripe : ℕ → Fid → Layout → ℕ → ℕ → ℕ × List Update
removed_stripe targets directory l batch index =
    ((stripe_at targets directory l index).0, destroy_of batch (stripe_at targets directory l index).1 ∷ [])

-- all stripes by index
unfoldable pub made_stripes : ℕ → Fid → Layout → ℕ → List (ℕ × List Update)
made_stripes targets directory l batch = map (made_stripe targets directory l batch) (range_with_len 0 l.count)

unfoldable pub removed_stripes : ℕ → Fid → Layout → ℕ → List (ℕ × List Update)
removed_stripes targets directory l batch = map (removed_stripe targets directory l batch) (range_with_len 0 l.count)
