-- What is told of a FID: the target that it lives on, and what kind of FID it is.
use Rattle.std.specs.Prelude.{◌&&◌, ◌==◌, Bool, ℕ, List, ◌++◌, codes, Option, Some, None, if◌then◌else◌}
use Rattle.std.specs.Fmt.{decimal}
use Rattle.fid_space.specs.declared.fid.Fid.{Fid}
use Rattle.fid_space.specs.declared.class.Class.{Class}
use Rattle.fid_space.specs.declared.class.Class.TheVariants as class
use Rattle.fid_space.specs.Places.{place_of, is_client, is_stripe}

abbrev pub is_root : Fid → Bool
is_root f = (f.seq == 0x200000007) && (f.oid == 1) && (f.ver == 0)

-- the kind of a FID in a cluster of so many targets
abbrev pub class_of : ℕ → Fid → Class
class_of targets f = if is_root f then class.Root else (if is_client targets f then class.Client else (if is_stripe targets f then class.Stripe else class.Other))

abbrev pub class_word : Class → List ℕ
class_word class.Root = codes "root"
class_word class.Client = codes "client"
class_word class.Stripe = codes "stripe"
class_word class.Other = codes "other"

abbrev pub target_text : ℕ → Class → List ℕ
target_text target c = codes "target " ++ (decimal target ++ (codes " " ++ class_word c))

abbrev pub home_at : Option ℕ → Class → Option (List ℕ)
home_at None c = None
home_at (Some target) c = Some (target_text target c)

-- where a FID lives, or nothing where no target owns its sequence
abbrev pub home_text : ℕ → Fid → Option (List ℕ)
home_text targets f = home_at (place_of targets f) (class_of targets f)
