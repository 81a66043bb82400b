-- The size of the image of all objects, as they change.
use Rattle.std.proofs.Common.{◌≡◌, ◌≤◌, ◌+◌, ◌-◌, ℕ, Bool, true, false, cond, Option, None, is_some, ap, ◌∙◌, arith}
use Rattle.std.specs.FinMap.{empty, get, insert, remove, len, len-empty, len-insert, len-remove}
use Rattle.fid_space.specs.declared.fid.Fid.{Fid}
use Rattle.tree_model.specs.Fids.{fid_cmp}
use Rattle.tree_model.proofs.Maps.{fids_total, exact_fids}
use Rattle.object_store.specs.Objects.{Object, ObjectMap}
use Rattle.object_store.specs.Sizes.{AreStored, object_size, image_size, size_at}
use Rattle.object_store.proofs.Totals.{total-insert, total-remove, weight_at, again, absent}
use Rattle.object_store.proofs.Keeping.{total-empty}

pub stored_none : AreStored empty 8
unfolding image_size
stored_none =
    let e = total-empty fid_cmp size_at in
    let l = len-empty fid_cmp Object in
    record { few = omega (arith, l); small = omega arith; exact = omega (arith, e) }

pub image_put : (m : ObjectMap) (fid : Fid) (o : Object) → image_size (insert m fid o) + weight_at size_at fid (get m fid) ≡ image_size m + object_size o
unfolding image_size
image_put m fid o = let t = total-insert fid_cmp fids_total exact_fids size_at m fid o in omega (arith, t)

pub image_taken : (m : ObjectMap) (fid : Fid) → image_size (remove m fid) + weight_at size_at fid (get m fid) ≡ image_size m
unfolding image_size
image_taken m fid = let t = total-remove fid_cmp fids_total exact_fids size_at m fid in omega (arith, t)

pub count_put : (m : ObjectMap) (fid : Fid) (o : Object) (x : Option Object) → get m fid ≡ x → len (insert m fid o) ≡ cond (is_some x) (len m) (len m + 1)
count_put m fid o x is = len-insert fids_total m fid o ∙ ap (λ y. cond (is_some y) (len m) (len m + 1)) is

fewer : (a : ℕ) (b : Bool) (c : ℕ) → a ≡ cond b (c - 1) c → a ≤ c
fewer a true c is = omega (arith, is)
fewer a false c is = omega (arith, is)

pub count_taken : (m : ObjectMap) (fid : Fid) → len (remove m fid) ≤ len m
count_taken m fid = fewer (len (remove m fid)) (is_some (get m fid)) (len m) (len-remove fids_total m fid)

-- an object that was taken away and is put back
pub put_again : (m : ObjectMap) (fid : Fid) (o : Object) → insert (remove m fid) fid o ≡ insert m fid o
put_again m fid o = again fid_cmp fids_total exact_fids m fid o

pub none_taken : (m : ObjectMap) (fid : Fid) → get m fid ≡ None → remove m fid ≡ m
none_taken m fid is = absent fid_cmp fids_total exact_fids m fid is
