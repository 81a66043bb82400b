-- Updates one after another.
use Rattle.std.proofs.Common.{◌≡◌, ◌≤◌, ℕ, zero, suc, ◌+◌, List, [], ◌∷◌, length, drop, refl, ap, ◌∙◌, add-one}
use Rattle.std.proofs.Math.ListN.{drop_of_length-le}
use Rattle.std.specs.List.{slice_get}
use Rattle.out_update.specs.declared.update.Update.{Update}
use Rattle.object_store.specs.Objects.{ObjectMap}
use Rattle.object_store.specs.Meaning.{after_all, after_maybe}

next : (m : ObjectMap) (us : List Update) (i : ℕ) → after_all (after_maybe m (slice_get us i)) (drop (suc i) us) ≡ after_all m (drop i us)
next m [] zero = refl
next m [] (suc i) = refl
next m (u ∷ us) zero = refl
next m (u ∷ us) (suc i) = next m us i

pub one_more : (m : ObjectMap) (us : List Update) (i : ℕ) → after_all (after_maybe m (slice_get us i)) (drop (i + 1) us) ≡ after_all m (drop i us)
one_more m us i = ap (λ k. after_all (after_maybe m (slice_get us i)) (drop k us)) (add-one i) ∙ next m us i

pub all_done : (m : ObjectMap) (us : List Update) (i : ℕ) → length us ≤ i → after_all m (drop i us) ≡ m
all_done m us i past = ap (after_all m) (drop_of_length-le us past)
