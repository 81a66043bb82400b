-- The last writers of a target's objects since its last commit.
use Rattle.std.specs.Prelude.{ℕ, ◌≤◌, IfSome, List, [], ◌∷◌, Option, Some, None}
use Rattle.std.specs.FinMap.{FinMap, get, insert, remove}
use Rattle.std.specs.FinMap as map
use Rattle.std.specs.Coded.{Coded, coded×, coded_ℕ}
use Rattle.fid_space.specs.declared.fid.Fid.{Fid}
use Rattle.tree_model.specs.Fids.{fid_cmp, coded_fid}

-- by an object's FID, the number of the request that wrote it last, and the targets that it is on
abbrev pub Writers : Type 0
Writers = FinMap fid_cmp (ℕ × ℕ)

abbrev pub coded_writers : Coded Writers
coded_writers = map.code coded_fid (coded× coded_ℕ coded_ℕ)

-- each is a request: its number is 1 or more
abbrev pub AreRequests : Writers → Type 0
AreRequests writers = (f : Fid) → IfSome (get writers f) (λ w. 1 ≤ w.0)

-- the writers after a request wrote objects
abbrev pub noted : ℕ → ℕ → Writers → List Fid → Writers
noted number on writers [] = writers
noted number on writers (f ∷ fs) = noted number on (insert writers f (number, on)) fs

-- what was noted of an object before, in place of what is
abbrev pub put_back : Writers → Fid → Option (ℕ × ℕ) → Writers
put_back writers f None = remove writers f
put_back writers f (Some w) = insert writers f w
