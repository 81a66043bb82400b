-- What contracts see of the home of requests.
use Rattle.std.specs.Prelude.{ℕ, List, [], replicate, Option, None}
use Rattle.update_coordinator.specs.declared.words.Going.{Going}
use Rattle.update_coordinator.specs.declared.words.Flight.{Flight}

pub record Coordinating : Type 0 where
  pub targets : ℕ  -- how many targets the cluster has
  pub master : ℕ  -- the home itself
  pub epoch : ℕ
  pub attempts : ℕ  -- the number of the attempt that began last
  pub asks : ℕ  -- the last ask number of that attempt
  pub current : Option Going  -- the attempt that is under way
  pub flights : List Flight  -- ended attempts that are owed answers, by rising attempt
  pub released : ℕ  -- the targets to which the last action sends a Release
  pub batches : List ℕ  -- the targets of each batch, from batch 1
  pub stable : List ℕ  -- the greatest stable batch of each target
  pub mark : ℕ  -- each batch up to this is stable on each of its targets

-- the home before its first attempt in an epoch
abbrev pub first_coordinating : ℕ → ℕ → ℕ → Coordinating
first_coordinating targets master epoch =
    record { targets = targets; master = master; epoch = epoch; attempts = 0; asks = 0; current = None; flights = []; released = 0; batches = []; stable = replicate 16 0; mark = 0 }
