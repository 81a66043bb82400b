-- What an attempt makes of its home as it begins, and as it ends without a record.
use Rattle.std.specs.Prelude.{ℕ, ◌+◌, List, Some, None}
use Rattle.tree_model.specs.declared.op.Request.{Request}
use Rattle.update_record.specs.declared.message.Attempt.{Attempt as Name}
use Rattle.update_coordinator.specs.declared.words.Flight.{Flight}
use Rattle.update_coordinator.specs.declared.words.Going.{Going}
use Rattle.target_turns.specs.Target.{Target}

-- the next attempt of a home, for this request
abbrev pub next_name : Target → Request → Name
next_name t r = record { epoch = t.node.epoch; master = t.index; attempt = t.home.attempts + 1; number = r.number }

-- it holds its home, and has gone as far as this
abbrev pub begun : Target → Request → ℕ → ℕ → Going → Target
begun t r asks released g = record t { node = record t.node { holder = Some (next_name t r) }; home = record t.home { attempts = t.home.attempts + 1; asks = asks; released = released; current = Some g } }

-- the coordinator has let go of it, and is owed these answers
abbrev pub let_go : Target → List Flight → ℕ → Target
let_go t flights released = record t { home = record t.home { current = None; flights = flights; released = released } }
