-- The state of the plain machine as a function of the world, and of what the commands and lines alone say.
use Rattle.std.specs.Prelude.{Bool, List, [], false, length, map, suc, true, ℕ, ◌+◌, ◌<◌, ◌∷◌, ◌≡◌}
use Rattle.tree_model.specs.declared.op.Request.{Request}
use Rattle.update_protocol.specs.Events.{Commit, happens}
use Rattle.update_protocol.specs.Lists.{IsIn, Rising}
use Rattle.update_protocol.specs.Machine.{Entry, Line, Listed, Redone, Stable, Standing, State}
use Rattle.update_protocol.specs.Rows.{has, pending}
use Rattle.update_protocol.specs.World.{Accepted, History, World, at, entry, master, request_of}
use Rattle.update_record.specs.Spelling.{targets_from}

-- What commands and lines say by themselves: what was sent, the epoch, whether no target stopped in a recovery since, how
-- each target stands, and its transaction number at the epoch's start.
pub record Spoken : Type 0 where
  pub sent : List Request
  pub epoch : ℕ
  pub smooth : Bool
  pub standing : ℕ → Standing
  pub start : ℕ → ℕ

-- the numbers of the items at these places
abbrev pub number_at : List Accepted → ℕ → ℕ
number_at since n = (request_of (at since n)).number

abbrev pub numbers_at : List Accepted → List ℕ → List ℕ
numbers_at since ns = map (number_at since) ns

-- an item at a place: a target has named it where its disk does
abbrev pub entry_at : (ℕ → List ℕ) → ℕ → Accepted → Entry
entry_at disk n x = record { item = entry x; on = targets_from 0 x.parts; named = λ t. has n (disk t) }

abbrev pub entries_at : (ℕ → List ℕ) → ℕ → List Accepted → List Entry
entries_at disk k [] = []
entries_at disk k (x ∷ xs) = entry_at disk k x ∷ entries_at disk (suc k) xs

-- the state where these items stand behind that history, the disks name those, and those are pending
abbrev pub state_with : ℕ → Spoken → History → List Accepted → (ℕ → List ℕ) → (ℕ → List ℕ) → State
state_with targets o base since disk pend = record {
  targets = targets;
  sent = o.sent;
  epoch = o.epoch;
  smooth = o.smooth;
  before = base;
  since = entries_at disk 0 since;
  standing = o.standing;
  pend = λ t. numbers_at since (pend t);
  last = λ t. o.start t + length (disk t);
}

-- the state between two recoveries
abbrev pub state_of : ℕ → Spoken → World → State
state_of targets o w = state_with targets o w.base w.since w.disk (pending w)

-- the state in a recovery that has gathered: nothing is pending
abbrev pub gathered_state : ℕ → Spoken → History → List Accepted → (ℕ → List ℕ) → State
gathered_state targets o base since disk = state_with targets o base since disk (λ t. [])

-- the records of these items in a log, each with its index
abbrev pub listed_at : ℕ → List Accepted → ℕ → ℕ → Listed
listed_at epoch since index n = record { index = index; epoch = epoch; master = master (at since n); batch = (at since n).batch; number = number_at since n; on = targets_from 0 (at since n).parts }

abbrev pub listed : ℕ → List Accepted → List ℕ → List ℕ → List Listed
listed epoch since [] ns = []
listed epoch since (i ∷ is) [] = []
listed epoch since (i ∷ is) (n ∷ ns) = listed_at epoch since i n ∷ listed epoch since is ns

-- these targets commit, one after another, and what each of them says
abbrev pub committed_all : World → List ℕ → World
committed_all w [] = w
committed_all w (t ∷ ts) = committed_all (happens w (Commit t)) ts

abbrev pub stable_lines : World → List ℕ → List Line
stable_lines w [] = []
stable_lines w (t ∷ ts) = Stable t (numbers_at w.since (pending w t)) ∷ stable_lines (happens w (Commit t)) ts

-- what each of these redos says
abbrev pub redone_lines : List Accepted → List (ℕ × List ℕ) → List Line
redone_lines since [] = []
redone_lines since (r ∷ rs) = Redone r.0 (numbers_at since r.1) ∷ redone_lines since rs

-- ascending, the numbers of the items that pass the test, and those of the others
pub record IsSplit (since : List Accepted) (test : ℕ → Bool) (kept lost : List ℕ) : Type 0 where
  pub kept_rise : Rising kept
  pub lost_rise : Rising lost
  pub keeps : (n : ℕ) → n < length since → test n ≡ true → IsIn (number_at since n) kept
  pub loses : (n : ℕ) → n < length since → test n ≡ false → IsIn (number_at since n) lost
  pub kept_only : (number : ℕ) → IsIn number kept → (n : ℕ) × (n < length since) × (test n ≡ true) × (number ≡ number_at since n)
  pub lost_only : (number : ℕ) → IsIn number lost → (n : ℕ) × (n < length since) × (test n ≡ false) × (number ≡ number_at since n)
