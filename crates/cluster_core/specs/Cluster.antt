-- The targets of a cluster, all messages that were ever sent, and what one turn of a target makes of both.
use Rattle.std.specs.Prelude.{◌≡◌, ◌<◌, ℕ, false, List, ◌++◌, length, map, slice_index_or, slice_set}
use Rattle.outside.specs.Disk.{Shown}
use Rattle.cluster_mail.specs.Mail.{Sent, fresh}
use Rattle.scenario_text.specs.declared.line.Line.{Line}
use Rattle.target_turns.specs.Target.{Target, Fate, Turned, target_down, fate_of}
use Rattle.target_turns.specs.Touching.{Touches}
use Rattle.target_turns.specs.Commanded.{MayBe}
use Rattle.target_turns.specs.Placing.{no_disk}

pub record Cluster : Type 0 where
  pub targets : List Target
  pub sent : List Sent

-- behind the last target stands one that is down
abbrev pub target_at : List Target → ℕ → Target
target_at ts i = slice_index_or ts i (target_down 0 0 false no_disk)

-- each target has its number, and knows how many there are
pub record ArePlaced (count : ℕ) (ts : List Target) : Type 0 where
  pub count_is : length ts ≡ count
  pub at : (i : ℕ) → i < count → ((target_at ts i).targets ≡ count) × ((target_at ts i).index ≡ i)

-- one target has a turn: no other changes, and what it sends comes behind what was sent
abbrev pub after_turn : Cluster → ℕ → Turned → Cluster
after_turn c i u = record { targets = slice_set c.targets i u.target; sent = c.sent ++ map fresh u.sent }

-- what the disk of a target did in its turn is read off the cluster after it
abbrev pub fate_at : Cluster → ℕ → Fate
fate_at new i = fate_of (target_at new.targets i)

-- one target has this turn, by what its disk did
pub record Turns (c : Cluster) (i : ℕ) (turn : Fate → Turned) (new : Cluster) : Type 0 where
  pub after : new ≡ after_turn c i (turn (fate_at new i))
  pub fate : MayBe (target_at c.targets i) (fate_at new i)

abbrev pub turn_lines : Cluster → ℕ → (Fate → Turned) → List Line
turn_lines new i turn = (turn (fate_at new i)).lines

-- Whatever becomes of a call, also for want of memory: each disk is the same one, in its place.
pub record AreTouched (old new : List Target) : Type 0 where
  pub count : length new ≡ length old
  pub each : (i : ℕ) → Touches (target_at old i).disk (target_at new i).disk

abbrev pub disks_of : List Target → List Shown
disks_of ts = map (λ t. t.disk) ts
