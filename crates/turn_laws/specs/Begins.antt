-- A cluster as an epoch begins.
use Rattle.std.specs.Prelude.{◌≡◌, ◌<◌, ℕ, true, [], length, get_or, None}
use Rattle.std.specs.FinMap.{get, empty}
use Rattle.llog_store.specs.Changes.{live_payloads}
use Rattle.target_state.specs.State.{TargetState}
use Rattle.target_turns.specs.Target.{Target, serves}
use Rattle.tree_shares.specs.Seats.{share_of}
use Rattle.update_coordinator.specs.Coordinating.{Coordinating}
use Rattle.update_protocol.specs.Events.{Start}
use Rattle.update_protocol.specs.World.{History}
use Rattle.turn_laws.specs.Values.{Cluster, seat_of, target_at}

-- clocks and the numbers of attempts go on as the targets have them
abbrev pub start_of : Cluster → Start
start_of c = record { clock = λ t. (target_at c.targets t).node.clock; turns = λ t. (target_at c.targets t).home.attempts; ended = λ t m. get_or (target_at c.targets t).node.ended m 0 }

-- a node has its share of the history, and nothing is under way
pub record IsNewNode (targets e : ℕ) (h : History) (t : ℕ) (n : TargetState) : Type 0 where
  pub cluster : n.targets ≡ targets
  pub index : n.index ≡ t
  pub epoch : n.epoch ≡ e
  pub mark : n.mark ≡ 0
  pub seats : (client : ℕ) → client < length n.seats → get_or n.seats client None ≡ seat_of (get (share_of targets h t).seats client)
  pub objects : n.objects ≡ (share_of targets h t).objects
  pub log : live_payloads n.log.entries ≡ []
  pub waiting : n.waiting ≡ []
  pub writers : n.writers ≡ empty
  pub holder : n.holder ≡ None
  pub wide : length n.ended ≡ 16

-- a home has neither an attempt nor a batch
pub record IsNewHome (targets e t : ℕ) (c : Coordinating) : Type 0 where
  pub cluster : c.targets ≡ targets
  pub master : c.master ≡ t
  pub epoch : c.epoch ≡ e
  pub batches : c.batches ≡ []
  pub wide : length c.stable ≡ 16
  pub stable : (u : ℕ) → u < 16 → get_or c.stable u 0 ≡ 0
  pub mark : c.mark ≡ 0
  pub current : c.current ≡ None

pub record IsNew (targets e : ℕ) (h : History) (t : ℕ) (x : Target) : Type 0 where
  pub up : serves x ≡ true
  pub cluster : x.targets ≡ targets
  pub index : x.index ≡ t
  pub node : IsNewNode targets e h t x.node
  pub home : IsNewHome targets e t x.home
