-- Whole lives of a cluster: runs, and between them recoveries that may be stopped and begun again.
use Rattle.std.specs.Prelude.{Bool, List, [], true, ℕ, ◌++◌, ◌∷◌, ◌≡◌}
use Rattle.update_protocol.specs.Events.{Event, Run, Start, fresh}
use Rattle.update_protocol.specs.Lists.{IsIn, put}
use Rattle.update_protocol.specs.Recovery.{Redo, kept_items}
use Rattle.update_protocol.specs.World.{Accepted, Each, History, Named, World, after_items}

-- redos, one target after another; after a stop the union is taken anew, from the disks as they are then
abbrev pub Redos : World → (ℕ → List ℕ) → List (ℕ × List ℕ) → (ℕ → List ℕ) → Type 0
Redos w disk [] last = last ≡ disk
Redos w disk (r ∷ rs) last = Redo w.since disk w.kept_mark w.kept_gone r.0 r.1 × Redos w (put disk r.0 (disk r.0 ++ r.1)) rs last

module _ (targets : ℕ) where
  -- an epoch that a recovery ended
  pub record Epoch (base : History) : Type 0 where
    pub start : Start
    pub events : List (Event)
    pub world : World
    pub run : Run targets (fresh start base) events world
    -- gathered: what a target still has is committed
    pub committed : (t n : ℕ) → IsIn n (world.done t) → IsIn n (world.disk t)
    pub kept : ℕ → Bool
    pub named : Each (λ n a. (kept n ≡ true → Named world.disk n) × (Named world.disk n → kept n ≡ true)) world.since
    pub redos : List (ℕ × List ℕ)
    pub disks : ℕ → List ℕ
    pub redone : Redos world world.disk redos disks
    -- no log lacks a record any more
    pub nothing_left : (t : ℕ) → Redo world.since disks world.kept_mark world.kept_gone t []

  abbrev pub kept_of : (base : History) → Epoch base → List Accepted
  kept_of base e = kept_items e.kept 0 e.world.since

  -- epochs one after another: the history that was kept
  pub data Story : History → Type 0 where
    Begin : Story []
    Next : {h : History} → Story h → (e : Epoch h) → Story (after_items h (kept_of h e))

  -- a world that a run has come to, in the epoch after that history
  pub record Reached (h : History) (w : World) : Type 0 where
    pub story : Story h
    pub start : Start
    pub events : List Event
    pub run : Run targets (fresh start h) events w
