-- A turn is a run of the machine.
use Rattle.std.specs.Prelude.{◌≡◌, ◌<◌, ℕ, Bool, true, false, if◌then◌else◌, List, [], ◌∷◌, ◌++◌, length}
use Rattle.fid_space.specs.declared.fid.Fid.{Fid}
use Rattle.op_laws.specs.Objects.{is_among}
use Rattle.update_record.specs.Spelling.{targets_from}
use Rattle.scenario_text.specs.declared.line.Line.{Line}
use Rattle.scenario_text.specs.declared.line.Line.TheVariants as lines
use Rattle.update_protocol.specs.Events.{Accept, Adopt, Ask, Cancel_comes, Cancel_own, Commit, Event, Execute_comes, Forget, Give_up, Hold_comes, Hold_takes_over, Raise, Release_comes, Release_noted, Run, Send, Stable_comes, Stop, Sync_comes, Tear, happens}
use Rattle.update_protocol.specs.Facts.{place}
use Rattle.update_protocol.specs.Rows.{pending}
use Rattle.update_protocol.specs.World.{Accepted, World, at, request_of, wrote_of}
use Rattle.update_protocol.specs.States.{numbers_at}
use Rattle.turn_laws.specs.Agrees.{Agrees}
use Rattle.target_state.specs.Rules.{own_updates}
use Rattle.turn_laws.specs.Values.{Cluster, fids_of, record_of}

-- the lines that an event says
abbrev pub said_by : World → Event → List Line
said_by w (Ask who) = []
said_by w (Send p) = []
said_by w (Hold_comes a t q k f) = []
said_by w (Hold_takes_over a t q k f b) = []
said_by w (Sync_comes a t k) = []
said_by w (Accept m x) = lines.Accept (request_of x).number x.reply (targets_from 0 x.parts) ∷ []
said_by w (Give_up m a) = []
said_by w (Execute_comes n t) = lines.Done (request_of (at w.since n)).number t ∷ []
said_by w (Release_comes a t) = []
said_by w (Release_noted a t) = []
said_by w (Commit t) = lines.Stable t (numbers_at w.since (pending w t)) ∷ []
said_by w (Stable_comes t m b) = []
said_by w (Raise m b) = []
said_by w (Cancel_own m n) = []
said_by w (Cancel_comes m b t n) = []
said_by w (Stop t) = lines.Down t ∷ []
said_by w (Tear t) = lines.Down t ∷ []
said_by w (Adopt t) = []
said_by w Forget = []

abbrev pub said : World → List Event → List Line
said w [] = []
said w (e ∷ es) = said_by w e ++ said (happens w e) es

-- Lines that change what has been accepted, executed or committed, or who serves. The others change nothing, and have
-- their causes in the world as it is.
abbrev pub is_loud : Line → Bool
is_loud (lines.Accept n r on) = true
is_loud (lines.Done n t) = true
is_loud (lines.Stable t ns) = true
is_loud (lines.Down t) = true
is_loud _ = false

abbrev pub loud : List Line → List Line
loud [] = []
loud (l ∷ ls) = if is_loud l then l ∷ loud ls else loud ls

module _ (targets : ℕ) where
  -- these lines and this cluster come of events of the machine, each of which may come
  pub record IsRun (w : World) (ls : List Line) (c : Cluster) : Type 0 where
    pub events : List Event
    pub world : World
    pub run : Run targets w events world
    pub lines : loud ls ≡ said w events
    pub agrees : Agrees targets c world

-- the part of an item for t names the object
abbrev pub names_there : ℕ → Accepted → Fid → Bool
names_there t x f = is_among (fids_of (own_updates t (record_of 0 x))) f

-- an object that an item wrote is named in the part of its place
abbrev pub ArePlaced : ℕ → List Accepted → Type 0
ArePlaced targets since = (n : ℕ) → n < length since → (f : Fid) → wrote_of (at since n) f ≡ true → names_there (place targets f) (at since n) f ≡ true
