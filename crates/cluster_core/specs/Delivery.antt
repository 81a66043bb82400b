-- What the delivery of a message makes of a cluster, and that of all messages that wait.
use Rattle.std.specs.Prelude.{◌≡◌, ◌⊎◌, ◌≤◌, ◌<◌, ℕ, Bool, true, false, if◌then◌else◌, List, [], ◌∷◌, ◌++◌, length, Option, Some, None}
use Rattle.std.specs.List.{flat_map}
use Rattle.update_record.specs.declared.message.Message.{Message}
use Rattle.cluster_mail.specs.declared.content.Content.{Content}
use Rattle.cluster_mail.specs.Mail.{message_of, mark_delivered, next_of}
use Rattle.scenario_text.specs.declared.line.Line.{Line}
use Rattle.scenario_text.specs.declared.line.Line.TheVariants as lines
use Rattle.target_turns.specs.Target.{Target, serves}
use Rattle.target_turns.specs.Turn.{turned, asks, awaits}
use Rattle.target_turns.specs.Taking.{MayTake}
use Rattle.target_turns.specs.Commanded.{hears_bounce}
use Rattle.cluster_core.specs.Cluster.{Cluster, Turns, target_at, turn_lines}

-- the message is marked before anything else
abbrev pub marked : Cluster → ℕ → Cluster
marked c k = record c { sent = mark_delivered c.sent k }

-- a message reaches its target, of so many, with what it says
pub record MayReach (count : ℕ) (m : Message) (content : Content) : Type 0 where
  pub there : m.to < count
  pub may : MayTake count m.to m content

-- it says this to its target, or no target takes it
abbrev pub Reaches : ℕ → Message → Option Content → Type 0
Reaches count m (Some content) = MayReach count m content
Reaches count m None = (content : Content) → MayReach count m content → ⊥

-- what an attempt asks of a target that doesn't serve comes back to the attempt's home
abbrev pub bounces : List Target → Message → Bool
bounces ts m = if serves (target_at ts m.to) then false else (if asks m.kind then awaits (target_at ts m.from) m else false)

-- it is the turn of the target that the message goes to
pub record Hands (c : Cluster) (k : ℕ) (m : Message) (new : Cluster) (ls : List Line) : Type 0 where
  pub content : Content
  pub reaches : MayReach (length c.targets) m content
  pub turn : Turns (marked c k) m.to (turned k (target_at c.targets m.to) m content) new
  pub lines_are : ls ≡ turn_lines new m.to (turned k (target_at c.targets m.to) m content)

-- a message that no target takes is ignored
pub record IsLost (c : Cluster) (k : ℕ) (m : Message) (new : Cluster) (ls : List Line) : Type 0 where
  pub no : (content : Content) → MayReach (length c.targets) m content → ⊥
  pub after : new ≡ marked c k
  pub lines_are : ls ≡ lines.Ignored k ∷ []

-- it is the turn of the home of the attempt that asked
pub record ComesBack (c : Cluster) (k : ℕ) (m : Message) (new : Cluster) (ls : List Line) : Type 0 where
  pub turn : Turns (marked c k) m.from (hears_bounce (target_at c.targets m.from) m) new
  pub lines_are : ls ≡ turn_lines new m.from (hears_bounce (target_at c.targets m.from) m)

abbrev pub DeliversBy : Bool → Cluster → ℕ → Message → Cluster → List Line → Type 0
DeliversBy true c k m new ls = ComesBack c k m new ls
DeliversBy false c k m new ls = Hands c k m new ls ⊎ IsLost c k m new ls

-- the message of this number is delivered
abbrev pub Delivers : Cluster → ℕ → Cluster → List Line → Type 0
Delivers c k new ls = DeliversBy (bounces c.targets (message_of c.sent k)) c k (message_of c.sent k) new ls

-- ---- all that waits

-- a delivery, with the cluster after it and its lines
pub record Step : Type 0 where
  pub number : ℕ
  pub after : Cluster
  pub said : List Line

-- deliveries one after another, each of the message with the least number that waits
abbrev pub AreSteps : Cluster → List Step → Cluster → Type 0
AreSteps c [] new = new ≡ c
AreSteps c (s ∷ ss) new = (next_of 1 c.sent ≡ Some s.number) × Delivers c s.number s.after s.said × AreSteps s.after ss new

abbrev pub steps_lines : List Step → List Line
steps_lines ss = flat_map (λ s. s.said) ss

-- a line says where a message is left
abbrev pub rest_lines : Option ℕ → List Line
rest_lines None = []
rest_lines (Some k) = lines.Unsettled ∷ []

-- as many deliveries as there are messages that wait, those that are sent meanwhile among them, but 100,000 at most
pub record Settles (c new : Cluster) (ls : List Line) : Type 0 where
  pub steps : List Step
  pub are : AreSteps c steps new
  pub few : length steps ≤ 100000
  pub last : (next_of 1 new.sent ≡ None) ⊎ (length steps ≡ 100000)
  pub lines_are : ls ≡ steps_lines steps ++ rest_lines (next_of 1 new.sent)

-- the next delivery, where there is one
abbrev pub Nexts : Bool → Cluster → Cluster → List Line → Type 0
Nexts false c new ls = (next_of 1 c.sent ≡ None) × (new ≡ c) × (ls ≡ [])
Nexts true c new ls = (k : ℕ) × (next_of 1 c.sent ≡ Some k) × Delivers c k new ls
