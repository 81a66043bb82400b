-- Why nothing is held once every message was delivered: asks, answers and who holds a target, and nothing else.
-- No target stops and no message is dropped here.
use Rattle.std.specs.Prelude.{List, None, Option, Some, [], map, max, suc, ℕ, ◌++◌, ◌<◌, ◌∷◌, ◌≡◌, ◌≢◌, ◌≤◌, ◌⊎◌}
use Rattle.update_protocol.specs.Events.{fresh}
use Rattle.update_protocol.specs.Lists.{IsIn, put, put_two}
use Rattle.update_protocol.specs.World.{Attempt, Who}

pub data Note : Type 0 where
  Ask : (by : Attempt) (at : ℕ) (ask : ℕ) → Note  -- a Hold
  Asked : (by : Attempt) (at : ℕ) (ask : ℕ) → Note  -- a Held or a HoldBusy
  Sync : (by : Attempt) (at : ℕ) (ask : ℕ) → Note
  Synced : (by : Attempt) (at : ℕ) (ask : ℕ) → Note
  Execute : (by : Attempt) (at : ℕ) → Note
  Executed : (by : Attempt) (at : ℕ) → Note
  Release : (by : Attempt) (at : ℕ) → Note
  Released : (by : Attempt) (at : ℕ) → Note

pub record Asking : Type 0 where
  pub holder : ℕ → Option Attempt
  pub ended : ℕ → ℕ → ℕ
  pub trying : ℕ → Option Attempt
  pub turns : ℕ → ℕ
  pub awaits : ℕ → List Note  -- what a master awaits an answer to: none or one
  pub execs : List (Attempt × ℕ)  -- unanswered executes
  pub rels : List (Attempt × ℕ)  -- unanswered releases
  pub ever : List Note  -- every message that was sent
  pub fresh : List Note  -- those that are undelivered

-- the answer that belongs to an ask
abbrev pub answer : Note → Note
answer (Ask a t k) = Asked a t k
answer (Sync a t k) = Synced a t k
answer (Execute a t) = Executed a t
answer (Release a t) = Released a t
answer (Asked a t k) = Asked a t k
answer (Synced a t k) = Synced a t k
answer (Executed a t) = Executed a t
answer (Released a t) = Released a t

-- the attempt is over at its master, and any that is current there is a later one
abbrev pub Past : (ℕ → ℕ) → (ℕ → Option Attempt) → Attempt → Type 0
Past turns trying a = (a.turn ≤ turns (a.who.master)) × ((c : Attempt) → trying (a.who.master) ≡ Some c → a.turn < c.turn)

-- it holds t never again
abbrev pub ThroughIn : (ℕ → Option Attempt) → (ℕ → ℕ → ℕ) → Attempt → ℕ → Type 0
ThroughIn holder ended a t = (a.turn ≤ ended t (a.who.master)) × (holder t ≢ Some a)

abbrev pub Through : Asking → Attempt → ℕ → Type 0
Through w a t = ThroughIn w.holder w.ended a t

-- why a target may still be held, or come to be held, by an attempt
abbrev pub ReasonIn : (ℕ → Option Attempt) → (ℕ → ℕ → ℕ) → (ℕ → Option Attempt) → List (Attempt × ℕ) → List (Attempt × ℕ) → Attempt → ℕ → Type 0
ReasonIn holder ended trying execs rels a t = (trying (a.who.master) ≡ Some a) ⊎ (IsIn (a, t) execs ⊎ (IsIn (a, t) rels ⊎ ThroughIn holder ended a t))

abbrev pub Reason : Asking → Attempt → ℕ → Type 0
Reason w a t = ReasonIn w.holder w.ended w.trying w.execs w.rels a t

abbrev pub Waits : List Note → Note → Type 0
Waits fresh p = IsIn p fresh ⊎ IsIn (answer p) fresh

-- what a message implies for good
abbrev pub TellsIn : (ℕ → Option Attempt) → (ℕ → ℕ → ℕ) → (ℕ → Option Attempt) → (ℕ → ℕ) → List (Attempt × ℕ) → List (Attempt × ℕ) → Note → Type 0
TellsIn holder ended trying turns execs rels (Ask a t k) = (a.turn ≤ turns (a.who.master)) × ReasonIn holder ended trying execs rels a t
TellsIn holder ended trying turns execs rels (Asked a t k) = Unit
TellsIn holder ended trying turns execs rels (Sync a t k) = Unit
TellsIn holder ended trying turns execs rels (Synced a t k) = Unit
TellsIn holder ended trying turns execs rels (Execute a t) = Past turns trying a × ((holder t ≡ Some a) ⊎ ThroughIn holder ended a t)
TellsIn holder ended trying turns execs rels (Executed a t) = Past turns trying a × ThroughIn holder ended a t
TellsIn holder ended trying turns execs rels (Release a t) = Past turns trying a
TellsIn holder ended trying turns execs rels (Released a t) = Past turns trying a × ThroughIn holder ended a t

abbrev pub Tells : Asking → Note → Type 0
Tells w p = TellsIn w.holder w.ended w.trying w.turns w.execs w.rels p

-- an ask of this attempt; a Sync goes to a target that it holds
abbrev pub IsAskOf : (ℕ → Option Attempt) → Attempt → Note → Type 0
IsAskOf holder a (Ask b t k) = b ≡ a
IsAskOf holder a (Sync b t k) = (b ≡ a) × (holder t ≡ Some a)
IsAskOf holder a (Asked b t k) = ⊥
IsAskOf holder a (Synced b t k) = ⊥
IsAskOf holder a (Execute b t) = ⊥
IsAskOf holder a (Executed b t) = ⊥
IsAskOf holder a (Release b t) = ⊥
IsAskOf holder a (Released b t) = ⊥

pub record Moves (w : Asking) : Type 0 where
  pub newest : (m : ℕ) (a : Attempt) → w.trying m ≡ Some a → (a.who.master ≡ m) × (a.turn ≡ w.turns m) × (w.holder m ≡ Some a) × ((t : ℕ) → w.ended t m < a.turn)
  pub ends : (t m : ℕ) → w.ended t m ≤ w.turns m
  pub tells : (p : Note) → IsIn p w.ever → Tells w p
  pub held : (t : ℕ) (a : Attempt) → w.holder t ≡ Some a → ((a.who.master ≡ t) × (w.trying t ≡ Some a)) ⊎ ((k : ℕ) × IsIn (Ask a t k) w.ever)
  pub asked : (m : ℕ) (p : Note) → IsIn p (w.awaits m) → (a : Attempt) × (w.trying m ≡ Some a) × IsAskOf w.holder a p × Waits w.fresh p
  pub executing : (a : Attempt) (t : ℕ) → IsIn (a, t) w.execs → Waits w.fresh (Execute a t)
  pub releasing : (a : Attempt) (t : ℕ) → IsIn (a, t) w.rels → Waits w.fresh (Release a t)

-- one undelivered copy of p is delivered, or a copy that was delivered before comes again
pub record Takes (w : Asking) (p : Note) (left : List Note) : Type 0 where
  pub sent : IsIn p w.ever
  pub rest : (q : Note) → IsIn q w.fresh → (q ≡ p) ⊎ IsIn q left

-- turns, cut into parts; that a master which doesn't end an attempt awaits something at the end of its turn is said where it is used
pub data Turn : Type 0 where
  Starts : (who : Who) → Turn
  Asks : (m : ℕ) (a : Attempt) (t k : ℕ) → Turn
  Syncs : (m : ℕ) (a : Attempt) (t k : ℕ) → Turn
  Granted : (a : Attempt) (t k : ℕ) (left : List Note) (ends : ℕ) → Turn  -- ends: the turn of the attempt that it takes the target from, or 0
  Refused : (a : Attempt) (t k : ℕ) (left : List Note) → Turn
  Ignored : (a : Attempt) (t k : ℕ) (left : List Note) → Turn
  Sync_taken : (a : Attempt) (t k : ℕ) (left : List Note) → Turn
  Sync_ignored : (a : Attempt) (t k : ℕ) (left : List Note) → Turn
  Answer_taken : (m : ℕ) (p : Note) (left : List Note) → Turn
  Answer_ignored : (p : Note) (left : List Note) → Turn
  Finishes : (m : ℕ) (a : Attempt) (es rs : List ℕ) → Turn
  Execute_taken : (a : Attempt) (t : ℕ) (left : List Note) → Turn
  Execute_again : (a : Attempt) (t : ℕ) (left : List Note) → Turn
  Release_taken : (a : Attempt) (t : ℕ) (left : List Note) → Turn
  Release_noted : (a : Attempt) (t : ℕ) (left : List Note) → Turn
  Executed_taken : (a : Attempt) (t : ℕ) (left : List Note) (execs : List (Attempt × ℕ)) → Turn
  Released_taken : (a : Attempt) (t : ℕ) (left : List Note) (rels : List (Attempt × ℕ)) → Turn
  Resends : (p : Note) → Turn

abbrev pub IsAnswer : Note → Type 0
IsAnswer (Ask b t k) = ⊥
IsAnswer (Sync b t k) = ⊥
IsAnswer (Asked b t k) = Unit
IsAnswer (Synced b t k) = Unit
IsAnswer (Execute b t) = ⊥
IsAnswer (Executed b t) = ⊥
IsAnswer (Release b t) = ⊥
IsAnswer (Released b t) = ⊥

abbrev pub Without : (Attempt × ℕ) → List (Attempt × ℕ) → List (Attempt × ℕ) → Type 0
Without x old new = ((y : Attempt × ℕ) → IsIn y new → IsIn y old × (y ≢ x)) × ((y : Attempt × ℕ) → IsIn y old → (y ≡ x) ⊎ IsIn y new)

abbrev pub MayTurn : Asking → Turn → Type 0
MayTurn w (Starts who) = w.holder (who.master) ≡ None
MayTurn w (Asks m a t k) = w.trying m ≡ Some a
MayTurn w (Syncs m a t k) = (w.trying m ≡ Some a) × (w.holder t ≡ Some a)
MayTurn w (Granted a t k left ends) = Takes w (Ask a t k) left × ((b : Attempt) → w.holder t ≡ Some b → (b ≡ a) ⊎ ((b.who ≡ a.who) × (b.turn ≤ ends)))
    × ((w.holder t ≡ Some a) ⊎ (w.ended t (a.who.master) < a.turn)) × ((ends ≡ 0) ⊎ (ends < a.turn))
MayTurn w (Refused a t k left) = Takes w (Ask a t k) left
MayTurn w (Ignored a t k left) = Takes w (Ask a t k) left × Through w a t
MayTurn w (Sync_taken a t k left) = Takes w (Sync a t k) left × (w.holder t ≡ Some a)
MayTurn w (Sync_ignored a t k left) = Takes w (Sync a t k) left × (w.holder t ≢ Some a)
MayTurn w (Answer_taken m p left) = Takes w p left × IsAnswer p × (q : Note) × IsIn q (w.awaits m) × (answer q ≡ p)
MayTurn w (Answer_ignored p left) = Takes w p left × IsAnswer p × ((m : ℕ) (q : Note) → IsIn q (w.awaits m) → answer q ≢ p)
MayTurn w (Finishes m a es rs) = (w.trying m ≡ Some a) × ((t : ℕ) → IsIn t es → (w.holder t ≡ Some a) × (t ≢ m)) × ((t k : ℕ) → IsIn (Ask a t k) w.ever → IsIn t es ⊎ IsIn t rs)
MayTurn w (Execute_taken a t left) = Takes w (Execute a t) left × (w.holder t ≡ Some a)
MayTurn w (Execute_again a t left) = Takes w (Execute a t) left × (w.holder t ≢ Some a)
MayTurn w (Release_taken a t left) = Takes w (Release a t) left × (w.holder t ≡ Some a)
MayTurn w (Release_noted a t left) = Takes w (Release a t) left × (w.holder t ≢ Some a)
MayTurn w (Executed_taken a t left execs) = Takes w (Executed a t) left × Without (a, t) w.execs execs
MayTurn w (Released_taken a t left rels) = Takes w (Released a t) left × Without (a, t) w.rels rels
MayTurn w (Resends p) = IsIn p w.ever

abbrev pub new_attempt : Asking → Who → Attempt
new_attempt w who = record { who = who; turn = suc (w.turns (who.master)) }

abbrev pub ends_at : Asking → ℕ → ℕ → ℕ → ℕ → ℕ → ℕ
ends_at w t m x = put_two w.ended t m (max (w.ended t m) x)

abbrev pub turned : Asking → Turn → Asking
turned w (Starts who) = record w { turns = put w.turns (who.master) (suc (w.turns (who.master))); trying = put w.trying (who.master) (Some (new_attempt w who)); holder = put w.holder (who.master) (Some (new_attempt w who)) }
turned w (Asks m a t k) = record w { awaits = put w.awaits m (Ask a t k ∷ []); ever = Ask a t k ∷ w.ever; fresh = Ask a t k ∷ w.fresh }
turned w (Syncs m a t k) = record w { awaits = put w.awaits m (Sync a t k ∷ []); ever = Sync a t k ∷ w.ever; fresh = Sync a t k ∷ w.fresh }
turned w (Granted a t k left ends) = record w { holder = put w.holder t (Some a); ended = ends_at w t (a.who.master) ends; ever = Asked a t k ∷ w.ever; fresh = Asked a t k ∷ left }
turned w (Refused a t k left) = record w { ever = Asked a t k ∷ w.ever; fresh = Asked a t k ∷ left }
turned w (Ignored a t k left) = record w { fresh = left }
turned w (Sync_taken a t k left) = record w { ever = Synced a t k ∷ w.ever; fresh = Synced a t k ∷ left }
turned w (Sync_ignored a t k left) = record w { fresh = left }
turned w (Answer_taken m p left) = record w { awaits = put w.awaits m []; fresh = left }
turned w (Answer_ignored p left) = record w { fresh = left }
turned w (Finishes m a es rs) = record w {
  trying = put w.trying m None;
  awaits = put w.awaits m [];
  holder = put w.holder m None;
  ended = ends_at w m m a.turn;
  execs = map (λ t. (a, t)) es ++ w.execs;
  rels = map (λ t. (a, t)) rs ++ w.rels;
  ever = map (Execute a) es ++ (map (Release a) rs ++ w.ever);
  fresh = map (Execute a) es ++ (map (Release a) rs ++ w.fresh);
}
turned w (Execute_taken a t left) = record w { holder = put w.holder t None; ended = ends_at w t (a.who.master) a.turn; ever = Executed a t ∷ w.ever; fresh = Executed a t ∷ left }
turned w (Execute_again a t left) = record w { ever = Executed a t ∷ w.ever; fresh = Executed a t ∷ left }
turned w (Release_taken a t left) = record w { holder = put w.holder t None; ended = ends_at w t (a.who.master) a.turn; ever = Released a t ∷ w.ever; fresh = Released a t ∷ left }
turned w (Release_noted a t left) = record w { holder = put w.holder t (w.holder t); ended = ends_at w t (a.who.master) a.turn; ever = Released a t ∷ w.ever; fresh = Released a t ∷ left }
turned w (Executed_taken a t left execs) = record w { execs = execs; fresh = left }
turned w (Released_taken a t left rels) = record w { rels = rels; fresh = left }
turned w (Resends p) = record w { fresh = p ∷ w.fresh }

abbrev pub Turns : Asking → List Turn → Asking → Type 0
Turns w [] v = v ≡ w
Turns w (u ∷ us) v = MayTurn w u × Turns (turned w u) us v

abbrev pub idle : Asking
idle = record { holder = λ _. None; ended = λ _ _. 0; trying = λ _. None; turns = λ _. 0; awaits = λ _. []; execs = []; rels = []; ever = []; fresh = [] }
