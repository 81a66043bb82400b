-- When a cluster agrees with a world of the machine of the protocol.
use Rattle.std.specs.Prelude.{◌≡◌, ◌<◌, ◌≤◌, ◌+◌, ◌-◌, ℕ, true, List, [], ◌∷◌, length, drop, map, get_or, Option, Some, None}
use Rattle.std.specs.FinMap.{get, empty}
use Rattle.tree_model.specs.declared.op.Request.{Request}
use Rattle.out_update.specs.declared.update.Update.{Update}
use Rattle.update_record.specs.declared.message.Attempt.{Attempt as Name}
use Rattle.update_record.specs.declared.message.Message.{Message as Mail}
use Rattle.update_record.specs.declared.message.MessageKind.{MessageKind}
use Rattle.update_record.specs.declared.message.MessageKind.TheVariants as kind
use Rattle.update_record.specs.Spelling.{FitsRecord, record_text, targets_from}
use Rattle.llog_store.specs.Changes.{live_payloads}
use Rattle.tree_shares.specs.Seats.{share_of}
use Rattle.cluster_mail.specs.Mail.{Sent}
use Rattle.cluster_mail.specs.Answering.{attempt_of}
use Rattle.cluster_mail.specs.declared.content.Content.{Content}
use Rattle.cluster_mail.specs.declared.content.Content.TheVariants as content
use Rattle.cluster_mail.specs.Content.{Says}
use Rattle.target_state.specs.State.{TargetState}
use Rattle.target_state.specs.Rules.{waiting_of}
use Rattle.update_coordinator.specs.declared.words.Going.{Going}
use Rattle.update_coordinator.specs.Coordinating.{Coordinating}
use Rattle.target_turns.specs.Target.{Target, serves}
use Rattle.update_protocol.specs.Facts.{place}
use Rattle.update_protocol.specs.Lists.{IsIn}
use Rattle.update_protocol.specs.Rows.{live}
use Rattle.update_protocol.specs.World.{Accepted, Attempt, Cancel, Each, Execute, Held, History, Hold, Message, Release, Stable, Sync, Synced, World, at, is_on, made, master, request_of}
use Rattle.turn_laws.specs.Values.{Asked, Cluster, Genuine, Inside, Questions, Slice, Unique, name_of, named, noted_all, record_of, records, seat_of, slice, target_at, writer_at}

-- one update of an object there, or none
abbrev pub IsQuestion : ℕ → ℕ → List Update → Type 0
IsQuestion targets t [] = Unit
IsQuestion targets t (u ∷ []) = place targets u.fid ≡ t
IsQuestion targets t (u ∷ v ∷ us) = ⊥

-- ---- a target

-- Its node has its share as the machine's target made it, and of the log the records that aren't cancelled.
pub record KeepsNode (targets e : ℕ) (sent : List Request) (start : ℕ) (base : History) (since : List Accepted) (t : ℕ) (s : Slice) (n : TargetState) : Type 0 where
  pub cluster : n.targets ≡ targets
  pub index : n.index ≡ t
  pub epoch : n.epoch ≡ e
  pub transno : n.transno ≡ start + length s.done
  pub clock : n.clock ≡ s.clock
  pub mark : n.mark ≡ s.mark
  pub seats : (client : ℕ) → client < length n.seats → get_or n.seats client None ≡ seat_of (get (made targets since t s.done (share_of targets base t)).seats client)
  pub objects : n.objects ≡ (made targets since t s.done (share_of targets base t)).objects
  pub log : live_payloads n.log.entries ≡ map record_text (records e since (live s.done s.gone))
  pub waiting : n.waiting ≡ map waiting_of (records e since (drop (length s.disk) s.done))
  pub writers : n.writers ≡ noted_all t empty (records e since (drop (length s.disk) s.done))
  pub holder : n.holder ≡ named e s.holder
  pub genuine : (a : Attempt) → s.holder ≡ Some a → Genuine targets sent a
  pub wide : length n.ended ≡ 16
  pub ended : (m : ℕ) → m < 16 → get_or n.ended m 0 ≡ s.ended m

-- an attempt that is under way
pub record IsGoing (targets e : ℕ) (sent : List Request) (trying : Option Attempt) (g : Going) : Type 0 where
  pub attempt : Attempt
  pub current : trying ≡ Some attempt
  pub request : g.course.request ≡ attempt.who.request
  pub genuine : Genuine targets sent attempt

-- As a home it has numbered its attempts and batches as the machine, and noted what it was told to be stable.
pub record KeepsHome (targets e : ℕ) (sent : List Request) (since : List Accepted) (t : ℕ) (s : Slice) (c : Coordinating) : Type 0 where
  pub cluster : c.targets ≡ targets
  pub at_home : c.master ≡ t
  pub epoch : c.epoch ≡ e
  pub attempts : c.attempts ≡ s.turns
  pub batches : length c.batches ≡ s.batches
  pub sets : Each (λ n x. master x ≡ t → get_or c.batches (x.batch - 1) 0 ≡ targets_from 0 x.parts) since
  pub wide : length c.stable ≡ 16
  pub stable : (u : ℕ) → u < 16 → get_or c.stable u 0 ≡ s.stable u
  pub mark : c.mark ≡ s.mark
  pub under : Each (λ n x. master x ≡ t → x.batch ≤ s.mark → (u : ℕ) → is_on x u ≡ true → x.batch ≤ s.stable u) since
  pub idle : c.current ≡ None → s.trying ≡ None
  pub going : (g : Going) → c.current ≡ Some g → IsGoing targets e sent s.trying g

pub record Keeps (targets e : ℕ) (sent : List Request) (start : ℕ) (base : History) (since : List Accepted) (t : ℕ) (s : Slice) (x : Target) : Type 0 where
  pub cluster : x.targets ≡ targets
  pub index : x.index ≡ t
  pub node : KeepsNode targets e sent start base since t s x.node
  pub home : KeepsHome targets e sent since t s x.home

-- ---- messages

-- the attempt of which a message is an answer
abbrev pub answered_of : Mail → Name
answered_of m = record { epoch = m.epoch; master = m.to; attempt = m.attempt; number = m.number }

-- What a message of this epoch says stands for a message of the machine.
module _ (targets e : ℕ) (sent : List Request) (asked : Questions) (since : List Accepted) (pool : List Message) where
  abbrev pub TiedHold : Mail → Content → Type 0
  TiedHold m (content.Questions q) =
      (a : Attempt) × (attempt_of m ≡ name_of e a) × Genuine targets sent a × (IsQuestion targets m.to q × Asked asked (attempt_of m) m.ask (Some q)) × IsIn (Hold a m.to q) pool
  TiedHold m _ = ⊥

  abbrev pub TiedHeld : Mail → Content → Type 0
  TiedHeld m (content.Tells f) =
      (a : Attempt) × (answered_of m ≡ name_of e a) × Genuine targets sent a × (q : List Update) × (k : Option ℕ)
      × (f.writer ≡ writer_at since k) × (Inside since k × Asked asked (answered_of m) m.ask (Some q)) × IsIn (Held a m.from q k f.clock f.reply) pool
  TiedHeld m _ = ⊥

  abbrev pub TiedSync : Mail → Type 0
  TiedSync m = (a : Attempt) × (attempt_of m ≡ name_of e a) × Genuine targets sent a × (k : ℕ) × (k < length since) × (m.value ≡ (request_of (at since k)).number) × IsIn (Sync a m.to k) pool

  abbrev pub TiedSynced : Mail → Type 0
  TiedSynced m = (a : Attempt) × (answered_of m ≡ name_of e a) × Genuine targets sent a × IsIn (Synced a m.from) pool

  abbrev pub TiedExecute : Mail → Content → Type 0
  TiedExecute m (content.Carries r) = (n : ℕ) × (n < length since) × (attempt_of m ≡ name_of e (at since n).attempt) × (r ≡ record_of e (at since n)) × IsIn (Execute n m.to) pool
  TiedExecute m _ = ⊥

  abbrev pub TiedRelease : Mail → Type 0
  TiedRelease m = (a : Attempt) × (attempt_of m ≡ name_of e a) × Genuine targets sent a × IsIn (Release a m.to) pool

  -- by its kind
  abbrev pub Tied : MessageKind → Mail → Content → Type 0
  Tied kind.Hold m c = TiedHold m c
  Tied kind.Held m c = TiedHeld m c
  Tied kind.Sync m c = TiedSync m
  Tied kind.Synced m c = TiedSynced m
  Tied kind.Execute m c = TiedExecute m c
  Tied kind.Release m c = TiedRelease m
  Tied kind.Stable m c = IsIn (Stable m.from m.to m.value) pool
  Tied kind.Cancel m c = IsIn (Cancel m.from m.value) pool
  Tied kind.Request m c = Unit
  Tied kind.HoldBusy m c = Unit
  Tied kind.Executed m c = Unit
  Tied kind.Released m c = Unit

  abbrev pub Carried : Mail → Type 0
  Carried m = (c : Content) × Says targets m.kind m.body c × Tied m.kind m c

-- ---- the cluster

-- an item of the machine is of a request that was sent, and its record has a spelling
pub record IsItem (targets e : ℕ) (sent : List Request) (x : Accepted) : Type 0 where
  pub genuine : Genuine targets sent x.attempt
  pub fits : FitsRecord (record_of e x)

-- Of a world in which no recovery has begun: each target that serves keeps what the machine knows of it, and each
-- message of the epoch stands for one of the machine. What was sent and asked, and the transaction numbers at the
-- start of the epoch, stand here alone.
pub record Agrees (targets : ℕ) (c : Cluster) (w : World) : Type 0 where
  pub epoch : ℕ
  pub sent : List Request
  pub unique : Unique sent
  pub asked : Questions
  pub start : ℕ → ℕ
  pub serving : w.serving ≡ true
  pub items : Each (λ n x. IsItem targets epoch sent x) w.since
  pub few : length c.targets ≡ targets
  pub ups : (t : ℕ) → t < length c.targets → w.up t ≡ serves (target_at c.targets t)
  pub keeps : (t : ℕ) → serves (target_at c.targets t) ≡ true → Keeps targets epoch sent (start t) w.base w.since t (slice w t) (target_at c.targets t)
  pub carried : (m : Sent) → IsIn m c.sent → m.message.epoch ≡ epoch → Carried targets epoch sent asked w.since w.pool m.message
