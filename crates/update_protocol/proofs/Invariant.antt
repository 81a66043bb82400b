-- What holds at each moment between two recoveries.
use Rattle.fid_space.specs.declared.fid.Fid.{Fid}
use Rattle.object_store.specs.Reads.{reads}
use Rattle.out_update.specs.declared.result.UpdateResult.{UpdateResult}
use Rattle.out_update.specs.declared.update.Update.{Update}
use Rattle.std.specs.List.{AllByRecursion}
use Rattle.std.specs.Prelude.{Bool, List, None, Option, Some, false, length, map, suc, take, true, ℕ, ◌<◌, ◌≡◌, ◌≢◌, ◌≤◌, ◌⊎◌}
use Rattle.tree_model.specs.OpText.{IsOp}
use Rattle.tree_model.specs.Participants.{home_of}
use Rattle.update_protocol.specs.Events.{Backed}
use Rattle.update_protocol.specs.Facts.{Asks, place}
use Rattle.update_protocol.specs.Lists.{IsIn, Rising}
use Rattle.tree_shares.specs.Seats.{Ordered, share_of}
use Rattle.update_protocol.specs.Seats.{Newest, is_read}
use Rattle.update_protocol.specs.World.{Accepted, Attempt, Cancel, Covers, Each, Execute, Follows, Full, Held, History, Hold, Message, Named, Pairs, Release, Stable, Sync, Synced, World, after_items, at, count_home, is_on, master, saw_of, wrote_of}

abbrev pub Safe : (ℕ → List ℕ) → ℕ → Accepted → Accepted → Type 0
Safe disk n a b = Named disk n ⊎ Covers a b

-- an attempt that its master has ended
abbrev pub Over : (ℕ → ℕ) → (ℕ → Option Attempt) → Attempt → Type 0
Over turns trying a = (a.turn ≤ turns a.who.master) × (trying a.who.master ≢ Some a)

abbrev pub Stably : List Accepted → (ℕ → List ℕ) → (ℕ → ℕ) → ℕ → ℕ → ℕ → Type 0
Stably since disk batches t m b = (b ≤ batches m) × Each (λ n a. master a ≡ m → is_on a t ≡ true → a.batch ≤ b → IsIn n (disk t)) since

-- what targets executed
pub record Executed (since : List Accepted) (up : ℕ → Bool) (done disk : ℕ → List ℕ) (clock : ℕ → ℕ) : Type 0 where
  pub in_order : (t : ℕ) → Rising (done t)
  pub has : (t n : ℕ) → IsIn n (disk t) → IsIn n (done t)
  pub known_done : (t n : ℕ) → IsIn n (done t) → (n < length since) × (is_on (at since n) t ≡ true)
  pub one_waits : Pairs (λ n m a b. (t : ℕ) → up t ≡ true → is_on a t ≡ true → is_on b t ≡ true → IsIn n (done t)) since
  pub clocked : (t n : ℕ) → up t ≡ true → IsIn n (done t) → (at since n).stamp ≤ clock t
  pub down_done : (t n : ℕ) → up t ≡ false → IsIn n (done t) → IsIn n (disk t)
  pub home_done : Each (λ n a. up (master a) ≡ true → IsIn n (done (master a))) since

-- batches, marks and cancelled records
pub record Marking (since : List Accepted) (disk : ℕ → List ℕ) (batches : ℕ → ℕ) (stable : ℕ → ℕ → ℕ) (mark kept : ℕ → ℕ) (gone : ℕ → List ℕ) : Type 0 where
  pub batched : Each (λ n a. a.batch ≤ batches (master a)) since
  pub batches_rise : Pairs (λ n m a b. master a ≡ master b → a.batch < b.batch) since
  pub heard : (m t : ℕ) → Stably since disk batches t m (stable m t)
  pub marked : Each (λ n a. a.batch ≤ mark (master a) → Full disk n a) since
  pub mark_most : (m : ℕ) → (kept m ≤ mark m) × (mark m ≤ batches m)
  pub dropped : (t n : ℕ) → IsIn n (gone t) → (n < length since) × (((at since n).batch ≤ kept (master (at since n))) ⊎ ((master (at since n) ≡ t) × ((at since n).batch ≤ mark t)))

-- what an image that a failed commit may have left would hold
pub record Tearing (since : List Accepted) (disk torn : ℕ → List ℕ) (batches kept torn_mark : ℕ → ℕ) (torn_gone : ℕ → List ℕ) : Type 0 where
  pub torn_has : (t n : ℕ) → IsIn n (disk t) → IsIn n (torn t)
  pub torn_rising : (t : ℕ) → Rising (torn t)
  pub torn_known : (t n : ℕ) → IsIn n (torn t) → (n < length since) × (is_on (at since n) t ≡ true)
  pub torn_prefix : Pairs (λ n m a b. (t : ℕ) → IsIn m (torn t) → is_on a t ≡ true → IsIn n (torn t)) since
  pub torn_under : Each (λ n a. a.batch ≤ torn_mark (master a) → Full disk n a) since
  pub torn_most : (m : ℕ) → (kept m ≤ torn_mark m) × (torn_mark m ≤ batches m)
  pub torn_dropped : (t n : ℕ) → IsIn n (torn_gone t) → (n < length since) × (((at since n).batch ≤ kept (master (at since n))) ⊎ ((master (at since n) ≡ t) × ((at since n).batch ≤ torn_mark t)))

-- a batch is the position of its item is_among of those its home, from 1
pub record Numbered (since : List Accepted) (batches : ℕ → ℕ) : Type 0 where
  pub counted : (m : ℕ) → batches m ≡ count_home m since
  pub position : Each (λ n a. a.batch ≡ suc (count_home (master a) (take n since))) since

module _ (targets : ℕ) where
  -- Each part of the invariant takes the fields that it speaks of, and not the world: an event that leaves these fields
  -- keeps the part by computation.
  -- what the disks and the history say
  pub record Durable (since : List Accepted) (disk : ℕ → List ℕ) (batches kept : ℕ → ℕ) (kept_gone : ℕ → List ℕ) : Type 0 where
    pub rising : (t : ℕ) → Rising (disk t)
    pub known : (t n : ℕ) → IsIn n (disk t) → (n < length since) × (is_on (at since n) t ≡ true)
    pub prefix : Pairs (λ n m a b. (t : ℕ) → IsIn m (disk t) → is_on a t ≡ true → IsIn n (disk t)) since
    pub shared : Pairs (λ n m a b. (f : Fid) → wrote_of a f ≡ true → (saw_of b f ≡ true) ⊎ (wrote_of b f ≡ true) → Safe disk n a b) since
    pub stamps : Pairs (λ n m a b. (t : ℕ) → is_on a t ≡ true → is_on b t ≡ true → a.stamp < b.stamp) since
    pub covered : Each (λ n a. (f : Fid) → (wrote_of a f ≡ true) → is_on a (place targets f) ≡ true) since
    pub under : Each (λ n a. a.batch ≤ kept (master a) → Full disk n a) since
    pub at_most : (m : ℕ) → kept m ≤ batches m
    pub cancelled : (t n : ℕ) → IsIn n (kept_gone t) → (n < length since) × ((at since n).batch ≤ kept (master (at since n)))

  -- what a Held tells, as long as its attempt is current
  pub record Told (base : History) (since : List Accepted) (disk : ℕ → List ℕ) (t : ℕ) (q : List Update) (writer : Option ℕ) (clock : ℕ) (results : List UpdateResult) : Type 0 where
    pub still : results ≡ map (reads (share_of targets (after_items base since) t).objects) q
    pub clocks : Each (λ n a. is_on a t ≡ true → a.stamp ≤ clock) since
    pub nobody_else : writer ≡ None → (f : Fid) → Asks targets q f → Each (λ n a. is_on a t ≡ true → wrote_of a f ≡ true → IsIn n (disk t)) since
    pub last : (k : ℕ) → writer ≡ Some k → (f : Fid) → Asks targets q f → (k < length since) × (wrote_of (at since k) f ≡ true) × Each (λ n a. is_on a t ≡ true → wrote_of a f ≡ true → n ≤ k) since

  -- what a message of this epoch implies, for good; it speaks of these fields of the world alone
  abbrev pub Says : History → List Accepted → (ℕ → List ℕ) → (ℕ → Option Attempt) → (ℕ → Option Attempt) → (ℕ → ℕ) → (ℕ → ℕ) → (ℕ → ℕ) → Message → Type 0
  Says base since disk holder trying turns batches kept (Hold a t q) = (a.turn ≤ turns a.who.master) × Each (λ n x. a.who ≡ x.attempt.who → a.turn ≤ x.attempt.turn) since
  Says base since disk holder trying turns batches kept (Held a t q k c f) = (a.turn ≤ turns a.who.master) × (t < targets) × (trying a.who.master ≡ Some a → (holder t ≡ Some a) × Told base since disk t q k c f)
  Says base since disk holder trying turns batches kept (Sync a t k) = a.turn ≤ turns a.who.master
  Says base since disk holder trying turns batches kept (Synced a t) = (a.turn ≤ turns a.who.master) × (trying a.who.master ≡ Some a → (holder t ≡ Some a) × Each (λ n x. is_on x t ≡ true → IsIn n (disk t)) since)
  Says base since disk holder trying turns batches kept (Execute n t) = (n < length since) × (is_on (at since n) t ≡ true)
  Says base since disk holder trying turns batches kept (Release a t) = (a.turn ≤ turns a.who.master) × (trying a.who.master ≢ Some a) × Each (λ n x. x.attempt ≡ a → is_on x t ≡ false) since
  Says base since disk holder trying turns batches kept (Stable t m b) = Stably since disk batches t m b
  Says base since disk holder trying turns batches kept (Cancel m b) = b ≤ kept m

  abbrev pub Means : World → Message → Type 0
  Means w p = Says w.base w.since w.disk w.holder w.trying w.turns w.batches w.kept_mark p

  pub record Current (base : History) (since : List Accepted) (up : ℕ → Bool) (holder : ℕ → Option Attempt) (turns : ℕ → ℕ) (m : ℕ) (a : Attempt) : Type 0 where
    pub is_home : a.who.master ≡ m
    pub last_turn : a.turn ≡ turns m
    pub holds : holder m ≡ Some a
    pub not_yet : Each (λ n x. x.attempt.who ≢ a.who) since
    pub at_home : home_of targets a.who.request.op ≡ Some m
    pub newest : is_read a.who.request.op ≡ false → Newest targets (after_items base since) a.who.request

  -- who holds a target
  pub record Holding (base : History) (since : List Accepted) (up : ℕ → Bool) (done : ℕ → List ℕ) (holder : ℕ → Option Attempt) (ended : ℕ → ℕ → ℕ) (turns : ℕ → ℕ) (trying : ℕ → Option Attempt) : Type 0 where
    pub waits : Each (λ n a. (t : ℕ) → up t ≡ true → is_on a t ≡ true → IsIn n (done t) ⊎ (holder t ≡ Some a.attempt)) since
    pub once : Each (λ n a. (t : ℕ) → up t ≡ true → IsIn n (done t) → (holder t ≢ Some a.attempt) × (a.attempt.turn ≤ ended t (master a))) since
    pub over : Each (λ n a. Over turns trying a.attempt) since
    pub distinct : Pairs (λ n m a b. a.attempt.who ≢ b.attempt.who) since
    pub current : (m : ℕ) (a : Attempt) → trying m ≡ Some a → Current base since up holder turns m a

  -- what is taken of a history from which an epoch starts
  pub record Grounded (base : History) : Type 0 where
    pub each : AllByRecursion (λ i. IsOp targets i.request.op) base
    pub ordered : Ordered targets base

  -- syncs that are asked for and made
  pub record Syncing (since : List Accepted) (pool : List Message) (up : ℕ → Bool) (done disk : ℕ → List ℕ) (trying holder : ℕ → Option Attempt) (ended : ℕ → ℕ → ℕ) (serving : Bool) : Type 0 where
    pub backed : (a : Attempt) (t k : ℕ) → IsIn (Sync a t k) pool → Backed targets since pool a t k
    pub awaited : (a : Attempt) (t k : ℕ) → IsIn (Sync a t k) pool → serving ≡ true → (trying a.who.master ≡ Some a) ⊎ ((up t ≡ false) ⊎ IsIn (Synced a t) pool)
    pub synced : (a : Attempt) (t : ℕ) → IsIn (Synced a t) pool → up t ≡ true → ((holder t ≡ Some a) × ((n : ℕ) → IsIn n (done t) → IsIn n (disk t))) ⊎ ((holder t ≢ Some a) × (a.turn ≤ ended t a.who.master))
    pub whole : (a : Attempt) (t : ℕ) (q : List Update) (k c : ℕ) (f : List UpdateResult) → IsIn (Held a t q (Some k) c f) pool → trying a.who.master ≡ Some a → up t ≡ true → IsIn k (disk t)
        → (n : ℕ) → IsIn n (done t) → IsIn n (disk t)

  pub record Invariant (w : World) : Type 0 where
    pub grounded : Grounded w.base
    pub numbered : Numbered w.since w.batches
    pub durable : Durable w.since w.disk w.batches w.kept_mark w.kept_gone
    pub executed : Executed w.since w.up w.done w.disk w.clock
    pub syncing : Syncing w.since w.pool w.up w.done w.disk w.trying w.holder w.ended w.serving
    pub holding : Holding w.base w.since w.up w.done w.holder w.ended w.turns w.trying
    pub marking : Marking w.since w.disk w.batches w.stable w.mark w.kept_mark w.gone
    pub tearing : Tearing w.since w.disk w.torn w.batches w.kept_mark w.torn_mark w.torn_gone
    pub follows : Follows targets w.base w.since
    pub messages : (p : Message) → IsIn p w.pool → Means w p
