-- What happens in the cluster between two recoveries, when it may, and what it makes of the world. A guard says no
-- more than a target or a home can know: what it has in memory, and what came to it.
use Rattle.fid_space.specs.declared.fid.Fid.{Fid}
use Rattle.object_store.specs.Reads.{reads}
use Rattle.out_update.specs.declared.result.UpdateResult.{UpdateResult}
use Rattle.out_update.specs.declared.update.Update.{Update}
use Rattle.std.specs.FinMap.{get}
use Rattle.std.specs.Prelude.{List, None, Option, Some, [], false, length, map, max, suc, true, ℕ, ◌++◌, ◌<◌, ◌∷◌, ◌≡◌, ◌≢◌, ◌≤◌, ◌⊎◌}
use Rattle.tree_model.specs.OpText.{IsOp}
use Rattle.tree_model.specs.Participants.{home_of}
use Rattle.update_protocol.specs.Facts.{Asks, Decision, Settles, place}
use Rattle.update_protocol.specs.Lists.{IsIn, put, put_two}
use Rattle.tree_shares.specs.Seats.{Share, share_of}
use Rattle.update_protocol.specs.Seats.{IsBelow, is_read}
use Rattle.update_protocol.specs.World.{Accepted, Answer, Attempt, Cancel, Covers, Each, Execute, Held, History, Hold, Message, Release, Stable, Sync, Synced, Who, World, after_items, at, facts_of, is_on, made, master, request_of, wrote_of}
use Rattle.update_record.specs.Spelling.{has_target}

-- EVENTS

-- * `Ask`: a home begins an attempt of a request, which holds it; `Give_up`: it ends one; `Accept`: it accepts;
-- * `Send`: a message is sent, by whoever may send it; any message may come as often as one likes, late or never;
-- * `Hold_comes`: a target is held, or was before by the same attempt, and answers; `Hold_takes_over`: it is taken
--   from an earlier attempt of the same request;
-- * `Sync_comes`: a target that has committed everything answers that; `Commit`: it commits what it has in memory;
-- * `Execute_comes`: a target that the attempt of a record holds executes it and lets go;
-- * `Release_comes`, `Release_noted`: a target lets go, or notes that an attempt which doesn't hold it has ended;
-- * `Stable_comes`, `Raise`, `Cancel_own`: a master is told a stable batch, raises its mark, cancels a record of its own
--   up to the mark; `Cancel_comes`: a target cancels a record of a master up to the mark that it is told;
-- * `Stop`: a target stops, and has what its disk has; `Tear`: it stops inside a commit, and its disk may have either
--   image; `Adopt`: it is restarted, and its disk had the new one;
-- * `Forget`: a recovery begins.
pub data Event : Type 0 where
  Ask : (who : Who) → Event
  Send : (p : Message) → Event
  Hold_comes : (a : Attempt) (t : ℕ) (q : List Update) (writer : Option ℕ) (results : List UpdateResult) → Event
  Hold_takes_over : (a : Attempt) (t : ℕ) (q : List Update) (writer : Option ℕ) (results : List UpdateResult) (b : Attempt) → Event
  Sync_comes : (a : Attempt) (t k : ℕ) → Event
  Accept : (m : ℕ) (x : Accepted) → Event
  Give_up : (m : ℕ) (a : Attempt) → Event
  Execute_comes : (n t : ℕ) → Event
  Release_comes : (a : Attempt) (t : ℕ) → Event
  Release_noted : (a : Attempt) (t : ℕ) → Event
  Commit : (t : ℕ) → Event
  Stable_comes : (t m b : ℕ) → Event
  Raise : (m b : ℕ) → Event
  Cancel_own : (m n : ℕ) → Event
  Cancel_comes : (m b t n : ℕ) → Event
  Stop : (t : ℕ) → Event
  Tear : (t : ℕ) → Event
  Adopt : (t : ℕ) → Event
  Forget : Event

-- WHAT THEY MAKE OF THE WORLD

abbrev pub happens : World → Event → World
happens w (Ask who) = record w {
  turns = put w.turns who.master (suc (w.turns who.master));
  trying = put w.trying who.master (Some (record { who = who; turn = suc (w.turns who.master) }));
  holder = put w.holder who.master (Some (record { who = who; turn = suc (w.turns who.master) }));
}
happens w (Send p) = record w { pool = p ∷ w.pool }
happens w (Hold_comes a t q k f) = record w { holder = put w.holder t (Some a); pool = Held a t q k (w.clock t) f ∷ w.pool }
happens w (Hold_takes_over a t q k f b) = record w {
  holder = put w.holder t (Some a);
  ended = put_two w.ended t a.who.master (max (w.ended t a.who.master) b.turn);
  pool = Held a t q k (w.clock t) f ∷ w.pool;
}
happens w (Sync_comes a t k) = record w { pool = Synced a t ∷ w.pool }
happens w (Accept m x) = record w {
  since = w.since ++ x ∷ [];
  done = put w.done m (w.done m ++ length w.since ∷ []);
  holder = put w.holder m None;
  ended = put_two w.ended m m (max (w.ended m m) x.attempt.turn);
  clock = put w.clock m x.stamp;
  trying = put w.trying m None;
  batches = put w.batches m x.batch;
}
happens w (Give_up m a) = record w {
  trying = put w.trying m None;
  holder = put w.holder m None;
  ended = put_two w.ended m m (max (w.ended m m) a.turn);
}
happens w (Execute_comes n t) = record w {
  done = put w.done t (w.done t ++ n ∷ []);
  holder = put w.holder t None;
  ended = put_two w.ended t (master (at w.since n)) (max (w.ended t (master (at w.since n))) (at w.since n).attempt.turn);
  clock = put w.clock t (at w.since n).stamp;
}
happens w (Release_comes a t) = record w {
  holder = put w.holder t None;
  ended = put_two w.ended t a.who.master (max (w.ended t a.who.master) a.turn);
}
happens w (Release_noted a t) = record w { ended = put_two w.ended t a.who.master (max (w.ended t a.who.master) a.turn) }
happens w (Commit t) = record w {
  disk = put w.disk t (w.done t);
  kept_mark = put w.kept_mark t (w.mark t);
  kept_gone = put w.kept_gone t (w.gone t);
  torn = put w.torn t (w.done t);
  torn_mark = put w.torn_mark t (w.mark t);
  torn_gone = put w.torn_gone t (w.gone t);
}
happens w (Stable_comes t m b) = record w { stable = put_two w.stable m t (max (w.stable m t) b) }
happens w (Raise m b) = record w { mark = put w.mark m b }
happens w (Cancel_own m n) = record w { gone = put w.gone m (n ∷ w.gone m) }
happens w (Cancel_comes m b t n) = record w { gone = put w.gone t (n ∷ w.gone t) }
happens w (Stop t) = record w {
  up = put w.up t false;
  done = put w.done t (w.disk t);
  mark = put w.mark t (w.kept_mark t);
  gone = put w.gone t (w.kept_gone t);
}
happens w (Tear t) = record w {
  torn = put w.torn t (w.done t);
  torn_mark = put w.torn_mark t (w.mark t);
  torn_gone = put w.torn_gone t (w.gone t);
  up = put w.up t false;
  done = put w.done t (w.disk t);
  mark = put w.mark t (w.kept_mark t);
  gone = put w.gone t (w.kept_gone t);
}
happens w (Adopt t) = record w {
  disk = put w.disk t (w.torn t);
  done = put w.done t (w.torn t);
  kept_mark = put w.kept_mark t (w.torn_mark t);
  mark = put w.mark t (w.torn_mark t);
  kept_gone = put w.kept_gone t (w.torn_gone t);
  gone = put w.gone t (w.torn_gone t);
}
happens w Forget = record w { trying = λ _. None; serving = false }

-- GUARDS

-- the writer that was told covers the item, or everything at t was committed since
abbrev pub Settled : World → ℕ → Attempt → Option ℕ → Accepted → Type 0
Settled w t a None x = Unit
Settled w t a (Some k) x = Covers (at w.since k) x ⊎ IsIn (Synced a t) w.pool

module _ (targets : ℕ) where
  -- Why an attempt asks t for a sync: its answers decide its operation, and the writer that t told lacks a target on
  -- which the operation is.
  pub record Backed (since : List Accepted) (pool : List Message) (a : Attempt) (t k : ℕ) : Type 0 where
    pub is_op : IsOp targets a.who.request.op
    pub answers : List Answer
    pub heard : (b : Answer) → IsIn b answers → IsIn (Held a b.at b.question b.writer b.clock b.results) pool
    pub placed : (b : Answer) → IsIn b answers → (u : Update) → IsIn u b.question → b.at ≡ place targets u.fid
    pub batch : ℕ
    pub decision : Decision
    pub decided : Settles targets (facts_of answers) batch a.who.request.op decision
    pub answer : Answer
    pub answered : IsIn answer answers
    pub at_t : answer.at ≡ t
    pub writer : answer.writer ≡ Some k
    pub object : Fid
    pub asks : Asks targets answer.question object
    pub inside : k < length since
    pub lacks : ℕ
    pub takes_part : has_target lacks decision.parts ≡ true
    pub uncovered : is_on (at since k) lacks ≡ false

  -- what a target tells as the last writer of what is asked for that it hasn't committed
  abbrev pub Tells : World → ℕ → List Update → Option ℕ → Type 0
  Tells w t q None = (f : Fid) → Asks targets q f → (n : ℕ) → IsIn n (w.done t) → wrote_of (at w.since n) f ≡ true → IsIn n (w.disk t)
  Tells w t q (Some k) =
      IsIn k (w.done t)
      × ((f : Fid) → Asks targets q f → (wrote_of (at w.since k) f ≡ true) × ((n : ℕ) → IsIn n (w.done t) → wrote_of (at w.since n) f ≡ true → n ≤ k))
      × (IsIn k (w.disk t) → ⊥)

  -- what a target has: its share as its items made it
  abbrev pub has_now : World → ℕ → Share
  has_now w t = made targets w.since t (w.done t) (share_of targets w.base t)

  -- the results are those of its objects
  abbrev pub IsFact : World → ℕ → List Update → List UpdateResult → Type 0
  IsFact w t q f = f ≡ map (reads (has_now w t).objects) q

  -- answers that came to an attempt, each of the target of what it was asked
  pub record AreHeard (pool : List Message) (a : Attempt) (answers : List Answer) : Type 0 where
    pub came : (b : Answer) → IsIn b answers → IsIn (Held a b.at b.question b.writer b.clock b.results) pool
    pub placed : (b : Answer) → IsIn b answers → (u : Update) → IsIn u b.question → b.at ≡ place targets u.fid

  -- What a home needs to accept. It serves, this is its attempt, and of no read; each target that was asked for a sync answered or
  -- stopped. Each answer was told to this attempt by the target of what it asked; its writer covers the item, or its
  -- target was synced. Each target of the item answered, the stamp is above each clock, and the facts decide the item.
  pub record MayAccept (w : World) (m : ℕ) (x : Accepted) : Type 0 where
    pub is_current : w.trying m ≡ Some x.attempt
    pub is_up : w.up m ≡ true
    pub all_synced : (t k : ℕ) → IsIn (Sync x.attempt t k) w.pool → (w.up t ≡ false) ⊎ IsIn (Synced x.attempt t) w.pool
    pub next_batch : x.batch ≡ suc (w.batches m)
    pub is_op : IsOp targets (request_of x).op
    pub changes : is_read (request_of x).op ≡ false
    pub few : length (after_items w.base w.since) < 0x0ffffffe
    pub answers : List Answer
    pub heard : (a : Answer) → IsIn a answers → IsIn (Held x.attempt a.at a.question a.writer a.clock a.results) w.pool
    pub placed : (a : Answer) → IsIn a answers → (u : Update) → IsIn u a.question → a.at ≡ place targets u.fid
    pub settled : (a : Answer) → IsIn a answers → Settled w a.at x.attempt a.writer x
    pub above : (a : Answer) → IsIn a answers → a.clock < x.stamp
    pub certified : (t : ℕ) → is_on x t ≡ true → (a : Answer) × IsIn a answers × (a.at ≡ t)
    pub decided : Settles targets (facts_of answers) x.batch (request_of x).op (record { reply = x.reply; parts = x.parts; saw = x.saw })

  -- A home sends what its attempt asks, then the record to the targets that it names, and a release to those that it
  -- doesn't. A target tells a master up to which batch it has committed, and a master its committed mark.
  abbrev pub MaySend : World → Message → Type 0
  MaySend w (Hold a t q) = w.trying a.who.master ≡ Some a
  MaySend w (Held a t q k c f) = ⊥
  MaySend w (Sync a t k) = (w.trying a.who.master ≡ Some a) × Backed w.since w.pool a t k
  MaySend w (Synced a t) = ⊥
  MaySend w (Execute n t) = (n < length w.since) × (is_on (at w.since n) t ≡ true)
  MaySend w (Release a t) = (a.turn ≤ w.turns a.who.master) × (w.trying a.who.master ≢ Some a) × Each (λ n x. x.attempt ≡ a → is_on x t ≡ false) w.since
  MaySend w (Stable t m b) = (n : ℕ) × IsIn n (w.disk t) × (master (at w.since n) ≡ m) × ((at w.since n).batch ≡ b)
  MaySend w (Cancel m b) = b ≤ w.kept_mark m

  -- The seat of a request that isn't a read is judged by the home's own share, while nothing holds the home.
  abbrev pub May : World → Event → Type 0
  May w (Ask who) =
      (w.up who.master ≡ true) × (w.holder who.master ≡ None) × (home_of targets who.request.op ≡ Some who.master) × (who.master < targets)
      × (is_read who.request.op ≡ false → IsBelow (get (has_now w who.master).seats who.request.client) who.request.number)
  May w (Send p) = MaySend w p
  May w (Hold_comes a t q k f) =
      IsIn (Hold a t q) w.pool × (w.up t ≡ true) × ((w.holder t ≡ Some a) ⊎ ((w.holder t ≡ None) × (w.ended t a.who.master < a.turn)))
      × Tells w t q k × IsFact w t q f × (t < targets)
  May w (Hold_takes_over a t q k f b) =
      IsIn (Hold a t q) w.pool × (w.up t ≡ true) × (w.holder t ≡ Some b) × (b.who ≡ a.who) × (b.turn < a.turn) × (w.ended t a.who.master < a.turn)
      × Tells w t q k × IsFact w t q f × (t < targets)
  May w (Sync_comes a t k) = IsIn (Sync a t k) w.pool × (w.up t ≡ true) × (w.holder t ≡ Some a) × ((n : ℕ) → IsIn n (w.done t) → IsIn n (w.disk t))
  May w (Accept m x) = MayAccept w m x
  May w (Give_up m a) = (w.trying m ≡ Some a) × ((t k : ℕ) → IsIn (Sync a t k) w.pool → (w.up t ≡ false) ⊎ IsIn (Synced a t) w.pool)
  May w (Execute_comes n t) = IsIn (Execute n t) w.pool × (w.up t ≡ true) × (w.holder t ≡ Some (at w.since n).attempt)
  May w (Release_comes a t) = IsIn (Release a t) w.pool × (w.up t ≡ true) × (w.holder t ≡ Some a)
  May w (Release_noted a t) = Unit
  May w (Commit t) = w.up t ≡ true
  May w (Stable_comes t m b) = IsIn (Stable t m b) w.pool
  May w (Raise m b) =
      (w.mark m ≤ b) × (b ≤ w.batches m)
      × Each (λ n a. master a ≡ m → a.batch ≤ b → (t : ℕ) → is_on a t ≡ true → a.batch ≤ w.stable m t) w.since
  May w (Cancel_own m n) = (n < length w.since) × (master (at w.since n) ≡ m) × ((at w.since n).batch ≤ w.mark m)
  May w (Cancel_comes m b t n) = IsIn (Cancel m b) w.pool × (n < length w.since) × (master (at w.since n) ≡ m) × ((at w.since n).batch ≤ b)
  May w (Stop t) = Unit
  May w (Tear t) = w.up t ≡ true
  May w (Adopt t) = w.up t ≡ false
  May w Forget = Unit

  -- events one after another, each of which may come
  abbrev pub Run : World → List Event → World → Type 0
  Run w [] v = v ≡ w
  Run w (e ∷ es) v = May w e × Run (happens w e) es v

-- What goes on from one epoch to the next besides the history: the clocks, and the numbers of attempts. They may
-- be any.
pub record Start : Type 0 where
  pub clock : ℕ → ℕ
  pub turns : ℕ → ℕ
  pub ended : ℕ → ℕ → ℕ

-- the world at the start of an epoch
abbrev pub fresh : Start → History → World
fresh s b = record {
  base = b;
  since = [];
  up = λ _. true;
  done = λ _. [];
  disk = λ _. [];
  holder = λ _. None;
  ended = s.ended;
  clock = s.clock;
  trying = λ _. None;
  turns = s.turns;
  batches = λ _. 0;
  stable = λ _ _. 0;
  mark = λ _. 0;
  kept_mark = λ _. 0;
  gone = λ _. [];
  kept_gone = λ _. [];
  torn = λ _. [];
  torn_mark = λ _. 0;
  torn_gone = λ _. [];
  serving = true;
  pool = [];
}
