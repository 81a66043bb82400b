-- The world of the cluster between two recoveries, as a value. What a target has is named by the places of
-- operations in the list of those that were accepted. A home asks itself too: what it tells an attempt of its own
-- is a message of the home to itself, which stands here alone.
use Rattle.tree_model.specs.declared.op.Op.TheVariants as op
use Rattle.tree_model.specs.declared.reply.Reply.TheVariants as reply
use Rattle.fid_space.specs.declared.fid.Fid.{Fid}
use Rattle.object_store.specs.Meaning.{after_all}
use Rattle.op_laws.specs.Objects.{is_among, saw}
use Rattle.out_update.specs.declared.result.UpdateResult.{UpdateResult}
use Rattle.out_update.specs.declared.update.Update.{Update}
use Rattle.std.specs.Option.{unwrap_or}
use Rattle.std.specs.Prelude.{Bool, List, Option, Some, [], if◌then◌else◌, length, suc, true, zero, zip, false, ℕ, ◌++◌, ◌<◌, ◌==◌, ◌∷◌, ◌≡◌}
use Rattle.tree_model.specs.History.{Item}
use Rattle.tree_model.specs.OpText.{IsOp}
use Rattle.tree_model.specs.Participants.{home_of}
use Rattle.tree_model.specs.Step.{step}
use Rattle.tree_model.specs.Tree.{root_fid}
use Rattle.tree_model.specs.declared.op.Request.{Request}
use Rattle.tree_model.specs.declared.reply.Reply.{Reply}
use Rattle.tree_shares.specs.Parts.{named_in, parts}
use Rattle.update_protocol.specs.Facts.{Fact, Fits, Parts, laid}
use Rattle.update_protocol.specs.Lists.{IsIn}
use Rattle.tree_shares.specs.Seats.{Share, seated}
use Rattle.update_protocol.specs.Seats.{Newest, is_read}
use Rattle.update_record.specs.Spelling.{has_target, part_for}

-- ATTEMPTS AND MESSAGES

-- whose attempt: the home, and the client's request
pub record Who : Type 0 where
  pub master : ℕ
  pub request : Request

-- the turn is the number of the attempt at its home
pub record Attempt : Type 0 where
  pub who : Who
  pub turn : ℕ

-- An accepted operation: with an epoch an update record, and besides it the objects whose last writer was told.
pub record Accepted : Type 0 where
  pub attempt : Attempt
  pub reply : Reply
  pub batch : ℕ
  pub stamp : ℕ
  pub parts : Parts
  pub saw : List Fid

abbrev pub History : Type 0
History = List Item

abbrev pub request_of : Accepted → Request
request_of x = x.attempt.who.request

abbrev pub master : Accepted → ℕ
master x = x.attempt.who.master

-- what a history keeps of it
abbrev pub entry : Accepted → Item
entry x = record { request = x.attempt.who.request; reply = x.reply }

-- a target takes part
abbrev pub is_on : Accepted → ℕ → Bool
is_on x t = has_target t x.parts

abbrev pub saw_of : Accepted → Fid → Bool
saw_of x f = is_among x.saw f

abbrev pub wrote_of : Accepted → Fid → Bool
wrote_of x f = is_among (named_in x.parts) f

-- A question is a list of updates of a read type, one or none. Who is held answers with the place of the last writer
-- of what was asked that it hasn't committed, its clock and the results.
pub data Message : Type 0 where
  Hold : (by : Attempt) (at : ℕ) (question : List Update) → Message
  Held : (by : Attempt) (at : ℕ) (question : List Update) (writer : Option ℕ) (clock : ℕ) (results : List UpdateResult) → Message
  Sync : (by : Attempt) (at : ℕ) (writer : ℕ) → Message
  Synced : (by : Attempt) (at : ℕ) → Message
  Execute : (item : ℕ) (at : ℕ) → Message
  Release : (by : Attempt) (at : ℕ) → Message
  Stable : (from : ℕ) (to : ℕ) (batch : ℕ) → Message
  Cancel : (of : ℕ) (mark : ℕ) → Message

-- THE WORLD

-- The history at the start of the epoch, what was accepted since, and of each target:
-- * `up`: its memory is that of this epoch. It serves, or a recovery has begun and it hasn't stopped;
-- * `done`: what it executed and still has, in the order of execution; `disk`: what of it is named, as a line told;
-- * `holder`: the attempt that holds it, of a target that stopped the last one; `ended`: of each master the greatest
--   turn that it noted as ended; `clock`: the stamp of the last record that it executed;
-- * `gone`, `kept_gone`: records cancelled in its memory and on its disk;
-- * `torn`, `torn_mark`, `torn_gone`: what its disk holds if its last commit failed and left the new image.
-- Of each target as a master:
-- * `trying`: its attempt, of one that stopped the last one; `turns`, `batches`: the last numbers that it gave;
-- * `stable`: of each target the greatest batch that is told to be stable; `mark`, `kept_mark`: up to which batch
--   each record is stable everywhere, in its memory and on its disk.
-- No recovery has begun while it is `serving`. The pool has every message that was sent in this epoch.
pub record World : Type 0 where
  pub base : History
  pub since : List Accepted
  pub up : ℕ → Bool
  pub done : ℕ → List ℕ
  pub disk : ℕ → List ℕ
  pub holder : ℕ → Option Attempt
  pub ended : ℕ → ℕ → ℕ
  pub clock : ℕ → ℕ
  pub trying : ℕ → Option Attempt
  pub turns : ℕ → ℕ
  pub batches : ℕ → ℕ
  pub stable : ℕ → ℕ → ℕ
  pub mark : ℕ → ℕ
  pub kept_mark : ℕ → ℕ
  pub gone : ℕ → List ℕ
  pub kept_gone : ℕ → List ℕ
  pub torn : ℕ → List ℕ
  pub torn_mark : ℕ → ℕ
  pub torn_gone : ℕ → List ℕ
  pub serving : Bool
  pub pool : List Message

-- PLACES

-- what stands at a place; behind the end an item that takes part nowhere, and wrote and saw nothing
abbrev pub no_attempt : Attempt
no_attempt = record { who = record { master = 0; request = record { number = 0; client = 0; op = op.GetAttr root_fid } }; turn = 0 }

abbrev pub nobody : Accepted
nobody = record { attempt = no_attempt; reply = reply.Ok; batch = 0; stamp = 0; parts = []; saw = [] }

unfoldable pub at : List Accepted → ℕ → Accepted
at [] n = nobody
at (x ∷ xs) zero = x
at (x ∷ xs) (suc n) = at xs n

-- of each item and its place
abbrev pub Each : (ℕ → Accepted → Type 0) → List Accepted → Type 0
Each R xs = (n : ℕ) → n < length xs → R n (at xs n)

-- of each two items, the earlier one first
abbrev pub Pairs : (ℕ → ℕ → Accepted → Accepted → Type 0) → List Accepted → Type 0
Pairs R xs = (n m : ℕ) → n < m → m < length xs → R n m (at xs n) (at xs m)

-- how many items have this home
abbrev pub count_home : ℕ → List Accepted → ℕ
count_home m [] = 0
count_home m (x ∷ xs) = if master x == m then suc (count_home m xs) else count_home m xs

-- the item is named by some target
abbrev pub Named : (ℕ → List ℕ) → ℕ → Type 0
Named disk n = (t : ℕ) × IsIn n (disk t)

-- the first is on each target of the second
abbrev pub Covers : Accepted → Accepted → Type 0
Covers a b = (t : ℕ) → is_on b t ≡ true → is_on a t ≡ true

-- the item is named by each of its targets
abbrev pub Full : (ℕ → List ℕ) → ℕ → Accepted → Type 0
Full disk n a = (t : ℕ) → is_on a t ≡ true → IsIn n (disk t)

-- HISTORIES AND SHARES

abbrev pub grown : History → Accepted → History
grown h x = h ++ entry x ∷ []

abbrev pub after_items : History → List Accepted → History
after_items h [] = h
after_items h (x ∷ xs) = after_items (grown h x) xs

-- the item is what its operation is on the tree of that history
pub record Matches (targets : ℕ) (h : History) (x : Accepted) : Type 0 where
  pub fits : Fits targets h
  pub is_op : IsOp targets (request_of x).op
  pub changes : is_read (request_of x).op ≡ false
  pub home : home_of targets (request_of x).op ≡ Some (master x)
  pub newest : Newest targets h (request_of x)
  pub reply : x.reply ≡ (step targets (laid targets h).tree (request_of x).op).1
  pub parts : x.parts ≡ parts targets x.batch (laid targets h) (request_of x).op
  pub saw : x.saw ≡ saw targets (laid targets h) (request_of x).op

-- each item is so on the history before it
abbrev pub Follows : ℕ → History → List Accepted → Type 0
Follows targets h [] = Unit
Follows targets h (x ∷ xs) = Matches targets h x × Follows targets (grown h x) xs

-- a share after the part of an item, and its seat where the target is the home
abbrev pub applied : (targets : ℕ) → ℕ → Accepted → Share → Share
applied targets t x s = record { objects = after_all s.objects (unwrap_or (part_for t x.parts) []); seats = seated targets t s.seats (entry x) }

-- a share after these items, which are places in the list
abbrev pub made : (targets : ℕ) → List Accepted → ℕ → List ℕ → Share → Share
made targets since t [] s = s
made targets since t (n ∷ ns) s = made targets since t ns (applied targets t (at since n) s)

-- an answer as a home keeps it
pub record Answer : Type 0 where
  pub at : ℕ
  pub question : List Update
  pub writer : Option ℕ
  pub clock : ℕ
  pub results : List UpdateResult

abbrev pub facts_of : List Answer → List Fact
facts_of [] = []
facts_of (a ∷ more) = zip a.question a.results ++ facts_of more
