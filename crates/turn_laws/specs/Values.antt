-- What targets and messages keep, as images of what the machine of the protocol knows.
use Rattle.std.specs.Prelude.{◌≡◌, ◌<◌, ◌≤◌, ◌-◌, ℕ, true, false, List, [], ◌∷◌, ◌++◌, length, map, get_or, slice_index_or, slice_set, Option, Some, None}
use Rattle.tree_model.specs.Participants.{home_of}
use Rattle.tree_model.specs.declared.op.Request.{Request}
use Rattle.tree_model.specs.declared.reply.Reply.{Reply}
use Rattle.fid_space.specs.declared.fid.Fid.{Fid}
use Rattle.outside.specs.Disk.{Shown}
use Rattle.out_update.specs.declared.update.Update.{Update}
use Rattle.reply_cache.specs.declared.seats.Seat.{Seat}
use Rattle.reply_cache.specs.Seats.{refusal_of}
use Rattle.commit_sharing.specs.Pending.{Writers, noted}
use Rattle.update_record.specs.declared.message.Attempt.{Attempt as Name}
use Rattle.update_record.specs.declared.operation.Record.{Record}
use Rattle.update_record.specs.Spelling.{targets_from}
use Rattle.cluster_mail.specs.Mail.{Sent, fresh}
use Rattle.target_state.specs.Rules.{own_updates}
use Rattle.target_turns.specs.Target.{Target, Turned, target_down}
use Rattle.update_protocol.specs.Lists.{IsIn}
use Rattle.update_protocol.specs.World.{Accepted, Attempt, World, at, master, request_of}

-- ---- a cluster

-- its targets, and the messages that were sent
pub record Cluster : Type 0 where
  pub targets : List Target
  pub sent : List Sent

abbrev pub no_disk : Shown
no_disk = record { tells = false; honest = false; content = []; settled = []; failed = true; faults = 0; name = 0 }

-- what stands behind the last target
abbrev pub no_target : Target
no_target = target_down 0 0 false no_disk

abbrev pub target_at : List Target → ℕ → Target
target_at ts i = slice_index_or ts i no_target

-- after a turn of one target
abbrev pub after_turn : Cluster → ℕ → Turned → Cluster
after_turn c i u = record { targets = slice_set c.targets i u.target; sent = c.sent ++ map fresh u.sent }

-- ---- what the machine knows of one target

pub record Slice : Type 0 where
  pub done : List ℕ
  pub disk : List ℕ
  pub gone : List ℕ
  pub holder : Option Attempt
  pub ended : ℕ → ℕ
  pub clock : ℕ
  pub turns : ℕ
  pub batches : ℕ
  pub trying : Option Attempt
  pub stable : ℕ → ℕ
  pub mark : ℕ

abbrev pub slice : World → ℕ → Slice
slice w t =
    record { done = w.done t; disk = w.disk t; gone = w.gone t; holder = w.holder t; ended = w.ended t; clock = w.clock t; turns = w.turns t; batches = w.batches t; trying = w.trying t; stable = w.stable t; mark = w.mark t }

-- ---- attempts

-- an attempt as messages name it
abbrev pub name_of : ℕ → Attempt → Name
name_of e a = record { epoch = e; master = a.who.master; attempt = a.turn; number = a.who.request.number }

abbrev pub named : ℕ → Option Attempt → Option Name
named e None = None
named e (Some a) = Some (name_of e a)

-- it is of a request that was sent, at its home
abbrev pub Genuine : ℕ → List Request → Attempt → Type 0
Genuine targets sent a = IsIn a.who.request sent × (home_of targets a.who.request.op ≡ Some a.who.master)

-- a number stands for one request
abbrev pub Unique : List Request → Type 0
Unique sent = (r q : Request) → IsIn r sent → IsIn q sent → r.number ≡ q.number → r ≡ q

-- ---- records

abbrev pub record_of : ℕ → Accepted → Record
record_of e x =
    record { id = record { epoch = e; master = master x; batch = x.batch }; stamp = x.stamp; number = (request_of x).number; client = (request_of x).client; reply = x.reply; parts = x.parts }

-- those of the items at these places
abbrev pub records : ℕ → List Accepted → List ℕ → List Record
records e since [] = []
records e since (n ∷ ns) = record_of e (at since n) ∷ records e since ns

abbrev pub fids_of : List Update → List Fid
fids_of us = map (λ (u : Update). u.fid) us

-- the notes of who wrote what by these records
abbrev pub noted_all : ℕ → Writers → List Record → Writers
noted_all t ws [] = ws
noted_all t ws (r ∷ rs) = noted_all t (noted r.number (targets_from 0 r.parts) ws (fids_of (own_updates t r))) rs

abbrev pub seat_of : Option (ℕ × Reply) → Option Seat
seat_of None = None
seat_of (Some s) = Some (record { number = s.0; refused = refusal_of s.1 })

-- a writer as messages name it: an item at a place, and the targets that it is on
abbrev pub writer_at : List Accepted → Option ℕ → Option (ℕ × ℕ)
writer_at since None = None
writer_at since (Some k) = Some ((request_of (at since k)).number, targets_from 0 (at since k).parts)

abbrev pub Inside : List Accepted → Option ℕ → Type 0
Inside since None = Unit
Inside since (Some k) = k < length since

-- ---- questions

-- what was asked under a name, in order: a question, or None for a sync
abbrev pub Questions : Type 0
Questions = Name → List (Option (List Update))

abbrev pub Asked : Questions → Name → ℕ → Option (List Update) → Type 0
Asked asked by ask o = (1 ≤ ask) × (ask ≤ length (asked by)) × (get_or (asked by) (ask - 1) None ≡ o)
