-- The plain machine over several targets: which lines may be said. Its state is made from what was sent and from the
-- lines alone. It has one plain tree, and no message, hold, clock, record or disk.
use Rattle.std.specs.Prelude.{Bool, List, Option, Some, None, [], false, true, length, map, suc, zero, ℕ, ◌++◌, ◌+◌, ◌<◌, ◌≤◌, ◌∷◌, ◌==◌, ◌&&◌, ◌||◌, ◌≡◌, ◌⊎◌, not, if◌then◌else◌}
use Rattle.std.specs.List.{AllByRecursion}
use Rattle.fid_space.specs.Places.{place_of}
use Rattle.fid_space.specs.Targets.{is_member}
use Rattle.fid_space.specs.declared.fid.Fid.{Fid}
use Rattle.op_laws.specs.Near.{IsNear}
use Rattle.op_laws.specs.Objects.{is_among, stands}
use Rattle.tree_model.specs.Keys.{AllKey, Key, Laid, NameKey, NodeKey}
use Rattle.tree_model.specs.Laws.{Among}
use Rattle.tree_model.specs.Looks.{looks}
use Rattle.tree_model.specs.declared.op.Op.{Op}
use Rattle.tree_model.specs.declared.op.Op.TheVariants as ops
use Rattle.tree_model.specs.declared.op.Request.{Request}
use Rattle.tree_model.specs.declared.reply.Reply.{Reply}
use Rattle.tree_model.specs.History.{Item, tree_of}
use Rattle.tree_model.specs.Kept.{laid_of, chosen, IsKept}
use Rattle.tree_model.specs.Participants.{home_of}
use Rattle.tree_model.specs.Step.{step}
use Rattle.tree_model.specs.Striped.{on}
use Rattle.tree_model.specs.Tree.{Tree}
use Rattle.tree_shares.specs.Seats.{SameSeat}
use Rattle.update_protocol.specs.Lists.{IsIn, Rising, put}
use Rattle.update_protocol.specs.Parts.{numbers_of}
use Rattle.update_protocol.specs.Rows.{has}
use Rattle.update_protocol.specs.Seats.{Newest, is_read}
use Rattle.update_protocol.specs.World.{History}

-- STATE

pub data Standing : Type 0 where
  Serving : Standing
  Opened : Standing
  Down : Standing

-- an item since the last recovery: the set of targets that it is on, and those that have named it
pub record Entry : Type 0 where
  pub item : Item
  pub on : ℕ
  pub named : ℕ → Bool

-- The number of targets and what was sent; the epoch of the last `recovered` line, or 1, and whether no target stopped
-- in a recovery since; what recoveries kept, and what was accepted since. Of each target its standing, the numbers
-- that it executed and no line has listed, and its transaction number as the last line left it.
pub record State : Type 0 where
  pub targets : ℕ
  pub sent : List Request
  pub epoch : ℕ
  pub smooth : Bool
  pub before : History
  pub since : List Entry
  pub standing : ℕ → Standing
  pub pend : ℕ → List ℕ
  pub last : ℕ → ℕ

abbrev pub history_of : State → History
history_of s = s.before ++ map (λ e. e.item) s.since

abbrev pub number : Entry → ℕ
number e = e.item.request.number

abbrev pub entry_home : ℕ → Entry → Option ℕ
entry_home targets e = home_of targets e.item.request.op

-- the target has named these numbers
abbrev pub named_too : ℕ → List ℕ → Entry → Entry
named_too target numbers e = record e { named = put e.named target (e.named target || has (number e) numbers) }

abbrev pub names : ℕ → List ℕ → List Entry → List Entry
names target numbers es = map (named_too target numbers) es

-- some target of the first so many has named it; each of them that it is on has
abbrev pub some_named : ℕ → Entry → Bool
some_named zero e = false
some_named (suc t) e = e.named t || some_named t e

abbrev pub all_named : ℕ → Entry → Bool
all_named zero e = true
all_named (suc t) e = (e.named t || not (is_member e.on t)) && all_named t e

-- the numbers of the entries that pass a test, in the order of their acceptance
abbrev pub those : (Entry → Bool) → List Entry → List ℕ
those test [] = []
those test (e ∷ es) = if test e then number e ∷ those test es else those test es

-- LINES

-- a record of a log: its index, the epoch, master and batch of its id, its number, and the targets that it is on
pub record Listed : Type 0 where
  pub index : ℕ
  pub epoch : ℕ
  pub master : ℕ
  pub batch : ℕ
  pub number : ℕ
  pub on : ℕ

pub data Line : Type 0 where
  Accept : (number : ℕ) (reply : Reply) (on : ℕ) → Line
  Replies : (number : ℕ) (reply : Reply) → Line
  Done : (number target : ℕ) → Line
  Busy : (number holder : ℕ) → Line
  Stale : (number last : ℕ) → Line
  Full : (number target load need : ℕ) → Line
  Recovering : (number target : ℕ) → Line
  Ignored : (message : ℕ) → Line
  Undelivered : (message number : ℕ) → Line
  Unsettled : Line
  Shared : (target number writer : ℕ) → Line
  Stable : (target : ℕ) (numbers : List ℕ) → Line
  Stopped : (target : ℕ) → Line
  Up : (target transno : ℕ) (numbers : List ℕ) → Line
  Stands : (target : ℕ) (standing : Standing) → Line
  Redone : (target : ℕ) (numbers : List ℕ) → Line
  Missing : (target : ℕ) → Line
  Recovered : (epoch : ℕ) (kept lost : List ℕ) → Line
  Shows : (tree : Tree) → Line
  Tree_stands : (target : ℕ) → Line
  Tree_busy : (number : ℕ) → Line
  Log : (target : ℕ) (records : List Listed) → Line
  End_clean : Line
  End_target : (target : ℕ) → Line
  End_request : (number : ℕ) → Line

-- WHAT EACH LINE WANTS

abbrev pub AllServe : State → Type 0
AllServe s = (t : ℕ) → t < s.targets → s.standing t ≡ Serving

-- the request with the number was sent, and its home serves
pub record Comes (s : State) (n : ℕ) : Type 0 where
  pub request : Request
  pub was_sent : IsIn request s.sent
  pub numbered : request.number ≡ n
  pub home : ℕ
  pub at_home : home_of s.targets request.op ≡ Some home
  pub serves : s.standing home ≡ Serving

-- An operation is accepted that is no read: new for its client at its home, with the tree's reply, on its targets.
-- Its reply comes next.
pub record Accepts (s : State) (n : ℕ) (reply : Reply) (targets_on : ℕ) (others : List Line) (next : State) : Type 0 where
  pub comes : Comes s n
  pub changes : is_read comes.request.op ≡ false
  pub newest : Newest s.targets (history_of s) comes.request
  pub unused : AllByRecursion (λ i. i.request.number ≡ n → ⊥) (history_of s)
  pub replied : reply ≡ (step s.targets (tree_of s.targets (history_of s)) comes.request.op).1
  pub placed : targets_on ≡ on s.targets (laid_of s.targets (history_of s)) comes.request.op
  pub rest : List Line
  pub then_reply : others ≡ Replies n reply ∷ rest
  pub after : next ≡ record s {
    since = s.since ++ record { item = record { request = comes.request; reply = reply }; on = targets_on; named = λ t. false } ∷ [];
    pend = put s.pend comes.home (s.pend comes.home ++ n ∷ []);
  }

-- a read has the tree's reply; any other request the one that it was accepted with, as the last of its client there
pub record Answers (s : State) (n : ℕ) (reply : Reply) : Type 0 where
  pub comes : Comes s n
  pub read : is_read comes.request.op ≡ true → reply ≡ (step s.targets (tree_of s.targets (history_of s)) comes.request.op).1
  pub kept : is_read comes.request.op ≡ false
      → IsIn (record { request = comes.request; reply = reply }) (history_of s)
      × AllByRecursion (λ i. SameSeat s.targets i.request comes.request → i.request.number ≤ n) (history_of s)

-- A request that isn't a read is late: its home serves, and there its client's last number is a greater one.
pub record IsLate (s : State) (n last : ℕ) : Type 0 where
  pub comes : Comes s n
  pub changes : is_read comes.request.op ≡ false
  pub item : Item
  pub accepted : IsIn item (history_of s)
  pub same_seat : SameSeat s.targets item.request comes.request
  pub numbered : item.request.number ≡ last
  pub is_last : AllByRecursion (λ i. SameSeat s.targets i.request comes.request → i.request.number ≤ last) (history_of s)
  pub later : n < last

-- the objects at which a key is looked up
abbrev pub looked_up : ℕ → Laid → Key → List Fid
looked_up targets l (NodeKey f) = f ∷ []
looked_up targets l (NameKey d x) = stands targets l (NameKey d x)
looked_up targets l (AllKey d) = stands targets l (AllKey d)

-- an operation looks at something that is looked up on the target
abbrev pub LooksOn : ℕ → Laid → Op → ℕ → Type 0
LooksOn targets l op target = (k : Key) × Among (looks targets l.tree op) k × (f : Fid) × (is_among (looked_up targets l k) f ≡ true) × (place_of targets f ≡ Some target)

-- an operation has the target for its home, looks at something there, or is on it
abbrev pub Needs : ℕ → Laid → Op → ℕ → Type 0
Needs targets l op target = (home_of targets op ≡ Some target) ⊎ (LooksOn targets l op target ⊎ (is_member (on targets l op) target ≡ true))

-- A request that was sent needs a target that doesn't serve.
pub record IsRecovering (s : State) (n target : ℕ) : Type 0 where
  pub request : Request
  pub was_sent : IsIn request s.sent
  pub numbered : request.number ≡ n
  pub stopped : s.standing target ≡ Serving → ⊥
  pub needs : Needs s.targets (laid_of s.targets (history_of s)) request.op target

-- the room that an operation is given on each of its targets, in bytes
abbrev pub room_of : Op → ℕ
room_of (ops.Unlink parent name) = 131072
room_of (ops.Rmdir parent name) = 131072
room_of (ops.SetAttr fid mode uid gid) = 131072
room_of (ops.DelXattr fid name) = 131072
room_of _ = 1179648

-- A request that isn't a read is on a target whose load leaves no room for it.
pub record IsFull (s : State) (n target load need : ℕ) : Type 0 where
  pub comes : Comes s n
  pub changes : is_read comes.request.op ≡ false
  pub takes_part : is_member (on s.targets (laid_of s.targets (history_of s)) comes.request.op) target ≡ true
  pub given : need ≡ room_of comes.request.op
  pub too_much : 5242880 < load + need

-- the entries before the one with the number
abbrev pub entries_before : ℕ → List Entry → List Entry
entries_before n [] = []
entries_before n (e ∷ es) = if number e == n then [] else e ∷ entries_before n es

-- A commit is shared for a request that was sent: an entry that is pending at the target is near to it, and lacks one of
-- the targets that it is on.
pub record IsShared (s : State) (target n writer : ℕ) : Type 0 where
  pub request : Request
  pub was_sent : IsIn request s.sent
  pub numbered : request.number ≡ n
  pub entry : Entry
  pub accepted : IsIn entry s.since
  pub written_by : number entry ≡ writer
  pub pends : IsIn writer (s.pend target)
  pub near : IsNear s.targets (laid_of s.targets (s.before ++ map (λ e. e.item) (entries_before writer s.since))) entry.item.request.op (laid_of s.targets (history_of s)) request.op
  pub lacks : ℕ
  pub takes_part : is_member (on s.targets (laid_of s.targets (history_of s)) request.op) lacks ≡ true
  pub uncovered : is_member entry.on lacks ≡ false

-- a record is executed on a target that it names, which serves, isn't its home and didn't execute it
pub record Executes (s : State) (n target : ℕ) (next : State) : Type 0 where
  pub entry : Entry
  pub accepted : IsIn entry s.since
  pub numbered : number entry ≡ n
  pub there : is_member entry.on target ≡ true
  pub away : entry_home s.targets entry ≡ Some target → ⊥
  pub serves : s.standing target ≡ Serving
  pub unlisted : IsIn n (s.pend target) → ⊥
  pub unnamed : entry.named target ≡ false
  pub after : next ≡ record s { pend = put s.pend target (s.pend target ++ n ∷ []) }

-- how many of the numbers are of entries that the target hadn't named
abbrev pub new_among : ℕ → List ℕ → List Entry → ℕ
new_among target numbers [] = 0
new_among target numbers (e ∷ es) = if has (number e) numbers && not (e.named target) then suc (new_among target numbers es) else new_among target numbers es

abbrev pub AreDistinct : List ℕ → Type 0
AreDistinct [] = Unit {0}
AreDistinct (n ∷ ns) = (IsIn n ns → ⊥) × AreDistinct ns

-- What a disk may show: distinct numbers of entries that are on its target, each that it has named and that isn't named
-- by all of its targets. The transaction number counts those that are new.
pub record Fits (s : State) (target transno : ℕ) (numbers : List ℕ) : Type 0 where
  pub distinct : AreDistinct numbers
  pub known : AllByRecursion (λ n. (e : Entry) × IsIn e s.since × (number e ≡ n) × (is_member e.on target ≡ true)) numbers
  pub live : AllByRecursion (λ e. e.named target ≡ true → all_named s.targets e ≡ false → IsIn (number e) numbers) s.since
  pub count : transno ≡ s.last target + new_among target numbers s.since

-- what a recovery redoes at a target: the entries that are on it, that some target has named and that it hasn't
abbrev pub redone_at : ℕ → ℕ → List Entry → List ℕ
redone_at targets target es = those (λ e. some_named targets e && is_member e.on target && not (e.named target)) es

-- A recovery keeps what is named, which by then is named by all of its targets. With what was kept before that is a part
-- of the history that may be kept.
pub record Recovers (s : State) (epoch : ℕ) (kept lost : List ℕ) (next : State) : Type 0 where
  pub later : s.epoch < epoch
  pub one_more : s.smooth ≡ true → epoch ≡ suc s.epoch
  pub kept_rise : Rising kept
  pub lost_rise : Rising lost
  pub named : AllByRecursion (λ e. some_named s.targets e ≡ true → IsIn (number e) kept × (all_named s.targets e ≡ true)) s.since
  pub unnamed : AllByRecursion (λ e. some_named s.targets e ≡ false → IsIn (number e) lost) s.since
  pub are_kept : AllByRecursion (λ n. IsIn n (those (some_named s.targets) s.since)) kept
  pub are_lost : AllByRecursion (λ n. IsIn n (those (λ e. not (some_named s.targets e)) s.since)) lost
  pub part : List Bool
  pub may : IsKept s.targets (history_of s) (numbers_of s.before ++ kept) part
  pub only : AllByRecursion (λ i. IsIn i.request.number (numbers_of s.before ++ kept)) (chosen part (history_of s))
  pub after : next ≡ record s { epoch = epoch; smooth = true; before = chosen part (history_of s); since = []; standing = λ t. Serving; pend = λ t. [] }

abbrev pub is_home : ℕ → Option ℕ → Bool
is_home home None = false
is_home home (Some m) = m == home

-- of the entries with this home the one with the number is the so manieth
abbrev pub position_of : ℕ → ℕ → ℕ → List Entry → ℕ
position_of targets home n [] = 0
position_of targets home n (e ∷ es) = if number e == n then 1 else (if is_home home (entry_home targets e) then suc (position_of targets home n es) else position_of targets home n es)

abbrev pub IsListed : State → ℕ → Listed → Type 0
IsListed s target r =
    (e : Entry) × IsIn e s.since × (number e ≡ r.number) × (is_member e.on target ≡ true) × ((e.named target ≡ true) ⊎ IsIn r.number (s.pend target))
    × (r.on ≡ e.on) × (r.epoch ≡ s.epoch) × (entry_home s.targets e ≡ Some r.master) × (r.batch ≡ position_of s.targets r.master r.number s.since)

-- what a log lists: records since the last recovery, each once, with all that are pending or named there and not everywhere
pub record Lists (s : State) (target : ℕ) (records : List Listed) : Type 0 where
  pub distinct : AreDistinct (map (λ r. r.number) records)
  pub rising : Rising (map (λ r. r.index) records)
  pub each : AllByRecursion (IsListed s target) records
  pub pending : AllByRecursion (λ n. IsIn n (map (λ r. r.number) records)) (s.pend target)
  pub live : AllByRecursion (λ e. e.named target ≡ true → all_named s.targets e ≡ false → IsIn (number e) (map (λ r. r.number) records)) s.since

-- a target that is missed right behind its stop in a recovery leaves the others opened
abbrev pub stands_after : List Line → ℕ → (ℕ → Standing) → ℕ → Standing
stands_after (Missing t ∷ more) target standing = put (λ u. opened (standing u)) target Down
  where
    opened : Standing → Standing
    opened Serving = Opened
    opened Opened = Opened
    opened Down = Down
stands_after _ target standing = put standing target Down

abbrev pub stays_smooth : List Line → Bool → Bool
stays_smooth (Missing t ∷ more) smooth = false
stays_smooth _ smooth = smooth

-- SAYING

-- From one state the machine may say the line, before these others, and goes on to the next. Lines that it says nothing
-- of here have their causes in what the targets know.
abbrev pub Says : State → Line → List Line → State → Type 0
Says s (Accept n reply targets_on) others next = Accepts s n reply targets_on others next
Says s (Replies n reply) others next = Answers s n reply × (next ≡ s)
Says s (Done n target) others next = Executes s n target next
Says s (Stable target numbers) others next =
    (numbers ≡ s.pend target)
    × (next ≡ record s { since = names target numbers s.since; pend = put s.pend target []; last = put s.last target (s.last target + length numbers) })
Says s (Stopped target) others next =
    next ≡ record s { standing = stands_after others target s.standing; pend = put s.pend target []; smooth = stays_smooth others s.smooth }
Says s (Up target transno numbers) others next =
    Fits s target transno numbers
    × (next ≡ record s { since = names target numbers s.since; standing = put s.standing target Opened; last = put s.last target transno })
Says s (Redone target numbers) others next =
    (numbers ≡ redone_at s.targets target s.since)
    × (next ≡ record s { since = names target numbers s.since; last = put s.last target (s.last target + length numbers) })
Says s (Recovered epoch kept lost) others next = Recovers s epoch kept lost next
Says s (Missing target) others next = (s.standing target ≡ Down) × ((t : ℕ) → t < target → s.standing t ≡ Down → ⊥) × (next ≡ s)
Says s (Shows tree) others next = AllServe s × (tree ≡ tree_of s.targets (history_of s)) × (next ≡ s)
Says s (Log target records) others next = (s.standing target ≡ Down → ⊥) × Lists s target records × (next ≡ s)
Says s (Stands target standing) others next = (standing ≡ s.standing target) × (next ≡ s)
Says s (Tree_stands target) others next = (s.standing target ≡ Serving → ⊥) × (next ≡ s)
Says s (Tree_busy n) others next = AllServe s × (next ≡ s)
Says s End_clean others next = AllServe s × (next ≡ s)
Says s (End_target target) others next = (s.standing target ≡ Serving → ⊥) × (next ≡ s)
Says s (End_request n) others next = AllServe s × (next ≡ s)
Says s (Busy n holder) others next = next ≡ s
Says s (Stale n last) others next = IsLate s n last × (next ≡ s)
Says s (Full n target load need) others next = IsFull s n target load need × (next ≡ s)
Says s (Recovering n target) others next = IsRecovering s n target × (next ≡ s)
Says s (Ignored message) others next = next ≡ s
Says s (Undelivered message number) others next = next ≡ s
Says s Unsettled others next = next ≡ s
Says s (Shared target n writer) others next = IsShared s target n writer × (next ≡ s)

abbrev pub SaysAll : State → List Line → State → Type 0
SaysAll s [] next = next ≡ s
SaysAll s (line ∷ others) next = (mid : State) × Says s line others mid × SaysAll mid others next
