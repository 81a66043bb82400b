-- What a session keeps, and what a line of the scenario makes of it.
use Rattle.std.specs.Prelude.{◌≡◌, ◌+◌, ◌⊎◌, nat_lt, length, ℕ, Bool, true, false, IsTrue, List, [], ◌∷◌, ◌++◌, slice_set, slice_index_or, replicate, Option, Some, None, Ok, Err, if◌then◌else◌, is_some, refl}
use Rattle.std.specs.List.{flat_map}
use Rattle.std.specs.Coded.{Coded, code_by, coded×, coded_ℕ, coded_list, coded_bool, coded_option}
use Rattle.outside.specs.Disk.{Shown, IsImage}
use Rattle.target_disk.specs.Tables.{Saved, opened}
use Rattle.target_disk.specs.Store.{IsSettled, OpensAsEither, next}
use Rattle.tree_model.specs.Tree.{Grown, base, coded_grown}
use Rattle.tree_model.specs.Step.{step}
use Rattle.tree_model.specs.History.{Item}
use Rattle.tree_model.specs.Codes.{coded_request}
use Rattle.tree_model.specs.declared.op.Request.{Request}
use Rattle.scenario_text.specs.declared.line.Standing.{Standing}
use Rattle.scenario_text.specs.declared.line.Standing.TheVariants.{Serving, Opened, Down}
use Rattle.scenario_text.specs.declared.line.Line.{Line}
use Rattle.scenario_text.specs.declared.line.Line.TheVariants as lines
use Rattle.scenario_text.specs.declared.command.Command.{Command}
use Rattle.scenario_text.specs.declared.command.Command.TheVariants as commands
use Rattle.scenario_text.specs.Spelling.{Entry, Skip, Order}
use Rattle.dne_cli.specs.Image.{head_bytes, item_bytes, numbers_in}
use Rattle.dne_cli.specs.Disks.{Calls, FailsToFormat, FailsToRead, Faulted, Formatted, FormatsAfterStop, HoldsBadImage, HoldsNothing, HoldsNumbers, ReadsAfterStop, Touches}

-- what a target that serves keeps in memory: its tree with the cluster, how many operations it accepted
-- and their bytes in the image, the greatest number of each client, and what isn't stable yet
pub record Ledger : Type 0 where
  pub tree : Grown
  pub count : ℕ
  pub bytes : List ℕ
  pub seats : List ℕ
  pub pend : List ℕ

-- a target: what it keeps in memory where it serves, whether it was opened, whether its disk was
-- formatted, and the disk
pub record Held : Type 0 where
  pub ledger : Option Ledger
  pub up : Bool
  pub formatted : Bool
  pub disk : Shown

-- a session: the cluster, where there is one; whether `end` was read; which numbers were used; the
-- requests that aren't delivered yet; and the target
pub record Kept : Type 0 where
  pub cluster : Option ℕ
  pub ended : Bool
  pub used : List Bool
  pub waiting : List Request
  pub target : Held

-- so many flags that aren't set
unfoldable pub no_flags : ℕ → List Bool
no_flags n = replicate n false

abbrev pub stopped : Bool → Shown → Held
stopped formatted disk = record { ledger = None; up = false; formatted = formatted; disk = disk }

abbrev pub opened_on : Shown → Held
opened_on disk = record { ledger = None; up = true; formatted = true; disk = disk }

abbrev pub serving_on : Ledger → Shown → Held
serving_on ledger disk = record { ledger = Some ledger; up = false; formatted = true; disk = disk }

abbrev pub nothing_kept : Shown → Kept
nothing_kept disk = record { cluster = None; ended = false; used = no_flags 65537; waiting = []; target = stopped false disk }

abbrev pub standing_of : Held → Standing
standing_of h = if is_some h.ledger then Serving else (if h.up then Opened else Down)

abbrev pub is_used : List Bool → ℕ → Bool
is_used used number = slice_index_or used number false

-- REQUESTS

-- so many seats of clients that had nothing accepted; there is one for each that a request can name
unfoldable pub no_seats : ℕ → List ℕ
no_seats n = replicate n 0

abbrev pub empty_ledger : ℕ → Ledger
empty_ledger targets = record { tree = record { targets = targets; tree = base }; count = 0; bytes = []; seats = no_seats 256; pend = [] }

-- the greatest number of a client, or 0
abbrev pub seat_of : Ledger → ℕ → ℕ
seat_of l client = slice_index_or l.seats client 0

abbrev pub item_for : Ledger → Request → Item
item_for l r = record { request = r; reply = (step l.tree.targets l.tree.tree r.op).1 }

abbrev pub accepted_by : Ledger → Request → Ledger
accepted_by l r = record {
  tree = record { targets = l.tree.targets; tree = (step l.tree.targets l.tree.tree r.op).0 };
  count = l.count + 1;
  bytes = l.bytes ++ item_bytes (item_for l r);
  seats = slice_set l.seats r.client r.number;
  pend = l.pend ++ r.number ∷ [];
}

-- in a cluster of one target all is on target 0 alone: as a set of targets that is 1
abbrev pub two_lines : Item → List Line
two_lines i = lines.Accept i.request.number i.reply 1 ∷ lines.Reply i.request.number i.reply ∷ []

-- a request is late where a greater number of its client was accepted
abbrev pub is_late : Ledger → Request → Bool
is_late l r = nat_lt r.number (seat_of l r.client)

abbrev pub served_one : Ledger → Request → Ledger
served_one l r = if is_late l r then l else accepted_by l r

abbrev pub serve_lines : Ledger → Request → List Line
serve_lines l r = if is_late l r then lines.Stale r.number (seat_of l r.client) ∷ [] else two_lines (item_for l r)

-- requests served one after another
abbrev pub served : Ledger → List Request → Ledger
served l [] = l
served l (r ∷ rs) = served (served_one l r) rs

abbrev pub served_lines : Ledger → List Request → List Line
served_lines l [] = []
served_lines l (r ∷ rs) = serve_lines l r ++ served_lines (served_one l r) rs

-- a target that doesn't serve turns every request away
abbrev pub turned_away : List Request → List Line
turned_away rs = flat_map (λ r. lines.Recovering r.number 0 ∷ []) rs

abbrev pub ledger_after : Option Ledger → List Request → Option Ledger
ledger_after None rs = None
ledger_after (Some l) rs = Some (served l rs)

abbrev pub settled_target : Held → List Request → Held
settled_target h rs = record h { ledger = ledger_after h.ledger rs }

abbrev pub settle_lines : Option Ledger → List Request → List Line
settle_lines None rs = turned_away rs
settle_lines (Some l) rs = served_lines l rs

-- THE DISK

-- the bytes that a ledger commits
abbrev pub image_bytes : Ledger → List ℕ
image_bytes l = head_bytes l.count ++ l.bytes

abbrev pub all_stable : Ledger → Ledger
all_stable l = record l { pend = [] }

-- an image that was committed
pub record Committed (bytes : List ℕ) (old new : Shown) : Type 0 where
  pub touches : Touches old new
  pub done : (s : Saved) → IsSettled old s → IsSettled new (next s bytes)

-- an image whose commit failed: the disk opens as before, or as after
pub record Torn (bytes : List ℕ) (old new : Shown) : Type 0 where
  pub faulted : Faulted old new
  pub either : (s : Saved) → IsSettled old s → OpensAsEither new s (next s bytes)

-- each image opens as one of those did that the disk had before
abbrev pub OpensAsBefore : Shown → Shown → Type 0
OpensAsBefore old new = (image : List ℕ) → IsImage new.settled image → (before : List ℕ) × IsImage old.settled before × (opened image ≡ opened before)

-- LINES OF THE SCENARIO

-- the cluster is made: its target's disk is formatted, or that failed
abbrev pub Founds : Shown → ℕ → Held → List Line → Type 0
Founds disk targets new ls =
    ((d : Shown) × Formatted disk d × (new ≡ serving_on (empty_ledger targets) d) × (ls ≡ []))
    ⊎ ((d : Shown) × Faulted disk d × (new ≡ stopped false d) × (ls ≡ lines.Down 0 ∷ []))

-- a ledger is committed to a disk: the lines are these where it succeeds, or those
abbrev pub CommitsLedger : Ledger → Shown → Held → List Line → List Line → List Line → Type 0
CommitsLedger l disk new ls done failed =
    ((d : Shown) × Committed (image_bytes l) disk d × (new ≡ serving_on (all_stable l) d) × (ls ≡ done))
    ⊎ ((d : Shown) × Torn (image_bytes l) disk d × (new ≡ stopped true d) × (ls ≡ failed))

-- a target is committed
abbrev pub Commits : Option Ledger → ℕ → Held → Held → List Line → Type 0
Commits (Some l) target old new ls = CommitsLedger l old.disk new ls (lines.Stable target l.pend ∷ []) (lines.Down target ∷ [])
Commits None target old new ls = (new ≡ old) × (ls ≡ lines.State target (standing_of old) ∷ [])

-- the scenario ends
abbrev pub Ends : Option Ledger → Held → Held → List Line → Type 0
Ends (Some l) old new ls = CommitsLedger l old.disk new ls (lines.Stable 0 l.pend ∷ lines.EndClean ∷ []) (lines.Down 0 ∷ lines.EndUnclean 0 ∷ [])
Ends None old new ls = (new ≡ old) × (ls ≡ lines.EndUnclean 0 ∷ [])

-- a target is stopped
abbrev pub Crashes : Standing → ℕ → Held → Held → List Line → Type 0
Crashes Serving target old new ls = (new ≡ stopped true old.disk) × (ls ≡ lines.Down target ∷ [])
Crashes Opened target old new ls = (new ≡ stopped true old.disk) × (ls ≡ lines.Down target ∷ [])
Crashes Down target old new ls = (new ≡ old) × (ls ≡ lines.State target Down ∷ [])

abbrev pub tree_lines : Option Ledger → List Line
tree_lines None = lines.TreeState 0 ∷ []
tree_lines (Some l) = lines.Tree l.tree ∷ []

module _ (calls : Calls) where
  -- a disk that a stop left with one of its images, which was read
  pub record Reopened (old new : Shown) (transno : ℕ) (numbers : List ℕ) : Type 0 where
    pub touches : Touches old new
    pub after_stop : ReadsAfterStop calls (HoldsNumbers transno numbers) old new
    pub counted : transno ≡ length numbers
    pub read : IsTrue old.honest → (image : List ℕ) × IsImage old.settled image × ((s : Saved) × (opened image ≡ Some s) × (numbers_in s.bytes ≡ Ok numbers) × IsSettled new s)

  -- a disk that couldn't be read for a fault
  pub record Unread (old new : Shown) : Type 0 where
    pub faulted : Faulted old new
    pub after_stop : FailsToRead calls old new
    pub images : IsTrue old.honest → OpensAsBefore old new

  -- a disk that was read and holds this: it doesn't open, or opens as what is no image
  pub record Damaged (P : List ℕ → Type 0) (old new : Shown) : Type 0 where
    pub touches : Touches old new
    pub after_stop : ReadsAfterStop calls P old new
    pub cause : IsTrue old.honest → (image : List ℕ) × IsImage old.settled image × ((opened image ≡ None) ⊎ ((s : Saved) × (place : ℕ) × (opened image ≡ Some s) × (numbers_in s.bytes ≡ Err place)))
    pub images : IsTrue old.honest → OpensAsBefore old new

  -- a disk that was formatted again
  pub record Reformatted (old new : Shown) : Type 0 where
    pub formatted : Formatted old new
    pub after_stop : FormatsAfterStop calls old new

  -- one that couldn't be
  pub record Unformatted (old new : Shown) : Type 0 where
    pub faulted : Faulted old new
    pub after_stop : FailsToFormat calls old new

  -- a target whose disk was formatted is started again: it comes up, a call fails, or the disk is damaged
  abbrev pub Starts : Shown → ℕ → Held → List Line → Type 0
  Starts disk target new ls =
      ((d : Shown) × (transno : ℕ) × (numbers : List ℕ) × Reopened disk d transno numbers × (new ≡ opened_on d) × (ls ≡ lines.Up target transno numbers ∷ []))
      ⊎ (((d : Shown) × Unread disk d × (new ≡ stopped true d) × (ls ≡ lines.Down target ∷ []))
      ⊎ (((d : Shown) × (gates : ℕ) × Damaged (HoldsNothing gates) disk d × (new ≡ stopped true d) × (ls ≡ lines.DamagedGates target gates ∷ []))
      ⊎ ((d : Shown) × (place : ℕ) × Damaged (HoldsBadImage place) disk d × (new ≡ stopped true d) × (ls ≡ lines.DamagedImage target place ∷ []))))

  -- one whose formatting failed is formatted again
  abbrev pub Reformats : Shown → ℕ → Held → List Line → Type 0
  Reformats disk target new ls =
      ((d : Shown) × Reformatted disk d × (new ≡ opened_on d) × (ls ≡ lines.Up target 0 [] ∷ []))
      ⊎ ((d : Shown) × Unformatted disk d × (new ≡ stopped false d) × (ls ≡ lines.Down target ∷ []))

  abbrev pub Restarts : Standing → Bool → ℕ → Held → Held → List Line → Type 0
  Restarts Serving formatted target old new ls = (new ≡ old) × (ls ≡ lines.State target Serving ∷ [])
  Restarts Opened formatted target old new ls = (new ≡ old) × (ls ≡ lines.State target Opened ∷ [])
  Restarts Down true target old new ls = Starts old.disk target new ls
  Restarts Down false target old new ls = Reformats old.disk target new ls

  -- what a command makes of a session, and the lines that come of it
  abbrev pub Obeys : Kept → Command → Kept → List Line → Type 0
  Obeys k (commands.Cluster targets) new ls =
      (target : Held) × Founds k.target.disk targets target ls × (new ≡ record k { cluster = Some targets; target = target })
  Obeys k (commands.Send r) new ls = (new ≡ record k { waiting = k.waiting ++ r ∷ []; used = slice_set k.used r.number true }) × (ls ≡ [])
  Obeys k commands.Settle new ls = (new ≡ record k { waiting = []; target = settled_target k.target k.waiting }) × (ls ≡ settle_lines k.target.ledger k.waiting)
  Obeys k commands.Tree new ls = (new ≡ k) × (ls ≡ tree_lines k.target.ledger)
  Obeys k commands.End new ls = (target : Held) × Ends k.target.ledger k.target target ls × (new ≡ record k { ended = true; target = target })
  Obeys k (commands.Commit t) new ls = (target : Held) × Commits k.target.ledger t k.target target ls × (new ≡ record k { target = target })
  Obeys k (commands.Crash t) new ls = (target : Held) × Crashes (standing_of k.target) t k.target target ls × (new ≡ record k { target = target })
  Obeys k (commands.Restart t) new ls = (target : Held) × Restarts (standing_of k.target) k.target.formatted t k.target target ls × (new ≡ record k { target = target })
  Obeys k (commands.Fuse t after choice) new ls = calls.armed after choice k.target.disk × (new ≡ k) × (ls ≡ [])
  -- The others aren't played.
  Obeys k _ new ls = ⊥

  abbrev pub Does : Kept → Entry → Kept → List Line → Type 0
  Does k (Skip line) new ls = (new ≡ k) × (ls ≡ [])
  Does k (Order c) new ls = Obeys k c new ls

-- CODES

abbrev pub coded_shown : Coded Shown
coded_shown = code_by (Bool × (Bool × (List ℕ × (List (Option ℕ) × (Bool × (ℕ × ℕ))))))
    (coded× coded_bool (coded× coded_bool (coded× (coded_list coded_ℕ) (coded× (coded_list (coded_option coded_ℕ)) (coded× coded_bool (coded× coded_ℕ coded_ℕ))))))
    (λ d. (d.tells, (d.honest, (d.content, (d.settled, (d.failed, (d.faults, d.name)))))))
    (λ p. record { tells = p.0; honest = p.1.0; content = p.1.1.0; settled = p.1.1.1.0; failed = p.1.1.1.1.0; faults = p.1.1.1.1.1.0; name = p.1.1.1.1.1.1 }) (λ _. refl)

abbrev pub coded_ledger : Coded Ledger
coded_ledger = code_by (Grown × (ℕ × (List ℕ × (List ℕ × List ℕ)))) (coded× coded_grown (coded× coded_ℕ (coded× (coded_list coded_ℕ) (coded× (coded_list coded_ℕ) (coded_list coded_ℕ)))))
    (λ l. (l.tree, (l.count, (l.bytes, (l.seats, l.pend))))) (λ p. record { tree = p.0; count = p.1.0; bytes = p.1.1.0; seats = p.1.1.1.0; pend = p.1.1.1.1 }) (λ _. refl)

abbrev pub coded_held : Coded Held
coded_held = code_by (Option Ledger × (Bool × (Bool × Shown))) (coded× (coded_option coded_ledger) (coded× coded_bool (coded× coded_bool coded_shown)))
    (λ h. (h.ledger, (h.up, (h.formatted, h.disk)))) (λ p. record { ledger = p.0; up = p.1.0; formatted = p.1.1.0; disk = p.1.1.1 }) (λ _. refl)

abbrev pub coded_kept : Coded Kept
coded_kept = code_by (Option ℕ × (Bool × (List Bool × (List Request × Held)))) (coded× (coded_option coded_ℕ) (coded× coded_bool (coded× (coded_list coded_bool) (coded× (coded_list coded_request) coded_held))))
    (λ k. (k.cluster, (k.ended, (k.used, (k.waiting, k.target))))) (λ p. record { cluster = p.0; ended = p.1.0; used = p.1.1.0; waiting = p.1.1.1.0; target = p.1.1.1.1 }) (λ _. refl)
