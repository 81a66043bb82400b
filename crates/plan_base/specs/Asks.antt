-- What is checked of an operation, one question after another, and how far one comes with what was told.
use Rattle.std.specs.Prelude.{ℕ, zero, suc, ◌+◌, ◌==◌, ◌&&◌, Bool, true, Option, Some, None, Result, Ok, Err, if◌then◌else◌, List, [], ◌++◌}
use Rattle.fid_space.specs.declared.fid.Fid.{Fid}
use Rattle.tree_model.specs.declared.errno.Errno.{Errno}
use Rattle.tree_model.specs.declared.errno.Errno.TheVariants.{ENOENT, ENOTDIR, EINVAL, ELOOP}
use Rattle.tree_model.specs.Tree.{same_fid, root_fid}
use Rattle.striped_dir.specs.declared.layout.Layout.{Layout}
use Rattle.striped_dir.specs.Layouts.{laid}
use Rattle.object_store.specs.Meaning.{is_directory}
use Rattle.plan_base.specs.declared.seen.Seen.{Seen}
use Rattle.plan_base.specs.declared.outcome.Outcome.{Outcome}
use Rattle.plan_base.specs.declared.question.Stop.{Stop}
use Rattle.plan_base.specs.declared.question.Stop.TheVariants as stop
use Rattle.plan_base.specs.Places.{parts_of}
use Rattle.plan_base.specs.Stops.{◌>>=◌, unless}
use Rattle.plan_base.specs.Told.{Told, node_told, entry_told, count_told, value_told, names_told}

pub data Asks : Type 0 where
  -- a node that must be a directory
  AskDirectory : (fid : Fid) (next : Seen → Asks) → Asks
  -- a node, if it is there
  AskNode : (fid : Fid) (next : Option Seen → Asks) → Asks
  -- the value of an extended attribute
  AskValue : (fid : Fid) (name : List ℕ) (next : Option (List ℕ) → Asks) → Asks
  -- what a name of a directory with this layout stands for
  AskEntry : (directory : Fid) (layout : Layout) (name : List ℕ) (next : Option Fid → Asks) → Asks
  -- whether a directory has no entry: all its parts are asked, also after one that has
  AskEmpty : (directory : Fid) (layout : Layout) (next : Bool → Asks) → Asks
  -- all entries of a directory, at most 33 of each part: all its parts are asked, also after more than 32 entries
  AskNames : (directory : Fid) (layout : Layout) (next : List (List ℕ × Fid) → Asks) → Asks
  -- a rename's walk from a directory up
  AskWalk : (moved from : Fid) (next : Asks) → Asks
  Refuse : (errno : Errno) → Asks
  Settle : (outcome : Outcome) → Asks

-- a node that is there and is a directory
abbrev pub directory_seen : Option Seen → Result Seen Stop
directory_seen None = Err (stop.Refused ENOENT)
directory_seen (Some seen) = if is_directory seen.body.kind then Ok seen else Err (stop.Refused ENOTDIR)

abbrev pub directory_told : Told → Fid → Result Seen Stop
directory_told t fid = node_told t fid >>= directory_seen

-- from a part on, so many parts have no entry
unfoldable pub none_told : Told → Fid → Layout → ℕ → ℕ → Result Bool Stop
none_told t directory layout index zero = Ok true
none_told t directory layout index (suc left) =
    count_told t directory layout index >>= (λ n. none_told t directory layout (suc index) left >>= (λ rest. Ok ((n == 0) && rest)))

abbrev pub empty_told : Told → Fid → Layout → Result Bool Stop
empty_told t directory layout = none_told t directory layout 0 (parts_of (laid layout))

-- the entries of so many parts, from one part on
unfoldable pub names_from : Told → Fid → Layout → ℕ → ℕ → Result (List (List ℕ × Fid)) Stop
names_from t directory layout index zero = Ok []
names_from t directory layout index (suc left) =
    names_told t directory layout index >>= (λ entries. names_from t directory layout (suc index) left >>= (λ more. Ok (entries ++ more)))

abbrev pub all_names_told : Told → Fid → Layout → Result (List (List ℕ × Fid)) Stop
all_names_told t directory layout = names_from t directory layout 0 (parts_of (laid layout))

-- the parent of a directory, as it was told
abbrev pub parent_seen : Option Seen → Fid
parent_seen None = root_fid
parent_seen (Some seen) = seen.body.fid

-- a stop, or else what comes
abbrev pub then_stop : {A : Type 0} → Result A Stop → (A → Option Stop) → Option Stop
then_stop (Ok x) next = next x
then_stop (Err e) next = Some e

-- The walk: a member is compared with the root and the moved directory before it is asked for, and so
-- many more may be asked.
unfoldable pub walk_told : Told → Fid → ℕ → Fid → Option Stop
walk_told t moved zero at =
    if same_fid at root_fid then None else (if same_fid at moved then Some (stop.Refused EINVAL) else Some (stop.Refused ELOOP))
walk_told t moved (suc left) at =
    if same_fid at root_fid then None
    else (if same_fid at moved then Some (stop.Refused EINVAL) else then_stop (node_told t at) (λ seen. walk_told t moved left (parent_seen seen)))

-- how far one comes: to a question, to a refusal, or to the outcome
abbrev pub answer : Told → Asks → Result Outcome Stop
answer t (AskDirectory fid next) = directory_told t fid >>= (λ seen. answer t (next seen))
answer t (AskNode fid next) = node_told t fid >>= (λ seen. answer t (next seen))
answer t (AskValue fid name next) = value_told t fid name >>= (λ value. answer t (next value))
answer t (AskEntry directory layout name next) = entry_told t directory layout name >>= (λ child. answer t (next child))
answer t (AskEmpty directory layout next) = empty_told t directory layout >>= (λ is_empty. answer t (next is_empty))
answer t (AskNames directory layout next) = all_names_told t directory layout >>= (λ entries. answer t (next entries))
answer t (AskWalk moved from next) = unless (walk_told t moved 1023 from) (answer t next)
answer t (Refuse errno) = Err (stop.Refused errno)
answer t (Settle outcome) = Ok outcome
