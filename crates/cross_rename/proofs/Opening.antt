-- A node that a planner asks for isn't known to it.
use Rattle.std.proofs.Common.{◌≡◌, ℕ, zero, suc, ◌==◌, ◌&&◌, ◌++◌, Bool, true, false, if◌then◌else◌, Option, Some, None, Result, Ok, Err, List, refl, sym, subst}
use Rattle.std.specs.FinMap.{get}
use Rattle.fid_space.specs.declared.fid.Fid.{Fid}
use Rattle.tree_model.specs.declared.errno.Errno.TheVariants.{ENOTDIR, EINVAL, ELOOP}
use Rattle.tree_model.specs.Tree.{same_fid, root_fid}
use Rattle.object_store.specs.Meaning.{is_directory}
use Rattle.striped_dir.specs.declared.layout.Layout.{Layout}
use Rattle.striped_dir.specs.Layouts.{laid}
use Rattle.plan_base.specs.declared.seen.Seen.{Seen}
use Rattle.plan_base.specs.declared.outcome.Outcome.{Outcome}
use Rattle.plan_base.specs.declared.question.Question.TheVariants as question
use Rattle.plan_base.specs.declared.question.Stop.{Stop}
use Rattle.plan_base.specs.declared.question.Stop.TheVariants as stop
use Rattle.plan_base.specs.Stops.{◌>>=◌, unless}
use Rattle.plan_base.specs.Places.{parts_of}
use Rattle.plan_base.specs.Told.{Told, known, node_told, entry_in, count_in, value_in, names_in, entry_told, count_told, value_told, names_told}
use Rattle.plan_base.specs.Asks.{Asks, AskDirectory, AskNode, AskValue, AskEntry, AskEmpty, AskNames, AskWalk, Refuse, Settle, answer, directory_seen, none_told, names_from, walk_told, then_stop, parent_seen}
use Rattle.plan_base.specs.Planning.{asks}
use Rattle.plan_base.specs.Planners.{Planning, asked_at, reached}
use Rattle.cross_rename.specs.declared.walks.Walked.{Walked}
use Rattle.cross_rename.specs.Kept.{MayKeep, IsOpen, Keeps}

-- what a stop asks
abbrev pub StopIsOpen : Told → Stop → Type 0
StopIsOpen t (stop.Ask q) = IsOpen t (Some q)
StopIsOpen t (stop.Refused e) = Unit {0}
StopIsOpen t stop.Memory = Unit {0}

abbrev pub Opens : {X : Type 0} → Told → Result X Stop → Type 0
Opens t (Ok x) = Unit {0}
Opens t (Err e) = StopIsOpen t e

abbrev pub MayOpen : Told → Option Stop → Type 0
MayOpen t None = Unit {0}
MayOpen t (Some e) = StopIsOpen t e

and_then : {X Y : Type 0} → (t : Told) (r : Result X Stop) (f : X → Result Y Stop) → Opens t r → ((x : X) → Opens t (f x)) → Opens t (r >>= f)
and_then t (Ok x) f h k = k x
and_then t (Err e) f h k = h

and_walk : {X : Type 0} → (t : Told) (r : Result X Stop) (f : X → Option Stop) → Opens t r → ((x : X) → MayOpen t (f x)) → MayOpen t (then_stop r f)
and_walk t (Ok x) f h k = k x
and_walk t (Err e) f h k = h

or_next : {X : Type 0} → (t : Told) (o : Option Stop) (r : Result X Stop) → MayOpen t o → Opens t r → Opens t (unless o r)
or_next t None r h k = k
or_next t (Some e) r h k = h

node_open : (t : Told) (fid : Fid) → Opens t (node_told t fid)
node_open t fid = by_value (get t.nodes fid) refl
  where
    by_value : (o : Option (Option Seen)) → get t.nodes fid ≡ o → Opens t (known (question.Node fid) o)
    by_value None e = e
    by_value (Some s) e = tt

entry_open : (t : Told) (d : Fid) (l : Layout) (x : List ℕ) (o : Option (Option Fid)) → Opens t (known (question.Entry d l x) o)
entry_open t d l x None = tt
entry_open t d l x (Some c) = tt

count_open : (t : Told) (d : Fid) (l : Layout) (i : ℕ) (o : Option ℕ) → Opens t (known (question.Count d l i) o)
count_open t d l i None = tt
count_open t d l i (Some n) = tt

value_open : (t : Told) (f : Fid) (x : List ℕ) (o : Option (Option (List ℕ))) → Opens t (known (question.Value f x) o)
value_open t f x None = tt
value_open t f x (Some v) = tt

names_open : (t : Told) (d : Fid) (l : Layout) (i : ℕ) (o : Option (List (List ℕ × Fid))) → Opens t (known (question.Names d l i) o)
names_open t d l i None = tt
names_open t d l i (Some es) = tt

directory_open : (t : Told) (s : Option Seen) → Opens t (directory_seen s)
directory_open t None = tt
directory_open t (Some s) = by_kind (is_directory s.body.kind)
  where
    by_kind : (b : Bool) → Opens t (if b then Ok s else Err (stop.Refused ENOTDIR))
    by_kind true = tt
    by_kind false = tt

none_open : (t : Told) (d : Fid) (l : Layout) (i n : ℕ) → Opens t (none_told t d l i n)
unfolding none_told
none_open t d l i zero = tt
none_open t d l i (suc n) = and_then t (count_told t d l i) (λ k. none_told t d l (suc i) n >>= (λ rest. Ok ((k == 0) && rest))) (count_open t d l i (count_in t.counts d i)) (λ k.
    and_then t (none_told t d l (suc i) n) (λ rest. Ok ((k == 0) && rest)) (none_open t d l (suc i) n) (λ rest. tt))

listed_open : (t : Told) (d : Fid) (l : Layout) (i n : ℕ) → Opens t (names_from t d l i n)
unfolding names_from
listed_open t d l i zero = tt
listed_open t d l i (suc n) = and_then t (names_told t d l i) (λ es. names_from t d l (suc i) n >>= (λ more. Ok (es ++ more))) (names_open t d l i (names_in t.names d i)) (λ es.
    and_then t (names_from t d l (suc i) n) (λ more. Ok (es ++ more)) (listed_open t d l (suc i) n) (λ more. tt))

if_open : (t : Told) (a b : Bool) (o : Option Stop) → MayOpen t o → MayOpen t (if a then None else (if b then Some (stop.Refused EINVAL) else o))
if_open t true b o h = tt
if_open t false true o h = tt
if_open t false false o h = h

walk_open : (t : Told) (m : Fid) (n : ℕ) (f : Fid) → MayOpen t (walk_told t m n f)
unfolding walk_told
walk_open t m zero f = if_open t (same_fid f root_fid) (same_fid f m) (Some (stop.Refused ELOOP)) tt
walk_open t m (suc n) f = if_open t (same_fid f root_fid) (same_fid f m) (then_stop (node_told t f) (λ s. walk_told t m n (parent_seen s)))
    (and_walk t (node_told t f) (λ s. walk_told t m n (parent_seen s)) (node_open t f) (λ s. walk_open t m n (parent_seen s)))

answer_open : (t : Told) (a : Asks) → Opens t (answer t a)
answer_open t (AskDirectory fid next) =
    and_then t (node_told t fid >>= directory_seen) (λ s. answer t (next s)) (and_then t (node_told t fid) directory_seen (node_open t fid) (directory_open t)) (λ s. answer_open t (next s))
answer_open t (AskNode fid next) = and_then t (node_told t fid) (λ s. answer t (next s)) (node_open t fid) (λ s. answer_open t (next s))
answer_open t (AskValue fid name next) = and_then t (value_told t fid name) (λ v. answer t (next v)) (value_open t fid name (value_in t.values fid name)) (λ v. answer_open t (next v))
answer_open t (AskEntry d l x next) = and_then t (entry_told t d l x) (λ c. answer t (next c)) (entry_open t d l x (entry_in t.entries d x)) (λ c. answer_open t (next c))
answer_open t (AskEmpty d l next) = and_then t (none_told t d l 0 (parts_of (laid l))) (λ b. answer t (next b)) (none_open t d l 0 (parts_of (laid l))) (λ b. answer_open t (next b))
answer_open t (AskNames d l next) = and_then t (names_from t d l 0 (parts_of (laid l))) (λ es. answer t (next es)) (listed_open t d l 0 (parts_of (laid l))) (λ es. answer_open t (next es))
answer_open t (AskWalk m f next) = or_next t (walk_told t m 1023 f) (answer t next) (walk_open t m 1023 f) (answer_open t next)
answer_open t (Refuse e) = tt
answer_open t (Settle o) = tt

asked_open : (t : Told) (r : Result Outcome Stop) → Opens t r → IsOpen t (asked_at r)
asked_open t (Ok o) h = tt
asked_open t (Err (stop.Ask q)) h = h
asked_open t (Err (stop.Refused e)) h = tt
asked_open t (Err stop.Memory) h = tt

-- after a step the walk may be kept until the next
abbrev pub gone_on : Planning → Planning
gone_on p = record { targets = p.targets; op = p.op; batch = p.batch; told = p.told; asked = asked_at (reached p.targets p.batch p.op p.told) }

keeps : (p : Planning) (w : Option Walked) → MayKeep p.told w → Keeps (gone_on p) w
keeps p None h = tt
keeps p (Some w) h = (asked_open p.told (reached p.targets p.batch p.op p.told) (answer_open p.told (asks p.targets p.batch p.op)), h)

pub kept_when_gone_on : (p q : Planning) (w : Option Walked) → q ≡ gone_on p → MayKeep p.told w → Keeps q w
kept_when_gone_on p q w e h = subst (λ (s : Planning). Keeps s w) (sym e) (keeps p w h)
