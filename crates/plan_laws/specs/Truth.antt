-- What the answers are over a tree with layouts, and how far a planner comes with true answers.
use Rattle.std.specs.Prelude.{◌≡◌, ◌<◌, ℕ, zero, suc, ◌+◌, ◌==◌, ◌&&◌, Bool, true, false, Option, Some, None, Result, Ok, Err, if◌then◌else◌, is_some, List, [], ◌∷◌, ◌++◌, length, filter, take}
use Rattle.std.specs.List.{flat_map, AllByRecursion}
use Rattle.std.specs.Option.{option_map}
use Rattle.std.specs.FinMap.{get, len, entries}
use Rattle.fid_space.specs.declared.fid.Fid.{Fid}
use Rattle.tree_model.specs.declared.node.Node.{Node}
use Rattle.tree_model.specs.declared.errno.Errno.TheVariants.{EINVAL, ELOOP}
use Rattle.tree_model.specs.Tree.{named, names_of, same_fid, root_fid, Names}
use Rattle.tree_model.specs.Step.{is_dir}
use Rattle.tree_model.specs.Keys.{Key, NodeKey, NameKey, AllKey, Laid, layout_at}
use Rattle.tree_model.specs.Keys.{Layout as LaidOut}
use Rattle.tree_model.specs.Changes.{Change}
use Rattle.tree_model.specs.Looks.{Plan, decided, asked}
use Rattle.tree_model.specs.declared.reply.Reply.{Reply}
use Rattle.tree_model.specs.declared.reply.Reply.TheVariants as replies
use Rattle.striped_dir.specs.declared.layout.Layout.{Layout}
use Rattle.striped_dir.specs.Layouts.{laid}
use Rattle.striped_dir.specs.Parts.{part_of_name}
use Rattle.object_store.specs.declared.body.Body.{Body}
use Rattle.object_store.specs.declared.body.ObjectKind.{ObjectKind}
use Rattle.object_store.specs.declared.body.ObjectKind.TheVariants.{File, Directory}
use Rattle.plan_base.specs.declared.seen.Seen.{Seen}
use Rattle.plan_base.specs.declared.outcome.Outcome.{Outcome}
use Rattle.plan_base.specs.declared.question.Question.{Question}
use Rattle.plan_base.specs.declared.question.Question.TheVariants as question
use Rattle.plan_base.specs.declared.question.Stop.{Stop}
use Rattle.plan_base.specs.declared.question.Stop.TheVariants as stop
use Rattle.plan_base.specs.Stops.{◌>>=◌, unless}
use Rattle.plan_base.specs.Told.{Told, entry_in, count_in, value_in, names_in}
use Rattle.plan_base.specs.Planners.{node_in, child_in, entries_in, attribute_in}
use Rattle.plan_base.specs.Listed.{listed_in}
use Rattle.out_update.specs.declared.result.UpdateResult.{UpdateResult}
use Rattle.plan_base.specs.Places.{parts_of}
use Rattle.plan_base.specs.Asks.{Asks, AskDirectory, AskNode, AskValue, AskEntry, AskEmpty, AskNames, AskWalk, Refuse, Settle, directory_seen, parent_seen}

-- ---- the true answers

abbrev pub kept : LaidOut → Layout
kept l = record { count = l.count; start = l.start; generation = l.generation }

abbrev pub kind_of_node : Bool → ObjectKind
kind_of_node true = Directory
kind_of_node false = File

-- the body of a node
abbrev pub node_body : Node → LaidOut → Body
node_body n l = record { kind = kind_of_node n.dir; mode = n.mode; uid = n.uid; gid = n.gid; links = n.links; layout = kept l; fid = n.parent; index = 0 }

abbrev pub seen_node : LaidOut → Node → Seen
seen_node l n = record { body = node_body n l; attributes = len n.xattrs }

abbrev pub seen_of : Laid → Fid → Option Seen
seen_of l fid = option_map (seen_node (layout_at l fid)) (get l.tree.nodes fid)

abbrev pub value_at : Option Node → List ℕ → Option (List ℕ)
value_at None name = None
value_at (Some node) name = get node.xattrs name

abbrev pub value_of : Laid → Fid → List ℕ → Option (List ℕ)
value_of l fid name = value_at (get l.tree.nodes fid) name

-- how many of the names a part has, where a directory has this layout
abbrev pub count_of : Layout → Names → ℕ → ℕ
count_of layout names index = length (filter (λ e. part_of_name (laid layout) e.0 == index) (entries names))

-- the first 33 of the names of a part, where a directory has this layout
abbrev pub names_at : Layout → Names → ℕ → List (List ℕ × Fid)
names_at layout names index = take 33 (filter (λ e. part_of_name (laid layout) e.0 == index) (entries names))

-- each answer that was told is true
pub record IsTrueOf (l : Laid) (t : Told) : Type 0 where
  pub nodes : (f : Fid) (s : Option Seen) → get t.nodes f ≡ Some s → s ≡ seen_of l f
  pub entries : (d : Fid) (x : List ℕ) (c : Option Fid) → entry_in t.entries d x ≡ Some c → c ≡ named l.tree d x
  pub counts : (d : Fid) (i n : ℕ) → count_in t.counts d i ≡ Some n → n ≡ count_of (kept (layout_at l d)) (names_of l.tree d) i
  pub names : (d : Fid) (i : ℕ) (es : List (List ℕ × Fid)) → names_in t.names d i ≡ Some es → es ≡ names_at (kept (layout_at l d)) (names_of l.tree d) i
  pub values : (f : Fid) (x : List ℕ) (v : Option (List ℕ)) → value_in t.values f x ≡ Some v → v ≡ value_of l f x

-- ---- what the checks come to with all answers, and the questions up to the deciding one

-- so many parts from one on have no entry
unfoldable pub none_of : Layout → Names → ℕ → ℕ → Bool
none_of layout names index zero = true
none_of layout names index (suc left) = (count_of layout names index == 0) && none_of layout names (suc index) left

-- the names of so many parts from one on
unfoldable pub all_names_at : Layout → Names → ℕ → ℕ → List (List ℕ × Fid)
all_names_at layout names index zero = []
all_names_at layout names index (suc left) = names_at layout names index ++ all_names_at layout names (suc index) left

unfoldable pub walk_over : Laid → Fid → ℕ → Fid → Option Stop
walk_over l moved zero at =
    if same_fid at root_fid then None else (if same_fid at moved then Some (stop.Refused EINVAL) else Some (stop.Refused ELOOP))
walk_over l moved (suc left) at =
    if same_fid at root_fid then None
    else (if same_fid at moved then Some (stop.Refused EINVAL) else walk_over l moved left (parent_seen (seen_of l at)))

abbrev pub over : Laid → Asks → Result Outcome Stop
over l (AskDirectory fid next) = directory_seen (seen_of l fid) >>= (λ seen. over l (next seen))
over l (AskNode fid next) = over l (next (seen_of l fid))
over l (AskValue fid name next) = over l (next (value_of l fid name))
over l (AskEntry directory layout name next) = over l (next (named l.tree directory name))
over l (AskEmpty directory layout next) = over l (next (none_of layout (names_of l.tree directory) 0 (parts_of (laid layout))))
over l (AskNames directory layout next) = over l (next (all_names_at layout (names_of l.tree directory) 0 (parts_of (laid layout))))
over l (AskWalk moved from next) = unless (walk_over l moved 1023 from) (over l next)
over l (Refuse errno) = Err (stop.Refused errno)
over l (Settle outcome) = Ok outcome

-- the questions about the parts of a directory
unfoldable pub part_questions : Fid → Layout → ℕ → ℕ → List Question
part_questions directory layout index zero = []
part_questions directory layout index (suc left) = question.Count directory layout index ∷ part_questions directory layout (suc index) left

unfoldable pub name_questions : Fid → Layout → ℕ → ℕ → List Question
name_questions directory layout index zero = []
name_questions directory layout index (suc left) = question.Names directory layout index ∷ name_questions directory layout (suc index) left

unfoldable pub walk_questions : Laid → Fid → ℕ → Fid → List Question
walk_questions l moved zero at = []
walk_questions l moved (suc left) at =
    if same_fid at root_fid then []
    else (if same_fid at moved then [] else question.Node at ∷ walk_questions l moved left (parent_seen (seen_of l at)))

-- those of what comes after a check
abbrev pub if_ok : {A : Type 0} → Result A Stop → (A → List Question) → List Question
if_ok (Ok x) next = next x
if_ok (Err e) next = []

abbrev pub if_none : Option Stop → List Question → List Question
if_none None next = next
if_none (Some e) next = []

abbrev pub questions : Laid → Asks → List Question
questions l (AskDirectory fid next) = question.Node fid ∷ if_ok (directory_seen (seen_of l fid)) (λ seen. questions l (next seen))
questions l (AskNode fid next) = question.Node fid ∷ questions l (next (seen_of l fid))
questions l (AskValue fid name next) = question.Value fid name ∷ questions l (next (value_of l fid name))
questions l (AskEntry directory layout name next) = question.Entry directory layout name ∷ questions l (next (named l.tree directory name))
questions l (AskEmpty directory layout next) =
    part_questions directory layout 0 (parts_of (laid layout)) ++ questions l (next (none_of layout (names_of l.tree directory) 0 (parts_of (laid layout))))
questions l (AskNames directory layout next) =
    name_questions directory layout 0 (parts_of (laid layout)) ++ questions l (next (all_names_at layout (names_of l.tree directory) 0 (parts_of (laid layout))))
questions l (AskWalk moved from next) = walk_questions l moved 1023 from ++ if_none (walk_over l moved 1023 from) (questions l next)
questions l (Refuse errno) = []
questions l (Settle outcome) = []

-- the first question of a list that has no answer yet
abbrev pub is_known : Told → Question → Bool
is_known t (question.Node fid) = is_some (get t.nodes fid)
is_known t (question.Entry directory layout name) = is_some (entry_in t.entries directory name)
is_known t (question.Count directory layout index) = is_some (count_in t.counts directory index)
is_known t (question.Value fid name) = is_some (value_in t.values fid name)
is_known t (question.Names directory layout index) = is_some (names_in t.names directory index)

abbrev pub first_open : Told → List Question → Option Question
first_open t [] = None
first_open t (q ∷ qs) = if is_known t q then first_open t qs else Some q

-- the question, or else what the checks come to
abbrev pub or_outcome : Option Question → Result Outcome Stop → Result Outcome Stop
or_outcome None end = end
or_outcome (Some q) end = Err (stop.Ask q)

-- the key that a question looks at; of the parts of a directory the first one's has it
abbrev pub first_key : Fid → ℕ → List Key
first_key directory zero = AllKey directory ∷ []
first_key directory (suc index) = []

abbrev pub keys_of_question : Question → List Key
keys_of_question (question.Node fid) = NodeKey fid ∷ []
keys_of_question (question.Entry directory layout name) = NameKey directory name ∷ []
keys_of_question (question.Count directory layout index) = first_key directory index
keys_of_question (question.Value fid name) = []
keys_of_question (question.Names directory layout index) = first_key directory index

abbrev pub keys_asked : List Question → List Key
keys_asked qs = flat_map keys_of_question qs

-- a question of an entry or a part is of a directory that is there and names the layout that it has, and the part is one of it
abbrev pub IsLaid : Laid → Question → Type 0
IsLaid l (question.Node fid) = Unit {0}
IsLaid l (question.Value fid name) = Unit {0}
IsLaid l (question.Entry directory layout name) = (layout ≡ kept (layout_at l directory)) × (is_dir (get l.tree.nodes directory) ≡ true)
IsLaid l (question.Count directory layout index) = (layout ≡ kept (layout_at l directory)) × (is_dir (get l.tree.nodes directory) ≡ true) × (index < parts_of (laid layout))
IsLaid l (question.Names directory layout index) = (layout ≡ kept (layout_at l directory)) × (is_dir (get l.tree.nodes directory) ≡ true) × (index < parts_of (laid layout))

-- the reply that the checks come to
abbrev pub reply_at : Result Outcome Stop → Reply
reply_at (Ok outcome) = outcome.reply
reply_at (Err (stop.Refused errno)) = replies.Err errno
reply_at (Err (stop.Ask q)) = replies.Ok
reply_at (Err stop.Memory) = replies.Ok

-- the same reply and the same keys, and each question with the layout of its directory
abbrev pub Same : Laid → Result Outcome Stop → List Question → Reply × List Change → List Key → Type 0
Same l end qs out keys = (reply_at end ≡ out.0) × (keys_asked qs ≡ keys) × AllByRecursion (IsLaid l) qs

pub record Matches (l : Laid) (a : Asks) (p : Plan) : Type 0 where
  pub same : Same l (over l a) (questions l a) (decided p l.tree) (asked p l.tree)

-- a result tells the truth of a question
abbrev pub TellsTruth : Laid → Question → UpdateResult → Type 0
TellsTruth l (question.Node fid) r = node_in r ≡ seen_of l fid
TellsTruth l (question.Entry directory layout name) r = child_in r ≡ named l.tree directory name
TellsTruth l (question.Count directory layout index) r = entries_in r ≡ count_of (kept (layout_at l directory)) (names_of l.tree directory) index
TellsTruth l (question.Value fid name) r = attribute_in r ≡ value_of l fid name
TellsTruth l (question.Names directory layout index) r = listed_in r ≡ names_at (kept (layout_at l directory)) (names_of l.tree directory) index
