-- What is so of every outcome that the checks of an operation can come to.
use Rattle.std.proofs.Common.{◌≡◌, ℕ, Bool, true, false, if◌then◌else◌, Option, Some, None, Result, Ok, Err, is_some, List, [], refl, subst}
use Rattle.fid_space.specs.declared.fid.Fid.{Fid}
use Rattle.tree_model.specs.declared.errno.Errno.{Errno}
use Rattle.tree_model.specs.declared.errno.Errno.TheVariants.{EISDIR, ENODATA}
use Rattle.tree_model.specs.Tree.{same_fid}
use Rattle.tree_model.specs.Step.{client_fault, layout_fault, taken_fault, absent_fault, kind_fault, same_place}
use Rattle.striped_dir.specs.declared.layout.Layout.{Layout}
use Rattle.tree_model.specs.declared.op.Op.{Op}
use Rattle.tree_model.specs.declared.op.Op.TheVariants as ops
use Rattle.tree_model.specs.declared.reply.Reply.TheVariants as replies
use Rattle.object_store.specs.Meaning.{is_directory}
use Rattle.plan_base.specs.declared.seen.Seen.{Seen}
use Rattle.plan_base.specs.declared.outcome.Outcome.{Outcome}
use Rattle.plan_base.specs.declared.question.Stop.{Stop}
use Rattle.plan_base.specs.Stops.{◌>>=◌, unless}
use Rattle.plan_base.specs.Told.{Told, node_told, entry_told, value_told}
use Rattle.plan_base.specs.Asks.{Asks, AskDirectory, AskNode, AskValue, AskEntry, AskEmpty, AskNames, AskWalk, Refuse, Settle, answer, directory_told, empty_told, all_names_told, walk_told}
use Rattle.plan_base.specs.Planning.{check, found, found_node, as_directory, empty_fault, space_fault, link_fault, is_dir_seen, changes_parent, new_asks, migrate_fault, many_fault, Migration, migrated, asks, Move, replace_asks, over_asks, place_asks, move_asks, moved_with}
use Rattle.plan_base.specs.Updates.{Placed}
use Rattle.plan_shares.specs.Decisions.{IsWriting, WritersReplyOk}

abbrev Every : (Outcome → Type 0) → Asks → Type 0
Every P (AskDirectory f next) = (s : Seen) → Every P (next s)
Every P (AskNode f next) = (s : Option Seen) → Every P (next s)
Every P (AskValue f x next) = (v : Option (List ℕ)) → Every P (next v)
Every P (AskEntry d layout x next) = (c : Option Fid) → Every P (next c)
Every P (AskEmpty d layout next) = (b : Bool) → Every P (next b)
Every P (AskNames d layout next) = (es : List (List ℕ × Fid)) → Every P (next es)
Every P (AskWalk m from next) = Every P next
Every P (Refuse e) = Unit {0}
Every P (Settle o) = P o

err_ok : {A X : Type 0} (e : Stop) (a : A) → ◌≡◌ {A = Result A Stop} (Err e) (Ok a) → X
err_ok e a h = cc

bound : {A : Type 0} (P : Outcome → Type 0) (r : Result A Stop) (g : A → Result Outcome Stop) (o : Outcome) → (r >>= g) ≡ Ok o → ((a : A) → g a ≡ Ok o → P o) → P o
bound P (Ok a) g o e h = h a e
bound P (Err x) g o e h = err_ok x o e

passed : (P : Outcome → Type 0) (s : Option Stop) (r : Result Outcome Stop) (o : Outcome) → unless s r ≡ Ok o → (r ≡ Ok o → P o) → P o
passed P None r o e h = h e
passed P (Some x) r o e h = err_ok x o e

ok_is : (a b : Outcome) → ◌≡◌ {A = Result Outcome Stop} (Ok a) (Ok b) → a ≡ b
ok_is a b h = cc

every : (P : Outcome → Type 0) (t : Told) (a : Asks) → Every P a → (o : Outcome) → answer t a ≡ Ok o → P o
every P t (AskDirectory f next) h o e = bound P (directory_told t f) (λ s. answer t (next s)) o e (λ s k. every P t (next s) (h s) o k)
every P t (AskNode f next) h o e = bound P (node_told t f) (λ s. answer t (next s)) o e (λ s k. every P t (next s) (h s) o k)
every P t (AskValue f x next) h o e = bound P (value_told t f x) (λ v. answer t (next v)) o e (λ v k. every P t (next v) (h v) o k)
every P t (AskEntry d layout x next) h o e = bound P (entry_told t d layout x) (λ c. answer t (next c)) o e (λ c k. every P t (next c) (h c) o k)
every P t (AskEmpty d layout next) h o e = bound P (empty_told t d layout) (λ b. answer t (next b)) o e (λ b k. every P t (next b) (h b) o k)
every P t (AskNames d layout next) h o e = bound P (all_names_told t d layout) (λ es. answer t (next es)) o e (λ es k. every P t (next es) (h es) o k)
every P t (AskWalk m from next) h o e = passed P (walk_told t m 1023 from) (answer t next) o e (λ k. every P t next h o k)
every P t (Refuse x) h o e = cc
every P t (Settle w) h o e = subst P (ok_is w o e) h

-- ---- checks; a record, so that what it is of can be left out

record Each (P : Outcome → Type 0) (a : Asks) : Type 0 where
  all : Every P a

module _ {P : Outcome → Type 0} where
  each_directory : (f : Fid) (next : Seen → Asks) → ((s : Seen) → Each P (next s)) → Each P (AskDirectory f next)
  each_directory f next h = record { all = λ s. (h s).all }

  each_node : (f : Fid) (next : Option Seen → Asks) → ((s : Option Seen) → Each P (next s)) → Each P (AskNode f next)
  each_node f next h = record { all = λ s. (h s).all }

  each_value : (f : Fid) (x : List ℕ) (next : Option (List ℕ) → Asks) → ((v : Option (List ℕ)) → Each P (next v)) → Each P (AskValue f x next)
  each_value f x next h = record { all = λ v. (h v).all }

  each_entry : (d : Fid) (layout : Layout) (x : List ℕ) (next : Option Fid → Asks) → ((c : Option Fid) → Each P (next c)) → Each P (AskEntry d layout x next)
  each_entry d layout x next h = record { all = λ c. (h c).all }

  each_empty : (d : Fid) (layout : Layout) (next : Bool → Asks) → ((b : Bool) → Each P (next b)) → Each P (AskEmpty d layout next)
  each_empty d layout next h = record { all = λ b. (h b).all }

  each_names : (d : Fid) (layout : Layout) (next : List (List ℕ × Fid) → Asks) → ((es : List (List ℕ × Fid)) → Each P (next es)) → Each P (AskNames d layout next)
  each_names d layout next h = record { all = λ es. (h es).all }

  each_settle : (o : Outcome) → P o → Each P (Settle o)
  each_settle o h = record { all = h }

  each_check : (f : Option Errno) (a : Asks) → Each P a → Each P (check f a)
  each_check None a h = h
  each_check (Some e) a h = record { all = tt }

  each_found : (c : Option Fid) (next : Fid → Asks) → ((f : Fid) → Each P (next f)) → Each P (found c next)
  each_found None next h = record { all = tt }
  each_found (Some f) next h = h f

  each_there : (s : Option Seen) (next : Seen → Asks) → ((n : Seen) → Each P (next n)) → Each P (found_node s next)
  each_there None next h = record { all = tt }
  each_there (Some n) next h = h n

  each_if : (b : Bool) (x y : Asks) → Each P x → Each P y → Each P (if b then x else y)
  each_if true x y h k = h
  each_if false x y h k = k

  each_as : (s : Option Seen) (next : Seen → Asks) → ((n : Seen) → Each P (next n)) → Each P (as_directory s next)
  each_as None next h = record { all = tt }
  each_as (Some n) next h = each_if (is_directory n.body.kind) (next n) _ (h n) (record { all = tt })

-- ---- replies

abbrev IsDone : Outcome → Type 0
IsDone o = o.reply ≡ replies.Ok

moved_done : (m : Move) (gone : List Placed) → Each IsDone (Settle (moved_with m gone))
unfolding moved_with
moved_done m gone = record { all = refl }

over_done : (m : Move) (old : Fid) → Each IsDone (over_asks m old)
over_done m old =
    each_if (same_fid m.moved old) _ _ (each_settle _ refl) (each_node old _ (λ other.
    each_check (kind_fault (is_dir_seen m.node) (is_dir_seen other)) _
    (each_if (is_dir_seen other) _ _ (each_empty old _ _ (λ b. each_check (empty_fault b) _ (moved_done m _))) (moved_done m _))))

place_done : (m : Move) → Each IsDone (place_asks m)
place_done m = each_entry m.to_parent _ _ _ by_old
  where
    by_old : (c : Option Fid) → Each IsDone (replace_asks m c)
    by_old None = moved_done m []
    by_old (Some old) = over_done m old

move_done : (m : Move) → Each IsDone (move_asks m)
move_done m = each_if (changes_parent m.node m.parent m.to_parent) _ _ (record { all = (place_done m).all }) (place_done m)

migrated_done : (m : Migration) (told : List (List ℕ × Fid)) → Each IsDone (Settle (migrated m told))
unfolding migrated
migrated_done m told = record { all = refl }

new_done : (p : Fid) (x : List ℕ) (f : Fid) (outcome : Seen → Outcome) → ((s : Seen) → IsDone (outcome s)) → Each IsDone (new_asks p x f outcome)
new_done p x f outcome h = each_directory p _ (λ s. each_entry p _ x _ (λ c. each_check (taken_fault c) _ (each_node f _ (λ n. each_check (taken_fault n) _ (each_settle _ (h s))))))

all_done : (targets batch : ℕ) (op : Op) → IsWriting op → Each IsDone (asks targets batch op)
all_done targets batch (ops.Create p x f) w = each_check (client_fault targets f) _ (new_done p x f _ (λ s. refl))
all_done targets batch (ops.Mkdir p x f st) w = each_check (client_fault targets f) _ (each_check (layout_fault targets st) _ (new_done p x f _ (λ s. refl)))
all_done targets batch (ops.Link p x f) w =
    each_directory p _ (λ s. each_entry p _ x _ (λ c. each_check (taken_fault c) _ (each_node f _ (λ n. each_check (link_fault n) _ (each_settle _ refl)))))
all_done targets batch (ops.Unlink p x) w =
    each_directory p _ (λ s. each_entry p _ x _ (λ c. each_found c _ (λ f. each_node f _ (λ n. each_check (if is_dir_seen n then Some EISDIR else None) _ (each_settle _ refl)))))
all_done targets batch (ops.Rmdir p x) w =
    each_directory p _ (λ s. each_entry p _ x _ (λ c. each_found c _ (λ f. each_node f _ (λ n. each_as n _ (λ old. each_empty f _ _ (λ b. each_check (empty_fault b) _ (each_settle _ refl)))))))
all_done targets batch (ops.Rename p x q y) w =
    each_directory p _ (λ from. each_entry p _ x _ (λ c. each_found c _ (λ f. each_directory q _ (λ to.
    each_if (same_place p x q y) _ _ (each_settle _ refl) (each_node f _ (λ n. move_done (record {
      targets = targets;
      batch = batch;
      parent = p;
      from = from;
      name = x;
      to_parent = q;
      to = to;
      to_name = y;
      moved = f;
      node = n;
    })))))))
all_done targets batch (ops.SetAttr f m u g) w = each_node f _ (λ n. each_check (absent_fault n) _ (each_settle _ refl))
all_done targets batch (ops.SetXattr f x v) w = each_node f _ (λ n. each_there n _ (λ s. each_value f x _ (λ old. each_check (space_fault s old) _ (each_settle _ refl))))
all_done targets batch (ops.DelXattr f x) w = each_node f _ (λ n. each_there n _ (λ s. each_value f x _ (λ old. each_check (if is_some old then None else Some ENODATA) _ (each_settle _ refl))))
all_done targets batch (ops.Migrate d c i) w = each_directory d _ (λ s. each_check (migrate_fault targets d c i) _ (each_names d _ _ (λ es. each_check (many_fault es) _ (migrated_done _ es))))
all_done targets batch (ops.Lookup p x) w = absurd w
all_done targets batch (ops.GetAttr f) w = absurd w
all_done targets batch (ops.GetXattr f x) w = absurd w

pub writers_reply : WritersReplyOk
writers_reply targets batch op t o w e = every IsDone t (asks targets batch op) (all_done targets batch op w).all o e
