-- What is so of the outcome that the checks of an operation come to over a tree.
use Rattle.std.proofs.Common.{◌≡◌, ℕ, Bool, true, false, if◌then◌else◌, Option, Some, None, Result, Ok, Err, List, refl, subst}
use Rattle.std.specs.Option.{option_map}
use Rattle.std.specs.FinMap.{get}
use Rattle.fid_space.specs.declared.fid.Fid.{Fid}
use Rattle.tree_model.specs.declared.node.Node.{Node}
use Rattle.tree_model.specs.declared.errno.Errno.{Errno}
use Rattle.tree_model.specs.declared.errno.Errno.TheVariants.{ENOTDIR}
use Rattle.tree_model.specs.Tree.{named, names_of}
use Rattle.tree_model.specs.Keys.{Laid, layout_at}
use Rattle.striped_dir.specs.declared.layout.Layout.{Layout}
use Rattle.object_store.specs.Meaning.{is_directory}
use Rattle.striped_dir.specs.Layouts.{laid}
use Rattle.plan_base.specs.Places.{parts_of}
use Rattle.plan_base.specs.declared.seen.Seen.{Seen}
use Rattle.plan_base.specs.declared.outcome.Outcome.{Outcome}
use Rattle.plan_base.specs.declared.question.Stop.{Stop}
use Rattle.plan_base.specs.declared.question.Stop.TheVariants as stop
use Rattle.plan_base.specs.Stops.{◌>>=◌, unless}
use Rattle.plan_base.specs.Asks.{Asks, AskDirectory, AskNode, AskValue, AskEntry, AskEmpty, AskNames, AskWalk, Refuse, Settle, directory_seen}
use Rattle.plan_base.specs.Planning.{check, found, found_node}
use Rattle.plan_laws.specs.Truth.{all_names_at, kind_of_node, seen_node, seen_of, value_of, over, walk_over}

-- each outcome that the checks may come to, where nodes and names are those of the tree; and what is so of each FID
-- of which a value is asked
abbrev pub Over : Laid → (Fid → Type 0) → (Outcome → Type 0) → Asks → Type 0
Over l Q P (AskDirectory f next) = (n : Node) → get l.tree.nodes f ≡ Some n → n.dir ≡ true → Over l Q P (next (seen_node (layout_at l f) n))
Over l Q P (AskNode f next) = Over l Q P (next (seen_of l f))
Over l Q P (AskValue f x next) = Q f × ((v : Option (List ℕ)) → Over l Q P (next v))
Over l Q P (AskEntry d layout x next) = Over l Q P (next (named l.tree d x))
Over l Q P (AskEmpty d layout next) = (b : Bool) → Over l Q P (next b)
Over l Q P (AskNames d layout next) = Over l Q P (next (all_names_at layout (names_of l.tree d) 0 (parts_of (laid layout))))
Over l Q P (AskWalk m from next) = Over l Q P next
Over l Q P (Refuse e) = Unit {0}
Over l Q P (Settle o) = P o

err_ok : {A X : Type 0} (e : Stop) (a : A) → ◌≡◌ {A = Result A Stop} (Err e) (Ok a) → X
err_ok e a h = cc

ok_is : (a b : Outcome) → ◌≡◌ {A = Result Outcome Stop} (Ok a) (Ok b) → a ≡ b
ok_is a b h = cc

passed : (P : Outcome → Type 0) (s : Option Stop) (r : Result Outcome Stop) (o : Outcome) → unless s r ≡ Ok o → (r ≡ Ok o → P o) → P o
passed P None r o e h = h e
passed P (Some x) r o e h = err_ok x o e

over_has : (l : Laid) (Q : Fid → Type 0) (P : Outcome → Type 0) (a : Asks) → Over l Q P a → (o : Outcome) → over l a ≡ Ok o → P o
over_has l Q P (AskDirectory f next) h o e = by_node (get l.tree.nodes f) h e (λ s k m. over_has l Q P (next s) k o m)
  where
    by_dir : (n : Node) (b : Bool) → (b ≡ true → Over l Q P (next (seen_node (layout_at l f) n)))
        → ((if is_directory (kind_of_node b) then Ok (seen_node (layout_at l f) n) else Err (stop.Refused ENOTDIR)) >>= (λ s. over l (next s))) ≡ Ok o
        → ((s : Seen) → Over l Q P (next s) → over l (next s) ≡ Ok o → P o) → P o
    by_dir n true k m more = more (seen_node (layout_at l f) n) (k refl) m
    by_dir n false k m more = err_ok (stop.Refused ENOTDIR) o m

    by_node : (w : Option Node) → ((n : Node) → w ≡ Some n → n.dir ≡ true → Over l Q P (next (seen_node (layout_at l f) n)))
        → (directory_seen (option_map (seen_node (layout_at l f)) w) >>= (λ s. over l (next s))) ≡ Ok o
        → ((s : Seen) → Over l Q P (next s) → over l (next s) ≡ Ok o → P o) → P o
    by_node None k m more = err_ok _ o m
    by_node (Some n) k m more = by_dir n n.dir (k n refl) m more
over_has l Q P (AskNode f next) h o e = over_has l Q P (next (seen_of l f)) h o e
over_has l Q P (AskValue f x next) h o e = over_has l Q P (next (value_of l f x)) (h.1 (value_of l f x)) o e
over_has l Q P (AskEntry d layout x next) h o e = over_has l Q P (next (named l.tree d x)) h o e
over_has l Q P (AskEmpty d layout next) h o e = over_has l Q P (next _) (h _) o e
over_has l Q P (AskNames d layout next) h o e = over_has l Q P (next _) h o e
over_has l Q P (AskWalk m from next) h o e = passed P (walk_over l m 1023 from) (over l next) o e (λ k. over_has l Q P next h o k)
over_has l Q P (Refuse x) h o e = err_ok (stop.Refused x) o e
over_has l Q P (Settle w) h o e = subst P (ok_is w o e) h

-- as a record, so that what it is of can be left out
pub record Gives (l : Laid) (Q : Fid → Type 0) (P : Outcome → Type 0) (a : Asks) : Type 0 where
  pub all : Over l Q P a

pub given : (l : Laid) (Q : Fid → Type 0) (P : Outcome → Type 0) (a : Asks) → Gives l Q P a → (o : Outcome) → over l a ≡ Ok o → P o
given l Q P a g o e = over_has l Q P a g.all o e

module _ {l : Laid} {Q : Fid → Type 0} {P : Outcome → Type 0} where
  pub to_directory : (f : Fid) (next : Seen → Asks) → ((n : Node) → get l.tree.nodes f ≡ Some n → n.dir ≡ true → Gives l Q P (next (seen_node (layout_at l f) n))) → Gives l Q P (AskDirectory f next)
  to_directory f next h = record { all = λ n e d. (h n e d).all }

  pub to_node : (f : Fid) (next : Option Seen → Asks) → Gives l Q P (next (seen_of l f)) → Gives l Q P (AskNode f next)
  to_node f next h = record { all = h.all }

  pub to_value : (f : Fid) (x : List ℕ) (next : Option (List ℕ) → Asks) → Q f → ((v : Option (List ℕ)) → Gives l Q P (next v)) → Gives l Q P (AskValue f x next)
  to_value f x next q h = record { all = (q, λ v. (h v).all) }

  pub to_entry : (d : Fid) (layout : Layout) (x : List ℕ) (next : Option Fid → Asks) → Gives l Q P (next (named l.tree d x)) → Gives l Q P (AskEntry d layout x next)
  to_entry d layout x next h = record { all = h.all }

  pub to_empty : (d : Fid) (layout : Layout) (next : Bool → Asks) → ((b : Bool) → Gives l Q P (next b)) → Gives l Q P (AskEmpty d layout next)
  to_empty d layout next h = record { all = λ b. (h b).all }

  pub to_names : (d : Fid) (layout : Layout) (next : List (List ℕ × Fid) → Asks) → Gives l Q P (next (all_names_at layout (names_of l.tree d) 0 (parts_of (laid layout)))) → Gives l Q P (AskNames d layout next)
  to_names d layout next h = record { all = h.all }

  pub to_walk : (m from : Fid) (next : Asks) → Gives l Q P next → Gives l Q P (AskWalk m from next)
  to_walk m from next h = record { all = h.all }

  pub to_refuse : (e : Errno) → Gives l Q P (Refuse e)
  to_refuse e = record { all = tt }

  pub to_settle : (o : Outcome) → P o → Gives l Q P (Settle o)
  to_settle o h = record { all = h }

  pub to_check : (f : Option Errno) (a : Asks) → (f ≡ None → Gives l Q P a) → Gives l Q P (check f a)
  to_check None a h = h refl
  to_check (Some e) a h = to_refuse e

  pub to_if : (b : Bool) (x y : Asks) → (b ≡ true → Gives l Q P x) → (b ≡ false → Gives l Q P y) → Gives l Q P (if b then x else y)
  to_if true x y h k = h refl
  to_if false x y h k = k refl

  pub to_found : (o : Option Fid) (next : Fid → Asks) → ((c : Fid) → o ≡ Some c → Gives l Q P (next c)) → Gives l Q P (found o next)
  to_found None next h = to_refuse _
  to_found (Some c) next h = h c refl

  pub to_there : (s : Option Seen) (next : Seen → Asks) → ((n : Seen) → Gives l Q P (next n)) → Gives l Q P (found_node s next)
  to_there None next h = to_refuse _
  to_there (Some n) next h = h n
