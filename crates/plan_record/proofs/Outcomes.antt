-- What is so of every outcome that checks can come to, where what is told was heard.
use Rattle.std.proofs.Common.{◌≡◌, ℕ, zero, suc, ◌==◌, ◌&&◌, Bool, true, false, if◌then◌else◌, Option, Some, None, Result, Ok, Err, List, [], ◌∷◌, ◌++◌, refl, subst}
use Rattle.std.specs.List.{AllByRecursion}
use Rattle.fid_space.specs.declared.fid.Fid.{Fid}
use Rattle.tree_model.specs.declared.errno.Errno.{Errno}
use Rattle.tree_model.specs.Fids.{same_fid, same_name}
use Rattle.striped_dir.specs.declared.layout.Layout.{Layout}
use Rattle.striped_dir.specs.Layouts.{laid}
use Rattle.object_store.specs.Meaning.{is_directory}
use Rattle.plan_base.specs.declared.seen.Seen.{Seen}
use Rattle.plan_base.specs.declared.seen.EntryFact.{EntryFact}
use Rattle.plan_base.specs.declared.seen.NamesFact.{NamesFact}
use Rattle.plan_base.specs.declared.outcome.Outcome.{Outcome}
use Rattle.plan_base.specs.declared.question.Question.TheVariants as question
use Rattle.plan_base.specs.declared.question.Stop.{Stop}
use Rattle.plan_base.specs.Places.{parts_of}
use Rattle.plan_base.specs.Stops.{◌>>=◌, unless}
use Rattle.plan_base.specs.Listed.{is_name}
use Rattle.plan_base.specs.Told.{Told, known, entry_in, names_in, node_told, entry_told, value_told, names_told}
use Rattle.plan_base.specs.Heard.{IsChild, AreNamed, IsHeard}
use Rattle.plan_base.specs.Asks.{Asks, AskDirectory, AskNode, AskValue, AskEntry, AskEmpty, AskNames, AskWalk, Refuse, Settle, answer, directory_told, empty_told, names_from, all_names_told, walk_told}
use Rattle.plan_base.specs.Planning.{check, found, found_node, as_directory}

-- entries with names
abbrev pub Named : List (List ℕ × Fid) → Type 0
Named es = AllByRecursion (λ e. is_name e.0 ≡ true) es

abbrev Every : (Outcome → Type 0) → Asks → Type 0
Every P (AskDirectory f next) = (s : Seen) → Every P (next s)
Every P (AskNode f next) = (s : Option Seen) → Every P (next s)
Every P (AskValue f x next) = (v : Option (List ℕ)) → Every P (next v)
Every P (AskEntry d layout x next) = (c : Option Fid) → IsChild c → Every P (next c)
Every P (AskEmpty d layout next) = (b : Bool) → Every P (next b)
Every P (AskNames d layout next) = (es : List (List ℕ × Fid)) → Named es → Every P (next es)
Every P (AskWalk m from next) = Every P next
Every P (Refuse e) = Unit {0}
Every P (Settle o) = P o

err_ok : {A X : Type 0} (e : Stop) (a : A) → ◌≡◌ {A = Result A Stop} (Err e) (Ok a) → X
err_ok e a h = cc

ok_is : {A : Type 0} (a b : A) → ◌≡◌ {A = Result A Stop} (Ok a) (Ok b) → a ≡ b
ok_is a b h = cc

some_is : {A : Type 0} (a b : A) → Some a ≡ Some b → a ≡ b
some_is a b h = cc

bound : {A : Type 0} (P : Outcome → Type 0) (r : Result A Stop) (g : A → Result Outcome Stop) (o : Outcome) → (r >>= g) ≡ Ok o → ((a : A) → r ≡ Ok a → g a ≡ Ok o → P o) → P o
bound P (Ok a) g o e h = h a refl e
bound P (Err x) g o e h = err_ok x o e

passed : (P : Outcome → Type 0) (s : Option Stop) (r : Result Outcome Stop) (o : Outcome) → unless s r ≡ Ok o → (r ≡ Ok o → P o) → P o
passed P None r o e h = h e
passed P (Some x) r o e h = err_ok x o e

told_in : (es : List EntryFact) (d : Fid) (x : List ℕ) (c : Option Fid) → AllByRecursion (λ e. IsChild e.child) es → entry_in es d x ≡ Some c → IsChild c
told_in [] d x c all h = absurd (cc)
told_in (e ∷ es) d x c all h = by_test (same_fid e.directory d && same_name e.name x) h (told_in es d x c all.1)
  where
    by_test : (b : Bool) → (if b then Some e.child else entry_in es d x) ≡ Some c → (entry_in es d x ≡ Some c → IsChild c) → IsChild c
    by_test true k rest = subst (λ f. IsChild f) (some_is e.child c k) all.0
    by_test false k rest = rest k

told_child : (t : Told) (d : Fid) (layout : Layout) (x : List ℕ) (c : Option Fid) → IsHeard t → entry_told t d layout x ≡ Ok c → IsChild c
told_child t d layout x c heard h = by_known (entry_in t.entries d x) refl h
  where
    by_known : (a : Option (Option Fid)) → entry_in t.entries d x ≡ a → known (question.Entry d layout x) a ≡ Ok c → IsChild c
    by_known None e k = err_ok _ c k
    by_known (Some f) e k = subst (λ f. IsChild f) (ok_is f c k) (told_in t.entries d x f heard.0 e)

names_within : (fs : List NamesFact) (d : Fid) (i : ℕ) (es : List (List ℕ × Fid)) → AllByRecursion AreNamed fs → names_in fs d i ≡ Some es → Named es
names_within [] d i es all h = absurd (cc)
names_within (f ∷ fs) d i es all h = by_test (same_fid f.directory d && (f.index == i)) h (names_within fs d i es all.1)
  where
    by_test : (b : Bool) → (if b then Some f.entries else names_in fs d i) ≡ Some es → (names_in fs d i ≡ Some es → Named es) → Named es
    by_test true k rest = subst (λ es. Named es) (some_is f.entries es k) all.0
    by_test false k rest = rest k

told_names : (t : Told) (d : Fid) (layout : Layout) (i : ℕ) (es : List (List ℕ × Fid)) → IsHeard t → names_told t d layout i ≡ Ok es → Named es
told_names t d layout i es heard h = by_known (names_in t.names d i) refl h
  where
    by_known : (a : Option (List (List ℕ × Fid))) → names_in t.names d i ≡ a → known (question.Names d layout i) a ≡ Ok es → Named es
    by_known None e k = err_ok _ es k
    by_known (Some fs) e k = subst (λ es. Named es) (ok_is fs es k) (names_within t.names d i fs heard.1 e)

both_named : (es fs : List (List ℕ × Fid)) → Named es → Named fs → Named (es ++ fs)
both_named [] fs a b = b
both_named (e ∷ es) fs a b = (a.0, both_named es fs a.1 b)

bind_is : {A B : Type 0} (P : B → Type 0) (r : Result A Stop) (g : A → Result B Stop) (b : B) → (r >>= g) ≡ Ok b → ((a : A) → r ≡ Ok a → g a ≡ Ok b → P b) → P b
bind_is P (Ok a) g b e h = h a refl e
bind_is P (Err x) g b e h = err_ok x b e

all_told_names : (t : Told) (d : Fid) (layout : Layout) (i n : ℕ) (es : List (List ℕ × Fid)) → IsHeard t → names_from t d layout i n ≡ Ok es → Named es
unfolding names_from
all_told_names t d layout i zero es heard h = subst (λ es. Named es) (ok_is [] es h) tt
all_told_names t d layout i (suc n) es heard h =
    bind_is (λ es. Named es) (names_told t d layout i) _ es h (λ first is k.
    bind_is (λ es. Named es) (names_from t d layout (suc i) n) _ es k (λ more are l.
    subst (λ es. Named es) (ok_is (first ++ more) es l) (both_named first more (told_names t d layout i first heard is) (all_told_names t d layout (suc i) n more heard are))))

pub every : (P : Outcome → Type 0) (t : Told) → IsHeard t → (a : Asks) → Every P a → (o : Outcome) → answer t a ≡ Ok o → P o
every P t heard (AskDirectory f next) h o e = bound P (directory_told t f) (λ s. answer t (next s)) o e (λ s is k. every P t heard (next s) (h s) o k)
every P t heard (AskNode f next) h o e = bound P (node_told t f) (λ s. answer t (next s)) o e (λ s is k. every P t heard (next s) (h s) o k)
every P t heard (AskValue f x next) h o e = bound P (value_told t f x) (λ v. answer t (next v)) o e (λ v is k. every P t heard (next v) (h v) o k)
every P t heard (AskEntry d layout x next) h o e =
    bound P (entry_told t d layout x) (λ c. answer t (next c)) o e (λ c is k. every P t heard (next c) (h c (told_child t d layout x c heard is)) o k)
every P t heard (AskEmpty d layout next) h o e = bound P (empty_told t d layout) (λ b. answer t (next b)) o e (λ b is k. every P t heard (next b) (h b) o k)
every P t heard (AskNames d layout next) h o e =
    bound P (all_names_told t d layout) (λ es. answer t (next es)) o e (λ es is k. every P t heard (next es) (h es (all_told_names t d layout 0 (parts_of (laid layout)) es heard is)) o k)
every P t heard (AskWalk m from next) h o e = passed P (walk_told t m 1023 from) (answer t next) o e (λ k. every P t heard next h o k)
every P t heard (Refuse x) h o e = cc
every P t heard (Settle w) h o e = subst P (ok_is w o e) h

-- ---- checks; a record, so that what it is of can be left out

pub record Each (P : Outcome → Type 0) (a : Asks) : Type 0 where
  pub all : Every P a

module _ {P : Outcome → Type 0} where
  pub each_directory : (f : Fid) (next : Seen → Asks) → ((s : Seen) → Each P (next s)) → Each P (AskDirectory f next)
  each_directory f next h = record { all = λ s. (h s).all }

  pub each_node : (f : Fid) (next : Option Seen → Asks) → ((s : Option Seen) → Each P (next s)) → Each P (AskNode f next)
  each_node f next h = record { all = λ s. (h s).all }

  pub each_value : (f : Fid) (x : List ℕ) (next : Option (List ℕ) → Asks) → ((v : Option (List ℕ)) → Each P (next v)) → Each P (AskValue f x next)
  each_value f x next h = record { all = λ v. (h v).all }

  pub each_entry : (d : Fid) (layout : Layout) (x : List ℕ) (next : Option Fid → Asks) → ((c : Option Fid) → IsChild c → Each P (next c)) → Each P (AskEntry d layout x next)
  each_entry d layout x next h = record { all = λ c is. (h c is).all }

  pub each_empty : (d : Fid) (layout : Layout) (next : Bool → Asks) → ((b : Bool) → Each P (next b)) → Each P (AskEmpty d layout next)
  each_empty d layout next h = record { all = λ b. (h b).all }

  pub each_names : (d : Fid) (layout : Layout) (next : List (List ℕ × Fid) → Asks) → ((es : List (List ℕ × Fid)) → Named es → Each P (next es)) → Each P (AskNames d layout next)
  each_names d layout next h = record { all = λ es is. (h es is).all }

  pub each_settle : (o : Outcome) → P o → Each P (Settle o)
  each_settle o h = record { all = h }

  pub each_check : (f : Option Errno) (a : Asks) → (f ≡ None → Each P a) → Each P (check f a)
  each_check None a h = h refl
  each_check (Some e) a h = record { all = tt }

  pub each_found : (c : Option Fid) (next : Fid → Asks) → IsChild c → ((f : Fid) → IsChild (Some f) → Each P (next f)) → Each P (found c next)
  each_found None next is h = record { all = tt }
  each_found (Some f) next is h = h f is

  pub each_there : (s : Option Seen) (next : Seen → Asks) → ((n : Seen) → Each P (next n)) → Each P (found_node s next)
  each_there None next h = record { all = tt }
  each_there (Some n) next h = h n

  pub each_if : (b : Bool) (x y : Asks) → Each P x → Each P y → Each P (if b then x else y)
  each_if true x y h k = h
  each_if false x y h k = k

  pub each_as : (s : Option Seen) (next : Seen → Asks) → ((n : Seen) → Each P (next n)) → Each P (as_directory s next)
  each_as None next h = record { all = tt }
  each_as (Some n) next h = each_if (is_directory n.body.kind) (next n) _ (h n) (record { all = tt })
