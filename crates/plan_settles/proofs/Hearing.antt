-- With true answers to all of them, the questions that a planner went through are those of the tree.
use Rattle.std.proofs.Common.{◌≡◌, ℕ, zero, suc, ◌==◌, ◌&&◌, Bool, true, false, if◌then◌else◌, Option, Some, None, Result, Ok, Err, is_some, List, [], ◌∷◌, ◌++◌, refl, sym, ap, ◌∙◌}
use Rattle.std.proofs.lemmas.List.{append_assoc}
use Rattle.std.specs.List.{AllByRecursion, flat_map}
use Rattle.std.specs.FinMap.{get}
use Rattle.fid_space.specs.declared.fid.Fid.{Fid}
use Rattle.fid_space.specs.Places.{is_stripe}
use Rattle.tree_model.specs.Tree.{Names, named, names_of, same_fid, root_fid}
use Rattle.tree_model.specs.Keys.{Laid, layout_at}
use Rattle.tree_model.specs.declared.errno.Errno.TheVariants.{EINVAL}
use Rattle.striped_dir.specs.declared.layout.Layout.{Layout}
use Rattle.striped_dir.specs.Layouts.{laid}
use Rattle.plan_base.specs.declared.seen.Seen.{Seen}
use Rattle.plan_base.specs.declared.question.Question.{Question}
use Rattle.plan_base.specs.declared.question.Question.TheVariants as question
use Rattle.plan_base.specs.declared.question.Stop.{Stop}
use Rattle.plan_base.specs.declared.question.Stop.TheVariants as stop
use Rattle.plan_base.specs.Stops.{◌>>=◌}
use Rattle.plan_base.specs.Told.{Told, known, node_told, entry_in, count_in, value_in, names_in}
use Rattle.plan_base.specs.Places.{parts_of}
use Rattle.plan_base.specs.Asks.{Asks, AskDirectory, AskNode, AskValue, AskEntry, AskEmpty, AskNames, AskWalk, Refuse, Settle, directory_seen, parent_seen, none_told, names_from, walk_told, then_stop}
use Rattle.plan_laws.specs.Truth.{seen_of, value_of, count_of, names_at, IsTrueOf, none_of, all_names_at, walk_over, part_questions, name_questions, walk_questions, if_ok, if_none, questions, keys_asked, is_known, first_open, IsLaid}
use Rattle.plan_laws.proofs.Reaching.{laid_parts, laid_names, all_behind}
use Rattle.op_laws.specs.Objects.{part_named, stands}
use Rattle.op_laws.specs.Objects.{parts_of as objects_of}
use Rattle.plan_settles.specs.Settling.{heard, walk_heard, objects_with}

-- ---- no question is open

first_known : (t : Told) (q : Question) (qs : List Question) → first_open t (q ∷ qs) ≡ None → (is_known t q ≡ true) × (first_open t qs ≡ None)
first_known t q qs h = by_test (is_known t q) h
  where
    by_test : (b : Bool) → (if b then first_open t qs else Some q) ≡ None → (b ≡ true) × (first_open t qs ≡ None)
    by_test true k = (refl, k)
    by_test false k = cc

pub none_open : (t : Told) (xs ys : List Question) → first_open t (xs ++ ys) ≡ None → (first_open t xs ≡ None) × (first_open t ys ≡ None)
none_open t [] ys h = (refl, h)
none_open t (x ∷ xs) ys h =
    let a = first_known t x (xs ++ ys) h in
    let b = none_open t xs ys a.1 in
    (ap (λ k. if k then first_open t xs else Some x) a.0 ∙ b.0, b.1)

pub all_known : (t : Told) (qs : List Question) → first_open t qs ≡ None → AllByRecursion (λ q. is_known t q ≡ true) qs
all_known t [] h = tt
all_known t (q ∷ qs) h = let a = first_known t q qs h in (a.0, all_known t qs a.1)

known_ok : {A : Type 0} (q : Question) (o : Option A) (truth : A) → is_some o ≡ true → ((a : A) → o ≡ Some a → a ≡ truth) → known q o ≡ Ok truth
known_ok q None truth h e = cc
known_ok q (Some a) truth h e = ap Ok (e a refl)

-- ---- the parts of a directory

parts_told : (t : Told) (d : Fid) (layout : Layout) (names : Names) (i left : ℕ) → ((j n : ℕ) → count_in t.counts d j ≡ Some n → n ≡ count_of layout names j)
    → first_open t (part_questions d layout i left) ≡ None → none_told t d layout i left ≡ Ok (none_of layout names i left)
unfolding none_told none_of part_questions
parts_told t d layout names i zero h k = refl
parts_told t d layout names i (suc left) h k =
    let a = first_known t (question.Count d layout i) (part_questions d layout (suc i) left) k in
    ap (λ r. r >>= (λ n. none_told t d layout (suc i) left >>= (λ rest. Ok ((n == 0) && rest)))) (known_ok (question.Count d layout i) (count_in t.counts d i) (count_of layout names i) a.0 (h i))
    ∙ ap (λ r. r >>= (λ rest. Ok ((count_of layout names i == 0) && rest))) (parts_told t d layout names (suc i) left h a.1)

names_listed : (t : Told) (d : Fid) (layout : Layout) (names : Names) (i left : ℕ) → ((j : ℕ) (es : List (List ℕ × Fid)) → names_in t.names d j ≡ Some es → es ≡ names_at layout names j)
    → first_open t (name_questions d layout i left) ≡ None → names_from t d layout i left ≡ Ok (all_names_at layout names i left)
unfolding names_from all_names_at name_questions
names_listed t d layout names i zero h k = refl
names_listed t d layout names i (suc left) h k =
    let a = first_known t (question.Names d layout i) (name_questions d layout (suc i) left) k in
    ap (λ r. r >>= (λ es. names_from t d layout (suc i) left >>= (λ more. Ok (es ++ more)))) (known_ok (question.Names d layout i) (names_in t.names d i) (names_at layout names i) a.0 (h i))
    ∙ ap (λ r. r >>= (λ more. Ok (names_at layout names i ++ more))) (names_listed t d layout names (suc i) left h a.1)

-- ---- the walk

module _ (l : Laid) (t : Told) (h : IsTrueOf l t) (m : Fid) where
  IsHeard : ℕ → Fid → Type 0
  IsHeard left at = (walk_heard t m left at ≡ walk_questions l m left at) × (walk_told t m left at ≡ walk_over l m left at)

  walk_is : (left : ℕ) (at : Fid) → first_open t (walk_questions l m left at) ≡ None → IsHeard left at
  unfolding walk_heard walk_questions walk_told walk_over IsHeard
  walk_is zero at k = (refl, refl)
  walk_is (suc left) at k = by_tests (same_fid at root_fid) (same_fid at m) k (walk_is left (parent_seen (seen_of l at)))
    where
      up : Fid
      up = parent_seen (seen_of l at)

      by_tests : (a b : Bool) → first_open t (if a then [] else (if b then [] else question.Node at ∷ walk_questions l m left (parent_seen (seen_of l at)))) ≡ None
          → (first_open t (walk_questions l m left (parent_seen (seen_of l at))) ≡ None → IsHeard left (parent_seen (seen_of l at)))
          → ((if a then [] else (if b then [] else question.Node at ∷ if_ok (node_told t at) (λ seen. walk_heard t m left (parent_seen seen))))
          ≡ (if a then [] else (if b then [] else question.Node at ∷ walk_questions l m left (parent_seen (seen_of l at)))))
          × ((if a then None else (if b then Some (stop.Refused EINVAL) else then_stop (node_told t at) (λ seen. walk_told t m left (parent_seen seen))))
          ≡ (if a then None else (if b then Some (stop.Refused EINVAL) else walk_over l m left (parent_seen (seen_of l at)))))
      by_tests true b k more = (refl, refl)
      by_tests false true k more = (refl, refl)
      by_tests false false k more =
          let a = first_known t (question.Node at) (walk_questions l m left (parent_seen (seen_of l at))) k in
          let told : node_told t at ≡ Ok (seen_of l at) = known_ok (question.Node at) (get t.nodes at) (seen_of l at) a.0 (h.nodes at) in
          let rest = more a.1 in (
            ap (λ (r : Result (Option Seen) Stop). question.Node at ∷ if_ok r (λ seen. walk_heard t m left (parent_seen seen))) told ∙ ap (λ qs. question.Node at ∷ qs) rest.0,
            ap (λ (r : Result (Option Seen) Stop). then_stop r (λ seen. walk_told t m left (parent_seen seen))) told ∙ rest.1,
          )

is_heard : (l : Laid) (t : Told) → IsTrueOf l t → (m : Fid) (left : ℕ) (at : Fid) → first_open t (walk_questions l m left at) ≡ None
    → (walk_heard t m left at ≡ walk_questions l m left at) × (walk_told t m left at ≡ walk_over l m left at)
unfolding IsHeard
is_heard l t h m left at k = walk_is l t h m left at k

-- ---- all checks

pub heard_is : (l : Laid) (t : Told) → IsTrueOf l t → (a : Asks) → AllByRecursion (IsLaid l) (questions l a) → first_open t (questions l a) ≡ None → heard t a ≡ questions l a
heard_is l t h (AskDirectory f next) k all =
    let a = first_known t (question.Node f) (if_ok (directory_seen (seen_of l f)) (λ s. questions l (next s))) all in
    ap (λ (r : Result (Option Seen) Stop). question.Node f ∷ if_ok (r >>= directory_seen) (λ s. heard t (next s))) (known_ok (question.Node f) (get t.nodes f) (seen_of l f) a.0 (h.nodes f))
    ∙ ap (λ qs. question.Node f ∷ qs) (behind (directory_seen (seen_of l f)) (λ s. heard_is l t h (next s)) k.1 a.1)
  where
    behind : (r : Result Seen Stop) → ((s : Seen) → AllByRecursion (IsLaid l) (questions l (next s)) → first_open t (questions l (next s)) ≡ None → heard t (next s) ≡ questions l (next s))
        → AllByRecursion (IsLaid l) (if_ok r (λ s. questions l (next s))) → first_open t (if_ok r (λ s. questions l (next s))) ≡ None
        → if_ok r (λ s. heard t (next s)) ≡ if_ok r (λ s. questions l (next s))
    behind (Ok s) more k o = more s k o
    behind (Err e) more k o = refl
heard_is l t h (AskNode f next) k all =
    let a = first_known t (question.Node f) (questions l (next (seen_of l f))) all in
    ap (λ (r : Result (Option Seen) Stop). question.Node f ∷ if_ok r (λ s. heard t (next s))) (known_ok (question.Node f) (get t.nodes f) (seen_of l f) a.0 (h.nodes f))
    ∙ ap (λ qs. question.Node f ∷ qs) (heard_is l t h (next (seen_of l f)) k.1 a.1)
heard_is l t h (AskValue f x next) k all =
    let a = first_known t (question.Value f x) (questions l (next (value_of l f x))) all in
    ap (λ (r : Result (Option (List ℕ)) Stop). question.Value f x ∷ if_ok r (λ v. heard t (next v))) (known_ok (question.Value f x) (value_in t.values f x) (value_of l f x) a.0 (h.values f x))
    ∙ ap (λ qs. question.Value f x ∷ qs) (heard_is l t h (next (value_of l f x)) k.1 a.1)
heard_is l t h (AskEntry d layout x next) k all =
    let a = first_known t (question.Entry d layout x) (questions l (next (named l.tree d x))) all in
    ap (λ (r : Result (Option Fid) Stop). question.Entry d layout x ∷ if_ok r (λ c. heard t (next c))) (known_ok (question.Entry d layout x) (entry_in t.entries d x) (named l.tree d x) a.0 (h.entries d x))
    ∙ ap (λ qs. question.Entry d layout x ∷ qs) (heard_is l t h (next (named l.tree d x)) k.1 a.1)
heard_is l t h (AskEmpty d layout next) k all =
    let n = parts_of (laid layout) in
    let truth = none_of layout (names_of l.tree d) 0 n in
    let a = none_open t (part_questions d layout 0 n) (questions l (next truth)) all in
    ap (λ (r : Result Bool Stop). part_questions d layout 0 n ++ if_ok r (λ b. heard t (next b))) (parts_told t d layout (names_of l.tree d) 0 n counted a.0)
    ∙ ap (λ qs. part_questions d layout 0 n ++ qs) (heard_is l t h (next truth) (all_behind (IsLaid l) (part_questions d layout 0 n) _ k) a.1)
  where
    counted : (j n : ℕ) → count_in t.counts d j ≡ Some n → n ≡ count_of layout (names_of l.tree d) j
    counted j n e = h.counts d j n e ∙ ap (λ x. count_of x (names_of l.tree d) j) (sym (laid_parts l d layout layout.count _ k))
heard_is l t h (AskNames d layout next) k all =
    let n = parts_of (laid layout) in
    let truth = all_names_at layout (names_of l.tree d) 0 n in
    let a = none_open t (name_questions d layout 0 n) (questions l (next truth)) all in
    ap (λ (r : Result (List (List ℕ × Fid)) Stop). name_questions d layout 0 n ++ if_ok r (λ es. heard t (next es))) (names_listed t d layout (names_of l.tree d) 0 n listed a.0)
    ∙ ap (λ qs. name_questions d layout 0 n ++ qs) (heard_is l t h (next truth) (all_behind (IsLaid l) (name_questions d layout 0 n) _ k) a.1)
  where
    listed : (j : ℕ) (es : List (List ℕ × Fid)) → names_in t.names d j ≡ Some es → es ≡ names_at layout (names_of l.tree d) j
    listed j es e = h.names d j es e ∙ ap (λ x. names_at x (names_of l.tree d) j) (sym (laid_names l d layout layout.count _ k))
heard_is l t h (AskWalk m from next) k all =
    let a = none_open t (walk_questions l m 1023 from) (if_none (walk_over l m 1023 from) (questions l next)) all in
    let w = walked a.0 in
    ap (λ o. walk_heard t m 1023 from ++ if_none o (heard t next)) w.1
    ∙ ap (λ qs. qs ++ if_none (walk_over l m 1023 from) (heard t next)) w.0
    ∙ ap (λ qs. walk_questions l m 1023 from ++ qs) (behind (walk_over l m 1023 from) (heard_is l t h next) (all_behind (IsLaid l) (walk_questions l m 1023 from) _ k) a.1)
  where
    walked : first_open t (walk_questions l m 1023 from) ≡ None → (walk_heard t m 1023 from ≡ walk_questions l m 1023 from) × (walk_told t m 1023 from ≡ walk_over l m 1023 from)
    walked o = is_heard l t h m 1023 from o

    behind : (o : Option Stop) → (AllByRecursion (IsLaid l) (questions l next) → first_open t (questions l next) ≡ None → heard t next ≡ questions l next)
        → AllByRecursion (IsLaid l) (if_none o (questions l next)) → first_open t (if_none o (questions l next)) ≡ None → if_none o (heard t next) ≡ if_none o (questions l next)
    behind None more k o = more k o
    behind (Some e) more k o = refl
heard_is l t h (Refuse e) k all = refl
heard_is l t h (Settle o) k all = refl

-- ---- the objects with the questions are those of the keys

flat_append : {A B : Type 0} (f : A → List B) (xs ys : List A) → flat_map f (xs ++ ys) ≡ (flat_map f xs ++ flat_map f ys)
flat_append f [] ys = refl
flat_append f (x ∷ xs) ys = ap (λ zs. f x ++ zs) (flat_append f xs ys) ∙ sym (append_assoc (f x) (flat_map f xs) (flat_map f ys))

pub objects_are : (targets : ℕ) (l : Laid) (qs : List Question) → AllByRecursion (IsLaid l) qs → flat_map (objects_with targets) qs ≡ flat_map (stands targets l) (keys_asked qs)
objects_are targets l [] h = refl
objects_are targets l (question.Node f ∷ qs) h = ap (λ xs. (if is_stripe targets f then [] else f ∷ []) ++ xs) (objects_are targets l qs h.1)
objects_are targets l (question.Entry d layout x ∷ qs) h =
    ap (λ (k : Layout). part_named targets d (laid k) x ∷ flat_map (objects_with targets) qs) h.0.0 ∙ ap (λ xs. part_named targets d (layout_at l d) x ∷ xs) (objects_are targets l qs h.1)
objects_are targets l (question.Count d layout zero ∷ qs) h =
    ap (λ (k : Layout). objects_of targets d (laid k) ++ flat_map (objects_with targets) qs) h.0.0 ∙ ap (λ xs. objects_of targets d (layout_at l d) ++ xs) (objects_are targets l qs h.1)
objects_are targets l (question.Count d layout (suc i) ∷ qs) h = objects_are targets l qs h.1
objects_are targets l (question.Value f x ∷ qs) h = objects_are targets l qs h.1
objects_are targets l (question.Names d layout zero ∷ qs) h =
    ap (λ (k : Layout). objects_of targets d (laid k) ++ flat_map (objects_with targets) qs) h.0.0 ∙ ap (λ xs. objects_of targets d (layout_at l d) ++ xs) (objects_are targets l qs h.1)
objects_are targets l (question.Names d layout (suc i) ∷ qs) h = objects_are targets l qs h.1
