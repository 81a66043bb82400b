-- With true answers a planner comes to the first open question of the tree's, or to what the tree comes to.
use Rattle.std.proofs.Common.{◌≡◌, ℕ, zero, suc, ◌==◌, ◌&&◌, Bool, true, false, if◌then◌else◌, Option, Some, None, Result, Ok, Err, is_some, List, [], ◌∷◌, ◌++◌, refl, sym, ap, subst, ◌∙◌}
use Rattle.std.proofs.Math.Dec.{eqb-suc-zero}
use Rattle.std.specs.List.{AllByRecursion}
use Rattle.std.specs.FinMap.{get}
use Rattle.fid_space.specs.declared.fid.Fid.{Fid}
use Rattle.tree_model.specs.declared.errno.Errno.TheVariants.{EINVAL, ELOOP}
use Rattle.tree_model.specs.Tree.{Names, named, names_of, same_fid, root_fid}
use Rattle.tree_model.specs.Keys.{Laid, layout_at}
use Rattle.striped_dir.specs.declared.layout.Layout.{Layout}
use Rattle.striped_dir.specs.Layouts.{laid}
use Rattle.plan_base.specs.declared.seen.Seen.{Seen}
use Rattle.plan_base.specs.declared.outcome.Outcome.{Outcome}
use Rattle.plan_base.specs.declared.question.Question.{Question}
use Rattle.plan_base.specs.declared.question.Question.TheVariants as question
use Rattle.plan_base.specs.declared.question.Stop.{Stop}
use Rattle.plan_base.specs.declared.question.Stop.TheVariants as stop
use Rattle.plan_base.specs.Stops.{◌>>=◌, unless}
use Rattle.plan_base.specs.Told.{Told, known, node_told, count_told, names_told, entry_in, count_in, value_in, names_in}
use Rattle.plan_base.specs.Places.{parts_of}
use Rattle.plan_base.specs.Asks.{Asks, AskDirectory, AskNode, AskValue, AskEntry, AskEmpty, AskNames, AskWalk, Refuse, Settle, directory_seen, parent_seen, none_told, names_from, walk_told, then_stop, answer}
use Rattle.plan_laws.specs.Truth.{kept, seen_of, value_of, count_of, names_at, IsTrueOf, none_of, all_names_at, walk_over, over, part_questions, name_questions, walk_questions, if_ok, if_none, questions, is_known, first_open, or_outcome, IsLaid}

-- a question with a true answer, and what comes behind it
asked_first : {A : Type 0} → (t : Told) (q : Question) (o : Option A) (truth : A) (go : A → Result Outcome Stop) (qs : List Question) (out : Result Outcome Stop)
    → ((a : A) → o ≡ Some a → a ≡ truth) → go truth ≡ or_outcome (first_open t qs) out
    → (known q o >>= go) ≡ or_outcome (if is_some o then first_open t qs else Some q) out
asked_first t q None truth go qs out h e = refl
asked_first t q (Some a) truth go qs out h e = ap go (h a refl) ∙ e

again : {A B C : Type 0} → (r : Result A Stop) (f : A → Result B Stop) (g : B → Result C Stop) → ((r >>= f) >>= g) ≡ (r >>= (λ x. f x >>= g))
again (Ok x) f g = refl
again (Err e) f g = refl

-- the parts of a directory
emptied : (t : Told) (d : Fid) (layout : Layout) (names : Names) (i left : ℕ) (go : Bool → Result Outcome Stop) (qs : List Question) (out : Result Outcome Stop)
    → ((j n : ℕ) → count_in t.counts d j ≡ Some n → n ≡ count_of layout names j)
    → go (none_of layout names i left) ≡ or_outcome (first_open t qs) out
    → (none_told t d layout i left >>= go) ≡ or_outcome (first_open t (part_questions d layout i left ++ qs)) out
unfolding none_told none_of part_questions
emptied t d layout names i zero go qs out h e = e
emptied t d layout names i (suc left) go qs out h e =
    again (count_told t d layout i) (λ n. none_told t d layout (suc i) left >>= (λ rest. Ok ((n == 0) && rest))) go
    ∙ asked_first t (question.Count d layout i) (count_in t.counts d i) (count_of layout names i)
    (λ n. (none_told t d layout (suc i) left >>= (λ rest. Ok ((n == 0) && rest))) >>= go) (part_questions d layout (suc i) left ++ qs) out (h i)
    (again (none_told t d layout (suc i) left) (λ rest. Ok ((count_of layout names i == 0) && rest)) go
    ∙ emptied t d layout names (suc i) left (λ rest. go ((count_of layout names i == 0) && rest)) qs out h e)

collected : (t : Told) (d : Fid) (layout : Layout) (names : Names) (i left : ℕ) (go : List (List ℕ × Fid) → Result Outcome Stop) (qs : List Question) (out : Result Outcome Stop)
    → ((j : ℕ) (es : List (List ℕ × Fid)) → names_in t.names d j ≡ Some es → es ≡ names_at layout names j)
    → go (all_names_at layout names i left) ≡ or_outcome (first_open t qs) out
    → (names_from t d layout i left >>= go) ≡ or_outcome (first_open t (name_questions d layout i left ++ qs)) out
unfolding names_from all_names_at name_questions
collected t d layout names i zero go qs out h e = e
collected t d layout names i (suc left) go qs out h e =
    again (names_told t d layout i) (λ es. names_from t d layout (suc i) left >>= (λ more. Ok (es ++ more))) go
    ∙ asked_first t (question.Names d layout i) (names_in t.names d i) (names_at layout names i)
    (λ es. (names_from t d layout (suc i) left >>= (λ more. Ok (es ++ more))) >>= go) (name_questions d layout (suc i) left ++ qs) out (h i)
    (again (names_from t d layout (suc i) left) (λ more. Ok (names_at layout names i ++ more)) go
    ∙ collected t d layout names (suc i) left (λ more. go (names_at layout names i ++ more)) qs out h e)

pub all_behind : (P : Question → Type 0) (xs ys : List Question) → AllByRecursion P (xs ++ ys) → AllByRecursion P ys
all_behind P [] ys h = h
all_behind P (x ∷ xs) ys h = all_behind P xs ys h.1

-- the walk
walked : (l : Laid) (t : Told) → IsTrueOf l t → (m : Fid) (left : ℕ) (at : Fid) (go : Result Outcome Stop) (qs : List Question) (out : Result Outcome Stop)
    → (AllByRecursion (IsLaid l) qs → go ≡ or_outcome (first_open t qs) out)
    → AllByRecursion (IsLaid l) (walk_questions l m left at ++ if_none (walk_over l m left at) qs)
    → unless (walk_told t m left at) go
    ≡ or_outcome (first_open t (walk_questions l m left at ++ if_none (walk_over l m left at) qs)) (unless (walk_over l m left at) out)
unfolding walk_told walk_over walk_questions
walked l t h m zero at go qs out e = by_tests (same_fid at root_fid) (same_fid at m)
  where
    by_tests : (a b : Bool) → AllByRecursion (IsLaid l) (if_none (if a then None else (if b then Some (stop.Refused EINVAL) else Some (stop.Refused ELOOP))) qs)
        → unless (if a then None else (if b then Some (stop.Refused EINVAL) else Some (stop.Refused ELOOP))) go
        ≡ or_outcome (first_open t (if_none (if a then None else (if b then Some (stop.Refused EINVAL) else Some (stop.Refused ELOOP))) qs))
        (unless (if a then None else (if b then Some (stop.Refused EINVAL) else Some (stop.Refused ELOOP))) out)
    by_tests true b k = e k
    by_tests false true k = refl
    by_tests false false k = refl
walked l t h m (suc left) at go qs out e = by_tests (same_fid at root_fid) (same_fid at m) (walked l t h m left (parent_seen (seen_of l at)) go qs out e)
  where
    further : (o : Option (Option Seen)) → ((s : Option Seen) → o ≡ Some s → s ≡ seen_of l at)
        → (AllByRecursion (IsLaid l) (walk_questions l m left (parent_seen (seen_of l at)) ++ if_none (walk_over l m left (parent_seen (seen_of l at))) qs)
        → unless (walk_told t m left (parent_seen (seen_of l at))) go
        ≡ or_outcome (first_open t (walk_questions l m left (parent_seen (seen_of l at)) ++ if_none (walk_over l m left (parent_seen (seen_of l at))) qs)) (unless (walk_over l m left (parent_seen (seen_of l at))) out))
        → AllByRecursion (IsLaid l) (walk_questions l m left (parent_seen (seen_of l at)) ++ if_none (walk_over l m left (parent_seen (seen_of l at))) qs)
        → unless (then_stop (known (question.Node at) o) (λ seen. walk_told t m left (parent_seen seen))) go
        ≡ or_outcome (if is_some o then first_open t (walk_questions l m left (parent_seen (seen_of l at)) ++ if_none (walk_over l m left (parent_seen (seen_of l at))) qs) else Some (question.Node at))
        (unless (walk_over l m left (parent_seen (seen_of l at))) out)
    further None g more k = refl
    further (Some s) g more k = ap (λ x. unless (walk_told t m left (parent_seen x)) go) (g s refl) ∙ more k

    by_tests : (a b : Bool)
        → (AllByRecursion (IsLaid l) (walk_questions l m left (parent_seen (seen_of l at)) ++ if_none (walk_over l m left (parent_seen (seen_of l at))) qs)
        → unless (walk_told t m left (parent_seen (seen_of l at))) go
        ≡ or_outcome (first_open t (walk_questions l m left (parent_seen (seen_of l at)) ++ if_none (walk_over l m left (parent_seen (seen_of l at))) qs)) (unless (walk_over l m left (parent_seen (seen_of l at))) out))
        → AllByRecursion (IsLaid l) ((if a then [] else (if b then [] else question.Node at ∷ walk_questions l m left (parent_seen (seen_of l at))))
        ++ if_none (if a then None else (if b then Some (stop.Refused EINVAL) else walk_over l m left (parent_seen (seen_of l at)))) qs)
        → unless (if a then None else (if b then Some (stop.Refused EINVAL) else then_stop (node_told t at) (λ seen. walk_told t m left (parent_seen seen)))) go
        ≡ or_outcome (first_open t ((if a then [] else (if b then [] else question.Node at ∷ walk_questions l m left (parent_seen (seen_of l at))))
        ++ if_none (if a then None else (if b then Some (stop.Refused EINVAL) else walk_over l m left (parent_seen (seen_of l at)))) qs))
        (unless (if a then None else (if b then Some (stop.Refused EINVAL) else walk_over l m left (parent_seen (seen_of l at)))) out)
    by_tests true b more k = e k
    by_tests false true more k = refl
    by_tests false false more k = further (get t.nodes at) (h.nodes at) more k.1

-- the layout of the parts that are asked
pub laid_parts : (l : Laid) (d : Fid) (layout : Layout) (n : ℕ) (qs : List Question) → AllByRecursion (IsLaid l) (part_questions d layout 0 (if n == 0 then 1 else n) ++ qs) → layout ≡ kept (layout_at l d)
unfolding part_questions
laid_parts l d layout zero qs h = h.0.0
laid_parts l d layout (suc n) qs h = (subst (λ b. AllByRecursion (IsLaid l) (part_questions d layout 0 (if b then 1 else suc n) ++ qs)) (eqb-suc-zero n) h).0.0

pub laid_names : (l : Laid) (d : Fid) (layout : Layout) (n : ℕ) (qs : List Question) → AllByRecursion (IsLaid l) (name_questions d layout 0 (if n == 0 then 1 else n) ++ qs) → layout ≡ kept (layout_at l d)
unfolding name_questions
laid_names l d layout zero qs h = h.0.0
laid_names l d layout (suc n) qs h = (subst (λ b. AllByRecursion (IsLaid l) (name_questions d layout 0 (if b then 1 else suc n) ++ qs)) (eqb-suc-zero n) h).0.0

pub reaching : (l : Laid) (t : Told) → IsTrueOf l t → (a : Asks) → AllByRecursion (IsLaid l) (questions l a)
    → answer t a ≡ or_outcome (first_open t (questions l a)) (over l a)
reaching l t h (AskDirectory f next) k =
    again (node_told t f) directory_seen (λ seen. answer t (next seen))
    ∙ asked_first t (question.Node f) (get t.nodes f) (seen_of l f) (λ s. directory_seen s >>= (λ seen. answer t (next seen)))
    (if_ok (directory_seen (seen_of l f)) (λ seen. questions l (next seen))) (directory_seen (seen_of l f) >>= (λ seen. over l (next seen))) (h.nodes f)
    (behind (directory_seen (seen_of l f)) (λ s. reaching l t h (next s)) k.1)
  where
    behind : (r : Result Seen Stop)
        → ((s : Seen) → AllByRecursion (IsLaid l) (questions l (next s)) → answer t (next s) ≡ or_outcome (first_open t (questions l (next s))) (over l (next s)))
        → AllByRecursion (IsLaid l) (if_ok r (λ seen. questions l (next seen)))
        → (r >>= (λ seen. answer t (next seen))) ≡ or_outcome (first_open t (if_ok r (λ seen. questions l (next seen)))) (r >>= (λ seen. over l (next seen)))
    behind (Ok seen) more k = more seen k
    behind (Err e) more k = refl
reaching l t h (AskNode f next) k =
    asked_first t (question.Node f) (get t.nodes f) (seen_of l f) (λ s. answer t (next s)) (questions l (next (seen_of l f))) (over l (next (seen_of l f))) (h.nodes f)
    (reaching l t h (next (seen_of l f)) k.1)
reaching l t h (AskValue f x next) k =
    asked_first t (question.Value f x) (value_in t.values f x) (value_of l f x) (λ v. answer t (next v)) (questions l (next (value_of l f x))) (over l (next (value_of l f x))) (h.values f x)
    (reaching l t h (next (value_of l f x)) k.1)
reaching l t h (AskEntry d layout x next) k =
    asked_first t (question.Entry d layout x) (entry_in t.entries d x) (named l.tree d x) (λ c. answer t (next c)) (questions l (next (named l.tree d x))) (over l (next (named l.tree d x)))
    (h.entries d x) (reaching l t h (next (named l.tree d x)) k.1)
reaching l t h (AskEmpty d layout next) k =
    emptied t d layout (names_of l.tree d) 0 (parts_of (laid layout)) (λ b. answer t (next b)) (questions l (next (none_of layout (names_of l.tree d) 0 (parts_of (laid layout)))))
    (over l (next (none_of layout (names_of l.tree d) 0 (parts_of (laid layout))))) counted
    (reaching l t h (next (none_of layout (names_of l.tree d) 0 (parts_of (laid layout)))) (all_behind (IsLaid l) (part_questions d layout 0 (parts_of (laid layout))) _ k))
  where
    counted : (j n : ℕ) → count_in t.counts d j ≡ Some n → n ≡ count_of layout (names_of l.tree d) j
    counted j n e = h.counts d j n e ∙ ap (λ x. count_of x (names_of l.tree d) j) (sym (laid_parts l d layout layout.count _ k))
reaching l t h (AskNames d layout next) k =
    collected t d layout (names_of l.tree d) 0 (parts_of (laid layout)) (λ es. answer t (next es)) (questions l (next (all_names_at layout (names_of l.tree d) 0 (parts_of (laid layout)))))
    (over l (next (all_names_at layout (names_of l.tree d) 0 (parts_of (laid layout))))) listed
    (reaching l t h (next (all_names_at layout (names_of l.tree d) 0 (parts_of (laid layout)))) (all_behind (IsLaid l) (name_questions d layout 0 (parts_of (laid layout))) _ k))
  where
    listed : (j : ℕ) (es : List (List ℕ × Fid)) → names_in t.names d j ≡ Some es → es ≡ names_at layout (names_of l.tree d) j
    listed j es e = h.names d j es e ∙ ap (λ x. names_at x (names_of l.tree d) j) (sym (laid_names l d layout layout.count _ k))
reaching l t h (AskWalk m from next) k = walked l t h m 1023 from (answer t next) (questions l next) (over l next) (reaching l t h next) k
reaching l t h (Refuse e) k = refl
reaching l t h (Settle o) k = refl
