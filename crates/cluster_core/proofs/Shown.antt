-- What is shown of a cluster, in loops.
use Rattle.std.proofs.Common.{◌≡◌, ◌<◌, ◌≤◌, ℕ, zero, suc, ◌+◌, Bool, true, false, if◌then◌else◌, List, [], ◌∷◌, ◌++◌, length, drop, get_or, Option, Some, None, refl, sym, ap, ◌∙◌, append_assoc, append-nil, add-one, arith}
use Rattle.std.proofs.Math.Seq.{drop-cons}
use Rattle.std.specs.List.{flat_map}
use Rattle.tree_model.specs.Tree.{Tree}
use Rattle.object_store.specs.Objects.{ObjectMap}
use Rattle.share_tree.specs.Made.{with_all, with_objects}
use Rattle.scenario_text.specs.declared.line.Line.{Line}
use Rattle.cluster_mail.specs.Mail.{Sent}
use Rattle.target_turns.specs.Target.{Target, serves}
use Rattle.target_turns.specs.Showing.{objects_of}
use Rattle.cluster_core.specs.Looks.{message_lines, list_lines, first_resting, in_flight_from, least, holder_of, objects_in}

pub none_left : {X : Type 0} (xs : List X) (i : ℕ) → length xs ≤ i → drop i xs ≡ []
none_left [] zero h = refl
none_left [] (suc i) h = refl
none_left (x ∷ xs) zero h = absurd (omega (arith, h))
none_left (x ∷ xs) (suc i) h = none_left xs i (omega (arith, h))

-- the rest with one item before it
pub rest_at : {X : Type 0} (xs : List X) (i : ℕ) (d : X) → i < length xs → drop i xs ≡ get_or xs i d ∷ drop (i + 1) xs
rest_at {X} xs i d h = drop-cons xs i d h ∙ ap (λ (n : ℕ). get_or xs i d ∷ drop n xs) (sym (add-one i))

-- one message more is shown
pub shown_one : (sent : List Sent) (i : ℕ) (d : Sent) (out whole : List Line) → i < length sent → out ++ list_lines (i + 1) (drop i sent) ≡ whole
    → (out ++ message_lines (i + 1) (get_or sent i d)) ++ list_lines ((i + 1) + 1) (drop (i + 1) sent) ≡ whole
shown_one sent i d out whole h e =
    append_assoc out (message_lines (i + 1) (get_or sent i d)) (list_lines ((i + 1) + 1) (drop (i + 1) sent))
    ∙ ap (λ (ss : List Sent). out ++ list_lines (i + 1) ss) (sym (rest_at sent i d h))
    ∙ e

pub shown_all : (sent : List Sent) (i : ℕ) (out whole : List Line) → length sent ≤ i → out ++ list_lines (i + 1) (drop i sent) ≡ whole → out ≡ whole
shown_all sent i out whole h e =
    sym (append-nil out) ∙ ap (λ (ss : List Sent). out ++ list_lines (i + 1) ss) (sym (none_left sent i h)) ∙ e

-- the lowest target that doesn't serve is this one, or stands behind it
pub resting_here : (ts : List Target) (i : ℕ) (d : Target) → i < length ts → serves (get_or ts i d) ≡ false → first_resting i (drop i ts) ≡ Some i
resting_here ts i d h rests =
    ap (λ (xs : List Target). first_resting i xs) (rest_at ts i d h) ∙ ap (λ (up : Bool). if up then first_resting (i + 1) (drop (i + 1) ts) else Some i) rests

pub resting_next : (ts : List Target) (i : ℕ) (d : Target) → i < length ts → serves (get_or ts i d) ≡ true → first_resting i (drop i ts) ≡ first_resting (i + 1) (drop (i + 1) ts)
resting_next ts i d h stands =
    ap (λ (xs : List Target). first_resting i xs) (rest_at ts i d h) ∙ ap (λ (up : Bool). if up then first_resting (i + 1) (drop (i + 1) ts) else Some i) stands

pub resting_none : (ts : List Target) (i : ℕ) → length ts ≤ i → first_resting i (drop i ts) ≡ None
resting_none ts i h = ap (λ (xs : List Target). first_resting i xs) (none_left ts i h)

-- one target more is looked at for the lowest request in flight
pub flight_next : (found : Option ℕ) (ts : List Target) (i : ℕ) (d : Target) → i < length ts → in_flight_from found (drop i ts) ≡ in_flight_from (least found (holder_of (get_or ts i d))) (drop (i + 1) ts)
flight_next found ts i d h = ap (in_flight_from found) (rest_at ts i d h)

pub flight_done : (found : Option ℕ) (ts : List Target) (i : ℕ) → length ts ≤ i → in_flight_from found (drop i ts) ≡ found
flight_done found ts i h = ap (in_flight_from found) (none_left ts i h)

with_all_append : (t : Tree) (ms ns : List ObjectMap) → with_all t (ms ++ ns) ≡ with_all (with_all t ms) ns
with_all_append t [] ns = refl
with_all_append t (m ∷ ms) ns = with_all_append (with_objects t m) ms ns

-- the objects of one target more
pub grown_next : (t : Tree) (ts : List Target) (i : ℕ) (d : Target) → i < length ts
    → with_all t (flat_map (λ y. objects_in (objects_of y)) (drop i ts)) ≡ with_all (with_all t (objects_in (objects_of (get_or ts i d)))) (flat_map (λ y. objects_in (objects_of y)) (drop (i + 1) ts))
grown_next t ts i d h =
    ap (λ (xs : List Target). with_all t (flat_map (λ y. objects_in (objects_of y)) xs)) (rest_at ts i d h)
    ∙ with_all_append t (objects_in (objects_of (get_or ts i d))) (flat_map (λ y. objects_in (objects_of y)) (drop (i + 1) ts))

pub grown_done : (t : Tree) (ts : List Target) (i : ℕ) → length ts ≤ i → with_all t (flat_map (λ y. objects_in (objects_of y)) (drop i ts)) ≡ t
grown_done t ts i h = ap (λ (xs : List Target). with_all t (flat_map (λ y. objects_in (objects_of y)) xs)) (none_left ts i h)
