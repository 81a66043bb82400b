-- The same of a rename.
use Rattle.std.proofs.Common.{◌≡◌, ◌<◌, ℕ, zero, suc, ◌+◌, ◌%◌, ◌==◌, ◌&&◌, Bool, true, false, if◌then◌else◌, Option, Some, None, Result, Ok, Err, is_some, List, [], ◌∷◌, ◌++◌, length, filter, refl, sym, ap, subst, ◌∙◌, arith, nat_le, not}
use Rattle.std.specs.List.{AllByRecursion, flat_map}
use Rattle.std.specs.Option.{option_map}
use Rattle.std.specs.FinMap.{get, insert, len}
use Rattle.fid_space.specs.declared.fid.Fid.{Fid}
use Rattle.tree_model.specs.declared.node.Node.{Node}
use Rattle.tree_model.specs.declared.op.Op.{Op}
use Rattle.tree_model.specs.declared.op.Op.TheVariants as ops
use Rattle.tree_model.specs.declared.reply.Reply.{Reply}
use Rattle.tree_model.specs.declared.reply.Reply.TheVariants as replies
use Rattle.tree_model.specs.declared.errno.Errno.{Errno}
use Rattle.tree_model.specs.declared.errno.Errno.TheVariants.{ENOENT, ENOTDIR, ENOTEMPTY, ENOSPC, EINVAL, ELOOP}
use Rattle.tree_model.specs.Tree.{Names, named, names_of, same_fid, root_fid}
use Rattle.tree_model.specs.Step.{parent_fault, client_fault, layout_fault, taken_fault, absent_fault, fid_reply, setxattr_fault, released, changed_node, parent_of, is_dir, kind_fault, same_place}
use Rattle.tree_model.specs.Step.{directory_fault, empty_fault as names_fault}
use Rattle.tree_model.specs.Changes.{Change, DropName}
use Rattle.tree_model.specs.Keys.{Key, NodeKey, NameKey, AllKey, Laid, layout_at}
use Rattle.tree_model.specs.Looks.{Plan, AskName, AskAll, Decide, decided, asked, plan, walk, whole_walk, rename_to, replace_plan, move_plan}
use Rattle.tree_model.specs.Looks.{AskNode as PlanNode, check as plan_check, found as plan_found, on_directory as plan_directory}
use Rattle.striped_dir.specs.declared.layout.Layout.{Layout}
use Rattle.striped_dir.specs.Layouts.{laid}
use Rattle.striped_dir.specs.Parts.{part_of_name}
use Rattle.object_store.specs.Meaning.{is_directory}
use Rattle.plan_base.specs.declared.seen.Seen.{Seen}
use Rattle.plan_base.specs.declared.outcome.Outcome.{Outcome}
use Rattle.plan_base.specs.declared.question.Question.{Question}
use Rattle.plan_base.specs.declared.question.Question.TheVariants as question
use Rattle.plan_base.specs.declared.question.Stop.{Stop}
use Rattle.plan_base.specs.declared.question.Stop.TheVariants as stop
use Rattle.plan_base.specs.Stops.{◌>>=◌, unless}
use Rattle.plan_base.specs.Places.{parts_of}
use Rattle.plan_base.specs.Asks.{Asks, AskDirectory, AskNode, AskValue, AskEntry, AskEmpty, AskWalk, Refuse, Settle, directory_seen, parent_seen}
use Rattle.plan_base.specs.Places.{node_place, stripes_gone}
use Rattle.plan_base.specs.Updates.{on_target, xattr_set_update}
use Rattle.plan_base.specs.Planning.{check, found, found_node, as_directory, empty_fault, space_fault, settled, deleted, new_asks, asks, Move, is_dir_seen, layout_seen, moved_with, replace_asks, place_asks, move_asks}
use Rattle.plan_base.specs.Planning.{released as released_seen}
use Rattle.plan_laws.proofs.Counting.{no_names}
use Rattle.plan_laws.proofs.Deciding.{same_check, same_directory, same_entry, same_node, same_settle, same_empty, no_entry_left}
use Rattle.striped_dir.specs.Parts.{destroy_of}
use Rattle.plan_laws.specs.Truth.{kept, kind_of_node, seen_node, seen_of, value_at, value_of, none_of, over, walk_over, walk_questions, if_none, if_ok, questions, keys_of_question, keys_asked, IsLaid, Same, Matches}

-- ---- rename

parent_alike : (o : Option Node) (l : Laid) (f : Fid) → parent_seen (option_map (seen_node (layout_at l f)) o) ≡ parent_of o
parent_alike None l f = refl
parent_alike (Some n) l f = refl

-- a walk over the tree, and what comes behind it
abbrev Steps : Laid → Fid → Asks → Plan → ℕ → Fid → Fid → Type 0
Steps l m next p left at f =
    Same l (unless (walk_over l m left at) (over l next)) (walk_questions l m left at ++ if_none (walk_over l m left at) (questions l next))
    (decided (walk left m f p) l.tree) (asked (walk left m f p) l.tree)

same_steps : (l : Laid) (m : Fid) (next : Asks) (p : Plan) → Matches l next p → (left : ℕ) (at : Fid) → Steps l m next p left at at
unfolding walk_over walk_questions
same_steps l m next p h zero at = by_tests (same_fid at root_fid) (same_fid at m)
  where
    by_tests : (a b : Bool) → Same l (unless (if a then None else (if b then Some (stop.Refused EINVAL) else Some (stop.Refused ELOOP))) (over l next))
        (if_none (if a then None else (if b then Some (stop.Refused EINVAL) else Some (stop.Refused ELOOP))) (questions l next))
        (decided (if a then p else (if b then Decide (replies.Err EINVAL) [] else Decide (replies.Err ELOOP) [])) l.tree)
        (asked (if a then p else (if b then Decide (replies.Err EINVAL) [] else Decide (replies.Err ELOOP) [])) l.tree)
    by_tests true b = h.same
    by_tests false true = (refl, refl, tt)
    by_tests false false = (refl, refl, tt)
same_steps l m next p h (suc left) at =
    by_tests (same_fid at root_fid) (same_fid at m)
    (subst (λ f. Steps l m next p left (parent_seen (seen_of l at)) f) (parent_alike (get l.tree.nodes at) l at) (same_steps l m next p h left (parent_seen (seen_of l at))))
  where
    by_tests : (a b : Bool) → Steps l m next p left (parent_seen (seen_of l at)) (parent_of (get l.tree.nodes at))
        → Same l (unless (if a then None else (if b then Some (stop.Refused EINVAL) else walk_over l m left (parent_seen (seen_of l at)))) (over l next))
        ((if a then [] else (if b then [] else question.Node at ∷ walk_questions l m left (parent_seen (seen_of l at))))
        ++ if_none (if a then None else (if b then Some (stop.Refused EINVAL) else walk_over l m left (parent_seen (seen_of l at)))) (questions l next))
        (decided (if a then p else (if b then Decide (replies.Err EINVAL) [] else PlanNode at (λ node. walk left m (parent_of node) p))) l.tree)
        (asked (if a then p else (if b then Decide (replies.Err EINVAL) [] else PlanNode at (λ node. walk left m (parent_of node) p))) l.tree)
    by_tests true b k = h.same
    by_tests false true k = (refl, refl, tt)
    by_tests false false k = (k.0, ap (λ ks. NodeKey at ∷ ks) k.1, (tt, k.2))

same_walk : (l : Laid) (m from : Fid) (next : Asks) (p : Plan) → Matches l next p → Matches l (AskWalk m from next) (whole_walk m from p)
unfolding whole_walk
same_walk l m from next p h = record { same = same_steps l m next p h 1023 from }

is_dir_told : (l : Laid) (f : Fid) (o : Option Node) → is_dir_seen (option_map (seen_node (layout_at l f)) o) ≡ is_dir o
is_dir_told l f None = refl
is_dir_told l f (Some n) = by_dir n.dir
  where
    by_dir : (b : Bool) → is_directory (kind_of_node b) ≡ b
    by_dir true = refl
    by_dir false = refl

-- what comes where another node is replaced
by_kinds : (l : Laid) (old : Fid) (layout : Layout) (o : Outcome) (cs : List Change) → o.reply ≡ replies.Ok → (a a' b b' : Bool) → a ≡ a' → b ≡ b' → (b ≡ true → (layout ≡ kept (layout_at l old)) × (is_dir (get l.tree.nodes old) ≡ true))
    → Matches l (check (kind_fault a b) (if b then AskEmpty old layout (λ e. check (empty_fault e) (Settle o)) else Settle o))
    (plan_check (kind_fault a' b') (if b' then AskAll old (λ names. plan_check (names_fault names) (Decide replies.Ok cs)) else Decide replies.Ok cs))
by_kinds l old layout o cs r true true true true p q e =
    same_empty l old layout _ _ (e refl) (no_entry_left l _ (names_of l.tree old) _ _ (no_names layout (names_of l.tree old)) (same_settle l o replies.Ok cs r))
by_kinds l old layout o cs r false false true true p q e = record { same = (refl, refl, tt) }
by_kinds l old layout o cs r true true false false p q e = record { same = (refl, refl, tt) }
by_kinds l old layout o cs r false false false false p q e = same_settle l o replies.Ok cs r
by_kinds l old layout o cs r true false b b' p q e = cc
by_kinds l old layout o cs r false true b b' p q e = cc
by_kinds l old layout o cs r a a' true false p q e = cc
by_kinds l old layout o cs r a a' false true p q e = cc

place_matches : (l : Laid) (m : Move) (node : Option Node) → is_dir_seen m.node ≡ is_dir node → (m.to.body.layout ≡ kept (layout_at l m.to_parent)) × (is_dir (get l.tree.nodes m.to_parent) ≡ true)
    → Matches l (place_asks m) (AskName m.to_parent m.to_name (replace_plan m.parent m.name m.to_parent m.to_name m.moved node))
unfolding moved_with
place_matches l m node d e = same_entry l m.to_parent m.to.body.layout m.to_name _ _ e (by_old (named l.tree m.to_parent m.to_name))
  where
    by_other : (old : Fid) (o : Option Node) → get l.tree.nodes old ≡ o
        → Matches l (check (kind_fault (is_dir_seen m.node) (is_dir_seen (option_map (seen_node (layout_at l old)) o)))
        (if is_dir_seen (option_map (seen_node (layout_at l old)) o)
        then AskEmpty old (layout_seen (option_map (seen_node (layout_at l old)) o)) (λ is_empty. check (empty_fault is_empty) (Settle (moved_with m (released_seen m.targets m.batch old (option_map (seen_node (layout_at l old)) o)))))
        else Settle (moved_with m (released_seen m.targets m.batch old (option_map (seen_node (layout_at l old)) o)))))
        (plan_check (kind_fault (is_dir node) (is_dir o))
        (if is_dir o then AskAll old (λ names. plan_check (names_fault names) (rename_to m.parent m.name m.to_parent m.to_name m.moved node (released old o)))
        else rename_to m.parent m.name m.to_parent m.to_name m.moved node (released old o)))
    by_other old None g = by_kinds l old (layout_seen None) _ _ refl (is_dir_seen m.node) (is_dir node) false false d refl (λ (h : false ≡ true). cc)
    by_other old (Some n) g = by_kinds l old (kept (layout_at l old)) _ _ refl (is_dir_seen m.node) (is_dir node) (is_directory (kind_of_node n.dir)) n.dir d (is_dir_told l old (Some n)) (λ h. (refl, ap is_dir g ∙ (sym (is_dir_told l old (Some n)) ∙ h)))

    by_same : (old : Fid) (b : Bool)
        → Matches l (if b then Settle (settled replies.Ok []) else AskNode old (λ other. check (kind_fault (is_dir_seen m.node) (is_dir_seen other))
        (if is_dir_seen other then AskEmpty old (layout_seen other) (λ is_empty. check (empty_fault is_empty) (Settle (moved_with m (released_seen m.targets m.batch old other))))
        else Settle (moved_with m (released_seen m.targets m.batch old other)))))
        (if b then Decide replies.Ok [] else PlanNode old (λ other. plan_check (kind_fault (is_dir node) (is_dir other))
        (if is_dir other then AskAll old (λ names. plan_check (names_fault names) (rename_to m.parent m.name m.to_parent m.to_name m.moved node (released old other)))
        else rename_to m.parent m.name m.to_parent m.to_name m.moved node (released old other))))
    by_same old true = record { same = (refl, refl, tt) }
    by_same old false = same_node l old _ _ (by_other old (get l.tree.nodes old) refl)

    by_old : (o : Option Fid) → Matches l (replace_asks m o) (replace_plan m.parent m.name m.to_parent m.to_name m.moved node o)
    by_old None = same_settle l (moved_with m []) replies.Ok _ refl
    by_old (Some old) = by_same old (same_fid m.moved old)

move_matches : (l : Laid) (m : Move) (node : Option Node) → is_dir_seen m.node ≡ is_dir node → (m.to.body.layout ≡ kept (layout_at l m.to_parent)) × (is_dir (get l.tree.nodes m.to_parent) ≡ true)
    → Matches l (move_asks m) (move_plan m.parent m.name m.to_parent m.to_name m.moved node)
move_matches l m node d e = by_test (is_dir_seen m.node && not (same_fid m.parent m.to_parent)) (is_dir node && not (same_fid m.parent m.to_parent)) (ap (λ b. b && not (same_fid m.parent m.to_parent)) d)
  where
    by_test : (a b : Bool) → a ≡ b → Matches l (if a then AskWalk m.moved m.to_parent (place_asks m) else place_asks m)
        (if b then whole_walk m.moved m.to_parent (AskName m.to_parent m.to_name (replace_plan m.parent m.name m.to_parent m.to_name m.moved node))
        else AskName m.to_parent m.to_name (replace_plan m.parent m.name m.to_parent m.to_name m.moved node))
    by_test true true h = same_walk l m.moved m.to_parent _ _ (place_matches l m node d e)
    by_test false false h = place_matches l m node d e
    by_test true false h = cc
    by_test false true h = cc

pub rename_matches : (targets batch : ℕ) (l : Laid) (p : Fid) (x : List ℕ) (q : Fid) (y : List ℕ) → Matches l (asks targets batch (ops.Rename p x q y)) (plan targets (ops.Rename p x q y))
rename_matches targets batch l p x q y = same_directory l p _ _ (λ n g d. same_entry l p (kept (layout_at l p)) x _ _ (refl, ap is_dir g ∙ d) (by_name (seen_node (layout_at l p) n) (named l.tree p x)))
  where
    by_place : (from to : Seen) (moved : Fid) (b : Bool) → (to.body.layout ≡ kept (layout_at l q)) × (is_dir (get l.tree.nodes q) ≡ true)
        → Matches l (if b then Settle (settled replies.Ok []) else AskNode moved (λ node. move_asks (record {
          targets = targets;
          batch = batch;
          parent = p;
          from = from;
          name = x;
          to_parent = q;
          to = to;
          to_name = y;
          moved = moved;
          node = node;
        })))
        (if b then Decide replies.Ok [] else PlanNode moved (move_plan p x q y moved))
    by_place from to moved true e = record { same = (refl, refl, tt) }
    by_place from to moved false e = same_node l moved _ _ (move_matches l (record {
      targets = targets;
      batch = batch;
      parent = p;
      from = from;
      name = x;
      to_parent = q;
      to = to;
      to_name = y;
      moved = moved;
      node = seen_of l moved;
    }) (get l.tree.nodes moved) (is_dir_told l moved (get l.tree.nodes moved)) e)

    by_name : (from : Seen) (o : Option Fid)
        → Matches l (found o (λ moved. AskDirectory q (λ to. if same_place p x q y then Settle (settled replies.Ok []) else AskNode moved (λ node. move_asks (record {
          targets = targets;
          batch = batch;
          parent = p;
          from = from;
          name = x;
          to_parent = q;
          to = to;
          to_name = y;
          moved = moved;
          node = node;
        })))))
        (plan_found o (λ moved. plan_directory q (if same_place p x q y then Decide replies.Ok [] else PlanNode moved (move_plan p x q y moved))))
    by_name from None = record { same = (refl, refl, tt) }
    by_name from (Some moved) = same_directory l q _ _ (λ n g d. by_place from (seen_node (layout_at l q) n) moved (same_place p x q y) (refl, ap is_dir g ∙ d))
