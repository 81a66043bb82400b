-- With true answers a planner comes to the reply of the tree's step.
use Rattle.std.proofs.Common.{◌≡◌, ◌≤◌, ◌<◌, ◌^◌, ◌-◌, ◌%◌, bit_and, ℕ, zero, suc, Bool, true, false, if◌then◌else◌, Option, Some, None, Result, Ok, Err, List, [], ◌∷◌, refl, sym, ap, ◌∙◌, subst, arith}
use Rattle.std.proofs.Math.Nat.{mod-eq_of_lt}
use Rattle.std.proofs.lemmas.Nat.{and_mask}
use Rattle.std.specs.List.{AllByRecursion}
use Rattle.std.specs.FinMap.{get}
use Rattle.fid_space.specs.declared.fid.Fid.{Fid}
use Rattle.tree_model.specs.declared.node.Node.{Node}
use Rattle.tree_model.specs.declared.errno.Errno.TheVariants.{ENOENT, ENOTDIR, EINVAL, ELOOP}
use Rattle.tree_model.specs.declared.op.Op.{Op}
use Rattle.tree_model.specs.declared.op.Op.TheVariants as ops
use Rattle.tree_model.specs.declared.reply.Reply.{Reply}
use Rattle.tree_model.specs.Tree.{named, names_of, same_fid, root_fid}
use Rattle.tree_model.specs.Keys.{Laid}
use Rattle.tree_model.specs.Step.{step}
use Rattle.tree_model.specs.Looks.{plan, decided}
use Rattle.tree_model.proofs.Deciding.{step_decided}
use Rattle.striped_dir.specs.Layouts.{laid}
use Rattle.object_store.specs.Meaning.{is_directory}
use Rattle.tree_sound.specs.Sound.{IsSound}
use Rattle.tree_sound.proofs.Basics.{some_is, none_is}
use Rattle.tree_sound.proofs.Keeping.{sound_node}
use Rattle.plan_base.specs.declared.seen.Seen.{Seen}
use Rattle.plan_base.specs.declared.outcome.Outcome.{Outcome}
use Rattle.plan_base.specs.declared.question.Question.{Question}
use Rattle.plan_base.specs.declared.question.Stop.{Stop}
use Rattle.plan_base.specs.declared.question.Stop.TheVariants as stop
use Rattle.plan_base.specs.Stops.{◌>>=◌, unless}
use Rattle.plan_base.specs.Told.{Told}
use Rattle.plan_base.specs.Places.{parts_of}
use Rattle.plan_base.specs.Asks.{Asks, AskDirectory, AskNode, AskValue, AskEntry, AskEmpty, AskNames, AskWalk, Refuse, Settle, directory_seen, parent_seen}
use Rattle.plan_base.specs.Planning.{asks}
use Rattle.plan_laws.specs.Truth.{IsTrueOf, IsLaid, Matches, over, walk_over, none_of, all_names_at, seen_of, value_of, questions, first_open, is_known, or_outcome, reply_at}
use Rattle.plan_laws.proofs.Reaching.{reaching}
use Rattle.plan_laws.proofs.Deciding.{create_matches, mkdir_matches, rmdir_matches, setxattr_matches, lookup_matches, link_matches, unlink_matches, setattr_matches, delxattr_matches, getattr_matches, getxattr_matches}
use Rattle.plan_laws.proofs.Renaming.{rename_matches}
use Rattle.plan_laws.proofs.Migrating.{migrate_matches}
use Rattle.plan_shares.specs.Replies.{ComesTo, RepliesAreTheTrees}

-- over a tree no question is open
abbrev pub IsEnd : Result Outcome Stop → Type 0
IsEnd (Ok o) = Unit {0}
IsEnd (Err (stop.Refused e)) = Unit {0}
IsEnd (Err (stop.Ask q)) = ⊥
IsEnd (Err stop.Memory) = ⊥

abbrev IsFault : Option Stop → Type 0
IsFault None = Unit {0}
IsFault (Some (stop.Refused e)) = Unit {0}
IsFault (Some (stop.Ask q)) = ⊥
IsFault (Some stop.Memory) = ⊥

walk_ends : (l : Laid) (m : Fid) (left : ℕ) (at : Fid) → IsFault (walk_over l m left at)
unfolding walk_over
walk_ends l m zero at = by_tests (same_fid at root_fid) (same_fid at m)
  where
    by_tests : (a b : Bool) → IsFault (if a then None else (if b then Some (stop.Refused EINVAL) else Some (stop.Refused ELOOP)))
    by_tests true b = tt
    by_tests false true = tt
    by_tests false false = tt
walk_ends l m (suc left) at = by_tests (same_fid at root_fid) (same_fid at m) (walk_ends l m left (parent_seen (seen_of l at)))
  where
    by_tests : (a b : Bool) → IsFault (walk_over l m left (parent_seen (seen_of l at)))
        → IsFault (if a then None else (if b then Some (stop.Refused EINVAL) else walk_over l m left (parent_seen (seen_of l at))))
    by_tests true b h = tt
    by_tests false true h = tt
    by_tests false false h = h

pub ends : (l : Laid) (a : Asks) → IsEnd (over l a)
ends l (AskDirectory f next) = by_seen (seen_of l f) (λ s. ends l (next s))
  where
    by_dir : (s : Seen) (b : Bool) → ((s : Seen) → IsEnd (over l (next s))) → IsEnd ((if b then Ok s else Err (stop.Refused ENOTDIR)) >>= (λ seen. over l (next seen)))
    by_dir s true more = more s
    by_dir s false more = tt

    by_seen : (o : Option Seen) → ((s : Seen) → IsEnd (over l (next s))) → IsEnd (directory_seen o >>= (λ seen. over l (next seen)))
    by_seen None more = tt
    by_seen (Some s) more = by_dir s (is_directory s.body.kind) more
ends l (AskNode f next) = ends l (next (seen_of l f))
ends l (AskValue f x next) = ends l (next (value_of l f x))
ends l (AskEntry d layout x next) = ends l (next (named l.tree d x))
ends l (AskEmpty d layout next) = ends l (next (none_of layout (names_of l.tree d) 0 (parts_of (laid layout))))
ends l (AskNames d layout next) = ends l (next (all_names_at layout (names_of l.tree d) 0 (parts_of (laid layout))))
ends l (AskWalk m from next) = by_fault (walk_over l m 1023 from) (walk_ends l m 1023 from) (ends l next)
  where
    by_fault : (o : Option Stop) → IsFault o → IsEnd (over l next) → IsEnd (unless o (over l next))
    by_fault None h k = k
    by_fault (Some (stop.Refused e)) h k = tt
    by_fault (Some (stop.Ask q)) h k = absurd h
    by_fault (Some stop.Memory) h k = absurd h
ends l (Refuse e) = tt
ends l (Settle o) = tt

-- the operations
same_mode : (m : ℕ) → m ≤ 4095 → bit_and m 0xffff ≡ m
same_mode m low = and_mask m 16 ∙ mod-eq_of_lt (omega (arith, low))

pub matches : (targets most batch : ℕ) (l : Laid) (op : Op) → IsSound targets most l → Matches l (asks targets batch op) (plan targets op)
matches targets most batch l (ops.Create p x f) sound = create_matches targets batch l p x f
matches targets most batch l (ops.Mkdir p x f s) sound = mkdir_matches targets batch l p x f s
matches targets most batch l (ops.Link p x f) sound = link_matches targets batch l p x f
matches targets most batch l (ops.Unlink p x) sound = unlink_matches targets batch l p x
matches targets most batch l (ops.Rmdir p x) sound = rmdir_matches targets batch l p x
matches targets most batch l (ops.Rename p x q y) sound = rename_matches targets batch l p x q y
matches targets most batch l (ops.SetAttr f m u g) sound = setattr_matches targets batch l f m u g
matches targets most batch l (ops.SetXattr f x v) sound = setxattr_matches targets batch l f x v
matches targets most batch l (ops.DelXattr f x) sound = delxattr_matches targets batch l f x
matches targets most batch l (ops.Migrate d c i) sound = migrate_matches targets batch l d c i
matches targets most batch l (ops.Lookup p x) sound = lookup_matches targets batch l p x
matches targets most batch l (ops.GetAttr f) sound = getattr_matches targets batch l f (λ n g. same_mode n.mode (sound_node targets most l sound.each f n g).node.mode)
matches targets most batch l (ops.GetXattr f x) sound = getxattr_matches targets batch l f x

pub open_one : (P : Question → Type 0) (t : Told) (qs : List Question) (q : Question) → first_open t qs ≡ Some q → AllByRecursion P qs → P q
open_one P t [] q e h = absurd (none_is e)
open_one P t (r ∷ qs) q e h = by_test (is_known t r) e (λ k. open_one P t qs q k h.1)
  where
    by_test : (b : Bool) → (if b then first_open t qs else Some r) ≡ Some q → (first_open t qs ≡ Some q → P q) → P q
    by_test true k more = more k
    by_test false k more = subst P (some_is k) h.0

pub replies_are : RepliesAreTheTrees
replies_are targets most batch l op t sound true_of =
    let a = asks targets batch op in
    let m = matches targets most batch l op sound in
    let reply = m.same.0 ∙ sym (ap (λ p. p.1) (step_decided targets l.tree op)) in
    subst (ComesTo targets l op) (sym (reaching l t true_of a m.same.2)) (by_open (first_open t (questions l a)) refl (over l a) (ends l a) reply m.same.2)
  where
    by_end : (r : Result Outcome Stop) → IsEnd r → reply_at r ≡ (step targets l.tree op).1 → ComesTo targets l op r
    by_end (Ok o) h e = e
    by_end (Err (stop.Refused x)) h e = e
    by_end (Err (stop.Ask q)) h e = absurd h
    by_end (Err stop.Memory) h e = absurd h

    by_open : (o : Option Question) → first_open t (questions l (asks targets batch op)) ≡ o → (r : Result Outcome Stop) → IsEnd r → reply_at r ≡ (step targets l.tree op).1
        → AllByRecursion (IsLaid l) (questions l (asks targets batch op)) → ComesTo targets l op (or_outcome o r)
    by_open None e r h k all = by_end r h k
    by_open (Some q) e r h k all = open_one (IsLaid l) t (questions l (asks targets batch op)) q e all
