-- A walk that is kept goes on where it came to, and what is heard leaves it so.
use Rattle.std.proofs.Common.{◌≡◌, ℕ, suc, Bool, true, false, cond, Option, Some, None, Result, Ok, refl, sym, ap, subst, ◌∙◌}
use Rattle.std.specs.Ordering.{eq_by_cmp}
use Rattle.std.specs.FinMap.{get, insert, get-insert}
use Rattle.fid_space.specs.declared.fid.Fid.{Fid}
use Rattle.tree_model.specs.Tree.{fid_cmp, same_fid, root_fid}
use Rattle.tree_model.proofs.Maps.{fids_total}
use Rattle.tree_model.proofs.Fids.{told_same}
use Rattle.out_update.specs.declared.result.UpdateResult.{UpdateResult}
use Rattle.plan_base.specs.declared.seen.Seen.{Seen}
use Rattle.plan_base.specs.declared.question.Question.{Question}
use Rattle.plan_base.specs.declared.question.Question.TheVariants as question
use Rattle.plan_base.specs.declared.question.Stop.{Stop}
use Rattle.tree_model.specs.declared.errno.Errno.TheVariants.{EINVAL}
use Rattle.plan_base.specs.declared.question.Stop.TheVariants as stop
use Rattle.plan_base.specs.Stops.{Halts, HaltsAt, Passes}
use Rattle.plan_base.specs.Told.{Told, known, node_told}
use Rattle.plan_base.specs.Asks.{walk_told, then_stop, parent_seen}
use Rattle.plan_base.specs.Planners.{Planning, node_in, told_more, told_after}
use Rattle.plan_base.proofs.Empties.{halted}
use Rattle.plan_base.proofs.Walks.{walk_root, walk_met, walk_on}
use Rattle.cross_rename.specs.declared.walks.Walked.{Walked}
use Rattle.cross_rename.specs.Kept.{HasNodesOf, IsOnTheWay, MayKeep, IsOpen, Keeps}

some_same : {A : Type 0} → (a b : A) → Some a ≡ Some b → a ≡ b
some_same a b h = cc

pub all_there : (told : Told) → HasNodesOf told told
all_there told = λ fid seen h. h

-- a new walk
pub from_start : (told : Told) (moved from : Fid) → IsOnTheWay told (record { moved = moved; from = from; left = 1023; at = from })
from_start told moved from = λ more h. refl

ok_known : (told : Told) (fid : Fid) (seen : Option Seen) → node_told told fid ≡ Ok seen → get told.nodes fid ≡ Some seen
ok_known told fid seen h = by_value (get told.nodes fid) h
  where
    by_value : (o : Option (Option Seen)) → known (question.Node fid) o ≡ Ok seen → o ≡ Some seen
    by_value None k = cc
    by_value (Some s) k = cc

-- past a member that was told
pub one_further : (told : Told) (moved from at next : Fid) (left more : ℕ) (seen : Option Seen) → left ≡ suc more → same_fid at root_fid ≡ false → same_fid at moved ≡ false
    → node_told told at ≡ Ok seen → next ≡ parent_seen seen
    → IsOnTheWay told (record { moved = moved; from = from; left = left; at = at }) → IsOnTheWay told (record { moved = moved; from = from; left = more; at = next })
one_further told moved from at next left more seen e root met h p way = λ u has.
    way u has ∙ walk_on u moved left more at e root met
    ∙ ap (λ (o : Option (Option Seen)). then_stop (known (question.Node at) o) (λ s. walk_told u moved more (parent_seen s))) (has at seen (ok_known told at seen h))
    ∙ ap (λ f. walk_told u moved more f) (sym p)

-- ---- where a walk stops

pub at_root : (told : Told) (w : Walked) → same_fid w.at root_fid ≡ true → IsOnTheWay told w → walk_told told w.moved 1023 w.from ≡ None
at_root told w h way = way told (all_there told) ∙ walk_root told w.moved w.left w.at h

pub at_moved : (told : Told) (w : Walked) → same_fid w.at root_fid ≡ false → same_fid w.at w.moved ≡ true → IsOnTheWay told w
    → walk_told told w.moved 1023 w.from ≡ Some (stop.Refused EINVAL)
at_moved told w root met way = way told (all_there told) ∙ walk_met told w.moved w.left w.at root met

pub at_question : (told : Told) (w : Walked) (more : ℕ) (e : Stop) → w.left ≡ suc more → same_fid w.at root_fid ≡ false → same_fid w.at w.moved ≡ false
    → Halts e (node_told told w.at) → IsOnTheWay told w → HaltsAt e (walk_told told w.moved 1023 w.from)
at_question told w more e k root met h way =
    subst (HaltsAt e) (sym (way told (all_there told) ∙ walk_on told w.moved w.left more w.at k root met))
    (halted e (node_told told w.at) (λ s. walk_told told w.moved more (parent_seen s)) h)

pub at_last : {X : Type 0} → (told : Told) (w : Walked) (r : Result X Stop) → w.left ≡ 0 → Passes r (walk_told told w.moved 0 w.at) → IsOnTheWay told w
    → Passes r (walk_told told w.moved 1023 w.from)
at_last told w r k h way = subst (Passes r) (sym (way told (all_there told) ∙ ap (λ n. walk_told told w.moved n w.at) k)) h

-- ---- one answer more

node_stays : (told : Told) (asked : Fid) (answer : Option Seen) → get told.nodes asked ≡ None → (fid : Fid) (seen : Option Seen) → get told.nodes fid ≡ Some seen
    → get (insert told.nodes asked answer) fid ≡ Some seen
node_stays told asked answer unknown fid seen h = get-insert fids_total told.nodes asked answer fid ∙ by_fid (eq_by_cmp fid_cmp fid asked) refl
  where
    none_some : None ≡ Some seen → Some answer ≡ Some seen
    none_some k = cc

    by_fid : (b : Bool) → eq_by_cmp fid_cmp fid asked ≡ b → cond b (Some answer) (get told.nodes fid) ≡ Some seen
    by_fid true q = none_some (sym unknown ∙ ap (λ f. get told.nodes f) (sym (told_same fid asked q)) ∙ h)
    by_fid false q = h

heard_more : (told : Told) (q : Question) (r : UpdateResult) → IsOpen told (Some q) → HasNodesOf (told_more told q r) told
heard_more told (question.Node asked) r unknown = node_stays told asked (node_in r) unknown
heard_more told (question.Entry directory layout name) r unknown = λ fid seen h. h
heard_more told (question.Count directory layout index) r unknown = λ fid seen h. h
heard_more told (question.Value f name) r unknown = λ fid seen h. h
heard_more told (question.Names directory layout index) r unknown = λ fid seen h. h

heard : (told : Told) (q : Option Question) (r : Option UpdateResult) → IsOpen told q → HasNodesOf (told_after told q r) told
heard told None r unknown = all_there told
heard told (Some q) None unknown = all_there told
heard told (Some q) (Some r) unknown = heard_more told q r unknown

-- what is heard leaves the walk that is kept
pub still_kept : (p : Planning) (w : Option Walked) (r : Option UpdateResult) → Keeps p w → MayKeep (told_after p.told p.asked r) w
still_kept p None r k = tt
still_kept p (Some w) r k = λ more has. k.1 more (λ fid seen h. has fid seen (heard p.told p.asked r k.0 fid seen h))

abbrev pub heard_so : Planning → Option UpdateResult → Planning
heard_so p r = record { targets = p.targets; op = p.op; batch = p.batch; told = told_after p.told p.asked r; asked = None }

pub kept_when_heard : (p q : Planning) (w v : Option Walked) (r : Option UpdateResult) → q ≡ heard_so p r → v ≡ w → Keeps p w → MayKeep q.told v
kept_when_heard p q w v r e same k = subst (λ (o : Option Walked). MayKeep q.told o) (sym same) (subst (λ (s : Planning). MayKeep s.told w) (sym e) (still_kept p w r k))
