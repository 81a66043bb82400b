-- Histories that are put together, histories that go on, and operations that are refused.
use Rattle.std.proofs.Common.{◌≡◌, ◌≢◌, ℕ, Option, Some, None, List, [], ◌∷◌, ◌++◌, refl, sym, subst}
use Rattle.std.specs.List.{AllByRecursion}
use Rattle.tree_model.specs.declared.op.Op.{Op}
use Rattle.tree_model.specs.declared.op.Op.TheVariants as ops
use Rattle.tree_model.specs.declared.errno.Errno.{Errno}
use Rattle.tree_model.specs.declared.reply.Reply.{Reply}
use Rattle.tree_model.specs.declared.reply.Reply.TheVariants.{Ok, Err}
use Rattle.tree_model.specs.Tree.{Tree}
use Rattle.tree_model.specs.Changes.{changed_all}
use Rattle.tree_model.specs.Step.{step, checked, op_fault, op_changes, op_reply}
use Rattle.tree_model.specs.History.{Item, tree_from, IsLegalFrom}

-- the tree after one history and then another
pub tree_from-append : (targets : ℕ) (t : Tree) (h k : List Item) → tree_from targets t (h ++ k) ≡ tree_from targets (tree_from targets t h) k
tree_from-append targets t [] k = refl
tree_from-append targets t (i ∷ is) k = tree_from-append targets (step targets t i.request.op).0 is k

-- the tree after one item more
pub tree_from-push : (targets : ℕ) (t : Tree) (h : List Item) (i : Item) → tree_from targets t (h ++ i ∷ []) ≡ (step targets (tree_from targets t h) i.request.op).0
tree_from-push targets t h i = tree_from-append targets t h (i ∷ [])

all_push : (P : Item → Type 0) (h : List Item) (i : Item) → AllByRecursion P h → P i → AllByRecursion P (h ++ i ∷ [])
all_push P [] i all last = (last, tt)
all_push P (j ∷ js) i all last = (all.0, all_push P js i all.1 last)

-- a history goes on by what the tree replies, under a number that it doesn't have
pub legal_from-push : (targets : ℕ) (t : Tree) (h : List Item) (i : Item) → IsLegalFrom targets t h → i.reply ≡ (step targets (tree_from targets t h) i.request.op).1
    → AllByRecursion (λ j. j.request.number ≢ i.request.number) h → IsLegalFrom targets t (h ++ i ∷ [])
legal_from-push targets t [] i legal reply fresh = (reply, tt, tt)
legal_from-push targets t (j ∷ js) i legal reply fresh =
    (legal.0, all_push (λ later. later.request.number ≢ j.request.number) js i legal.1 (λ e. fresh.0 (sym e)), legal_from-push targets (step targets t j.request.op).0 js i legal.2 reply fresh.1)

IsDone : Reply → Type 0
IsDone Ok = Unit {0}
IsDone _ = ⊥

-- what is refused changes nothing, and what is done isn't refused
checked_stays : (fault : Option Errno) (old new : Tree) (e : Errno) → (checked fault old (new, Ok)).1 ≡ Err e → (checked fault old (new, Ok)).0 ≡ old
unfolding IsDone
checked_stays None old new e h = absurd (subst IsDone h tt)
checked_stays (Some d) old new e h = refl

-- what reads changes nothing
read_stays : (fault : Option Errno) (old : Tree) (reply : Reply) → (checked fault old (old, reply)).0 ≡ old
read_stays None old reply = refl
read_stays (Some d) old reply = refl

pub refused_stays : (targets : ℕ) (t : Tree) (op : Op) (e : Errno) → (step targets t op).1 ≡ Err e → (step targets t op).0 ≡ t
refused_stays targets t (ops.Lookup p x) e h = read_stays (op_fault targets t (ops.Lookup p x)) t (op_reply t (ops.Lookup p x))
refused_stays targets t (ops.GetAttr f) e h = read_stays (op_fault targets t (ops.GetAttr f)) t (op_reply t (ops.GetAttr f))
refused_stays targets t (ops.GetXattr f x) e h = read_stays (op_fault targets t (ops.GetXattr f x)) t (op_reply t (ops.GetXattr f x))
refused_stays targets t (ops.Create p x f) e h = checked_stays (op_fault targets t (ops.Create p x f)) t (changed_all t (op_changes t (ops.Create p x f))) e h
refused_stays targets t (ops.Mkdir p x f s) e h = checked_stays (op_fault targets t (ops.Mkdir p x f s)) t (changed_all t (op_changes t (ops.Mkdir p x f s))) e h
refused_stays targets t (ops.Link p x f) e h = checked_stays (op_fault targets t (ops.Link p x f)) t (changed_all t (op_changes t (ops.Link p x f))) e h
refused_stays targets t (ops.Unlink p x) e h = checked_stays (op_fault targets t (ops.Unlink p x)) t (changed_all t (op_changes t (ops.Unlink p x))) e h
refused_stays targets t (ops.Rmdir p x) e h = checked_stays (op_fault targets t (ops.Rmdir p x)) t (changed_all t (op_changes t (ops.Rmdir p x))) e h
refused_stays targets t (ops.Rename p x q y) e h = checked_stays (op_fault targets t (ops.Rename p x q y)) t (changed_all t (op_changes t (ops.Rename p x q y))) e h
refused_stays targets t (ops.SetAttr f m u g) e h = checked_stays (op_fault targets t (ops.SetAttr f m u g)) t (changed_all t (op_changes t (ops.SetAttr f m u g))) e h
refused_stays targets t (ops.SetXattr f x v) e h = checked_stays (op_fault targets t (ops.SetXattr f x v)) t (changed_all t (op_changes t (ops.SetXattr f x v))) e h
refused_stays targets t (ops.DelXattr f x) e h = checked_stays (op_fault targets t (ops.DelXattr f x)) t (changed_all t (op_changes t (ops.DelXattr f x))) e h
refused_stays targets t (ops.Migrate d c i) e h = checked_stays (op_fault targets t (ops.Migrate d c i)) t (changed_all t (op_changes t (ops.Migrate d c i))) e h
