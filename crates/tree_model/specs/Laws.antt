-- The laws of operations over trees with layouts, and of parts of histories.
use Rattle.std.specs.Prelude.{◌≡◌, ◌⊎◌, ℕ, cond, Bool, List, [], ◌∷◌, Option, Some, None}
use Rattle.std.specs.List.{AllByRecursion}
use Rattle.std.specs.Ordering.{eq_by_cmp}
use Rattle.std.specs.FinMap.{get}
use Rattle.fid_space.specs.declared.fid.Fid.{Fid}
use Rattle.tree_model.specs.declared.op.Op.{Op}
use Rattle.tree_model.specs.declared.reply.Reply.{Reply}
use Rattle.tree_model.specs.declared.errno.Errno.{Errno}
use Rattle.tree_model.specs.Tree.{Tree, Names, fid_cmp, names_of, named}
use Rattle.tree_model.specs.Changes.{Change, changed, changed_all, with_names}
use Rattle.tree_model.specs.Step.{step, op_fault, op_changes}
use Rattle.tree_model.specs.Keys.{Key, Laid, at, layout_at, laid_after}
use Rattle.tree_model.specs.Looks.{looks, writes, changes, decided, plan}
use Rattle.tree_model.specs.Effects.{node_after, names_after, name_after, layout_after}
use Rattle.tree_model.specs.OpText.{IsOp}
use Rattle.tree_model.specs.Striped.{on}
use Rattle.tree_model.specs.History.{Item, IsLegal, tree_of}
use Rattle.tree_model.specs.Kept.{laid_step, laid_of, Misses, chosen, IsClosed, AreSame}

-- two trees have the same under each key that the operation looks at in the first
abbrev pub Agree : ℕ → Laid → Laid → Op → Type 0
Agree targets l m op = AllByRecursion (λ k. at l k ≡ at m k) (looks targets l.tree op)

-- the reply and the changes of an operation
abbrev pub outcome : ℕ → Tree → Op → Reply × List Change
outcome targets t op = decided (plan targets op) t

-- the step is what the looks decide
abbrev pub StepIsDecided : Type 0
StepIsDecided = (targets : ℕ) (t : Tree) (op : Op) → step targets t op ≡ (changed_all t (outcome targets t op).1, (outcome targets t op).0)

-- a reply, the looks and the change depend only on what is looked at
abbrev pub OnlyLooksMatter : Type 0
OnlyLooksMatter =
    (targets : ℕ) (l m : Laid) (op : Op) → Agree targets l m op
    → (outcome targets l.tree op ≡ outcome targets m.tree op) × (looks targets l.tree op ≡ looks targets m.tree op)

-- and so do the targets that it is on, which the layouts say besides
abbrev pub SameTargets : Type 0
SameTargets = (targets : ℕ) (l m : Laid) (op : Op) → Agree targets l m op → on targets l op ≡ on targets m op

-- then a key under which both have the same before has the same in both afterwards
abbrev pub SameChange : Type 0
SameChange =
    (targets : ℕ) (l m : Laid) (op : Op) → Agree targets l m op → (k : Key) → at l k ≡ at m k
    → at (laid_step targets l op) k ≡ at (laid_step targets m op) k

-- a key that no written key meets keeps what stands under it
abbrev pub OnlyWrittenChange : Type 0
OnlyWrittenChange = (targets : ℕ) (l : Laid) (op : Op) (k : Key) → Misses (writes targets l.tree op) k → at (laid_step targets l op) k ≡ at l k

-- the key stands in the list
abbrev pub Among : List Key → Key → Type 0
Among [] k = ⊥
Among (j ∷ js) k = (j ≡ k) ⊎ Among js k

-- each written key is looked at
abbrev pub WrittenIsLookedAt : Type 0
WrittenIsLookedAt = (targets : ℕ) (t : Tree) (op : Op) → AllByRecursion (λ k. Among (looks targets t op) k) (writes targets t op)

-- the layouts beside it don't change the tree of a history
abbrev pub LayoutsAreBeside : Type 0
LayoutsAreBeside = (targets : ℕ) (history : List Item) → (laid_of targets history).tree ≡ tree_of targets history

-- a part of a legal history that has what its items depend on is legal, and each of its items looks at
-- the same, and makes the same reply and change, as in the whole
abbrev pub ClosedPartsAgree : Type 0
ClosedPartsAgree =
    (targets : ℕ) (history : List Item) (part : List Bool) → IsLegal targets history → IsClosed targets part history
    → IsLegal targets (chosen part history) × AreSame targets part history

-- changes unless a check fails, which leaves none
abbrev pub unless : Option Errno → List Change → List Change
unless None cs = cs
unless (Some e) cs = []

-- an operation makes its changes where no check fails, else none
abbrev pub ChangesUnlessRefused : Type 0
ChangesUnlessRefused = (targets : ℕ) (t : Tree) (op : Op) → changes targets t op ≡ unless (op_fault targets t op) (op_changes t op)

-- what stands after a change follows from the change and what stood there before
abbrev pub NodesAfter : Type 0
NodesAfter = (t : Tree) (c : Change) (f : Fid) → get (changed t c).nodes f ≡ node_after c f (get t.nodes f)

abbrev pub NamesAfter : Type 0
NamesAfter = (t : Tree) (c : Change) (d : Fid) → names_of (changed t c) d ≡ names_after c d (names_of t d)

abbrev pub NameAfter : Type 0
NameAfter = (t : Tree) (c : Change) (d : Fid) (x : List ℕ) → named (changed t c) d x ≡ name_after c d x (named t d x)

abbrev pub LayoutsAfter : Type 0
LayoutsAfter = (l : Laid) (c : Change) (f : Fid) → layout_at (laid_after l c) f ≡ layout_after c f (layout_at l f)

-- the names of one directory are others, and those of any other directory stay
abbrev pub OthersKeepTheirNames : Type 0
OthersKeepTheirNames =
    (t : Tree) (d : Fid) (m : Names) (q : Fid) → names_of (record { nodes = t.nodes; entries = with_names t d m }) q ≡ cond (eq_by_cmp fid_cmp q d) m (names_of t q)

-- in a cluster of one target each operation is on that target alone
abbrev pub OneTarget : Type 0
OneTarget = (l : Laid) (op : Op) → IsOp 1 op → on 1 l op ≡ 1
