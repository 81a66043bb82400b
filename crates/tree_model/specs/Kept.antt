-- Histories over trees with layouts, which item depends on which, and what a part of a history keeps.
use Rattle.std.specs.Prelude.{◌≡◌, ◌⊎◌, ℕ, Bool, true, false, List, [], ◌∷◌}
use Rattle.std.specs.List.{AllByRecursion}
use Rattle.tree_model.specs.declared.op.Op.{Op}
use Rattle.tree_model.specs.Tree.{Tree}
use Rattle.tree_model.specs.Step.{step}
use Rattle.tree_model.specs.Keys.{Key, Laid, meets, laid_base, laid_after_all}
use Rattle.tree_model.specs.Looks.{looks, changes, writes}
use Rattle.tree_model.specs.Striped.{on}
use Rattle.tree_model.specs.History.{Item, IsLegal}

-- the tree with its layouts after an operation
abbrev pub laid_step : ℕ → Laid → Op → Laid
laid_step targets l op = laid_after_all l (changes targets l.tree op)

abbrev pub laid_from : ℕ → Laid → List Item → Laid
laid_from targets l [] = l
laid_from targets l (i ∷ is) = laid_from targets (laid_step targets l i.request.op) is

-- the tree of a history with the layouts that it made
abbrev pub laid_of : ℕ → List Item → Laid
laid_of targets history = laid_from targets laid_base history

-- no key of the first list meets the key
abbrev pub Misses : List Key → Key → Type 0
Misses written k = AllByRecursion (λ w. meets w k ≡ false) written

-- no key of the first list meets one of the second
abbrev pub MissesAll : List Key → List Key → Type 0
MissesAll written looked = AllByRecursion (λ k. Misses written k) looked

-- An operation over one tree doesn't depend on an earlier one over another: it looks at no key that the earlier one wrote.
abbrev pub IsFree : ℕ → Tree → Op → Tree → Op → Type 0
IsFree targets earlier op later next = MissesAll (writes targets earlier op) (looks targets later next)

-- A part of a list: true at each item that it has.
abbrev pub chosen : List Bool → List Item → List Item
chosen [] is = []
chosen (b ∷ bs) [] = []
chosen (true ∷ bs) (i ∷ is) = i ∷ chosen bs is
chosen (false ∷ bs) (i ∷ is) = chosen bs is

-- of the items from a tree on, those of the part don't depend on this operation over an earlier tree
abbrev pub AreFree : ℕ → Tree → Op → Laid → List Bool → List Item → Type 0
AreFree targets earlier op l [] is = Unit {0}
AreFree targets earlier op l (b ∷ bs) [] = Unit {0}
AreFree targets earlier op l (b ∷ bs) (i ∷ is) =
    (b ≡ true → IsFree targets earlier op l.tree i.request.op) × AreFree targets earlier op (laid_step targets l i.request.op) bs is

-- A part is closed where it has each item on which one of its items depends: none of them depends on an item that it lacks.
abbrev pub IsClosedFrom : ℕ → Laid → List Bool → List Item → Type 0
IsClosedFrom targets l [] is = Unit {0}
IsClosedFrom targets l (b ∷ bs) [] = Unit {0}
IsClosedFrom targets l (b ∷ bs) (i ∷ is) =
    (b ≡ false → AreFree targets l.tree i.request.op (laid_step targets l i.request.op) bs is)
    × IsClosedFrom targets (laid_step targets l i.request.op) bs is

abbrev pub IsClosed : ℕ → List Bool → List Item → Type 0
IsClosed targets part history = IsClosedFrom targets laid_base part history

abbrev pub HasNumber : ℕ → List Item → Type 0
HasNumber number [] = ⊥
HasNumber number (i ∷ is) = (i.request.number ≡ number) ⊎ HasNumber number is

-- What may be kept of a history: a part of it, in its order, which is legal, holds each of these numbers,
-- and holds each item on which one of its items depends.
pub record IsKept (targets : ℕ) (history : List Item) (must : List ℕ) (part : List Bool) : Type 0 where
  pub legal : IsLegal targets (chosen part history)
  pub holds : AllByRecursion (λ number. HasNumber number (chosen part history)) must
  pub closed : IsClosed targets part history

-- an operation over two trees looks at the same keys, and makes the same reply and the same change, on the same targets
pub record SameStep (targets : ℕ) (l m : Laid) (op : Op) : Type 0 where
  pub looked : looks targets l.tree op ≡ looks targets m.tree op
  pub reply : (step targets l.tree op).1 ≡ (step targets m.tree op).1
  pub change : changes targets l.tree op ≡ changes targets m.tree op
  pub same_on : on targets l op ≡ on targets m op

-- each item of the part is the same step in the part as in the whole
abbrev pub AreSameFrom : ℕ → Laid → Laid → List Bool → List Item → Type 0
AreSameFrom targets l m [] is = Unit {0}
AreSameFrom targets l m (b ∷ bs) [] = Unit {0}
AreSameFrom targets l m (true ∷ bs) (i ∷ is) =
    SameStep targets l m i.request.op × AreSameFrom targets (laid_step targets l i.request.op) (laid_step targets m i.request.op) bs is
AreSameFrom targets l m (false ∷ bs) (i ∷ is) = AreSameFrom targets (laid_step targets l i.request.op) m bs is

abbrev pub AreSame : ℕ → List Bool → List Item → Type 0
AreSame targets part history = AreSameFrom targets laid_base laid_base part history
