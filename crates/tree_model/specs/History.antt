-- Histories: the operations that were accepted, in order, with their replies.
use Rattle.std.specs.Prelude.{◌≡◌, ◌≢◌, ℕ, List, [], ◌∷◌}
use Rattle.std.specs.List.{AllByRecursion}
use Rattle.tree_model.specs.declared.op.Request.{Request}
use Rattle.tree_model.specs.declared.reply.Reply.{Reply}
use Rattle.tree_model.specs.Tree.{Tree, base}
use Rattle.tree_model.specs.Step.{step}

pub record Item : Type 0 where
  pub request : Request
  pub reply : Reply

-- the tree after these items, from another tree on
abbrev pub tree_from : ℕ → Tree → List Item → Tree
tree_from targets t [] = t
tree_from targets t (i ∷ is) = tree_from targets (step targets t i.request.op).0 is

-- the tree of a history
abbrev pub tree_of : ℕ → List Item → Tree
tree_of targets history = tree_from targets base history

-- each reply is the tree's, and no number stands twice
abbrev pub IsLegalFrom : ℕ → Tree → List Item → Type 0
IsLegalFrom targets t [] = Unit {0}
IsLegalFrom targets t (i ∷ is) =
    (i.reply ≡ (step targets t i.request.op).1)
    × AllByRecursion (λ later. later.request.number ≢ i.request.number) is
    × IsLegalFrom targets (step targets t i.request.op).0 is

abbrev pub IsLegal : ℕ → List Item → Type 0
IsLegal targets history = IsLegalFrom targets base history
