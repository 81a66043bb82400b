-- What is so of sound trees.
use Rattle.std.specs.Prelude.{◌≡◌, ◌≤◌, ℕ, suc, true, false, length, List, Some}
use Rattle.std.specs.List.{AllByRecursion}
use Rattle.std.specs.FinMap.{get}
use Rattle.fid_space.specs.declared.fid.Fid.{Fid}
use Rattle.fid_space.specs.FidText.{IsFid}
use Rattle.tree_model.specs.declared.op.Op.{Op}
use Rattle.tree_model.specs.declared.node.Node.{Node}
use Rattle.tree_model.specs.OpText.{IsOp}
use Rattle.tree_model.specs.Tree.{Tree, named, same_fid, root_fid}
use Rattle.tree_model.specs.Step.{is_dir}
use Rattle.tree_model.specs.Keys.{Laid, layout_at, laid_base}
use Rattle.tree_model.specs.Looks.{changes}
use Rattle.tree_model.specs.History.{Item}
use Rattle.tree_model.specs.Kept.{laid_step, laid_of}
use Rattle.striped_dir.specs.Parts.{FitsDirectory}
use Rattle.tree_sound.specs.Sound.{IsSound}
use Rattle.tree_sound.specs.Shapes.{Shape}

-- the root alone is sound
abbrev pub BaseIsSound : Type 0
BaseIsSound = (targets : ℕ) → IsSound targets 0 laid_base

-- a sound tree is sound after an operation, with at most one migration more
abbrev pub StepsAreSound : Type 0
StepsAreSound = (targets most : ℕ) (l : Laid) (op : Op) → IsSound targets most l → IsOp targets op → IsSound targets (suc most) (laid_step targets l op)

-- each operation of a history is one that a text spells
abbrev pub AreOps : ℕ → List Item → Type 0
AreOps targets history = AllByRecursion (λ i. IsOp targets i.request.op) history

-- the tree of a history is sound; each item is at most one migration
abbrev pub HistoriesAreSound : Type 0
HistoriesAreSound = (targets : ℕ) (history : List Item) → AreOps targets history → IsSound targets (length history) (laid_of targets history)

-- the change of each operation, over any tree, has one of the shapes
abbrev pub ChangesHaveShapes : Type 0
ChangesHaveShapes = (targets : ℕ) (t : Tree) (op : Op) → Shape targets t (changes targets t op)

-- what a name stands for is there, and isn't the root; and the name stands in a directory
abbrev pub NamesLeadToNodes : Type 0
NamesLeadToNodes =
    (targets most : ℕ) (l : Laid) (d : Fid) (x : List ℕ) (f : Fid) → IsSound targets most l → named l.tree d x ≡ Some f
    → ((n : Node) × (get l.tree.nodes f ≡ Some n)) × (same_fid f root_fid ≡ false) × (is_dir (get l.tree.nodes d) ≡ true)

-- A directory other than the root is named once: by the directory that is stored as its parent, which is there.
abbrev pub ParentsNameTheirDirectories : Type 0
ParentsNameTheirDirectories =
    (targets most : ℕ) (l : Laid) (f : Fid) (n : Node) → IsSound targets most l → get l.tree.nodes f ≡ Some n → n.dir ≡ true → same_fid f root_fid ≡ false
    → (x : List ℕ) × (named l.tree n.parent x ≡ Some f) × ((d : Fid) (y : List ℕ) → named l.tree d y ≡ Some f → (d ≡ n.parent) × (y ≡ x))

-- the parent that is stored with a node is written as FIDs are
abbrev pub ParentsAreFids : Type 0
ParentsAreFids = (targets most : ℕ) (l : Laid) (f : Fid) (n : Node) → IsSound targets most l → get l.tree.nodes f ≡ Some n → IsFid n.parent

-- a directory that is there may have the layout that it has
abbrev pub DirectoriesFit : Type 0
DirectoriesFit =
    (targets most : ℕ) (l : Laid) (d : Fid) → targets ≤ 16 → most ≤ 0x0ffffffe → IsSound targets most l → is_dir (get l.tree.nodes d) ≡ true
    → FitsDirectory targets d (layout_at l d)
