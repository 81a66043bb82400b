-- What is so of the calls that go from object to object, and of the tree that shares make up.
use Rattle.std.specs.Prelude.{◌≡◌, ◌≤◌, ◌<◌, ℕ, List, [], ◌∷◌, ◌++◌, length, Option, Some, None}
use Rattle.tree_model.specs.History.{Item}
use Rattle.tree_model.specs.Kept.{laid_of}
use Rattle.object_store.specs.Objects.{ObjectMap}
use Rattle.object_store.specs.Following.{Entry, Attribute, next_entry, next_attribute}
use Rattle.tree_sound.specs.SoundLaws.{AreOps}
use Rattle.share_tree.specs.Told.{all_entries, all_attributes}
use Rattle.share_tree.specs.Made.{made_of}

-- the first of a list
abbrev pub head : {X : Type 0} → List X → Option X
head [] = None
head (x ∷ xs) = Some x

-- the entries come one after another, as the list of all has them
abbrev pub EntriesFollow : Type 0
EntriesFollow =
    (m : ObjectMap) → (next_entry m None ≡ head (all_entries m))
    × ((before : List Entry) (e : Entry) (later : List Entry) → all_entries m ≡ before ++ e ∷ later → next_entry m (Some (e.0, e.2)) ≡ head later)

abbrev pub AttributesFollow : Type 0
AttributesFollow =
    (m : ObjectMap) → (next_attribute m None ≡ head (all_attributes m))
    × ((before : List Attribute) (a : Attribute) (later : List Attribute) → all_attributes m ≡ before ++ a ∷ later → next_attribute m (Some (a.0, a.1)) ≡ head later)

-- the shares of a history make up its tree
abbrev pub SharesMakeTheTree : Type 0
SharesMakeTheTree =
    (targets : ℕ) (history : List Item) → 1 ≤ targets → targets ≤ 16 → length history < 0x0ffffffe → AreOps targets history
    → made_of targets (laid_of targets history) ≡ (laid_of targets history).tree
