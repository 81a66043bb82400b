-- Why words are no operation: the first word that can't stand, from the left.
use Rattle.std.specs.Prelude.{◌≡◌, ◌≢◌, ◌≤◌, ◌⊎◌, ◌-◌, ◌^◌, ℕ, false, length, List, [], ◌∷◌, codes}
use Rattle.std.specs.List.{AllByRecursion}
use Rattle.std.specs.Fmt.{decimal}
use Rattle.fid_space.specs.declared.fid.Fid.{Fid}
use Rattle.fid_space.specs.FidText.{fid_text, IsFid}
use Rattle.fid_space.specs.Places.{has_place}
use Rattle.tree_model.specs.Names.{IsName, name_word}
use Rattle.fid_space.specs.HexText.{hex_text}
use Rattle.tree_model.specs.OpText.{IsPlaced, IsXattrValue}
use Rattle.tree_model.specs.declared.op.OpKind.{OpKind}
use Rattle.tree_model.specs.declared.op.OpKind.TheVariants as kinds
use Rattle.tree_model.specs.declared.op.OpFault.{OpFault}
use Rattle.tree_model.specs.declared.op.OpFault.TheVariants as faults

abbrev pub kind_word : OpKind → List ℕ
kind_word kinds.Create = codes "create"
kind_word kinds.Mkdir = codes "mkdir"
kind_word kinds.Link = codes "link"
kind_word kinds.Unlink = codes "unlink"
kind_word kinds.Rmdir = codes "rmdir"
kind_word kinds.Rename = codes "rename"
kind_word kinds.SetAttr = codes "setattr"
kind_word kinds.SetXattr = codes "setxattr"
kind_word kinds.DelXattr = codes "delxattr"
kind_word kinds.Migrate = codes "migrate"
kind_word kinds.Lookup = codes "lookup"
kind_word kinds.GetAttr = codes "getattr"
kind_word kinds.GetXattr = codes "getxattr"

-- what a word of an operation can be: a FID, a name, a value, or a number up to a limit
pub data Field : Type 0 where
  FidField : Field
  NameField : Field
  HexField : Field
  NumberField : (most : ℕ) → Field

abbrev pub u32_field : Field
u32_field = NumberField (2 ^ 32 - 1)

-- the words that follow the first one; there may be more than one way
abbrev pub forms : OpKind → List (List Field)
forms kinds.Create = (FidField ∷ NameField ∷ FidField ∷ []) ∷ []
forms kinds.Mkdir = (FidField ∷ NameField ∷ FidField ∷ []) ∷ (FidField ∷ NameField ∷ FidField ∷ u32_field ∷ u32_field ∷ []) ∷ []
forms kinds.Link = (FidField ∷ NameField ∷ FidField ∷ []) ∷ []
forms kinds.Unlink = (FidField ∷ NameField ∷ []) ∷ []
forms kinds.Rmdir = (FidField ∷ NameField ∷ []) ∷ []
forms kinds.Rename = (FidField ∷ NameField ∷ FidField ∷ NameField ∷ []) ∷ []
forms kinds.SetAttr = (FidField ∷ NumberField 4095 ∷ u32_field ∷ u32_field ∷ []) ∷ []
forms kinds.SetXattr = (FidField ∷ NameField ∷ HexField ∷ []) ∷ []
forms kinds.DelXattr = (FidField ∷ NameField ∷ []) ∷ []
forms kinds.Migrate = (FidField ∷ u32_field ∷ u32_field ∷ []) ∷ []
forms kinds.Lookup = (FidField ∷ NameField ∷ []) ∷ []
forms kinds.GetAttr = (FidField ∷ []) ∷ []
forms kinds.GetXattr = (FidField ∷ NameField ∷ []) ∷ []

-- the word is one that can stand there
abbrev pub IsGood : ℕ → Field → List ℕ → Type 0
IsGood targets FidField w = (f : Fid) × IsPlaced targets f × (w ≡ fid_text f)
IsGood targets NameField w = (name : List ℕ) × IsName name × (w ≡ name_word name)
IsGood targets HexField w = (value : List ℕ) × IsXattrValue value × (w ≡ hex_text value)
IsGood targets (NumberField most) w = (n : ℕ) × (n ≤ most) × (w ≡ decimal n)

-- the word can't stand there, and why; want of memory has no cause
abbrev pub IsBad : ℕ → Field → List ℕ → OpFault → Type 0
IsBad targets field w faults.Memory = Unit {0}
IsBad targets FidField w faults.BadFid = (f : Fid) → IsFid f → w ≢ fid_text f
IsBad targets FidField w faults.NoHome = (f : Fid) × IsFid f × (has_place targets f ≡ false) × (w ≡ fid_text f)
IsBad targets NameField w faults.BadName = (name : List ℕ) → IsName name → w ≢ name_word name
IsBad targets HexField w faults.BadHex = (value : List ℕ) → IsXattrValue value → w ≢ hex_text value
IsBad targets (NumberField most) w faults.BadNumber = (n : ℕ) → n ≤ most → w ≢ decimal n
IsBad targets _ w _ = ⊥

-- the first word that can't stand
abbrev pub IsFirstBad : ℕ → List Field → List (List ℕ) → OpFault → Type 0
IsFirstBad targets (f ∷ fs) (w ∷ ws) d = IsBad targets f w d ⊎ (IsGood targets f w × IsFirstBad targets fs ws d)
IsFirstBad targets [] ws d = ⊥
IsFirstBad targets (f ∷ fs) [] d = ⊥

-- one of the forms has as many words, and the first word that can't stand there
abbrev pub IsBadForm : ℕ → List (List Field) → List (List ℕ) → OpFault → Type 0
IsBadForm targets [] ws d = ⊥
IsBadForm targets (fs ∷ more) ws d = ((length fs ≡ length ws) × IsFirstBad targets fs ws d) ⊎ IsBadForm targets more ws d

-- no form has as many words
abbrev pub HasNoForm : OpKind → List (List ℕ) → Type 0
HasNoForm kind ws = AllByRecursion (λ fs. length fs ≢ length ws) (forms kind)

-- why the words behind the first one don't fit the operation
abbrev pub IsKindFault : ℕ → OpKind → List (List ℕ) → OpFault → Type 0
IsKindFault targets kind ws d = IsBadForm targets (forms kind) ws d ⊎ ((d ≡ faults.BadWords) × HasNoForm kind ws)

-- why words are no operation: an unknown first word, a count that no form has, or the first bad word
abbrev pub IsOpFault : ℕ → List (List ℕ) → OpFault → Type 0
IsOpFault targets [] d = d ≡ faults.BadWords
IsOpFault targets (w ∷ ws) d =
    ((d ≡ faults.BadOperation) × ((kind : OpKind) → w ≢ kind_word kind)) ⊎ ((kind : OpKind) × (w ≡ kind_word kind) × IsKindFault targets kind ws d)
