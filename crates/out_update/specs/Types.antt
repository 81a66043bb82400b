-- The table of update types: the number of each, whether it asks, and its parameters with their lengths.
use Rattle.std.specs.Prelude.{ℕ, Bool, true, false, not, ◌==◌, ◌&&◌, nat_le, if◌then◌else◌, List, [], ◌∷◌, Option, Some, None}
use Rattle.out_update.specs.declared.update.Kind.{Kind}
use Rattle.out_update.specs.declared.update.Kind.TheVariants as kind
use Rattle.out_update.specs.declared.shape.Shape.{Shape}
use Rattle.out_update.specs.declared.shape.Shape.TheVariants as shape

-- the number of a type
abbrev pub code_of : Kind → ℕ
code_of kind.Create = 1
code_of kind.Destroy = 2
code_of kind.RefAdd = 3
code_of kind.RefDel = 4
code_of kind.AttrSet = 5
code_of kind.AttrGet = 6
code_of kind.XattrSet = 7
code_of kind.XattrGet = 8
code_of kind.Lookup = 9
code_of kind.Insert = 10
code_of kind.Delete = 11
code_of kind.XattrDel = 13
code_of kind.LayoutSet = 32
code_of kind.ParentSet = 33
code_of kind.Names = 34
code_of kind.Count = 35

abbrev pub kinds : List Kind
kinds =
    kind.Create ∷ kind.Destroy ∷ kind.RefAdd ∷ kind.RefDel ∷ kind.AttrSet ∷ kind.AttrGet ∷ kind.XattrSet ∷ kind.XattrGet ∷ kind.Lookup ∷ kind.Insert ∷ kind.Delete ∷ kind.XattrDel ∷ kind.LayoutSet
    ∷ kind.ParentSet ∷ kind.Names ∷ kind.Count ∷ []

abbrev pub first_with : ℕ → List Kind → Option Kind
first_with n [] = None
first_with n (k ∷ ks) = if code_of k == n then Some k else first_with n ks

-- the type with this number
unfoldable pub kind_at : ℕ → Option Kind
kind_at n = first_with n kinds

-- a read type asks about an object; the others are writing types and change it
abbrev pub is_read : Kind → Bool
is_read kind.AttrGet = true
is_read kind.XattrGet = true
is_read kind.Lookup = true
is_read kind.Names = true
is_read kind.Count = true
is_read _ = false

-- the parameters of a type
abbrev pub shapes : Kind → List Shape
shapes kind.Create = shape.Body ∷ []
shapes kind.Destroy = []
shapes kind.RefAdd = []
shapes kind.RefDel = []
shapes kind.AttrSet = shape.Attributes ∷ []
shapes kind.AttrGet = []
shapes kind.XattrSet = shape.Name ∷ shape.Value ∷ []
shapes kind.XattrGet = shape.Name ∷ []
shapes kind.Lookup = shape.Name ∷ []
shapes kind.Insert = shape.Name ∷ shape.Fid ∷ []
shapes kind.Delete = shape.Name ∷ []
shapes kind.XattrDel = shape.Name ∷ []
shapes kind.LayoutSet = shape.Layout ∷ []
shapes kind.ParentSet = shape.Fid ∷ []
shapes kind.Names = []
shapes kind.Count = []

-- the lengths that a parameter may have
abbrev pub allows : Shape → ℕ → Bool
allows shape.Body n = n == 48
allows shape.Attributes n = n == 12
allows shape.Name n = nat_le 1 n && nat_le n 255
allows shape.Value n = nat_le n 4096
allows shape.Fid n = n == 16
allows shape.Layout n = n == 8

-- ---- a request alone, or as the part of a record with a batch

-- a request has any type, a part of a record writing types
abbrev pub may_stand : Option ℕ → Kind → Bool
may_stand None k = true
may_stand (Some batch) k = not (is_read k)

-- in a request the batch is 0 exactly for the read types, in a part of a record it is the record's
abbrev pub batch_fits : Option ℕ → Kind → ℕ → Bool
batch_fits None k n = if is_read k then n == 0 else nat_le 1 n
batch_fits (Some batch) k n = n == batch
