-- The decoded text of a request, and that of a fault.
use Rattle.std.specs.Prelude.{ℕ, List, ◌++◌, length, codes, Option, Some, None}
use Rattle.std.specs.List.{flat_map}
use Rattle.std.specs.Fmt.{decimal}
use Rattle.fid_space.specs.FidText.{fid_text}
use Rattle.fid_space.specs.HexText.{hex_text}
use Rattle.out_update.specs.declared.update.Kind.{Kind}
use Rattle.out_update.specs.declared.update.Kind.TheVariants as kind
use Rattle.out_update.specs.declared.update.Update.{Update}
use Rattle.out_update.specs.declared.fault.UpdateFault.{UpdateFault}
use Rattle.out_update.specs.declared.fault.UpdateFault.TheVariants as fault

abbrev pub kind_word : Kind → List ℕ
kind_word kind.Create = codes "create"
kind_word kind.Destroy = codes "destroy"
kind_word kind.RefAdd = codes "ref_add"
kind_word kind.RefDel = codes "ref_del"
kind_word kind.AttrSet = codes "attr_set"
kind_word kind.AttrGet = codes "attr_get"
kind_word kind.XattrSet = codes "xattr_set"
kind_word kind.XattrGet = codes "xattr_get"
kind_word kind.Lookup = codes "lookup"
kind_word kind.Insert = codes "insert"
kind_word kind.Delete = codes "delete"
kind_word kind.XattrDel = codes "xattr_del"
kind_word kind.LayoutSet = codes "layout_set"
kind_word kind.ParentSet = codes "parent_set"
kind_word kind.Names = codes "names"
kind_word kind.Count = codes "count"

-- two lower-case digits a byte, or a dash for none
abbrev pub param_line : List ℕ → List ℕ
param_line p = codes "param " ++ (hex_text p ++ codes "\n")

-- a line for the update, and one for each parameter
abbrev pub update_lines : Update → List ℕ
update_lines u = codes "update " ++ (kind_word u.kind ++ (codes " " ++ (fid_text u.fid ++ (codes " batch " ++ (decimal u.batch ++ (codes "\n" ++ flat_map param_line u.params))))))

unfoldable pub decoded_text : List Update → List ℕ
decoded_text us = codes "request " ++ (decimal (length us) ++ (codes "\n" ++ flat_map update_lines us))

-- the place of a fault and its word; memory has neither
abbrev pub told : UpdateFault → Option (ℕ × List ℕ)
told fault.Memory = None
told (fault.BadMagic p) = Some (p, codes "BadMagic")
told (fault.BadType p) = Some (p, codes "BadType")
told (fault.BadCount p) = Some (p, codes "BadCount")
told (fault.BadLength p) = Some (p, codes "BadLength")
told (fault.BadPadding p) = Some (p, codes "BadPadding")
told (fault.BadValue p) = Some (p, codes "BadValue")
told (fault.TooLong p) = Some (p, codes "TooLong")
