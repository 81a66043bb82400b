-- The body of an object: which may stand, and its 48 bytes.
use Rattle.std.specs.Prelude.{◌≡◌, ℕ, ◌<◌, ◌^◌, ◌==◌, ◌&&◌, Bool, true, nat_le, if◌then◌else◌, List, ◌++◌, Option, Some, None, Result, Ok, Err}
use Rattle.std.specs.Int.{w32}
use Rattle.byte_grammar.specs.Numbers.{word}
use Rattle.byte_grammar.specs.Values.{◌>>=◌, part_at}
use Rattle.fid_space.specs.FidText.{IsFid}
use Rattle.tree_model.specs.Tree.{same_fid, no_fid}
use Rattle.out_update.specs.Spelling.{fid_bytes}
use Rattle.striped_dir.specs.declared.layout.Layout.{Layout}
use Rattle.striped_dir.specs.declared.layout.BadValue.{BadValue}
use Rattle.striped_dir.specs.Layouts.{laid, layout_text, layout_in}
use Rattle.object_store.specs.declared.body.Body.{Body}
use Rattle.object_store.specs.declared.body.ObjectKind.{ObjectKind}
use Rattle.object_store.specs.declared.body.ObjectKind.TheVariants.{File, Directory, Stripe}

abbrev pub number_of : ObjectKind → ℕ
number_of File = 1
number_of Directory = 2
number_of Stripe = 3

abbrev pub is_plain : Layout → Bool
is_plain l = (l.count == 0) && ((l.start == 0) && (l.generation == 0))

-- at most 16 stripes, the first on a target below 16; with no stripe the start is 0
abbrev pub may_lay : Layout → Bool
may_lay l = nat_le l.count 16 && ((if l.count == 0 then l.start == 0 else nat_le l.start 15) && nat_le l.generation 0x0ffffffe)

abbrev pub may_be_file : Body → Bool
may_be_file b = nat_le b.mode 4095 && ((nat_le 1 b.links && nat_le b.links 65000) && (is_plain b.layout && (same_fid b.fid no_fid && (b.index == 0))))

abbrev pub may_be_directory : Body → Bool
may_be_directory b = nat_le b.mode 4095 && ((b.links == 2) && (may_lay b.layout && (b.index == 0)))

abbrev pub may_be_stripe : Body → Bool
may_be_stripe b = (b.mode == 0) && ((b.uid == 0) && ((b.gid == 0) && ((b.links == 0) && (is_plain b.layout && nat_le b.index 15))))

abbrev pub may_be : ObjectKind → Body → Bool
may_be File b = may_be_file b
may_be Directory b = may_be_directory b
may_be Stripe b = may_be_stripe b

-- The FID is a directory's parent, a stripe's directory, and zeros of a file.
unfoldable pub is_allowed : Body → Bool
is_allowed b = may_be b.kind b

-- ---- its bytes

-- what has these bytes
pub record FitsBody (b : Body) : Type 0 where
  pub allowed : is_allowed b ≡ true
  pub owner : (b.uid < 2 ^ 32) × (b.gid < 2 ^ 32)
  pub fid : IsFid b.fid

unfoldable pub body_bytes : Body → List ℕ
body_bytes b =
    word w32 (number_of b.kind) ++ (word w32 b.mode ++ (word w32 b.uid ++ (word w32 b.gid ++ (word w32 b.links ++ (layout_text (laid b.layout) ++ (fid_bytes b.fid ++ word w32 b.index))))))

abbrev pub ok : Result Layout BadValue → Option Layout
ok (Ok l) = Some l
ok (Err e) = None

unfoldable pub layout_at : List ℕ → Option (Layout × List ℕ)
layout_at bytes = do
  part ← part_at 8 bytes
  layout ← ok (layout_in part.0)
  Some (layout, part.1)
