-- The body of an object that is created: thirteen numbers, one after another.
use Rattle.std.specs.Prelude.{◌≡◌, ℕ, ◌*◌, ◌^◌, ◌<◌, Bool, true, ◌==◌, ◌&&◌, nat_le, if◌then◌else◌, List, [], ◌∷◌, ◌++◌}
use Rattle.std.specs.Int.{Width, w8, w16, w32, w64, byte_len}
use Rattle.byte_grammar.specs.Numbers.{word}
use Rattle.out_update.specs.declared.shape.BodyField.{BodyField}
use Rattle.out_update.specs.declared.shape.BodyField.TheVariants as body

abbrev pub width_of : BodyField → Width
width_of body.Count = w8
width_of body.Start = w8
width_of body.Zero = w16
width_of body.Seq = w64
width_of _ = w32

-- What each may be in a created body of this kind (1 a file, 2 a directory, 3 a stripe) whose layout has
-- this count.
abbrev pub may_be : ℕ → ℕ → BodyField → ℕ → Bool
may_be k c body.Kind n = nat_le 1 n && nat_le n 3
may_be k c body.Mode n = if k == 3 then n == 0 else nat_le n 4095
may_be k c body.Uid n = if k == 3 then n == 0 else true
may_be k c body.Gid n = if k == 3 then n == 0 else true
may_be k c body.Links n = if k == 1 then n == 1 else (if k == 2 then n == 2 else n == 0)
may_be k c body.Count n = if k == 2 then nat_le n 16 else n == 0
may_be k c body.Start n = if c == 0 then n == 0 else nat_le n 15
may_be k c body.Zero n = n == 0
may_be k c body.Generation n = if k == 2 then nat_le n 0x0ffffffe else n == 0
may_be k c body.Seq n = if k == 1 then n == 0 else true
may_be k c body.Oid n = if k == 1 then n == 0 else true
may_be k c body.Ver n = if k == 1 then n == 0 else true
may_be k c body.Index n = if k == 3 then nat_le n 15 else n == 0

-- the kind, and the count of the layout, as they are known behind a number
abbrev pub kind_after : ℕ → BodyField → ℕ → ℕ
kind_after k body.Kind n = n
kind_after k _ n = k

abbrev pub count_after : ℕ → BodyField → ℕ → ℕ
count_after c body.Count n = n
count_after c _ n = c

abbrev pub body_fields : List BodyField
body_fields =
    body.Kind ∷ body.Mode ∷ body.Uid ∷ body.Gid ∷ body.Links ∷ body.Count ∷ body.Start ∷ body.Zero ∷ body.Generation ∷ body.Seq ∷ body.Oid ∷ body.Ver ∷ body.Index ∷ []

-- the bytes are these numbers, each of them allowed
unfoldable pub AreNumbers : ℕ → ℕ → List BodyField → List ℕ → Type 0
AreNumbers k c [] bytes = bytes ≡ []
AreNumbers k c (f ∷ fs) bytes =
    (n : ℕ) × (rest : List ℕ) × (n < 2 ^ (8 * byte_len (width_of f))) × (may_be k c f n ≡ true) × (bytes ≡ word (width_of f) n ++ rest) × AreNumbers (kind_after k f n) (count_after c f n) fs rest

-- the bytes are a body as a create has it
abbrev pub IsBody : List ℕ → Type 0
IsBody bytes = AreNumbers 0 0 body_fields bytes
