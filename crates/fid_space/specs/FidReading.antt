-- Reading a FID from left to right, with the first byte that can't stand where it does.
use Rattle.std.specs.Prelude.{◌≡◌, ℕ, ◌-◌, Bool, ◌&&◌, ◌||◌, ◌==◌, nat_le, nat_lt, if◌then◌else◌, List, [], ◌∷◌, length, drop, slice_index, codes, Result, Ok, Err}
use Rattle.std.specs.Str.Parse.{digits_value}
use Rattle.fid_space.specs.declared.fid.Fid.{Fid}
use Rattle.fid_space.specs.declared.fid.FidFault.{FidFault}
use Rattle.fid_space.specs.declared.fid.FidFault.TheVariants.{BadShape, BadNumber}

infixl 10 ◌>>=◌
abbrev pub ◌>>=◌ : {A B : Type 0} → Result A FidFault → (A → Result B FidFault) → Result B FidFault
(Ok x) >>= f = f x
(Err e) >>= f = Err e

-- what a function returned, seen by view, is what reading gives
abbrev pub Sees : {X Y : Type 0} → (X → Y) → Result X FidFault → Result Y FidFault → Type 0
Sees view (Ok x) read = read ≡ Ok (view x)
Sees view (Err e) read = read ≡ Err e

-- a digit, in lower case
abbrev pub is_hex : ℕ → Bool
is_hex c = (nat_le 48 c && nat_le c 57) || (nat_le 97 c && nat_le c 102)

-- the digits at the front
abbrev pub hex_run : List ℕ → List ℕ
hex_run [] = []
hex_run (c ∷ rest) = if is_hex c then c ∷ hex_run rest else []

-- Of a text of len bytes, rest is left: it begins with the literal. A place is len without what is left.
abbrev pub literal_at : ℕ → List ℕ → List ℕ → Result (List ℕ) FidFault
literal_at len [] rest = Ok rest
literal_at len (b ∷ bs) [] = Err (BadShape len)
literal_at len (b ∷ bs) (c ∷ rest) = if c == b then literal_at len bs rest else Err (BadShape (len - length (c ∷ rest)))

abbrev pub number_of : ℕ → ℕ → List ℕ → List ℕ → Result (ℕ × List ℕ) FidFault
number_of len most ds rest =
    if length ds == 0 then Err (BadShape (len - length rest))
    else (if nat_lt most (length ds) || (nat_lt 1 (length ds) && (slice_index ds 0 == 48)) then Err (BadNumber (len - length rest)) else Ok (digits_value 16 ds, drop (length ds) rest))

-- at most so many digits
unfoldable pub number_at : ℕ → ℕ → List ℕ → Result (ℕ × List ℕ) FidFault
number_at len most rest = number_of len most (hex_run rest) rest

unfoldable pub end_at : ℕ → List ℕ → Result (List ℕ) FidFault
end_at len rest = if length rest == 0 then Ok rest else Err (BadShape (len - length rest))

unfoldable pub fid_at : List ℕ → Result Fid FidFault
fid_at text = do
  a ← literal_at (length text) (codes "[0x") text
  seq ← number_at (length text) 16 a
  b ← literal_at (length text) (codes ":0x") seq.1
  oid ← number_at (length text) 8 b
  c ← literal_at (length text) (codes ":0x") oid.1
  ver ← number_at (length text) 8 c
  d ← literal_at (length text) (codes "]") ver.1
  e ← end_at (length text) d
  Ok (record { seq = seq.0; oid = oid.0; ver = ver.0 })
