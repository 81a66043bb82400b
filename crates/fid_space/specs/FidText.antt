-- The one text of a FID: its three numbers in lower-case hexadecimal digits, without leading zeros.
use Rattle.std.specs.Prelude.{ℕ, ◌<◌, ◌^◌, List, ◌++◌, codes, false}
use Rattle.std.specs.Fmt.{digits}
use Rattle.fid_space.specs.declared.fid.Fid.{Fid}

abbrev pub hex : ℕ → List ℕ
hex n = digits 16 false n

abbrev pub fid_text : Fid → List ℕ
fid_text f = codes "[0x" ++ (hex f.seq ++ (codes ":0x" ++ (hex f.oid ++ (codes ":0x" ++ (hex f.ver ++ codes "]")))))

-- what a FID's fields can hold
abbrev pub IsFid : Fid → Type 0
IsFid f = (f.seq < 2 ^ 64) × (f.oid < 2 ^ 32) × (f.ver < 2 ^ 32)
