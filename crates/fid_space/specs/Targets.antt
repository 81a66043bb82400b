-- A set of targets is a number: target t is a member where bit t is 1.
use Rattle.std.specs.Prelude.{ℕ, ◌^◌, ◌==◌, Bool, bit_and, bit_or, bit_xor}
use Rattle.std.specs.Int.{bit_at}

abbrev pub is_member : ℕ → ℕ → Bool
is_member set target = bit_at set target == 1

-- the set with one member more
abbrev pub joined : ℕ → ℕ → ℕ
joined set target = bit_or set (2 ^ target)

-- whether each member of the other set is one of this
abbrev pub covers : ℕ → ℕ → Bool
covers set other = bit_and set other == other

-- the members of either set
abbrev pub union : ℕ → ℕ → ℕ
union set other = bit_or set other

-- the members of the set that the other has not
abbrev pub minus : ℕ → ℕ → ℕ
minus set other = bit_xor set (bit_and set other)
