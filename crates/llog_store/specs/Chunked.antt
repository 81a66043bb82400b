-- The bytes of a log in chunks: each has 32,768 of them, and the last one as many as are left.
use Rattle.std.specs.Prelude.{ℕ, zero, suc, ◌+◌, ◌*◌, ◌/◌, nat_lt, if◌then◌else◌, List, [], ◌++◌, length, take, drop, Option, Some, None}

-- how many there are
abbrev pub chunk_count : List ℕ → ℕ
chunk_count bytes = (length bytes + 32767) / 32768

-- the bytes of one
abbrev pub chunk_at : List ℕ → ℕ → List ℕ
chunk_at bytes i = take 32768 (drop (32768 * i) bytes)

abbrev pub chunk_of : List ℕ → ℕ → Option (List ℕ)
chunk_of bytes i = if nat_lt i (chunk_count bytes) then Some (chunk_at bytes i) else None

-- the first n, one behind the other
unfoldable pub joined_to : List ℕ → ℕ → List ℕ
joined_to bytes zero = []
joined_to bytes (suc n) = joined_to bytes n ++ chunk_at bytes n
