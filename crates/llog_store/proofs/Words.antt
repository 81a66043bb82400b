-- Numbers and zeros in bytes: what is written is read, and what is read was written.
use Rattle.std.proofs.Common.{◌≡◌, ℕ, zero, suc, ◌+◌, ◌^◌, ◌≤◌, ◌<◌, ◌%◌, List, [], ◌∷◌, length, take, drop, Option, Some, None, refl, ap, arith, inl, inr}
use Rattle.std.specs.Option.{option_map}
use Rattle.std.proofs.lemmas.List.{length-replicate, get_or-drop, get_or-take, get_or_past, length-take}
use Rattle.std.proofs.lemmas.Bool.{cases_lt}
use Rattle.std.proofs.lemmas.Nat.{from_le_bytes-to_le_bytes_4, le_bytes_4}
use Rattle.llog_store.specs.Numbers.{word, worth, zeros, pad8, IsBytes, first_set}

pub IsBytes-drop : (n : ℕ) (bytes : List ℕ) → IsBytes bytes → IsBytes (drop n bytes)
IsBytes-drop n bytes h i = rw get_or-drop (h (n + i))

pub IsBytes-take : (n : ℕ) (bytes : List ℕ) → IsBytes bytes → IsBytes (take n bytes)
IsBytes-take n bytes h i =
    elim (cases_lt i n) [
      | inl lt ↦ rw (get_or-take n bytes i 0 lt) (h i)
      | inr le ↦ rw (get_or_past (take n bytes) i 0 (omega (arith, length-take n bytes))) (omega arith)
    ]

pub length-word : (n : ℕ) → length (word n) ≡ 4
unfolding word
length-word n = refl

pub word_back : (bytes : List ℕ) → length bytes ≡ 4 → IsBytes bytes → word (worth bytes) ≡ bytes
unfolding word worth
word_back bytes len fits = le_bytes_4 bytes _ len fits refl

pub word_again : (n : ℕ) → n < 2 ^ 32 → worth (word n) ≡ n
unfolding word worth
word_again n lt = from_le_bytes-to_le_bytes_4 n lt

pub worth_below : (bytes : List ℕ) → IsBytes bytes → worth bytes < 2 ^ 32
unfolding worth
worth_below bytes fits = omega (arith, fits 0, fits 1, fits 2, fits 3)

pub set_zeros : (n : ℕ) → first_set (zeros n) ≡ None
unfolding zeros
set_zeros zero = refl
set_zeros (suc n) = rw (set_zeros n) refl

none_mapped : (o : Option ℕ) → option_map (λ i. suc i) o ≡ None → o ≡ None
none_mapped None e = refl
none_mapped (Some i) e = absurd cc

pub zeros_set : (bytes : List ℕ) → first_set bytes ≡ None → bytes ≡ zeros (length bytes)
unfolding zeros
zeros_set [] e = refl
zeros_set (zero ∷ bytes) e = ap (λ (t : List ℕ). 0 ∷ t) (zeros_set bytes (none_mapped (first_set bytes) e))
zeros_set (suc b ∷ bytes) e = absurd cc

pub length-zeros : (n : ℕ) → length (zeros n) ≡ n
unfolding zeros
length-zeros n = length-replicate n 0

-- a number rounded up, as the number and less than 8 besides
pub pad8_above : (n : ℕ) → n ≤ pad8 n
unfolding pad8
pad8_above n = omega arith

pub pad8_near : (n : ℕ) → pad8 n < n + 8
unfolding pad8
pad8_near n = omega arith

pub pad8_even : (n : ℕ) → pad8 n % 8 ≡ 0
unfolding pad8
pad8_even n = omega arith
