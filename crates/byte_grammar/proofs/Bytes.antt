-- Numbers and zeros in bytes: what is written is read, and what is read was written.
use Rattle.std.proofs.Common.{◌≡◌, ℕ, zero, suc, ◌+◌, ◌*◌, ◌^◌, ◌<◌, ◌%◌, List, [], ◌∷◌, length, take, drop, Option, Some, None, refl, ap, arith, inl, inr}
use Rattle.std.specs.Option.{option_map}
use Rattle.std.specs.Int.{Width, w8, w16, w32, w64, byte_len}
use Rattle.std.proofs.lemmas.List.{length-replicate, get_or-drop, get_or-take, get_or_past, length-take}
use Rattle.std.proofs.lemmas.Bool.{cases_lt}
use Rattle.std.proofs.lemmas.Nat.{from_le_bytes-to_le_bytes_2, from_le_bytes-to_le_bytes_4, from_le_bytes-to_le_bytes_8, le_bytes_2, le_bytes_4, le_bytes_8}
use Rattle.byte_grammar.specs.Numbers.{word, worth, IsBytes, first_set, zeros}

pub IsBytes-drop : (n : ℕ) (bytes : List ℕ) → IsBytes bytes → IsBytes (drop n bytes)
IsBytes-drop n bytes h i = rw get_or-drop (h (n + i))

pub IsBytes-take : (n : ℕ) (bytes : List ℕ) → IsBytes bytes → IsBytes (take n bytes)
IsBytes-take n bytes h i =
    elim (cases_lt i n) [
      | inl lt ↦ rw (get_or-take n bytes i 0 lt) (h i)
      | inr le ↦ rw (get_or_past (take n bytes) i 0 (omega (arith, length-take n bytes))) (omega arith)
    ]

pub record IsWide (w : Width) : Type 0 where
  pub len : (n : ℕ) → length (word w n) ≡ byte_len w
  pub back : (bytes : List ℕ) → length bytes ≡ byte_len w → IsBytes bytes → word w (worth w bytes) ≡ bytes
  pub again : (n : ℕ) → n < 2 ^ (8 * byte_len w) → worth w (word w n) ≡ n
  pub below : (bytes : List ℕ) → IsBytes bytes → worth w bytes < 2 ^ (8 * byte_len w)

one_back : (bytes : List ℕ) → length bytes ≡ 1 → IsBytes bytes → word w8 (worth w8 bytes) ≡ bytes
unfolding word worth
one_back [] e h = absurd (omega arith)
one_back (b ∷ []) e h = let is : b % 256 ≡ b = omega (arith, h 0) in ap (λ (x : ℕ). x ∷ []) is
one_back (b ∷ c ∷ bytes) e h = absurd (omega arith)

pub wide8 : IsWide w8
unfolding word worth
wide8 = record {
  len = λ n. refl;
  back = one_back;
  again = λ n lt. let is : n % 256 ≡ n = omega arith in is;
  below = λ bytes fits. omega (arith, fits 0);
}

pub wide16 : IsWide w16
unfolding word worth
wide16 = record {
  len = λ n. refl;
  back = λ bytes len fits. le_bytes_2 bytes _ len fits refl;
  again = λ n lt. from_le_bytes-to_le_bytes_2 n lt;
  below = λ bytes fits. omega (arith, fits 0, fits 1);
}

pub wide32 : IsWide w32
unfolding word worth
wide32 = record {
  len = λ n. refl;
  back = λ bytes len fits. le_bytes_4 bytes _ len fits refl;
  again = λ n lt. from_le_bytes-to_le_bytes_4 n lt;
  below = λ bytes fits. omega (arith, fits 0, fits 1, fits 2, fits 3);
}

pub wide64 : IsWide w64
unfolding word worth
wide64 = record {
  len = λ n. refl;
  back = λ bytes len fits. le_bytes_8 bytes _ len fits refl;
  again = λ n lt. from_le_bytes-to_le_bytes_8 n lt;
  below = λ bytes fits. omega (arith, fits 0, fits 1, fits 2, fits 3, fits 4, fits 5, fits 6, fits 7);
}

pub set_zeros : (n : ℕ) → first_set (zeros n) ≡ None
unfolding zeros
set_zeros zero = refl
set_zeros (suc n) = rw (set_zeros n) refl

none_mapped : (o : Option ℕ) → option_map (λ i. suc i) o ≡ None → o ≡ None
none_mapped None e = refl
none_mapped (Some i) e = absurd cc

pub zeros_set : (bytes : List ℕ) → first_set bytes ≡ None → bytes ≡ zeros (length bytes)
unfolding zeros
zeros_set [] e = refl
zeros_set (zero ∷ bytes) e = ap (λ (t : List ℕ). 0 ∷ t) (zeros_set bytes (none_mapped (first_set bytes) e))
zeros_set (suc b ∷ bytes) e = absurd cc

pub length-zeros : (n : ℕ) → length (zeros n) ≡ n
unfolding zeros
length-zeros n = length-replicate n 0
