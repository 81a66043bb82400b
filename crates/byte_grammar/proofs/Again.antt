-- A part and a number of what was written are found again.
use Rattle.std.proofs.Common.{◌≡◌, ℕ, ◌*◌, ◌^◌, ◌<◌, List, ◌++◌, length, Some, ap, ◌∙◌, arith, refl, length-append}
use Rattle.std.specs.Int.{Width, byte_len}
use Rattle.std.proofs.lemmas.Bool.{le-ltb}
use Rattle.std.proofs.lemmas.List.{take_at, drop_at}
use Rattle.byte_grammar.specs.Numbers.{word, worth}
use Rattle.byte_grammar.specs.Values.{◌>>=◌, part_at, number_at}
use Rattle.byte_grammar.proofs.Bytes.{IsWide}

pub part_again : (n : ℕ) (text rest : List ℕ) → length text ≡ n → part_at n (text ++ rest) ≡ Some (text, rest)
unfolding part_at
part_again n text rest len =
    let long = le-ltb (length (text ++ rest)) n (omega (arith, length-append text rest)) in
    rw (long, take_at text rest n len, drop_at text rest n len) refl

pub number_back : (w : Width) (wide : IsWide w) (n : ℕ) (rest : List ℕ) → n < 2 ^ (8 * byte_len w) → number_at w (word w n ++ rest) ≡ Some (n, rest)
unfolding number_at
number_back w wide n rest lt = ap (λ o. o >>= λ part. Some (worth w part.0, part.1)) (part_again (byte_len w) (word w n) rest (wide.len n)) ∙ ap (λ (m : ℕ). Some (m, rest)) (wide.again n lt)
