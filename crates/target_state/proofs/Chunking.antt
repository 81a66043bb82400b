-- A log chunk by chunk.
use Rattle.std.proofs.Common.{◌≡◌, ◌≤◌, ◌+◌, ◌*◌, ℕ, zero, suc, List, [], ◌++◌, length, take, drop, refl, sym, ap, ◌∙◌, arith, add-one, append_assoc, append-nil, length-append, length-take}
use Rattle.std.proofs.Math.Seq.{take-add}
use Rattle.llog_store.specs.Chunked.{chunk_at, joined_to}

joined_front : (bytes : List ℕ) (n : ℕ) → joined_to bytes n ≡ take (32768 * n) bytes
unfolding joined_to
joined_front bytes zero = refl
joined_front bytes (suc n) =
    let split : 32768 * suc n ≡ 32768 * n + 32768 = omega arith in
    ap (λ (x : List ℕ). x ++ take 32768 (drop (32768 * n) bytes)) (joined_front bytes n) ∙ sym (ap (λ (m : ℕ). take m bytes) split ∙ take-add (32768 * n) 32768 bytes)

pub joined_none : (bytes : List ℕ) → joined_to bytes 0 ≡ []
unfolding joined_to
joined_none bytes = refl

pub joined_next : (bytes : List ℕ) (n : ℕ) → joined_to bytes (n + 1) ≡ joined_to bytes n ++ chunk_at bytes n
unfolding joined_to
joined_next bytes n = ap (λ k. joined_to bytes k) (add-one n)

-- no more bytes than there are
pub joined_short : (bytes : List ℕ) (n : ℕ) → length (joined_to bytes n) + length (chunk_at bytes n) ≤ length bytes
joined_short bytes n =
    let a = ap length (joined_next bytes n) in
    let b = length-append (joined_to bytes n) (chunk_at bytes n) in
    let c = ap length (joined_front bytes (n + 1)) in
    let d = length-take (32768 * (n + 1)) bytes in
    omega (arith, a, b, c, d)

-- the chunks that were added
pub begun : (out bytes : List ℕ) → out ≡ out ++ joined_to bytes 0
begun out bytes = sym (ap (λ (l : List ℕ). out ++ l) (joined_none bytes) ∙ append-nil out)

pub added : (first out new bytes : List ℕ) (n : ℕ) → new ≡ out ++ chunk_at bytes n → out ≡ first ++ joined_to bytes n → new ≡ first ++ joined_to bytes (n + 1)
added first out new bytes n is before =
    is ∙ ap (λ (l : List ℕ). l ++ chunk_at bytes n) before ∙ append_assoc first (joined_to bytes n) (chunk_at bytes n) ∙ ap (λ (l : List ℕ). first ++ l) (sym (joined_next bytes n))
