-- Zeros behind bytes.
use Rattle.std.proofs.Common.{◌≡◌, ◌-◌, ℕ, zero, suc, replicate, drop, ◌∙◌, ap, arith}

pub drop-replicate : (n v k : ℕ) → drop k (replicate n v) ≡ replicate (n - k) v
drop-replicate n v zero = let e : n ≡ n - 0 = omega arith in ap (λ (m : ℕ). replicate m v) e
drop-replicate zero v (suc k) = let e : 0 ≡ 0 - suc k = omega arith in ap (λ (m : ℕ). replicate m v) e
drop-replicate (suc n) v (suc k) = let e : n - k ≡ suc n - suc k = omega arith in drop-replicate n v k ∙ ap (λ (m : ℕ). replicate m v) e
