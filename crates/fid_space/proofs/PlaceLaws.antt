-- A FID that a client makes lies in the range of the target that it was made on.
use Rattle.std.proofs.Common.{◌≡◌, ◌<◌, ◌≤◌, ◌+◌, ◌-◌, ◌/◌, ◌%◌, ◌==◌, ◌&&◌, nat_le, nat_lt, ℕ, Bool, true, false, cond, Option, Some, None, refl, ap, ◌∙◌, subst, arith}
use Rattle.std.proofs.lemmas.Bool.Decides.{nat_tests}
use Rattle.fid_space.specs.declared.fid.Fid.{Fid}
use Rattle.fid_space.specs.Places.{base_of, place_of, is_client, client_fid}
use Rattle.fid_space.proofs.Splitting.{apart}

pub some_of : (b : Bool) (g f : Fid) → ◌≡◌ {A = Option Fid} (cond b (Some g) None) (Some f) → (b ≡ true) × (g ≡ f)
some_of true g f e = (refl, cc)
some_of false g f e = cc

within : (target client oid : ℕ) → (nat_lt target 16 && nat_lt client 0x8000 && nat_le 1 oid) ≡ true → (target < 16) × (client < 0x8000) × (1 ≤ oid)
within target client oid e = (grind (arith, nat_tests), grind (arith, nat_tests), grind (arith, nat_tests))

made : ℕ → ℕ → ℕ → Fid
made target client oid = record { seq = base_of target + client; oid = oid; ver = 0 }

range_of : (target client : ℕ) → target < 16 → client < 0x8000 → (nat_le (base_of 0) (base_of target + client) && nat_lt (base_of target + client) (base_of 16)) ≡ true
range_of target client low small = grind (arith, nat_tests)

made_place : (target client oid : ℕ) → target < 16 → client < 0x8000 → place_of 16 (made target client oid) ≡ Some target
unfolding made
made_place target client oid low small =
    let seq = base_of target + client in
    let other : (seq == 0x200000007) ≡ false = apart seq 0x200000007 (λ (e : seq ≡ 0x200000007). omega (arith, e)) in
    let which : (seq - base_of 0) / 0x100000 ≡ target = omega arith in
    ap (λ b. cond b (Some 0) (cond (nat_le (base_of 0) seq && nat_lt seq (base_of 16)) (Some ((seq - base_of 0) / 0x100000)) None)) other
    ∙ ap (λ b. cond b (Some ((seq - base_of 0) / 0x100000)) None) (range_of target client low small)
    ∙ ap Some which

made_client : (target client oid : ℕ) → target < 16 → client < 0x8000 → 1 ≤ oid → is_client 16 (made target client oid) ≡ true
unfolding made
made_client target client oid low small some =
    let seq = base_of target + client in
    let offset : (seq - base_of 0) % 0x100000 ≡ client = omega arith in
    let near : nat_lt client 0x8000 ≡ true = grind (arith, nat_tests) in
    let named : nat_le 1 oid ≡ true = grind (arith, nat_tests) in
    ap (λ b. b && nat_lt ((seq - base_of 0) % 0x100000) 0x8000 && nat_le 1 oid && (0 == 0)) (range_of target client low small)
    ∙ ap (λ n. nat_lt n 0x8000 && nat_le 1 oid && (0 == 0)) offset
    ∙ ap (λ b. b && nat_le 1 oid && (0 == 0)) near
    ∙ ap (λ b. b && (0 == 0)) named

pub client_place : (target client oid : ℕ) (f : Fid) → client_fid target client oid ≡ Some f → place_of 16 f ≡ Some target
unfolding made
client_place target client oid f e =
    let both = some_of (nat_lt target 16 && nat_lt client 0x8000 && nat_le 1 oid) (made target client oid) f e in
    let small = within target client oid both.0 in
    subst (λ g. place_of 16 g ≡ Some target) both.1 (made_place target client oid small.0 small.1)

pub client_named : (target client oid : ℕ) (f : Fid) → client_fid target client oid ≡ Some f → is_client 16 f ≡ true
unfolding made
client_named target client oid f e =
    let both = some_of (nat_lt target 16 && nat_lt client 0x8000 && nat_le 1 oid) (made target client oid) f e in
    let small = within target client oid both.0 in
    subst (λ g. is_client 16 g ≡ true) both.1 (made_client target client oid small.0 small.1 small.2)
