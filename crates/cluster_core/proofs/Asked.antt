-- A request's message has a spelling.
use Rattle.std.proofs.Common.{◌≡◌, ◌<◌, ◌≤◌, ◌^◌, ℕ, ◌+◌, Bool, true, false, nat_le, ◌&&◌, ◌||◌, List, length, refl, arith}
use Rattle.std.proofs.lemmas.Bool.{le-leb, leb-true}
use Rattle.update_record.specs.declared.message.MessageKind.TheVariants as kind
use Rattle.update_record.specs.Messages.{FitsMessage, is_sender}

both : (a b c : Bool) → b ≡ true → c ≡ true → a || (b && c) ≡ true
both true b c e f = refl
both false true true e f = refl
both false true false e f = absurd cc
both false false c e f = absurd cc

is_client : (client : ℕ) → client < 64 → is_sender (256 + client) ≡ true
is_client client h =
    both (nat_le (256 + client) 15) (nat_le 256 (256 + client)) (nat_le (256 + client) 319) (le-leb 256 (256 + client) (omega arith)) (le-leb (256 + client) 319 (omega (arith, h)))

pub request_fits : (client home number : ℕ) (body : List ℕ) → client < 64 → home ≤ 15 → number ≤ 65536 → length body < 2 ^ 32
    → FitsMessage (record { kind = kind.Request; epoch = 0; from = 256 + client; to = home; number = number; attempt = 0; ask = 0; value = 0; body = body })
request_fits client home number body c h n b =
    record {
      epoch = omega arith;
      epoch_fits = refl;
      sender = is_client client c;
      receiver = h;
      number = omega (arith, n);
      number_fits = refl;
      attempt = omega arith;
      attempt_fits = refl;
      ask = omega arith;
      ask_fits = refl;
      value = omega arith;
      value_fits = refl;
      size = b;
      body = tt;
    }

-- a client is one of 64
pub sender_low : (from : ℕ) → is_sender from ≡ true → from < 320
sender_low from e = by_test (nat_le from 15) (nat_le 256 from) (nat_le from 319) refl refl refl e
  where
    by_test : (low more less : Bool) → nat_le from 15 ≡ low → nat_le 256 from ≡ more → nat_le from 319 ≡ less → low || (more && less) ≡ true → from < 320
    by_test true more less a b c e = omega (arith, leb-true from 15 a)
    by_test false true true a b c e = omega (arith, leb-true from 319 c)
    by_test false true false a b c e = absurd cc
    by_test false false less a b c e = absurd cc
