-- Seats that are read one after another, as a loop does.
use Rattle.std.proofs.Common.{◌≡◌, ℕ, suc, ◌+◌, List, Option, Result, Ok, Err, refl, sym, ◌∙◌}
use Rattle.reply_cache.specs.declared.seats.Seat.{Seat}
use Rattle.reply_cache.specs.Seats.{put_seat}
use Rattle.object_store.specs.declared.fault.ImageFault.{ImageFault}
use Rattle.state_image.specs.declared.reading.Taken.{Taken}
use Rattle.state_image.specs.FrontReading.{seat_at, taken_at}

module _ (len count n least : ℕ) (seats : List (Option Seat)) (rest : List ℕ) where
  pub one_more : (taken : Taken) (after : List ℕ) → count ≡ suc n → seat_at len least rest ≡ Ok (taken, after)
      → taken_at len count least seats rest ≡ taken_at len n (taken.client + 1) (put_seat seats taken.client taken.number taken.reply) after
  unfolding taken_at
  one_more taken after is one = rw (is, one) refl

  pub goes_on : (whole : Result (List (Option Seat) × List ℕ) ImageFault) (taken : Taken) (after : List ℕ) → count ≡ suc n → seat_at len least rest ≡ Ok (taken, after) → taken_at len count least seats rest ≡ whole
      → taken_at len n (taken.client + 1) (put_seat seats taken.client taken.number taken.reply) after ≡ whole
  goes_on whole taken after is one so_far = sym (one_more taken after is one) ∙ so_far

  pub stops : (whole : Result (List (Option Seat) × List ℕ) ImageFault) (e : ImageFault) → count ≡ suc n → seat_at len least rest ≡ Err e → taken_at len count least seats rest ≡ whole → whole ≡ Err e
  unfolding taken_at
  stops whole e is one so_far =
      let same : taken_at len count least seats rest ≡ Err e = rw (is, one) refl in
      sym so_far ∙ same

pub ended : (len count least : ℕ) (seats : List (Option Seat)) (rest : List ℕ) (whole : Result (List (Option Seat) × List ℕ) ImageFault) → count ≡ 0 → taken_at len count least seats rest ≡ whole → whole ≡ Ok (seats, rest)
unfolding taken_at
ended len count least seats rest whole is so_far =
    let same : taken_at len count least seats rest ≡ Ok (seats, rest) = rw is refl in
    sym so_far ∙ same
