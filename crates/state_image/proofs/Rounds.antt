-- Payloads that are judged one after another, as a loop does.
use Rattle.std.proofs.Common.{◌≡◌, ℕ, suc, ◌+◌, List, Result, Ok, Err, refl, sym, ◌∙◌}
use Rattle.llog_store.specs.Log.{Entry}
use Rattle.llog_store.specs.Changes.{live_place, live_payload}
use Rattle.object_store.specs.declared.fault.ImageFault.{ImageFault}
use Rattle.object_store.specs.declared.fault.ImageFault.TheVariants as fault
use Rattle.object_store.specs.ImageReading.{Fails}
use Rattle.state_image.specs.StateReading.{maybe_payload, payloads_at}

module _ (targets index : ℕ) (entries : List Entry) (first count n : ℕ) (whole : Result (Unit {0}) ImageFault) where
  pub goes_on : count ≡ suc n → maybe_payload targets index (live_place 32768 first entries) (live_payload first entries) ≡ Ok tt → payloads_at targets index entries first count ≡ whole → payloads_at targets index entries (first + 1) n ≡ whole
  unfolding payloads_at
  goes_on is one so_far =
      let same : payloads_at targets index entries first count ≡ payloads_at targets index entries (first + 1) n = rw (is, one) refl in
      sym same ∙ so_far

  pub stops : (e : ImageFault) → count ≡ suc n → Fails e (maybe_payload targets index (live_place 32768 first entries) (live_payload first entries)) → payloads_at targets index entries first count ≡ whole → Fails e whole
  unfolding payloads_at
  stops (fault.BadImage p) is one so_far =
      let same : payloads_at targets index entries first count ≡ Err (fault.BadImage p) = rw (is, one) refl in
      sym so_far ∙ same
  stops fault.Memory is one so_far = tt

pub ended : (targets index : ℕ) (entries : List Entry) (first count : ℕ) (whole : Result (Unit {0}) ImageFault) → count ≡ 0 → payloads_at targets index entries first count ≡ whole → whole ≡ Ok tt
unfolding payloads_at
ended targets index entries first count whole is so_far =
    let same : payloads_at targets index entries first count ≡ Ok tt = rw is refl in
    sym so_far ∙ same
