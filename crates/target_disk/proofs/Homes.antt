-- The home table put in its place.
use Rattle.std.specs.Prelude.{Result, Ok, Err, IfErr, IsErr}
use Rattle.std.proofs.lemmas.Result.{IfOk-from_err}
use Rattle.std.proofs.Common.{◌≡◌, inl, ℕ, List, [], ◌∷◌, Option, length, refl, subst}
use Rattle.outside.specs.Disk.{Shown, ChangesOnly, put, settles}
use Rattle.target_disk.specs.Calls.{Homes, TornHome}
use Rattle.target_disk.specs.Tables.{home_at, table_len}

module _ {T E : Type 0} where
  pub IfErr-all : (r : Result T E) (P : Type 0) → P → IfErr r (λ _. P)
  IfErr-all (Ok x) P p = tt
  IfErr-all (Err e) P p = p

  pub homes_torn : (table : List ℕ) (r : Result T E) (old new : Shown) → IsErr r → length table ≡ table_len → ChangesOnly home_at (length table) old.settled new.settled → Homes table r old new
  homes_torn table r old new err len changes = record {
    torn = λ clean. IfErr-all r (TornHome table old new) (record { mid = old.content; either = inl (refl, subst (λ (l : List (Option ℕ)). ChangesOnly home_at table_len l new.settled) clean (subst (λ (n : ℕ). ChangesOnly home_at n old.settled new.settled) len changes)) });
    content = IfOk-from_err r (λ _. new.content ≡ put (put old.content home_at table) 0 (0 ∷ [])) err;
    settled = IfOk-from_err r (λ _. new.settled ≡ settles new.content) err;
  }
