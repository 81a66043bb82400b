-- What a call answered, and the failed flags before and after it.
use Rattle.std.specs.Prelude.{Result, Ok, Err, IfOk, IfErr, IsTrue, is_err}
use Rattle.std.proofs.Common.{◌≡◌, Bool, true, false, refl, sym, ◌∙◌}
use Rattle.std.proofs.lemmas.Bool.{false≢true, true≢false}

module _ {T E : Type 0} where
  pub err_is : (r : Result T E) (P : Type 0) → is_err r ≡ true → IfErr r (λ _. P) → P
  err_is (Ok x) P is p = absurd (false≢true is)
  err_is (Err e) P is p = p

  pub ok_is : (r : Result T E) (P : Type 0) → is_err r ≡ false → IfOk r (λ _. P) → P
  ok_is (Ok x) P is p = p
  ok_is (Err e) P is p = absurd (true≢false is)

pub worked : (old new : Bool) → (IsTrue old → IsTrue new) → new ≡ false → old ≡ false
worked false new failed is = refl
worked true new failed is = absurd (false≢true (sym is ∙ failed refl))
