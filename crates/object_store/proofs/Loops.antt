-- Items that are read one after another, as a loop does.
use Rattle.std.proofs.Common.{◌≡◌, ℕ, suc, List, Option, Some, Result, Ok, Err, refl, sym, ap, ◌∙◌}
use Rattle.std.specs.declared.cmp.Ordering.{Ordering}
use Rattle.std.specs.FinMap.{FinMap, insert}
use Rattle.object_store.specs.declared.fault.ImageFault.{ImageFault}
use Rattle.object_store.specs.declared.fault.ImageFault.TheVariants as fault
use Rattle.tree_model.specs.Tree.{Names}
use Rattle.object_store.specs.Objects.{Object, Attributes}
use Rattle.object_store.specs.ImageReading.{Fails, items_at}

module _ {K X : Type 0} {R : K → K → Ordering} (item : Option K → List ℕ → Result ((K × X) × List ℕ) ImageFault) where
  pub goes_on : (count n : ℕ) (last : Option K) (m : FinMap R X) (rest after : List ℕ) (k : K) (x : X) (whole : Result (FinMap R X × List ℕ) ImageFault) → count ≡ suc n → item last rest ≡ Ok ((k, x), after)
      → items_at item count last m rest ≡ whole → items_at item n (Some k) (insert m k x) after ≡ whole
  unfolding items_at
  goes_on count n last m rest after k x whole is one so_far =
      let same : items_at item count last m rest ≡ items_at item n (Some k) (insert m k x) after = rw (is, one) refl in
      sym same ∙ so_far

  pub stops : (count n : ℕ) (last : Option K) (m : FinMap R X) (rest : List ℕ) (e : ImageFault) (whole : Result (FinMap R X × List ℕ) ImageFault) → count ≡ suc n → item last rest ≡ Err e
      → items_at item count last m rest ≡ whole → whole ≡ Err e
  unfolding items_at
  stops count n last m rest e whole is one so_far =
      let same : items_at item count last m rest ≡ Err e = rw (is, one) refl in
      sym so_far ∙ same

  pub ended : (count : ℕ) (last : Option K) (m : FinMap R X) (rest : List ℕ) (whole : Result (FinMap R X × List ℕ) ImageFault) → count ≡ 0
      → items_at item count last m rest ≡ whole → whole ≡ Ok (m, rest)
  unfolding items_at
  ended count last m rest whole is so_far =
      let same : items_at item count last m rest ≡ Ok (m, rest) = rw is refl in
      sym so_far ∙ same

pub fails_so : {Y : Type 0} (e : ImageFault) (read : Result Y ImageFault) → read ≡ Err e → Fails e read
fails_so fault.Memory read h = tt
fails_so (fault.BadImage n) read h = h

pub entries_kept : (a b n : Object) (m : Names) → b ≡ record a { entries = b.entries } → n ≡ record b { entries = m } → n ≡ record a { entries = n.entries }
entries_kept a b n m before one =
    one ∙ ap (λ (o : Object). record o { entries = m }) before ∙ ap (λ (e : Names). record a { entries = e }) (sym (ap (λ (o : Object). o.entries) one))

pub attributes_kept : (a b n : Object) (m : Attributes) → b ≡ record a { attributes = b.attributes } → n ≡ record b { attributes = m } → n ≡ record a { attributes = n.attributes }
attributes_kept a b n m before one =
    one ∙ ap (λ (o : Object). record o { attributes = m }) before ∙ ap (λ (e : Attributes). record a { attributes = e }) (sym (ap (λ (o : Object). o.attributes) one))

pub fails_on : {K X : Type 0} {R : K → K → Ordering} (item : Option K → List ℕ → Result ((K × X) × List ℕ) ImageFault) (count n : ℕ) (last : Option K) (m : FinMap R X) (rest : List ℕ) (e : ImageFault) (whole : Result (FinMap R X × List ℕ) ImageFault)
    → count ≡ suc n → Fails e (item last rest) → items_at item count last m rest ≡ whole → Fails e whole
fails_on item count n last m rest fault.Memory whole is one so_far = tt
fails_on item count n last m rest (fault.BadImage place) whole is one so_far = stops item count n last m rest (fault.BadImage place) whole is one so_far
