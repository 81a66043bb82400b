-- A record of a log in the order of all.
use Rattle.std.proofs.Common.{◌≡◌, ℕ, ◌==◌, ◌&&◌, ◌||◌, Bool, cond, nat_lt, List, Option, Some, true, false, refl, sym, ap, ◌∙◌, arith, nat_eq}
use Rattle.std.proofs.lemmas.Bool.Decides.{nat_tests}
use Rattle.std.specs.Ordering.{nat_cmp, ordering_then, is_eq}
use Rattle.std.specs.declared.cmp.Ordering.{Ordering}
use Rattle.std.specs.declared.cmp.Ordering.TheVariants.{Less, Equal, Greater}
use Rattle.std.specs.Cmp.Lexicographic.{slice_cmp, pointwise}
use Rattle.std.proofs.lemmas.Cmp.{same_from_slice_cmp}
use Rattle.update_record.specs.declared.operation.Record.{Record}
use Rattle.update_recovery.specs.declared.found.Found.{Found}
use Rattle.update_recovery.specs.Live.{found_cmp, is_of}
use Rattle.update_recovery.specs.Union.{is_open, is_found}

pick : (l e : Bool) (o : Ordering) → (l ≡ true → e ≡ false) → is_eq (ordering_then (cond l Less (cond e Equal Greater)) o) ≡ (e && is_eq o)
pick true e o h = sym (ap (λ b. b && is_eq o) (h refl))
pick false true o h = refl
pick false false o h = refl

less_apart : (a b : ℕ) → nat_lt a b ≡ true → nat_eq a b ≡ false
less_apart a b h = grind (arith, nat_tests)

number_first : (a b : ℕ) (o : Ordering) → is_eq (ordering_then (nat_cmp a b) o) ≡ ((a == b) && is_eq o)
number_first a b o = pick (nat_lt a b) (nat_eq a b) o (less_apart a b)

same_bytes : (a b : List ℕ) → is_eq (slice_cmp nat_cmp a b) ≡ pointwise nat_eq a b
same_bytes a b = same_from_slice_cmp nat_cmp is_eq (pointwise nat_eq) refl (λ _ _. refl) (λ _ _. refl) (λ x y xs ys o h. grind (arith, nat_tests)) a b (slice_cmp nat_cmp a b) refl

same_key : (key k : Found) (r : Record) (text : List ℕ) → key.stamp ≡ r.stamp → key.master ≡ r.id.master → key.batch ≡ r.id.batch → key.text.items ≡ text → is_eq (found_cmp key k) ≡ is_of k r text
same_key key k r text a b d e =
    number_first key.stamp k.stamp _
    ∙ ap (λ x. (key.stamp == k.stamp) && x) (number_first key.master k.master _ ∙ ap (λ x. (key.master == k.master) && x) (number_first key.batch k.batch _ ∙ ap (λ x. (key.batch == k.batch) && x) (same_bytes key.text.items k.text.items)))
    ∙ ap (λ x. (x == k.stamp) && ((key.master == k.master) && ((key.batch == k.batch) && pointwise nat_eq key.text.items k.text.items))) a
    ∙ ap (λ x. (r.stamp == k.stamp) && ((x == k.master) && ((key.batch == k.batch) && pointwise nat_eq key.text.items k.text.items))) b
    ∙ ap (λ x. (r.stamp == k.stamp) && ((r.id.master == k.master) && ((x == k.batch) && pointwise nat_eq key.text.items k.text.items))) d
    ∙ ap (λ x. (r.stamp == k.stamp) && ((r.id.master == k.master) && ((r.id.batch == k.batch) && pointwise nat_eq x k.text.items))) e

cond_or : (a b : Bool) → cond a true b ≡ (a || b)
cond_or true b = refl
cond_or false b = refl

-- a record that isn't open adds nothing
pub adds_none : (epoch : ℕ) (marks : List ℕ) (k : Found) (text : List ℕ) (r : Record) (o : Option Record) (b : Bool) → o ≡ Some r → is_open epoch marks r ≡ false → b ≡ (is_found epoch marks k o text || b)
adds_none epoch marks k text r o b is shut =
    ap (λ x. (x && is_of k r text) || b) (sym shut) ∙ ap (λ o. is_found epoch marks k o text || b) (sym is)

-- an open one is added
pub adds_one : (epoch : ℕ) (marks : List ℕ) (key k : Found) (text : List ℕ) (r : Record) (o : Option Record) (b now : Bool) → o ≡ Some r → is_open epoch marks r ≡ true
    → key.stamp ≡ r.stamp → key.master ≡ r.id.master → key.batch ≡ r.id.batch → key.text.items ≡ text → now ≡ cond (is_eq (found_cmp key k)) true b → now ≡ (is_found epoch marks k o text || b)
adds_one epoch marks key k text r o b now is here s m n e step =
    step ∙ ap (λ x. cond x true b) (same_key key k r text s m n e) ∙ cond_or (is_of k r text) b
    ∙ ap (λ x. (x && is_of k r text) || b) (sym here)
    ∙ ap (λ o. is_found epoch marks k o text || b) (sym is)
