-- What an image shows, in numbers.
use Rattle.std.proofs.Common.{◌≡◌, ◌<◌, ◌⊎◌, inl, inr, ⊎_elim, ℕ, zero, suc, Bool, true, false, true≢false, if◌then◌else◌, ◌||◌, ◌+◌, List, [], ◌∷◌, length, refl, sym, ap, ◌∙◌, subst, arith, zero-add}
use Rattle.std.specs.Prelude.{not, ◌&&◌}
use Rattle.std.specs.List.{AllByRecursion}
use Rattle.std.proofs.lemmas.Bool.Decides.{eqb_tells}
use Rattle.fid_space.specs.Targets.{is_member}
use Rattle.update_record.specs.Spelling.{targets_from}
use Rattle.update_protocol.specs.Lists.{IsIn, Rising, put}
use Rattle.update_protocol.specs.Machine.{AreDistinct, Entry, Fits, Line, Opened, Says, State, Up, all_named, new_among, number}
use Rattle.update_protocol.specs.Rows.{FitsTarget, has, new_in}
use Rattle.update_protocol.specs.States.{Spoken, entries_at, entry_at, number_at, numbers_at, state_with}
use Rattle.update_protocol.specs.World.{Accepted, Full, History, at, is_on, request_of}
use Rattle.update_protocol.proofs.Basics.{by_bool}
use Rattle.update_protocol.proofs.Naming.{Apart, all_named_too, has_number, in_numbers, lifted, number_in, one_place}
use Rattle.update_protocol.proofs.Saying.{SetsOfParts, entry_here}
use Rattle.update_protocol.proofs.Shares.{member_in, member_of, placed, places_from, places_rising, rising_same}
use Rattle.update_protocol.proofs.Showing.{has_mem, mem_has}

-- ---- tests

pub same_tests : (b c : Bool) → (b ≡ true → c ≡ true) → (c ≡ true → b ≡ true) → b ≡ c
same_tests true c f g = sym (f refl)
same_tests false true f g = g refl
same_tests false false f g = refl

pub either_way : (b c : Bool) → (b || c) ≡ true → (b ≡ true) ⊎ (c ≡ true)
either_way true c e = inl refl
either_way false c e = inr e

pub left_or : (b c : Bool) → b ≡ true → (b || c) ≡ true
left_or b c e = ap (λ b. b || c) e

pub right_or : (b c : Bool) → c ≡ true → (b || c) ≡ true
right_or true c e = refl
right_or false c e = e

-- ---- entries

entries_from : (P : Entry → Type 0) (disk : ℕ → List ℕ) (xs : List Accepted) (k : ℕ) → ((j : ℕ) → j < length xs → P (entry_at disk (k + j) (at xs j))) → AllByRecursion P (entries_at disk k xs)
unfolding at
entries_from P disk [] k each = tt
entries_from P disk (x ∷ xs) k each =
    let first : k + 0 ≡ k = omega arith in (
      subst (λ n. P (entry_at disk n x)) first (each 0 (omega arith)),
      entries_from P disk xs (suc k) (λ j l. let next : k + suc j ≡ suc k + j = omega arith in subst (λ n. P (entry_at disk n (at xs j))) next (each (suc j) (omega (arith, l)))),
    )

pub all_entries : (P : Entry → Type 0) (disk : ℕ → List ℕ) (since : List Accepted) → ((n : ℕ) → n < length since → P (entry_at disk n (at since n))) → AllByRecursion P (entries_at disk 0 since)
all_entries P disk since each = entries_from P disk since 0 (λ j l. subst (λ n. P (entry_at disk n (at since j))) (sym (zero-add j)) (each j l))

pub full_named : SetsOfParts → (disk : ℕ → List ℕ) (n : ℕ) (x : Accepted) → Full disk n x → (u : ℕ) → all_named u (entry_at disk n x) ≡ true
full_named sets disk n x full zero = refl
full_named sets disk n x full (suc t) =
    ap (λ b. b && all_named t (entry_at disk n x)) (⊎_elim
    (λ (on : is_on x t ≡ true). left_or (has n (disk t)) (not (is_member (targets_from 0 x.parts) t)) (mem_has n (disk t) (full t on)))
    (λ (off : is_on x t ≡ false). right_or (has n (disk t)) (not (is_member (targets_from 0 x.parts) t)) (ap not (sets t x.parts ∙ off)))
    (by_bool (is_on x t)))
    ∙ full_named sets disk n x full t

-- ---- what an image shows

pub distinct_numbers : (since : List Accepted) → Apart since → (ns : List ℕ) → Rising ns → ((k : ℕ) → IsIn k ns → k < length since) → AreDistinct (numbers_at since ns)
distinct_numbers since far [] rises known = tt
distinct_numbers since far (n ∷ ns) rises known = (
  (λ m. (let k = in_numbers since far ns (number_at since n) m in
      let same : n ≡ k.0 = one_place since far n k.0 (known n (inl refl)) (known k.0 (inr k.1)) k.2 in
      let lt : n < k.0 = rises.0 k.0 k.1 in omega (arith, same, lt))),
  distinct_numbers since far ns rises.1 (λ k m. known k (inr m)),
)

placed_new : (d : List ℕ) (b : Bool) (k : ℕ) (l : List ℕ) (R : ℕ) → R ≡ new_in d l → (if b && not (has k d) then suc R else R) ≡ new_in d (placed b k l)
placed_new d true k l R e = ⊎_elim
    (λ (here : has k d ≡ true). ap (λ c. if not c then suc R else R) here ∙ e ∙ sym (ap (λ c. if c then new_in d l else suc (new_in d l)) here))
    (λ (gone : has k d ≡ false). ap (λ c. if not c then suc R else R) gone ∙ ap suc e ∙ sym (ap (λ c. if c then new_in d l else suc (new_in d l)) gone))
    (by_bool (has k d))
placed_new d false k l R e = e

module _ (disk : ℕ → List ℕ) (t : ℕ) (items numbers : List ℕ) where
  abbrev among : ℕ → Accepted → Bool
  among n x = has n items

  new_counted : (xs : List Accepted) (k : ℕ) → ((j : ℕ) → j < length xs → has (request_of (at xs j)).number numbers ≡ has (k + j) items)
      → new_among t numbers (entries_at disk k xs) ≡ new_in (disk t) (places_from among k xs)
  unfolding at
  new_counted [] k each = refl
  new_counted (x ∷ xs) k each =
      let first : k + 0 ≡ k = omega arith in
      ap (λ b. if b && not (has k (disk t)) then suc (new_among t numbers (entries_at disk (suc k) xs)) else new_among t numbers (entries_at disk (suc k) xs))
      (subst (λ n. has (request_of x).number numbers ≡ has n items) first (each 0 (omega arith)))
      ∙ placed_new (disk t) (has k items) k (places_from among (suc k) xs) (new_among t numbers (entries_at disk (suc k) xs))
      (new_counted xs (suc k) (λ j l. let next : k + suc j ≡ suc k + j = omega arith in subst (λ n. has (request_of (at xs j)).number numbers ≡ has n items) next (each (suc j) (omega (arith, l)))))

-- members of a rising list, as places
pub as_places : (since : List Accepted) (items : List ℕ) → Rising items → ((n : ℕ) → IsIn n items → n < length since) → items ≡ places_from (λ n x. has n items) 0 since
as_places since items rises known = rising_same items (places_from (λ n x. has n items) 0 since) rises (places_rising (λ n x. has n items) since 0)
    (λ n m. subst (λ k. IsIn k (places_from (λ n x. has n items) 0 since)) (zero-add n) (member_in (λ n x. has n items) since 0 n (known n m) (subst (λ k. has k items ≡ true) (sym (zero-add n)) (mem_has n items m))))
    (λ n m. let k = member_of (λ n x. has n items) since 0 n m in has_mem n items k.3)

module _ (targets : ℕ) (sets : SetsOfParts) (o : Spoken) (base : History) (since : List Accepted) (far : Apart since) (disk pend : ℕ → List ℕ) (t : ℕ) where
  abbrev now : State
  now = state_with targets o base since disk pend

  module _ (many : ℕ) (items : List ℕ) (fits : FitsTarget since disk t many items) where
    abbrev shown : List ℕ
    shown = numbers_at since items

    known_items : (k : ℕ) → IsIn k items → k < length since
    known_items k m = (fits.known k m).0

    each_known : (ns : List ℕ) → ((k : ℕ) → IsIn k ns → (k < length since) × (is_on (at since k) t ≡ true))
        → AllByRecursion (λ n. (e : Entry) × IsIn e (entries_at disk 0 since) × (number e ≡ n) × (is_member e.on t ≡ true)) (numbers_at since ns)
    each_known [] known = tt
    each_known (n ∷ ns) known = (
      (entry_at disk n (at since n), entry_here disk since n (known n (inl refl)).0, refl, sets t (at since n).parts ∙ (known n (inl refl)).1),
      each_known ns (λ k m. known k (inr m)),
    )

    pub shown_fits : Fits now t (o.start t + many) shown
    shown_fits = record {
      distinct = distinct_numbers since far items fits.distinct known_items;
      known = each_known items fits.known;
      live = all_entries (λ e. e.named t ≡ true → all_named targets e ≡ false → IsIn (number e) shown) disk since
          (λ n l here part. number_in since far items n (fits.each n (has_mem n (disk t) here) (λ full. true≢false (sym (full_named sets disk n (at since n) full targets) ∙ part))));
      count =
          let same : new_among t shown (entries_at disk 0 since) ≡ new_in (disk t) items =
          new_counted disk t items shown since 0 (λ j l. subst (λ n. has (number_at since j) shown ≡ has n items) (sym (zero-add j)) (has_number since far j l items known_items))
          ∙ ap (new_in (disk t)) (sym (as_places since items fits.distinct known_items)) in
          let all = fits.count in omega (arith, same, all);
    }

    -- an image that has these items besides what is named
    module _ (image : List ℕ) (is_many : many ≡ length image) (has_all : (n : ℕ) → n < length since → (has n (disk t) || has n items) ≡ has n image) where
      image_names : (n : ℕ) → n < length since → (has n (disk t) || has (number_at since n) shown) ≡ has n image
      image_names n l = ap (λ b. has n (disk t) || b) (has_number since far n l items known_items) ∙ has_all n l

      abbrev opened : Spoken
      opened = record o { standing = put o.standing t Opened }

      pub up_says : (others : List Line) → Says now (Up t (o.start t + many) shown) others (state_with targets opened base since (put disk t image) pend)
      up_says others = (
        shown_fits,
        λ i. record now {
          since = sym (all_named_too disk t shown image since image_names) i;
          standing = opened.standing;
          last = λ s. (lifted (λ q d. o.start q + length d) disk t image s ∙ ap (λ v. put now.last t (o.start t + v) s) (sym is_many)) i;
        },
      )

pub put_self : {A : Type 0} (f : ℕ → A) (t : ℕ) (s : ℕ) → put f t (f t) s ≡ f s
put_self f t s = elim (eqb_tells s t) [ inl w ↦ ap (λ b. if b then f t else f s) w.0 ∙ ap f (sym w.1) | inr w ↦ ap (λ b. if b then f t else f s) w.0 ]
