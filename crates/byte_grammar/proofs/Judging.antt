-- Laws of reading, for every grammar.
use Rattle.std.proofs.Common.{◌≡◌, ℕ, ◌+◌, ◌-◌, ◌≤◌, ◌<◌, List, ◌++◌, length, take, drop, max, refl, sym, ap, subst, ◌∙◌, arith, length-append, length-drop, inl, inr}
use Rattle.std.proofs.lemmas.List.{take-append-le, drop-append-le, length-take, take-take, drop-take, take-append-drop}
use Rattle.std.proofs.Math.Seq.{take-append-add}
use Rattle.std.proofs.lemmas.Bool.{cases_lt, lt-ltb, le-ltb}
use Rattle.byte_grammar.specs.declared.verdict.Reason.TheVariants.{TooLong}
use Rattle.byte_grammar.specs.declared.verdict.Verdict.TheVariants.{More, Done, Refused}
use Rattle.byte_grammar.specs.Grammar.{Grammar, judge, IsSettled}
use Rattle.byte_grammar.specs.Grammar.Grammar.{Ends, Refuses, Field}

-- a field that passes the limit
pub field_long : (l w : ℕ) (next : ℕ → List ℕ → Grammar) (p : ℕ) (xs : List ℕ) → l < p + w → judge l (Field w next) p xs ≡ Refused (record { place = p; reason = TooLong })
unfolding judge
field_long l w next p xs h = rw (lt-ltb l (p + w) h) refl

-- a field whose bytes are still to come
pub field_short : (l w : ℕ) (next : ℕ → List ℕ → Grammar) (p : ℕ) (xs : List ℕ) → p + w ≤ l → length xs < w → judge l (Field w next) p xs ≡ More
unfolding judge
field_short l w next p xs h k = rw (le-ltb l (p + w) h, lt-ltb (length xs) w k) refl

-- a field whose bytes are there
pub field_reads : (l w : ℕ) (next : ℕ → List ℕ → Grammar) (p : ℕ) (xs : List ℕ) → p + w ≤ l → w ≤ length xs → judge l (Field w next) p xs ≡ judge l (next p (take w xs)) (p + w) (drop w xs)
unfolding judge
field_reads l w next p xs h k = rw (le-ltb l (p + w) h, le-ltb (length xs) w k) refl

-- what is settled stays so, whatever follows
pub settled_more : (l : ℕ) (g : Grammar) (p : ℕ) (xs ys : List ℕ) → IsSettled (judge l g p xs) → judge l g p (xs ++ ys) ≡ judge l g p xs
unfolding judge
settled_more l Ends p xs ys s = refl
settled_more l (Refuses r) p xs ys s = refl
settled_more l (Field w next) p xs ys s =
    elim (cases_lt l (p + w)) as (λ _. judge l (Field w next) p (xs ++ ys) ≡ judge l (Field w next) p xs) [
      | inl h ↦ field_long l w next p (xs ++ ys) h ∙ sym (field_long l w next p xs h)
      | inr h ↦ elim (cases_lt (length xs) w) as (λ _. judge l (Field w next) p (xs ++ ys) ≡ judge l (Field w next) p xs) [
        | inl k ↦ absurd (subst IsSettled (field_short l w next p xs h k) s)
        | inr k ↦
            let t = subst IsSettled (field_reads l w next p xs h k) s in
            let long : w ≤ length (xs ++ ys) = omega (arith, length-append xs ys) in
            field_reads l w next p (xs ++ ys) h long
            ∙ ap (λ (f : List ℕ). judge l (next p f) (p + w) (drop w (xs ++ ys))) (take-append-le w xs ys k)
            ∙ ap (λ (f : List ℕ). judge l (next p (take w xs)) (p + w) f) (drop-append-le w xs ys k)
            ∙ settled_more l (next p (take w xs)) (p + w) (drop w xs) ys t
            ∙ sym (field_reads l w next p xs h k)
      ]
    ]

-- nothing behind the limit is looked at
pub judge_cut : (l : ℕ) (g : Grammar) (p n : ℕ) (xs : List ℕ) → l ≤ p + n → judge l g p (take n xs) ≡ judge l g p xs
unfolding judge
judge_cut l Ends p n xs s = refl
judge_cut l (Refuses r) p n xs s = refl
judge_cut l (Field w next) p n xs s =
    elim (cases_lt l (p + w)) as (λ _. judge l (Field w next) p (take n xs) ≡ judge l (Field w next) p xs) [
      | inl h ↦ field_long l w next p (take n xs) h ∙ sym (field_long l w next p xs h)
      | inr h ↦ elim (cases_lt (length xs) w) as (λ _. judge l (Field w next) p (take n xs) ≡ judge l (Field w next) p xs) [
        | inl k ↦
            let short : length (take n xs) < w = omega (arith, length-take n xs) in
            field_short l w next p (take n xs) h short ∙ sym (field_short l w next p xs h k)
        | inr k ↦
            let fits : w ≤ n = omega arith in
            let parts : n ≡ w + (n - w) = omega arith in
            let long : w ≤ length (take n xs) = omega (arith, length-take n xs) in
            let front : take w (take n xs) ≡ take w xs = take-take w n xs fits in
            let rest : drop w (take n xs) ≡ take (n - w) (drop w xs) = ap (λ m. drop w (take m xs)) parts ∙ drop-take w (n - w) xs in
            field_reads l w next p (take n xs) h long
            ∙ ap (λ (f : List ℕ). judge l (next p f) (p + w) (drop w (take n xs))) front
            ∙ ap (λ (f : List ℕ). judge l (next p (take w xs)) (p + w) f) rest
            ∙ judge_cut l (next p (take w xs)) (p + w) (n - w) (drop w xs) (omega arith)
            ∙ sym (field_reads l w next p xs h k)
      ]
    ]

-- where a field is to come, less than the limit has come
pub more_short : (l : ℕ) (g : Grammar) (p : ℕ) (xs : List ℕ) → judge l g p xs ≡ More → p + length xs < l
unfolding judge
more_short l Ends p xs e = cc
more_short l (Refuses r) p xs e = cc
more_short l (Field w next) p xs e =
    elim (cases_lt l (p + w)) as (λ _. p + length xs < l) [
      | inl h ↦ absurd (let x = sym e ∙ field_long l w next p xs h in cc)
      | inr h ↦ elim (cases_lt (length xs) w) as (λ _. p + length xs < l) [
        | inl k ↦ omega arith
        | inr k ↦ let x = more_short l (next p (take w xs)) (p + w) (drop w xs) (sym (field_reads l w next p xs h k) ∙ e) in omega (arith, length-drop w xs)
      ]
    ]

-- where a value ends
pub done_place : (l : ℕ) (g : Grammar) (p : ℕ) (xs : List ℕ) (k : ℕ) → judge l g p xs ≡ Done k → (p ≤ k) × (k ≤ p + length xs) × (k ≤ max l p)
unfolding judge
done_place l Ends p xs k e = let x : p ≡ k = cc in (omega arith, omega arith, omega arith)
done_place l (Refuses r) p xs k e = cc
done_place l (Field w next) p xs k e =
    elim (cases_lt l (p + w)) as (λ _. (p ≤ k) × (k ≤ p + length xs) × (k ≤ max l p)) [
      | inl h ↦ absurd (let x = sym e ∙ field_long l w next p xs h in cc)
      | inr h ↦ elim (cases_lt (length xs) w) as (λ _. (p ≤ k) × (k ≤ p + length xs) × (k ≤ max l p)) [
        | inl j ↦ absurd (let x = sym e ∙ field_short l w next p xs h j in cc)
        | inr j ↦
            let x = done_place l (next p (take w xs)) (p + w) (drop w xs) k (sym (field_reads l w next p xs h j) ∙ e) in
            (omega arith, omega (arith, length-drop w xs), omega arith)
      ]
    ]

-- the bytes of a value are enough
pub done_cut : (l : ℕ) (g : Grammar) (p : ℕ) (xs : List ℕ) (k : ℕ) → judge l g p xs ≡ Done k → judge l g p (take (k - p) xs) ≡ Done k
unfolding judge
done_cut l Ends p xs k e = e
done_cut l (Refuses r) p xs k e = e
done_cut l (Field w next) p xs k e =
    elim (cases_lt l (p + w)) as (λ _. judge l (Field w next) p (take (k - p) xs) ≡ Done k) [
      | inl h ↦ absurd (let x = sym e ∙ field_long l w next p xs h in cc)
      | inr h ↦ elim (cases_lt (length xs) w) as (λ _. judge l (Field w next) p (take (k - p) xs) ≡ Done k) [
        | inl j ↦ absurd (let x = sym e ∙ field_short l w next p xs h j in cc)
        | inr j ↦
            let on = sym (field_reads l w next p xs h j) ∙ e in
            let bound = done_place l (next p (take w xs)) (p + w) (drop w xs) k on in
            let n = k - p in
            let fits : w ≤ k - p = omega arith in
            let parts : k - p ≡ w + (k - (p + w)) = omega arith in
            let long : w ≤ length (take (k - p) xs) = omega (arith, length-take (k - p) xs) in
            let front : take w (take (k - p) xs) ≡ take w xs = take-take w (k - p) xs fits in
            let rest : drop w (take (k - p) xs) ≡ take (k - (p + w)) (drop w xs) = ap (λ m. drop w (take m xs)) parts ∙ drop-take w (k - (p + w)) xs in
            field_reads l w next p (take (k - p) xs) h long
            ∙ ap (λ (f : List ℕ). judge l (next p f) (p + w) (drop w (take (k - p) xs))) front
            ∙ ap (λ (f : List ℕ). judge l (next p (take w xs)) (p + w) f) rest
            ∙ done_cut l (next p (take w xs)) (p + w) (drop w xs) k on
      ]
    ]

pub done_alone : (l : ℕ) (g : Grammar) (xs : List ℕ) (k : ℕ) → judge l g 0 xs ≡ Done k → judge l g 0 (take k xs) ≡ Done k
done_alone l g xs k e = let z : k ≡ k - 0 = omega arith in ap (λ (m : ℕ). judge l g 0 (take m xs)) z ∙ done_cut l g 0 xs k e

-- what isn't settled yet ends behind what has come
pub ends_behind : (l : ℕ) (g : Grammar) (xs ys : List ℕ) (k : ℕ) → judge l g 0 xs ≡ More → judge l g 0 (xs ++ ys) ≡ Done k → length xs < k
ends_behind l g xs ys k m d =
    elim (cases_lt (length xs) k) [
      | inl h ↦ h
      | inr h ↦
          let cut : judge l g 0 (take k xs) ≡ Done k = ap (judge l g 0) (sym (take-append-le k xs ys h)) ∙ done_alone l g (xs ++ ys) k d in
          let more = settled_more l g 0 (take k xs) (drop k xs) (subst IsSettled (sym cut) tt) in
          let whole : judge l g 0 xs ≡ Done k = ap (judge l g 0) (sym (take-append-drop k xs)) ∙ more ∙ cut in
          absurd (let x = sym m ∙ whole in cc)
    ]

-- a front up to the limit is judged as the whole
pub judge_front : (l : ℕ) (g : Grammar) (xs ys : List ℕ) → length xs ≤ l → judge l g 0 (xs ++ take (l - length xs) ys) ≡ judge l g 0 (xs ++ ys)
judge_front l g xs ys h =
    let e : take l (xs ++ ys) ≡ xs ++ take (l - length xs) ys = ap (λ (m : ℕ). take m (xs ++ ys)) (let q : l ≡ length xs + (l - length xs) = omega arith in q) ∙ take-append-add xs ys (l - length xs) in
    ap (judge l g 0) (sym e) ∙ judge_cut l g 0 l (xs ++ ys) (omega arith)
