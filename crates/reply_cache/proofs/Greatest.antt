-- One client's seat, while replies are put.
use Rattle.std.proofs.Common.{◌≡◌, ◌≢◌, ◌≤◌, ◌<◌, ◌⊎◌, inl, inr, ⊎_elim, ℕ, Bool, true, false, ◌==◌, nat_lt, if◌then◌else◌, length, List, [], ◌∷◌, ◌++◌, Option, Some, None, slice_index_or, slice_set, refl, sym, ap, ◌∙◌, subst, arith}
use Rattle.std.specs.List.{AllByRecursion}
use Rattle.std.proofs.lemmas.List.{get_or-set_same, get_or-set_other, get_or-replicate, length-set, length-replicate, append-nil, append_assoc}
use Rattle.reply_cache.specs.declared.seats.Seat.{Seat}
use Rattle.reply_cache.specs.Seats.{no_seats, refusal_of, put_seat, has_later, seated}
use Rattle.reply_cache.specs.SeatLaws.{Put, after_puts, IsGreatest, SeatsHaveTheGreatest}

by_bool : (b : Bool) → (b ≡ true) ⊎ (b ≡ false)
by_bool true = inl refl
by_bool false = inr refl

all_push : {A : Type 0} (P : A → Type 0) (xs : List A) (x : A) → AllByRecursion P xs → P x → AllByRecursion P (xs ++ x ∷ [])
all_push P [] x a p = (p, tt)
all_push P (y ∷ ys) x a p = (a.0, all_push P ys x a.1 p)

all_weaker : {A : Type 0} (P Q : A → Type 0) (xs : List A) → ((x : A) → P x → Q x) → AllByRecursion P xs → AllByRecursion Q xs
all_weaker P Q [] f a = tt
all_weaker P Q (y ∷ ys) f a = (f y a.0, all_weaker P Q ys f a.1)

all_append : {A : Type 0} (P : A → Type 0) (xs ys : List A) → AllByRecursion P xs → AllByRecursion P ys → AllByRecursion P (xs ++ ys)
all_append P [] ys a b = b
all_append P (x ∷ xs) ys a b = (a.0, all_append P xs ys a.1 b)

module _ (client : ℕ) (puts : List Put) (p : Put) where
  -- the newest reply is the greatest
  newest : p.client ≡ client → AllByRecursion (λ q. q.client ≡ client → q.number ≤ p.number) puts
      → IsGreatest client (puts ++ p ∷ []) (Some (record { number = p.number; refused = refusal_of p.reply }))
  newest same all = (puts, p, [], refl, same, refl, refl, all, tt)

  -- a seat with a greater number stays
  kept : (s : Seat) → p.number < s.number → IsGreatest client puts (Some s) → IsGreatest client (puts ++ p ∷ []) (Some s)
  kept s late (before, q, after, e, c, n, r, low, lower) = (
    before,
    q,
    after ++ p ∷ [],
    ap (λ xs. xs ++ p ∷ []) e ∙ append_assoc before (q ∷ after) (p ∷ []),
    c,
    n,
    r,
    low,
    all_push (λ q. q.client ≡ client → q.number < s.number) after p lower (λ _. late),
  )

  -- no number that was put is above the seat's
  below : (s : Seat) → IsGreatest client puts (Some s) → AllByRecursion (λ q. q.client ≡ client → q.number ≤ s.number) puts
  below s (before, q, after, e, c, n, r, low, lower) =
      subst (λ xs. AllByRecursion (λ q. q.client ≡ client → q.number ≤ s.number) xs) (sym e)
      (all_append (λ q. q.client ≡ client → q.number ≤ s.number) before (q ∷ after) low
      ((λ _. omega (arith, n)), all_weaker (λ q. q.client ≡ client → q.number < s.number) (λ q. q.client ≡ client → q.number ≤ s.number) after (λ q l c. let m = l c in omega (arith, m)) lower))

  own : (seat : Option Seat) → p.client ≡ client → IsGreatest client puts seat → IsGreatest client (puts ++ p ∷ []) (seated seat p.number p.reply)
  own None same g = newest same (all_weaker (λ q. q.client ≢ client) (λ q. q.client ≡ client → q.number ≤ p.number) puts (λ q n e. absurd (n e)) g)
  own (Some s) same g = ⊎_elim
      (λ (late : nat_lt p.number s.number ≡ true).
      subst (λ b. IsGreatest client (puts ++ p ∷ []) (if b then Some s else Some (record { number = p.number; refused = refusal_of p.reply }))) (sym late)
      (kept s (grind (arith, late)) g))
      (λ (fresh : nat_lt p.number s.number ≡ false).
      subst (λ b. IsGreatest client (puts ++ p ∷ []) (if b then Some s else Some (record { number = p.number; refused = refusal_of p.reply }))) (sym fresh)
      (newest same (all_weaker (λ q. q.client ≡ client → q.number ≤ s.number) (λ q. q.client ≡ client → q.number ≤ p.number) puts
      (λ q below e. let l = below e in grind (arith, l, fresh)) (below s g))))
      (by_bool (nat_lt p.number s.number))

  other : (seat : Option Seat) → p.client ≢ client → IsGreatest client puts seat → IsGreatest client (puts ++ p ∷ []) seat
  other None apart g = all_push (λ q. q.client ≢ client) puts p g apart
  other (Some s) apart (before, q, after, e, c, n, r, low, lower) = (
    before,
    q,
    after ++ p ∷ [],
    ap (λ xs. xs ++ p ∷ []) e ∙ append_assoc before (q ∷ after) (p ∷ []),
    c,
    n,
    r,
    low,
    all_push (λ q. q.client ≡ client → q.number < s.number) after p lower (λ e. absurd (apart e)),
  )

  -- all seats after one reply more, by whether the client's seat has a later number
  abbrev pub seats_by : List (Option Seat) → Bool → List (Option Seat)
  seats_by seats b = if b then seats else slice_set seats p.client (Some (record { number = p.number; refused = refusal_of p.reply }))

  own_seat : (seats : List (Option Seat)) (seat : Option Seat) (b : Bool) → p.client < length seats → slice_index_or seats p.client None ≡ seat
      → slice_index_or (seats_by seats b) p.client None ≡ (if b then seat else Some (record { number = p.number; refused = refusal_of p.reply }))
  own_seat seats seat true below e = e
  own_seat seats seat false below e = get_or-set_same seats p.client (Some (record { number = p.number; refused = refusal_of p.reply })) None below

  other_seat : (seats : List (Option Seat)) (b : Bool) → client ≢ p.client → slice_index_or (seats_by seats b) client None ≡ slice_index_or seats client None
  other_seat seats true apart = refl
  other_seat seats false apart = get_or-set_other seats p.client client (Some (record { number = p.number; refused = refusal_of p.reply })) None apart

  as_many : (seats : List (Option Seat)) (b : Bool) → length (seats_by seats b) ≡ length seats
  as_many seats true = refl
  as_many seats false = length-set seats p.client (Some (record { number = p.number; refused = refusal_of p.reply }))

  grown : (seats : List (Option Seat)) → client < length seats → IsGreatest client puts (slice_index_or seats client None)
      → IsGreatest client (puts ++ p ∷ []) (slice_index_or (put_seat seats p.client p.number p.reply) client None)
  grown seats below g = ⊎_elim
      (λ (same : (p.client == client) ≡ true).
      let e : p.client ≡ client = grind (arith, same) in
      let b = has_later (slice_index_or seats p.client None) p.number in
      let at : slice_index_or (put_seat seats p.client p.number p.reply) client None ≡ seated (slice_index_or seats client None) p.number p.reply =
      subst (λ c. slice_index_or (put_seat seats p.client p.number p.reply) c None ≡ seated (slice_index_or seats c None) p.number p.reply) e
      (own_seat seats (slice_index_or seats p.client None) b (subst (λ c. c < length seats) (sym e) below) refl) in
      subst (λ s. IsGreatest client (puts ++ p ∷ []) s) (sym at) (own (slice_index_or seats client None) e g))
      (λ (apart : (p.client == client) ≡ false).
      let e : p.client ≢ client = grind (arith, apart) in
      let at = other_seat seats (has_later (slice_index_or seats p.client None) p.number) (λ s. e (sym s)) in
      subst (λ s. IsGreatest client (puts ++ p ∷ []) s) (sym at) (other (slice_index_or seats client None) e g))
      (by_bool (p.client == client))

-- replies that are put after others
all_put : (client : ℕ) (ps puts : List Put) (seats : List (Option Seat)) → length seats ≡ 64 → client < 64 → IsGreatest client puts (slice_index_or seats client None)
    → IsGreatest client (puts ++ ps) (slice_index_or (after_puts seats ps) client None)
all_put client [] puts seats many below g = subst (λ xs. IsGreatest client xs (slice_index_or seats client None)) (sym (append-nil puts)) g
all_put client (p ∷ ps) puts seats many below g =
    let next = put_seat seats p.client p.number p.reply in
    let size : length next ≡ 64 = as_many client puts p seats (has_later (slice_index_or seats p.client None) p.number) ∙ many in
    let more = grown client puts p seats (subst (λ n. client < n) (sym many) below) g in
    subst (λ xs. IsGreatest client xs (slice_index_or (after_puts next ps) client None)) (append_assoc puts (p ∷ []) ps) (all_put client ps (puts ++ p ∷ []) next size below more)

pub seats_have_the_greatest : SeatsHaveTheGreatest
seats_have_the_greatest puts client below =
    all_put client puts [] no_seats (length-replicate {A = Option Seat} 64 None) below
    (subst (λ s. IsGreatest client [] s) (sym (get_or-replicate {A = Option Seat} 64 client None None below)) tt)
