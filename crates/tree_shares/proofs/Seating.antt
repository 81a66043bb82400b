-- The seats of a history are set by those at home there, and have the last numbers.
use Rattle.std.proofs.Common.{◌≡◌, ◌<◌, ◌≤◌, ◌⊎◌, ◌++◌, ◌∙◌, inl, inr, ⊎_elim, ℕ, Bool, true, false, true≢false, cond, if◌then◌else◌, List, [], ◌∷◌, Option, Some, None, refl, sym, ap, subst, arith}
use Rattle.std.specs.List.{AllByRecursion}
use Rattle.std.specs.Ordering.{nat_cmp, eq_by_cmp}
use Rattle.std.specs.Cmp.{unsigned_tied}
use Rattle.std.specs.FinMap.{get, empty, insert, get-insert, get-empty}
use Rattle.std.proofs.lemmas.Cmp.{nat_cmp_total}
use Rattle.std.proofs.lemmas.Bool.Decides.{eqb_tells}
use Rattle.tree_model.specs.declared.reply.Reply.{Reply}
use Rattle.tree_model.specs.History.{Item}
use Rattle.tree_model.specs.Participants.{home_of}
use Rattle.tree_sound.proofs.Basics.{which}
use Rattle.tree_shares.specs.Shares.{is_at}
use Rattle.tree_shares.specs.Seats.{Seats, seated, seats_from, SameSeat, Ordered, SitsAt, IsSeat, HasSeat, IsLast}
use Rattle.tree_shares.specs.ShareLaws.{SeatsGoAlong, SeatsAreLast}
use Rattle.tree_shares.proofs.Histories.{shares_of_histories}

-- ---- one item more

seats_more : (targets target : ℕ) (seats : Seats) (history : List Item) (i : Item) → seated targets target (seats_from targets target seats history) i ≡ seats_from targets target seats (history ++ i ∷ [])
seats_more targets target seats [] i = refl
seats_more targets target seats (j ∷ js) i = seats_more targets target (seated targets target seats j) js i

pub seats_along : SeatsGoAlong
seats_along targets batch history item target few long are is =
    let objects = shares_of_histories targets batch history item target few long are is in
    let seats = seats_more targets target empty history item in
    (λ k. record { objects = objects k; seats = seats k })

-- ---- the last numbers

module _ (targets target client : ℕ) where
  abbrev Sits : Item → Type 0
  Sits i = SitsAt targets target client i

  home_is : (o : Option ℕ) → is_at target o ≡ true → o ≡ Some target
  home_is None e = absurd (true≢false (sym e))
  home_is (Some m) e = elim (eqb_tells m target) [
    | inl q ↦ ap Some q.1
    | inr q ↦ absurd (true≢false (sym e ∙ q.0))
  ]

  home_so : (o : Option ℕ) → o ≡ Some target → is_at target o ≡ true
  home_so o e = ap (is_at target) e ∙ elim (eqb_tells target target) [
    | inl q ↦ q.0
    | inr q ↦ absurd (q.1 refl)
  ]

  sits_or_not : (i : Item) → Sits i ⊎ (Sits i → ⊥)
  sits_or_not i = ⊎_elim
      (λ (e : is_at target (home_of targets i.request.op) ≡ true). elim (eqb_tells i.request.client client) [
        | inl q ↦ inl (q.1, home_is (home_of targets i.request.op) e)
        | inr q ↦ inr (λ (a : Sits i). q.1 a.0)
      ])
      (λ (e : is_at target (home_of targets i.request.op) ≡ false). inr (λ (a : Sits i). true≢false (sym (home_so (home_of targets i.request.op) a.1) ∙ e)))
      (which (is_at target (home_of targets i.request.op)))

  seated_here : (i : Item) (s : Seats) → Sits i → get (seated targets target s i) client ≡ Some (i.request.number, i.reply)
  seated_here i s a =
      ap (λ b. get (if b then insert s i.request.client (i.request.number, i.reply) else s) client) (home_so (home_of targets i.request.op) a.1)
      ∙ get-insert nat_cmp_total s i.request.client (i.request.number, i.reply) client
      ∙ ap (λ b. cond b (Some (i.request.number, i.reply)) (get s client)) (unsigned_tied client i.request.client ∙ elim (eqb_tells client i.request.client) [
        | inl q ↦ q.0
        | inr q ↦ absurd (q.1 (sym a.0))
      ])

  seated_other : (i : Item) (s : Seats) → (Sits i → ⊥) → get (seated targets target s i) client ≡ get s client
  seated_other i s apart =
      let put_in : Seats = insert s i.request.client (i.request.number, i.reply) in
      let by_home : Bool → Seats = λ b. if b then put_in else s in
      ⊎_elim
      (λ (e : is_at target (home_of targets i.request.op) ≡ true).
      let at_home : get (seated targets target s i) client ≡ get put_in client = ap (λ b. get (by_home b) client) e in
      let other : eq_by_cmp nat_cmp client i.request.client ≡ false = unsigned_tied client i.request.client ∙ elim (eqb_tells client i.request.client) [
        | inl q ↦ absurd (apart (sym q.1, home_is (home_of targets i.request.op) e))
        | inr q ↦ q.0
      ] in
      at_home ∙ get-insert nat_cmp_total s i.request.client (i.request.number, i.reply) client ∙ ap (λ b. cond b (Some (i.request.number, i.reply)) (get s client)) other)
      (λ (e : is_at target (home_of targets i.request.op) ≡ false). ap (λ b. get (by_home b) client) e)
      (which (is_at target (home_of targets i.request.op)))

  -- the item of a seat is one of those
  later_number : (i : Item) (is : List Item) (seat : ℕ × Reply) → AllByRecursion (λ j. SameSeat targets i.request j.request → i.request.number < j.request.number) is → Sits i → HasSeat targets target client seat is → i.request.number ≤ seat.0
  later_number i [] seat h a has = absurd has
  later_number i (j ∷ js) seat h a has = ⊎_elim
      (λ (at : IsSeat targets target client seat j).
      let low = h.0 (a.0 ∙ sym at.0.0, a.1 ∙ sym at.0.1) in
      let same = at.1 in
      omega (arith, low, same))
      (λ more. later_number i js seat h.1 a more) has

  record Ends (s : Seats) (h : List Item) (seat : ℕ × Reply) : Type 0 where
    got : get (seats_from targets target s h) client ≡ Some seat
    all : AllByRecursion (λ i. Sits i → i.request.number ≤ seat.0) h
    has : HasSeat targets target client seat h

  abbrev Ending : Seats → List Item → Type 0
  Ending s h = ((get (seats_from targets target s h) client ≡ get s client) × AllByRecursion (λ i. Sits i → ⊥) h) ⊎ ((seat : ℕ × Reply) × Ends s h seat)

  none_below : (number : ℕ) (h : List Item) → AllByRecursion (λ i. Sits i → ⊥) h → AllByRecursion (λ i. Sits i → i.request.number ≤ number) h
  none_below number [] h = tt
  none_below number (i ∷ is) h = (λ a. absurd (h.0 a), none_below number is h.1)

  ending : (s : Seats) (h : List Item) → Ordered targets h → Ending s h
  ending s [] ord = inl (refl, tt)
  ending s (i ∷ is) ord = ⊎_elim
      (λ (none : (get (seats_from targets target (seated targets target s i) is) client ≡ get (seated targets target s i) client) × AllByRecursion (λ i. Sits i → ⊥) is). ⊎_elim
      (λ (a : Sits i). inr (
        (i.request.number, i.reply),
        record {
          got = none.0 ∙ seated_here i s a;
          all = (λ _. omega arith, none_below i.request.number is none.1);
          has = inl (a, refl, refl);
        },
      ))
      (λ (apart : Sits i → ⊥). inl (none.0 ∙ seated_other i s apart, (apart, none.1)))
      (sits_or_not i))
      (λ (some : (seat : ℕ × Reply) × Ends (seated targets target s i) is seat). inr (
        some.0,
        record {
          got = some.1.got;
          all = (λ a. later_number i is some.0 ord.0 a some.1.has, some.1.all);
          has = inr some.1.has;
        },
      ))
      (ending (seated targets target s i) is ord.1)

  last_of : (h : List Item) → Ordered targets h → IsLast targets target client h (get (seats_from targets target empty h) client)
  last_of h ord = ⊎_elim
      (λ (none : (get (seats_from targets target empty h) client ≡ get empty client) × AllByRecursion (λ i. Sits i → ⊥) h).
      subst (IsLast targets target client h) (sym (none.0 ∙ get-empty {X = ℕ × Reply} nat_cmp client)) none.1)
      (λ (some : (seat : ℕ × Reply) × Ends empty h seat). subst (IsLast targets target client h) (sym some.1.got) (some.1.all, some.1.has))
      (ending empty h ord)

pub seats_last : SeatsAreLast
seats_last targets target client history ord = last_of targets target client history ord
