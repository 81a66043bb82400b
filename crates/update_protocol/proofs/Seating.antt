-- The seats of a history have the last numbers.
use Rattle.tree_shares.specs.Shares.{is_at}
use Rattle.std.proofs.Common.{Bool, List, None, Option, Some, [], ap, arith, false, inl, inr, le_of_lt, le_refl, refl, subst, sym, true, true≢false, ℕ, ⊎_elim, ◌++◌, ◌<◌, ◌∙◌, ◌∷◌, ◌≡◌, ◌≤◌, ◌⊎◌}
use Rattle.std.proofs.lemmas.Bool.Decides.{eqb_tells}
use Rattle.std.proofs.lemmas.Cmp.{nat_cmp_total}
use Rattle.std.specs.Cmp.{unsigned_tied}
use Rattle.std.specs.FinMap.{empty, get, get-insert, insert}
use Rattle.std.specs.List.{AllByRecursion}
use Rattle.std.specs.Ordering.{eq_by_cmp, nat_cmp}
use Rattle.std.specs.Prelude.{cond, if◌then◌else◌}
use Rattle.tree_model.specs.History.{Item}
use Rattle.tree_model.specs.OpText.{IsOp}
use Rattle.tree_model.specs.Participants.{home_of}
use Rattle.tree_model.specs.declared.op.Request.{Request}
use Rattle.tree_model.specs.declared.reply.Reply.{Reply}
use Rattle.update_protocol.proofs.Basics.{by_bool}
use Rattle.update_protocol.specs.Lists.{IsIn}
use Rattle.tree_shares.specs.Seats.{Ordered, SameSeat, Seats, seated, seats_from}
use Rattle.update_protocol.specs.Seats.{IsBelow, Newest}
use Rattle.update_protocol.specs.World.{Accepted, Follows, History, after_items, entry, grown}

pub all_mem : {A : Type 0} (P : A → Type 0) (xs : List A) (x : A) → AllByRecursion P xs → IsIn x xs → P x
all_mem P [] x a h = absurd h
all_mem P (y ∷ ys) x a (inl e) = subst P (sym e) a.0
all_mem P (y ∷ ys) x a (inr h) = all_mem P ys x a.1 h

pub mem_all : {A : Type 0} (P : A → Type 0) (xs : List A) → ((x : A) → IsIn x xs → P x) → AllByRecursion P xs
mem_all P [] f = tt
mem_all P (y ∷ ys) f = (f y (inl refl), mem_all P ys (λ x h. f x (inr h)))

pub all_push : {A : Type 0} (P : A → Type 0) (xs : List A) (x : A) → AllByRecursion P xs → P x → AllByRecursion P (xs ++ x ∷ [])
all_push P [] x a p = (p, tt)
all_push P (y ∷ ys) x a p = (a.0, all_push P ys x a.1 p)

pub some_number : (a b : ℕ) → Some a ≡ Some b → a ≡ b
some_number a b e = cc

module _ (o : ℕ) where
  pub ordered_push : (h : List Item) (i : Item) → Ordered o h → Newest o h i.request → Ordered o (h ++ i ∷ [])
  ordered_push [] i ord new = (tt, tt)
  ordered_push (j ∷ h) i ord new = (all_push (λ k. SameSeat o j.request k.request → j.request.number < k.request.number) h i ord.0 new.0, ordered_push h i ord.1 new.1)

  pub ordered_after : (h : History) (xs : List Accepted) → Ordered o h → Follows o h xs → Ordered o (after_items h xs)
  ordered_after h [] ord f = ord
  ordered_after h (x ∷ xs) ord f = ordered_after (grown h x) xs (ordered_push h (entry x) ord f.0.newest) f.1

  pub ops_after : (h : History) (xs : List Accepted) → AllByRecursion (λ i. IsOp o i.request.op) h → Follows o h xs → AllByRecursion (λ i. IsOp o i.request.op) (after_items h xs)
  ops_after h [] all f = all
  ops_after h (x ∷ xs) all f = ops_after (grown h x) xs (all_push (λ i. IsOp o i.request.op) h (entry x) all f.0.is_op) f.1

  module _ (t c : ℕ) where
    -- the client's seat at t
    abbrev pub AtSeat : Request → Type 0
    AtSeat r = (r.client ≡ c) × (home_of o r.op ≡ Some t)

    home_is : (p : Option ℕ) → is_at t p ≡ true → p ≡ Some t
    home_is None e = absurd (true≢false (sym e))
    home_is (Some m) e = elim (eqb_tells m t) [ inl q ↦ ap Some q.1 | inr q ↦ absurd (true≢false (sym e ∙ q.0)) ]

    home_so : (p : Option ℕ) → p ≡ Some t → is_at t p ≡ true
    home_so p e = ap (is_at t) e ∙ elim (eqb_tells t t) [ inl q ↦ q.0 | inr q ↦ absurd (q.1 refl) ]

    seat_tells : (r : Request) → AtSeat r ⊎ (AtSeat r → ⊥)
    seat_tells r = ⊎_elim
        (λ (e : is_at t (home_of o r.op) ≡ true). elim (eqb_tells r.client c) [ inl q ↦ inl (q.1, home_is (home_of o r.op) e) | inr q ↦ inr (λ (a : AtSeat r). q.1 a.0) ])
        (λ (e : is_at t (home_of o r.op) ≡ false). inr (λ (a : AtSeat r). true≢false (sym (home_so (home_of o r.op) a.1) ∙ e)))
        (by_bool (is_at t (home_of o r.op)))

    seated_here : (i : Item) (s : Seats) → AtSeat i.request → get (seated o t s i) c ≡ Some (i.request.number, i.reply)
    seated_here i s a = ap (λ b. get (if b then insert s i.request.client (i.request.number, i.reply) else s) c) (home_so (home_of o i.request.op) a.1)
        ∙ get-insert nat_cmp_total s i.request.client (i.request.number, i.reply) c
        ∙ ap (λ b. cond b (Some (i.request.number, i.reply)) (get s c)) (unsigned_tied c i.request.client ∙ elim (eqb_tells c i.request.client) [ inl q ↦ q.0 | inr q ↦ absurd (q.1 (sym a.0)) ])

    seated_other : (i : Item) (s : Seats) → (AtSeat i.request → ⊥) → get (seated o t s i) c ≡ get s c
    seated_other i s apart =
        let put_in : Seats = insert s i.request.client (i.request.number, i.reply) in
        let chosen_by : Bool → Seats = λ b. if b then put_in else s in
        ⊎_elim
        (λ (e : is_at t (home_of o i.request.op) ≡ true).
        let at_home : get (seated o t s i) c ≡ get put_in c = ap (λ b. get (chosen_by b) c) e in
        let other_client : eq_by_cmp nat_cmp c i.request.client ≡ false = unsigned_tied c i.request.client ∙ elim (eqb_tells c i.request.client) [ inl q ↦ absurd (apart (sym q.1, home_is (home_of o i.request.op) e)) | inr q ↦ q.0 ] in
        let kept : cond (eq_by_cmp nat_cmp c i.request.client) (Some (i.request.number, i.reply)) (get s c) ≡ get s c = ap (λ b. cond b (Some (i.request.number, i.reply)) (get s c)) other_client in
        at_home ∙ get-insert nat_cmp_total s i.request.client (i.request.number, i.reply) c ∙ kept)
        (λ (e : is_at t (home_of o i.request.op) ≡ false).
        let elsewhere : get (seated o t s i) c ≡ get s c = ap (λ b. get (chosen_by b) c) e in elsewhere)
        (by_bool (is_at t (home_of o i.request.op)))

    -- the last item of the seat, which has its greatest number
    pub record Last (is : List Item) (seat : Option (ℕ × Reply)) : Type 0 where
      pub item : Item
      pub here : IsIn item is
      pub seat_of : AtSeat item.request
      pub is_last : seat ≡ Some (item.request.number, item.reply)
      pub most : (j : Item) → IsIn j is → AtSeat j.request → j.request.number ≤ item.request.number

    pub seat_last : (is : List Item) (s : Seats) → Ordered o is
        → Last is (get (seats_from o t s is) c) ⊎ (((j : Item) → IsIn j is → AtSeat j.request → ⊥) × (get (seats_from o t s is) c ≡ get s c))
    seat_last [] s ord = inr ((λ j h. absurd h), refl)
    seat_last (i ∷ is) s ord = ⊎_elim
        (λ (l : Last is (get (seats_from o t (seated o t s i) is) c)). inl (record {
          item = l.item;
          here = inr l.here;
          seat_of = l.seat_of;
          is_last = l.is_last;
          most = λ j h a. ⊎_elim
              (λ (e : j ≡ i). let lt : i.request.number < l.item.request.number = all_mem (λ k. SameSeat o i.request k.request → i.request.number < k.request.number) is l.item ord.0 l.here
              (let b : AtSeat i.request = subst (λ (k : Item). AtSeat k.request) e a in (b.0 ∙ sym l.seat_of.0, b.1 ∙ sym l.seat_of.1)) in
              subst (λ (k : Item). k.request.number ≤ l.item.request.number) (sym e) (le_of_lt lt))
              (λ (g : IsIn j is). l.most j g a) h;
        }))
        (λ (n : ((j : Item) → IsIn j is → AtSeat j.request → ⊥) × (get (seats_from o t (seated o t s i) is) c ≡ get (seated o t s i) c)). ⊎_elim
        (λ (a : AtSeat i.request). inl (record {
          item = i;
          here = inl refl;
          seat_of = a;
          is_last = n.1 ∙ seated_here i s a;
          most = λ j h b. ⊎_elim (λ (e : j ≡ i). subst (λ (k : Item). k.request.number ≤ i.request.number) (sym e) (le_refl _)) (λ (g : IsIn j is). absurd (n.0 j g b)) h;
        }))
        (λ (no : AtSeat i.request → ⊥). inr ((λ j h b. ⊎_elim (λ (e : j ≡ i). no (subst (λ (k : Item). AtSeat k.request) e b)) (λ (g : IsIn j is). n.0 j g b) h), n.1 ∙ seated_other i s no))
        (seat_tells i.request))
        (seat_last is (seated o t s i) ord.1)

  -- who passes the seat's judgement is above all earlier numbers of the seat
  pub passes : (h : List Item) (r : Request) (t : ℕ) → Ordered o h → home_of o r.op ≡ Some t → IsBelow (get (seats_from o t empty h) r.client) r.number → Newest o h r
  passes h r t ord home below = mem_all (λ i. SameSeat o i.request r → i.request.number < r.number) h (λ i here same. ⊎_elim
      (λ (l : Last t r.client h (get (seats_from o t empty h) r.client)).
      let lt : l.item.request.number < r.number = subst (λ s. IsBelow s r.number) l.is_last below in
      let le : i.request.number ≤ l.item.request.number = l.most i here (same.0, same.1 ∙ home) in omega (arith, lt, le))
      (λ (n : ((j : Item) → IsIn j h → AtSeat t r.client j.request → ⊥) × (get (seats_from o t empty h) r.client ≡ get empty r.client)). absurd (n.0 i here (same.0, same.1 ∙ home)))
      (seat_last t r.client h empty ord))
