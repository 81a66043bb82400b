-- What a repeated request is answered: the reply that its seat has.
use Rattle.std.proofs.Common.{◌≡◌, ◌<◌, ◌≤◌, inl, inr, ⊎_elim, ℕ, suc, Bool, true, false, true≢false, if◌then◌else◌, ◌++◌, ◌+◌, Some, List, [], ◌∷◌, length, refl, sym, ap, ◌∙◌, subst, arith, zero-add}
use Rattle.std.specs.FinMap.{empty, get, insert}
use Rattle.std.specs.List.{AllByRecursion}
use Rattle.std.proofs.lemmas.Bool.Decides.{eqb_tells}
use Rattle.tree_model.specs.History.{Item}
use Rattle.tree_model.specs.Participants.{home_of}
use Rattle.tree_model.specs.declared.op.Request.{Request}
use Rattle.tree_model.specs.declared.reply.Reply.{Reply}
use Rattle.tree_shares.specs.Seats.{HasSeat, IsLast, IsSeat, SameSeat, Seats, Share, SitsAt, seated, seats_from, share_of}
use Rattle.tree_shares.specs.ShareLaws.{SeatsAreLast}
use Rattle.tree_shares.specs.Shares.{is_at}
use Rattle.update_protocol.specs.Epochs.{Reached}
use Rattle.update_protocol.specs.Events.{has_now}
use Rattle.update_protocol.specs.Lists.{IsIn}
use Rattle.update_protocol.specs.Machine.{Answers, IsLate, Serving, State, history_of}
use Rattle.update_protocol.specs.Parts.{IsSent, entries_of}
use Rattle.update_protocol.specs.Rows.{has}
use Rattle.update_protocol.specs.Seats.{is_read}
use Rattle.update_protocol.specs.States.{Spoken, state_of}
use Rattle.update_protocol.specs.World.{Accepted, History, World, after_items, at, entry, made, master, request_of}
use Rattle.update_protocol.proofs.Fitting.{as_places}
use Rattle.update_protocol.proofs.Legal.{after_joined}
use Rattle.update_protocol.proofs.Saying.{homes, inv}
use Rattle.update_protocol.proofs.SayingAccept.{grown_is, history_is}
use Rattle.update_protocol.proofs.Seating.{ordered_after}
use Rattle.update_protocol.proofs.Setting.{Setting}
use Rattle.update_protocol.proofs.Shares.{placed, places_from}
use Rattle.update_protocol.proofs.Showing.{has_not}

-- ---- the seats of what a target executed

abbrev seats_along : ℕ → ℕ → List Accepted → List ℕ → Seats → Seats
seats_along o t since [] s = s
seats_along o t since (n ∷ ns) s = seats_along o t since ns (seated o t s (entry (at since n)))

seats_made : (o t : ℕ) (since : List Accepted) (ns : List ℕ) (s : Share) → (made o since t ns s).seats ≡ seats_along o t since ns s.seats
seats_made o t since [] s = refl
seats_made o t since (n ∷ ns) s = seats_made o t since ns _

-- an item of another home sets no seat
other_seat : (o t : ℕ) (x : Accepted) (s : Seats) → home_of o (request_of x).op ≡ Some (master x) → (master x ≡ t → ⊥) → seated o t s (entry x) ≡ s
other_seat o t x s home other = elim (eqb_tells (master x) t) [
  | inl w ↦ absurd (other w.1)
  | inr w ↦ ap (λ h. if is_at t h then insert s (request_of x).client ((request_of x).number, x.reply) else s) home
      ∙ ap (λ b. if b then insert s (request_of x).client ((request_of x).number, x.reply) else s) w.0
]

module _ (o t : ℕ) (since : List Accepted) (done : List ℕ) where
  abbrev among : ℕ → Accepted → Bool
  among n x = has n done

  one_more : (b : Bool) (k : ℕ) (x : Accepted) (ns : List ℕ) (s : Seats) → at since k ≡ x → (b ≡ false → seated o t s (entry x) ≡ s)
      → seats_along o t since (placed b k ns) s ≡ seats_along o t since ns (seated o t s (entry x))
  one_more true k x ns s here other = ap (λ y. seats_along o t since ns (seated o t s (entry y))) here
  one_more false k x ns s here other = ap (λ q. seats_along o t since ns q) (sym (other refl))

  seats_all : (xs : List Accepted) (k : ℕ) (s : Seats) → ((j : ℕ) → j < length xs → at since (k + j) ≡ at xs j) → ((j : ℕ) → j < length xs → (q : Seats) → has (k + j) done ≡ false → seated o t q (entry (at xs j)) ≡ q)
      → seats_along o t since (places_from among k xs) s ≡ seats_from o t s (entries_of xs)
  unfolding at
  seats_all [] k s same others = refl
  seats_all (x ∷ xs) k s same others =
      let first : k + 0 ≡ k = omega arith in
      one_more (has k done) k x (places_from among (suc k) xs) s (subst (λ n. at since n ≡ x) first (same 0 (omega arith))) (λ e. others 0 (omega arith) s (ap (λ n. has n done) first ∙ e))
      ∙ seats_all xs (suc k) (seated o t s (entry x))
      (λ j l. let next : k + suc j ≡ suc k + j = omega arith in subst (λ n. at since n ≡ at xs j) next (same (suc j) (omega (arith, l))))
      (λ j l q e. let next : k + suc j ≡ suc k + j = omega arith in others (suc j) (omega (arith, l)) q (ap (λ n. has n done) next ∙ e))

seats_join : (o t : ℕ) (s : Seats) (h k : History) → seats_from o t s (h ++ k) ≡ seats_from o t (seats_from o t s h) k
seats_join o t s [] k = refl
seats_join o t s (i ∷ h) k = seats_join o t (seated o t s i) h k

seat_item : (targets target client : ℕ) (seat : ℕ × Reply) (h : History) → HasSeat targets target client seat h → (i : Item) × IsIn i h × IsSeat targets target client seat i
seat_item targets target client seat [] m = absurd m
seat_item targets target client seat (i ∷ h) m = ⊎_elim (λ s. (i, inl refl, s)) (λ m. let r = seat_item targets target client seat h m in (r.0, inr r.1, r.2)) m

pub all_of_them : (P Q : Item → Type 0) → ((i : Item) → P i → Q i) → (h : History) → AllByRecursion P h → AllByRecursion Q h
all_of_them P Q f [] a = tt
all_of_them P Q f (i ∷ h) a = (f i a.0, all_of_them P Q f h a.1)

request_is : (sent : ℕ → Request) (h : History) → IsSent sent h → (i : Item) → IsIn i h → i.request ≡ sent i.request.number
request_is sent [] known i m = absurd m
request_is sent (j ∷ h) known i m = ⊎_elim (λ e. subst (λ (k : Item). k.request ≡ sent k.request.number) (sym e) known.0) (λ m. request_is sent h known.1 i m) m

module _ (σ : Setting) (lasts : SeatsAreLast) (h : History) (w : World) (r : Reached σ.targets h w) (t : ℕ) (up : w.up t ≡ true) where
  -- a home that is up has executed all of its own, so its seats are those of the whole history
  own_seats : (has_now σ.targets w t).seats ≡ seats_from σ.targets t empty (after_items w.base w.since)
  own_seats =
      let i = inv σ h w r in
      seats_made σ.targets t w.since (w.done t) (share_of σ.targets w.base t)
      ∙ ap (λ ns. seats_along σ.targets t w.since ns (seats_from σ.targets t empty w.base)) (as_places w.since (w.done t) (i.executed.in_order t) (λ n m. (i.executed.known_done t n m).0))
      ∙ seats_all σ.targets t w.since (w.done t) w.since 0 (seats_from σ.targets t empty w.base) (λ j l. ap (at w.since) (zero-add j))
      (λ j l q e. other_seat σ.targets t (at w.since j) q (homes σ.targets w.base w.since i.follows j l)
      (λ home. has_not (0 + j) (w.done t) e (subst (λ n. IsIn n (w.done t)) (sym (zero-add j)) (subst (λ m. IsIn j (w.done m)) home (i.executed.home_done j l (subst (λ m. w.up m ≡ true) (sym home) up))))))
      ∙ sym (seats_join σ.targets t empty w.base (entries_of w.since))
      ∙ ap (seats_from σ.targets t empty) (sym (after_joined w.base w.since))

  -- and each is the last of its client there
  pub seat_is_last : (client : ℕ) → IsLast σ.targets t client (h ++ entries_of w.since) (get (has_now σ.targets w t).seats client)
  seat_is_last client =
      subst (λ g. IsLast σ.targets t client g (get (has_now σ.targets w t).seats client)) (grown_is σ h w r)
      (subst (IsLast σ.targets t client (after_items w.base w.since)) (sym (ap (λ s. get s client) own_seats))
      (lasts σ.targets t client (after_items w.base w.since) (ordered_after σ.targets w.base w.since (inv σ h w r).grounded.ordered (inv σ h w r).follows)))

module _ (σ : Setting) (lasts : SeatsAreLast) (h : History) (w : World) (r : Reached σ.targets h w) (sent : ℕ → Request) (known : IsSent sent (h ++ entries_of w.since)) (o : Spoken) (t : ℕ) (up : w.up t ≡ true) where
  abbrev now : State
  now = state_of σ.targets o w

  module _ (q : Request) (home : home_of σ.targets q.op ≡ Some t) (last : ℕ) (reply : Reply) (seat : get (has_now σ.targets w t).seats q.client ≡ Some (last, reply)) where
    is_last : IsLast σ.targets t q.client (history_of now) (Some (last, reply))
    is_last = subst (λ g. IsLast σ.targets t q.client g (Some (last, reply))) (history_is σ h w r sent known o) (subst (IsLast σ.targets t q.client (h ++ entries_of w.since)) seat (seat_is_last σ lasts h w r t up q.client))

    seated_item : (i : Item) × IsIn i (history_of now) × IsSeat σ.targets t q.client (last, reply) i
    seated_item = seat_item σ.targets t q.client (last, reply) (history_of now) is_last.1

    most : AllByRecursion (λ k. SameSeat σ.targets k.request q → k.request.number ≤ last) (history_of now)
    most = all_of_them (λ k. SitsAt σ.targets t q.client k → k.request.number ≤ last) (λ k. SameSeat σ.targets k.request q → k.request.number ≤ last)
        (λ k below s. below (s.0, s.1 ∙ home)) (history_of now) is_last.0

    -- a greater number was accepted
    pub late : IsIn q o.sent → is_read q.op ≡ false → o.standing t ≡ Serving → q.number < last → IsLate now q.number last
    late was_sent changes serves later = record {
      comes = record { request = q; was_sent = was_sent; numbered = refl; home = t; at_home = home; serves = serves };
      changes = changes;
      item = seated_item.0;
      accepted = seated_item.1;
      same_seat = (seated_item.2.0.0, seated_item.2.0.1 ∙ sym home);
      numbered = seated_item.2.1;
      is_last = most;
      later = later;
    }

  pub answers : (q : Request) → home_of σ.targets q.op ≡ Some t → (reply : Reply) → get (has_now σ.targets w t).seats q.client ≡ Some (q.number, reply) → q ≡ sent q.number → IsIn q o.sent → is_read q.op ≡ false → o.standing t ≡ Serving
      → Answers now q.number reply
  answers q home reply seat is was_sent changes serves = record {
    comes = record { request = q; was_sent = was_sent; numbered = refl; home = t; at_home = home; serves = serves };
    read = λ e. absurd (true≢false (sym e ∙ changes));
    kept = λ e.
        let i = seated_item q home q.number reply seat in
        let same : i.0.request ≡ q = request_is sent (history_of now) (subst (IsSent sent) (history_is σ h w r sent known o) known) i.0 i.1 ∙ ap sent i.2.1 ∙ sym is in
        let item : i.0 ≡ record { request = q; reply = reply } = (λ j. record { request = same j; reply = i.2.2 j }) in
        (subst (λ (k : Item). IsIn k (history_of now)) item i.1, most q home q.number reply seat);
  }
