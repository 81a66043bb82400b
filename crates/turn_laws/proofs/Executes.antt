-- A record is executed at a target: what the node keeps of it is what the machine says.
use Rattle.std.proofs.Common.{◌≡◌, ◌≢◌, ◌≤◌, ◌<◌, ◌+◌, ◌==◌, inl, inr, ⊎_elim, max, zero, suc, length, drop, ℕ, Bool, true, false, cond, true≢false, if◌then◌else◌, List, [], ◌∷◌, ◌++◌, map, get_or, set, ltb, Option, Some, None, refl, sym, ap, ◌∙◌, subst, arith}
use Rattle.std.specs.FinMap.{get, insert, get-insert, empty}
use Rattle.std.specs.Cmp.{unsigned_tied}
use Rattle.std.specs.Option.{unwrap_or}
use Rattle.std.proofs.lemmas.Cmp.{nat_cmp_total}
use Rattle.std.proofs.lemmas.Bool.{ltb-true}
use Rattle.std.proofs.lemmas.Bool.Decides.{eqb_tells}
use Rattle.std.proofs.lemmas.List.{get_or-set_same, get_or-set_other, length-set}
use Rattle.tree_model.specs.declared.op.Request.{Request}
use Rattle.tree_model.specs.declared.reply.Reply.{Reply}
use Rattle.tree_model.specs.Participants.{home_of}
use Rattle.out_update.specs.declared.update.Update.{Update}
use Rattle.llog_store.specs.Log.{Entry, Log}
use Rattle.llog_store.specs.Changes.{appended, given_index, live_payloads}
use Rattle.reply_cache.specs.declared.seats.Seat.{Seat}
use Rattle.reply_cache.specs.Seats.{has_later, put_seat, refusal_of}
use Rattle.commit_sharing.specs.Pending.{Writers, noted}
use Rattle.object_store.specs.Meaning.{after_all}
use Rattle.update_record.specs.Spelling.{part_for, record_text, targets_from}
use Rattle.update_record.specs.declared.message.Attempt.{Attempt as Name}
use Rattle.update_record.specs.declared.operation.Record.{Record}
use Rattle.target_state.specs.State.{TargetState}
use Rattle.target_state.specs.Rules.{executed, own_batch, own_seats, own_updates, updates_of, waiting_of, with_ended}
use Rattle.tree_shares.specs.Seats.{Share, seated, share_of}
use Rattle.tree_shares.specs.Shares.{is_at}
use Rattle.update_protocol.specs.Lists.{put}
use Rattle.update_protocol.specs.Rows.{has, live}
use Rattle.update_protocol.specs.Seats.{IsBelow}
use Rattle.update_protocol.specs.World.{Accepted, Attempt, History, applied, at, entry, made, master, request_of}
use Rattle.update_protocol.proofs.Basics.{by_bool, length-push}
use Rattle.turn_laws.specs.Values.{Slice, fids_of, name_of, noted_all, record_of, records, seat_of}
use Rattle.turn_laws.specs.Agrees.{KeepsNode}

pub drop_push : (k : ℕ) (xs : List ℕ) (n : ℕ) → k ≤ length xs → drop k (xs ++ n ∷ []) ≡ drop k xs ++ n ∷ []
drop_push zero xs n l = refl
drop_push (suc k) [] n l = absurd (omega (arith, l))
drop_push (suc k) (x ∷ xs) n l = drop_push k xs n (omega (arith, l))

live_push : (xs gone : List ℕ) (n : ℕ) → has n gone ≡ false → live (xs ++ n ∷ []) gone ≡ live xs gone ++ n ∷ []
live_push [] gone n e = ap (λ b. if b then [] else n ∷ []) e
live_push (x ∷ xs) gone n e = by_case (has x gone) (live_push xs gone n e)
  where
    by_case : (b : Bool) → live (xs ++ n ∷ []) gone ≡ live xs gone ++ n ∷ [] → (if b then live (xs ++ n ∷ []) gone else x ∷ live (xs ++ n ∷ []) gone) ≡ (if b then live xs gone else x ∷ live xs gone) ++ n ∷ []
    by_case true q = q
    by_case false q = ap (λ l. x ∷ l) q

records_push : (e : ℕ) (since : List Accepted) (xs : List ℕ) (n : ℕ) → records e since (xs ++ n ∷ []) ≡ records e since xs ++ record_of e (at since n) ∷ []
records_push e since [] n = refl
records_push e since (x ∷ xs) n = ap (λ l. record_of e (at since x) ∷ l) (records_push e since xs n)

noted_push : (t : ℕ) (ws : Writers) (rs : List Record) (r : Record) → noted_all t ws (rs ++ r ∷ []) ≡ noted r.number (targets_from 0 r.parts) (noted_all t ws rs) (fids_of (own_updates t r))
noted_push t ws [] r = refl
noted_push t ws (q ∷ rs) r = noted_push t (noted q.number (targets_from 0 q.parts) ws (fids_of (own_updates t q))) rs r

waiting_push : (rs : List Record) (r : Record) → map waiting_of (rs ++ r ∷ []) ≡ map waiting_of rs ++ waiting_of r ∷ []
waiting_push [] r = refl
waiting_push (q ∷ rs) r = ap (λ l. waiting_of q ∷ l) (waiting_push rs r)

texts_push : (rs : List Record) (r : Record) → map record_text (rs ++ r ∷ []) ≡ map record_text rs ++ record_text r ∷ []
texts_push [] r = refl
texts_push (q ∷ rs) r = ap (λ l. record_text q ∷ l) (texts_push rs r)

live_last : (es : List Entry) (i : ℕ) (p : List ℕ) → live_payloads (es ++ record { index = i; live = true; payload = p } ∷ []) ≡ live_payloads es ++ p ∷ []
unfolding live_payloads
live_last [] i p = refl
live_last (e ∷ es) i p = by_case e.live (live_last es i p)
  where
    by_case : (b : Bool) → live_payloads (es ++ record { index = i; live = true; payload = p } ∷ []) ≡ live_payloads es ++ p ∷ []
        → (if b then e.payload ∷ live_payloads (es ++ record { index = i; live = true; payload = p } ∷ []) else live_payloads (es ++ record { index = i; live = true; payload = p } ∷ [])) ≡ (if b then e.payload ∷ live_payloads es else live_payloads es) ++ p ∷ []
    by_case true q = ap (λ l. e.payload ∷ l) q
    by_case false q = q

pub live_appended : (log : Log) (p : List ℕ) → live_payloads (appended log p).entries ≡ live_payloads log.entries ++ p ∷ []
unfolding appended
live_appended log p = live_last log.entries (given_index log p) p

updates_same : (o : Option (List Update)) → updates_of o ≡ unwrap_or o []
updates_same None = refl
updates_same (Some us) = refl

pub none_some : (a : Attempt) → ◌≡◌ {A = Option Attempt} None (Some a) → ⊥
none_some a q = cc

-- a seat of a smaller number is no later one
not_later : (o : Option (ℕ × Reply)) (number : ℕ) → IsBelow o number → has_later (seat_of o) number ≡ false
not_later None number below = refl
not_later (Some s) number below = ⊎_elim (λ (e : ltb number s.0 ≡ true). absurd (let l = ltb-true number s.0 e in omega (arith, l, below))) (λ (e : ltb number s.0 ≡ false). e) (by_bool (ltb number s.0))

pub ended_put : (es : List ℕ) (f : ℕ → ℕ) (who x m : ℕ) → length es ≡ 16 → ((j : ℕ) → j < 16 → get_or es j 0 ≡ f j) → m < 16
    → get_or (set es who (max (get_or es who 0) x)) m 0 ≡ put f who (max (f who) x) m
ended_put es f who x m wide old inside = elim (eqb_tells m who) [
  | inl q ↦ let low : who < 16 = subst (λ j. j < 16) q.1 inside in
      ap (λ j. get_or (set es who (max (get_or es who 0) x)) j 0) q.1
      ∙ get_or-set_same es who (max (get_or es who 0) x) 0 (subst (λ n. who < n) (sym wide) low)
      ∙ ap (λ v. max v x) (old who low)
      ∙ sym (ap (λ b. if b then max (f who) x else f m) q.0)
  | inr q ↦ get_or-set_other es who m (max (get_or es who 0) x) 0 q.1 ∙ old m inside ∙ sym (ap (λ b. if b then max (f who) x else f m) q.0)
]

-- the seats of a home after an item whose number is above the seat
module _ (t : ℕ) (x : Accepted) (e : ℕ) (seats : List (Option Seat)) (s : Share) where
  abbrev who : ℕ
  who = (request_of x).client

  abbrev number : ℕ
  number = (request_of x).number

  abbrev seat : Seat
  seat = record { number = number; refused = refusal_of x.reply }

  put_or : (later : Bool) (client : ℕ) → client < length (if later then seats else set seats who (Some seat)) → client < length seats
  put_or true client low = low
  put_or false client low = subst (λ n. client < n) (length-set seats who (Some seat)) low

  put_other : (later : Bool) (client : ℕ) → client ≢ who → get_or (if later then seats else set seats who (Some seat)) client None ≡ get_or seats client None
  put_other true client ne = refl
  put_other false client ne = get_or-set_other seats who client (Some seat) None ne

  home_seat : IsBelow (get s.seats who) number → ((client : ℕ) → client < length seats → get_or seats client None ≡ seat_of (get s.seats client))
      → (client : ℕ) → client < length (put_seat seats who number x.reply) → get_or (put_seat seats who number x.reply) client None ≡ seat_of (get (insert s.seats who (number, x.reply)) client)
  home_seat below old client low =
      let inside : client < length seats = put_or (has_later (get_or seats who None) number) client low in
      elim (eqb_tells client who) [
        | inl q ↦
            let here : who < length seats = subst (λ n. n < length seats) q.1 inside in
            let new : has_later (get_or seats who None) number ≡ false = ap (λ o. has_later o number) (old who here) ∙ not_later (get s.seats who) number below in
            ap (λ b. get_or (if b then seats else set seats who (Some seat)) client None) new
            ∙ ap (λ n. get_or (set seats who (Some seat)) n None) q.1
            ∙ get_or-set_same seats who (Some seat) None here
            ∙ sym (ap seat_of (get-insert nat_cmp_total s.seats who (number, x.reply) client ∙ ap (λ b. cond b (Some (number, x.reply)) (get s.seats client)) (unsigned_tied client who ∙ q.0)))
        | inr q ↦ put_other (has_later (get_or seats who None) number) client q.1
            ∙ old client inside
            ∙ sym (ap seat_of (get-insert nat_cmp_total s.seats who (number, x.reply) client ∙ ap (λ b. cond b (Some (number, x.reply)) (get s.seats client)) (unsigned_tied client who ∙ q.0)))
      ]

  seat_put : (targets : ℕ) → home_of targets (request_of x).op ≡ Some (master x) → (master x ≡ t → IsBelow (get s.seats who) number)
      → ((client : ℕ) → client < length seats → get_or seats client None ≡ seat_of (get s.seats client))
      → (client : ℕ) → client < length (own_seats t seats (record_of e x)) → get_or (own_seats t seats (record_of e x)) client None ≡ seat_of (get (seated targets t s.seats (entry x)) client)
  seat_put targets home below old client low =
      by_case (master x == t) refl low ∙ ap (λ p. seat_of (get (if is_at t p then insert s.seats who (number, x.reply) else s.seats) client)) (sym home)
    where
      by_case : (b : Bool) → (master x == t) ≡ b → client < length (if b then put_seat seats who number x.reply else seats)
          → get_or (if b then put_seat seats who number x.reply else seats) client None ≡ seat_of (get (if b then insert s.seats who (number, x.reply) else s.seats) client)
      by_case false q low = old client low
      by_case true q low = home_seat (below (is_it q)) old client low
        where
          is_it : (master x == t) ≡ true → master x ≡ t
          is_it q = elim (eqb_tells (master x) t) [
            | inl h ↦ h.1
            | inr h ↦ absurd (true≢false (sym q ∙ h.0))
          ]

-- the target's part of a world after it executed n
abbrev pub done_slice : Slice → ℕ → Accepted → Option Attempt → ℕ → Slice
done_slice s n x trying batches = record s {
  done = s.done ++ n ∷ [];
  holder = None;
  ended = put s.ended (master x) (max (s.ended (master x)) x.attempt.turn);
  clock = x.stamp;
  batches = batches;
  trying = trying;
}

module _ (targets : ℕ) where
  made_push : (since : List Accepted) (t : ℕ) (xs : List ℕ) (n : ℕ) (s : Share) → made targets since t (xs ++ n ∷ []) s ≡ applied targets t (at since n) (made targets since t xs s)
  made_push since t [] n s = refl
  made_push since t (x ∷ xs) n s = made_push since t xs n (applied targets t (at since x) s)

  -- what the node becomes, where the target has this number
  abbrev node_at : ℕ → TargetState → Name → Record → TargetState
  node_at t nd by r = record nd {
    seats = own_seats t nd.seats r;
    log = appended nd.log (record_text r);
    objects = after_all nd.objects (own_updates t r);
    writers = noted r.number (targets_from 0 r.parts) nd.writers (fids_of (own_updates t r));
    waiting = nd.waiting ++ (waiting_of r ∷ []);
    transno = nd.transno + 1;
    clock = r.stamp;
    next_batch = own_batch t nd.next_batch r;
    holder = None;
    ended = with_ended nd.ended by;
  }

  pub node_executes : (e : ℕ) (sent : List Request) (start : ℕ) (base : History) (since : List Accepted) (t : ℕ) (s : Slice) (nd : TargetState) (n : ℕ) (trying : Option Attempt) (batches : ℕ)
      → KeepsNode targets e sent start base since t s nd → has n s.gone ≡ false → length s.disk ≤ length s.done → home_of targets (request_of (at since n)).op ≡ Some (master (at since n))
      → (master (at since n) ≡ t → IsBelow (get (made targets since t s.done (share_of targets base t)).seats (request_of (at since n)).client) (request_of (at since n)).number)
      → KeepsNode targets e sent start base since t (done_slice s n (at since n) trying batches) (executed nd (name_of e (at since n).attempt) (record_of e (at since n)))
  node_executes e sent start base since t s nd n trying batches k live_n le home below =
      subst (λ i. KeepsNode targets e sent start base since t (done_slice s n (at since n) trying batches) (node_at i nd (name_of e (at since n).attempt) (record_of e (at since n)))) (sym k.index) (record {
        cluster = k.cluster;
        index = k.index;
        epoch = k.epoch;
        transno = (let a = k.transno in let b = length-push s.done n in omega (arith, a, b));
        clock = refl;
        mark = k.mark;
        seats = λ client l. seat_put t (at since n) e nd.seats (made targets since t s.done (share_of targets base t)) targets home below k.seats client l ∙ ap (λ (h : Share). seat_of (get h.seats client)) (sym (made_push since t s.done n (share_of targets base t)));
        objects = ap (λ m. after_all m (own_updates t (record_of e (at since n)))) k.objects ∙ ap (after_all (made targets since t s.done (share_of targets base t)).objects) (updates_same (part_for t (at since n).parts)) ∙ ap (λ (h : Share). h.objects) (sym (made_push since t s.done n (share_of targets base t)));
        log = live_appended nd.log (record_text (record_of e (at since n))) ∙ ap (λ l. l ++ record_text (record_of e (at since n)) ∷ []) k.log
            ∙ sym (ap (λ l. map record_text (records e since l)) (live_push s.done s.gone n live_n) ∙ ap (map record_text) (records_push e since (live s.done s.gone) n) ∙ texts_push (records e since (live s.done s.gone)) (record_of e (at since n)));
        waiting = ap (λ l. l ++ waiting_of (record_of e (at since n)) ∷ []) k.waiting
            ∙ sym (ap (λ l. map waiting_of (records e since l)) (drop_push (length s.disk) s.done n le) ∙ ap (map waiting_of) (records_push e since (drop (length s.disk) s.done) n) ∙ waiting_push (records e since (drop (length s.disk) s.done)) (record_of e (at since n)));
        writers = ap (λ ws. noted (record_of e (at since n)).number (targets_from 0 (record_of e (at since n)).parts) ws (fids_of (own_updates t (record_of e (at since n))))) k.writers
            ∙ sym (ap (λ l. noted_all t empty (records e since l)) (drop_push (length s.disk) s.done n le) ∙ ap (noted_all t empty) (records_push e since (drop (length s.disk) s.done) n) ∙ noted_push t empty (records e since (drop (length s.disk) s.done)) (record_of e (at since n)));
        holder = refl;
        genuine = λ a h. absurd (none_some a h);
        wide = length-set nd.ended (master (at since n)) (max (get_or nd.ended (master (at since n)) 0) (at since n).attempt.turn) ∙ k.wide;
        ended = λ m l. ended_put nd.ended s.ended (master (at since n)) (at since n).attempt.turn m k.wide k.ended l;
      })
