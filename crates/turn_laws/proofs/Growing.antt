-- What agrees, agrees where items and messages are more.
use Rattle.std.proofs.Common.{◌≡◌, ◌≤◌, ◌<◌, ◌-◌, ◌⊎◌, inl, inr, zero, suc, length, drop, ℕ, Bool, true, false, if◌then◌else◌, List, [], ◌∷◌, map, get_or, Option, Some, None, refl, sym, ap, ◌∙◌, subst}
use Rattle.std.specs.FinMap.{get, empty}
use Rattle.tree_model.specs.declared.op.Request.{Request}
use Rattle.update_record.specs.declared.message.Message.{Message as Mail}
use Rattle.update_record.specs.declared.message.MessageKind.{MessageKind}
use Rattle.update_record.specs.declared.message.MessageKind.TheVariants as kind
use Rattle.update_record.specs.Spelling.{record_text, targets_from}
use Rattle.cluster_mail.specs.declared.content.Content.{Content}
use Rattle.cluster_mail.specs.declared.content.Content.TheVariants as content
use Rattle.target_state.specs.State.{TargetState}
use Rattle.target_state.specs.Rules.{waiting_of}
use Rattle.update_coordinator.specs.Coordinating.{Coordinating}
use Rattle.target_turns.specs.Target.{Target}
use Rattle.tree_shares.specs.Seats.{Share, share_of}
use Rattle.update_protocol.specs.Lists.{IsIn}
use Rattle.update_protocol.specs.Rows.{has, live}
use Rattle.update_protocol.specs.World.{Accepted, History, Message, applied, at, is_on, made, master, request_of}
use Rattle.turn_laws.specs.Values.{Inside, Questions, Slice, name_of, noted_all, record_of, records, seat_of, writer_at}
use Rattle.turn_laws.specs.Agrees.{Carried, Keeps, KeepsHome, KeepsNode, Tied, TiedExecute, TiedHeld, TiedHold, TiedSync}

pub record Goes (since later : List Accepted) (pool after : List Message) : Type 0 where
  pub grows : (n : ℕ) → n < length since → (n < length later) × (at later n ≡ at since n)
  pub more : (p : Message) → IsIn p pool → IsIn p after

-- all are places in since
abbrev pub Known : List Accepted → List ℕ → Type 0
Known since xs = (n : ℕ) → IsIn n xs → n < length since

mem_drop : (k : ℕ) (xs : List ℕ) (n : ℕ) → IsIn n (drop k xs) → IsIn n xs
mem_drop zero xs n m = m
mem_drop (suc k) [] n m = absurd m
mem_drop (suc k) (x ∷ xs) n m = inr (mem_drop k xs n m)

pub mem_live : (xs gone : List ℕ) (n : ℕ) → IsIn n (live xs gone) → IsIn n xs
mem_live [] gone n m = absurd m
mem_live (x ∷ xs) gone n m = by_case (has x gone) m (mem_live xs gone n)
  where
    by_case : (b : Bool) → IsIn n (if b then live xs gone else x ∷ live xs gone) → (IsIn n (live xs gone) → IsIn n xs) → (n ≡ x) ⊎ IsIn n xs
    by_case true m f = inr (f m)
    by_case false (inl e) f = inl e
    by_case false (inr m) f = inr (f m)

module _ (since later : List Accepted) (grows : (n : ℕ) → n < length since → (n < length later) × (at later n ≡ at since n)) where
  records_grow : (e : ℕ) (xs : List ℕ) → Known since xs → records e later xs ≡ records e since xs
  records_grow e [] known = refl
  records_grow e (n ∷ xs) known = ap (λ y. record_of e y ∷ records e later xs) (grows n (known n (inl refl))).1 ∙ ap (λ l. record_of e (at since n) ∷ l) (records_grow e xs (λ m h. known m (inr h)))

  writer_grows : (k : Option ℕ) → Inside since k → writer_at later k ≡ writer_at since k
  writer_grows None i = refl
  writer_grows (Some k) i = ap (λ (y : Accepted). Some ((request_of y).number, targets_from 0 y.parts)) (grows k i).1

  inside_grows : (k : Option ℕ) → Inside since k → Inside later k
  inside_grows None i = tt
  inside_grows (Some k) i = (grows k i).0

  module _ (targets : ℕ) where
    made_grows : (t : ℕ) (xs : List ℕ) (s : Share) → Known since xs → made targets later t xs s ≡ made targets since t xs s
    made_grows t [] s known = refl
    made_grows t (n ∷ xs) s known = ap (λ y. made targets later t xs (applied targets t y s)) (grows n (known n (inl refl))).1 ∙ made_grows t xs (applied targets t (at since n) s) (λ m h. known m (inr h))

    pub node_grows : (e : ℕ) (sent : List Request) (start : ℕ) (base : History) (t : ℕ) (s : Slice) (nd : TargetState) → Known since s.done → KeepsNode targets e sent start base since t s nd → KeepsNode targets e sent start base later t s nd
    node_grows e sent start base t s nd known k =
        let same = made_grows t s.done (share_of targets base t) known in
        let pend = records_grow e (drop (length s.disk) s.done) (λ n h. known n (mem_drop (length s.disk) s.done n h)) in
        record {
          cluster = k.cluster;
          index = k.index;
          epoch = k.epoch;
          transno = k.transno;
          clock = k.clock;
          mark = k.mark;
          seats = λ client l. k.seats client l ∙ ap (λ (h : Share). seat_of (get h.seats client)) (sym same);
          objects = k.objects ∙ ap (λ (h : Share). h.objects) (sym same);
          log = k.log ∙ ap (map record_text) (sym (records_grow e (live s.done s.gone) (λ n h. known n (mem_live s.done s.gone n h))));
          waiting = k.waiting ∙ ap (map waiting_of) (sym pend);
          writers = k.writers ∙ ap (noted_all t empty) (sym pend);
          holder = k.holder;
          genuine = k.genuine;
          wide = k.wide;
          ended = k.ended;
        }

    -- no item more is one of this home
    pub home_grows : (e : ℕ) (sent : List Request) (t : ℕ) (s : Slice) (c : Coordinating) → ((n : ℕ) → n < length later → master (at later n) ≡ t → n < length since)
        → KeepsHome targets e sent since t s c → KeepsHome targets e sent later t s c
    home_grows e sent t s c own k = record {
      cluster = k.cluster;
      at_home = k.at_home;
      epoch = k.epoch;
      attempts = k.attempts;
      batches = k.batches;
      sets = λ n l is. let old = own n l is in let same = (grows n old).1 in
          ap (λ (x : Accepted). get_or c.batches (x.batch - 1) 0) same ∙ k.sets n old (ap master (sym same) ∙ is) ∙ ap (λ (x : Accepted). targets_from 0 x.parts) (sym same);
      wide = k.wide;
      stable = k.stable;
      mark = k.mark;
      under = λ n l is. let old = own n l is in let same = (grows n old).1 in
          subst (λ (x : Accepted). x.batch ≤ s.mark → (u : ℕ) → is_on x u ≡ true → x.batch ≤ s.stable u) (sym same) (k.under n old (ap master (sym same) ∙ is));
      idle = k.idle;
      going = k.going;
    }

    pub keeps_grows : (e : ℕ) (sent : List Request) (start : ℕ) (base : History) (t : ℕ) (s : Slice) (x : Target) → ((n : ℕ) → n < length later → master (at later n) ≡ t → n < length since) → Known since s.done
        → Keeps targets e sent start base since t s x → Keeps targets e sent start base later t s x
    keeps_grows e sent start base t s x own known k = record { cluster = k.cluster; index = k.index; node = node_grows e sent start base t s x.node known k.node; home = home_grows e sent t s x.home own k.home }

module _ (targets : ℕ) (since later : List Accepted) (pool after : List Message) (goes : Goes since later pool after) (e : ℕ) (sent : List Request) (asked : Questions) where
  hold_grows : (m : Mail) (c : Content) → TiedHold targets e sent asked since pool m c → TiedHold targets e sent asked later after m c
  hold_grows m (content.Questions q) h = (h.0, h.1, h.2, h.3, goes.more _ h.4)
  hold_grows m (content.Asks op) h = absurd h
  hold_grows m (content.Tells f) h = absurd h
  hold_grows m (content.Carries r) h = absurd h
  hold_grows m content.Nothing h = absurd h

  held_grows : (m : Mail) (c : Content) → TiedHeld targets e sent asked since pool m c → TiedHeld targets e sent asked later after m c
  held_grows m (content.Tells f) h = (h.0, h.1, h.2, h.3, h.4, h.5 ∙ sym (writer_grows since later goes.grows h.4 h.6.0), (inside_grows since later goes.grows h.4 h.6.0, h.6.1), goes.more _ h.7)
  held_grows m (content.Asks op) h = absurd h
  held_grows m (content.Questions q) h = absurd h
  held_grows m (content.Carries r) h = absurd h
  held_grows m content.Nothing h = absurd h

  execute_grows : (m : Mail) (c : Content) → TiedExecute targets e sent asked since pool m c → TiedExecute targets e sent asked later after m c
  execute_grows m (content.Carries r) h =
      (h.0, (goes.grows h.0 h.1).0, h.2 ∙ ap (λ (y : Accepted). name_of e y.attempt) (sym (goes.grows h.0 h.1).1), h.3 ∙ ap (record_of e) (sym (goes.grows h.0 h.1).1), goes.more _ h.4)
  execute_grows m (content.Asks op) h = absurd h
  execute_grows m (content.Questions q) h = absurd h
  execute_grows m (content.Tells f) h = absurd h
  execute_grows m content.Nothing h = absurd h

  sync_grows : (m : Mail) → TiedSync targets e sent asked since pool m → TiedSync targets e sent asked later after m
  sync_grows m h = (h.0, h.1, h.2, h.3, (goes.grows h.3 h.4).0, h.5 ∙ ap (λ (y : Accepted). (request_of y).number) (sym (goes.grows h.3 h.4).1), goes.more _ h.6)

  tied_grows : (k : MessageKind) (m : Mail) (c : Content) → Tied targets e sent asked since pool k m c → Tied targets e sent asked later after k m c
  tied_grows kind.Hold m c h = hold_grows m c h
  tied_grows kind.Held m c h = held_grows m c h
  tied_grows kind.Sync m c h = sync_grows m h
  tied_grows kind.Synced m c h = (h.0, h.1, h.2, goes.more _ h.3)
  tied_grows kind.Execute m c h = execute_grows m c h
  tied_grows kind.Release m c h = (h.0, h.1, h.2, goes.more _ h.3)
  tied_grows kind.Stable m c h = goes.more _ h
  tied_grows kind.Cancel m c h = goes.more _ h
  tied_grows kind.Request m c h = tt
  tied_grows kind.HoldBusy m c h = tt
  tied_grows kind.Executed m c h = tt
  tied_grows kind.Released m c h = tt

  pub carried_grows : (m : Mail) → Carried targets e sent asked since pool m → Carried targets e sent asked later after m
  carried_grows m h = (h.0, h.1, tied_grows m.kind m h.0 h.2)
