-- The numbers of asks, as homes give more of them.
use Rattle.std.proofs.Common.{◌≡◌, ◌≢◌, ◌<◌, ◌≤◌, ◌==◌, ◌⊎◌, inl, inr, ⊎_elim, length, get_or, ℕ, Bool, true, false, if◌then◌else◌, ◌++◌, map, Option, Some, None, refl, sym, ap, ◌∙◌, subst, arith}
use Rattle.update_record.specs.declared.message.Attempt.{Attempt as Name}
use Rattle.update_record.specs.declared.message.Message.{Message as Mail}
use Rattle.update_record.specs.declared.message.MessageKind.{MessageKind}
use Rattle.update_record.specs.declared.message.MessageKind.TheVariants as kind
use Rattle.cluster_mail.specs.Mail.{Sent, fresh}
use Rattle.target_state.specs.Rules.{after_release, is_held_by, is_past, let_go, with_ended}
use Rattle.target_state.specs.State.{TargetState}
use Rattle.target_turns.specs.Target.{Target, Turned, serves}
use Rattle.update_protocol.specs.Lists.{IsIn}
use Rattle.turn_laws.specs.Values.{Cluster, after_turn, target_at}
use Rattle.turn_laws.proofs.Points.{at_set, mem_append}
use Rattle.home_laws.specs.Asking.{AreNumbered, GivesNumbers, GoesOnFrom, IsOrder, NotesBegun, WasGiven, is_ask, is_order, is_told}
use Rattle.home_laws.proofs.Asks.{in_fresh}

pub release_epoch : (s : TargetState) (by : Name) → (after_release s by).epoch ≡ s.epoch
release_epoch s by = by_tests (by.epoch == s.epoch) (is_held_by s.holder by) (is_past s.ended by)
  where
    by_tests : (a b d : Bool) → (if a then (if b then let_go s by else (if d then s else record s { ended = with_ended s.ended by })) else s).epoch ≡ s.epoch
    by_tests true true d = refl
    by_tests true false true = refl
    by_tests true false false = refl
    by_tests false b d = refl

ask_orders : (k : MessageKind) → is_ask k ≡ true → is_order k ≡ true
ask_orders kind.Hold e = refl
ask_orders kind.Sync e = refl
ask_orders kind.Execute e = refl
ask_orders kind.Release e = refl
ask_orders kind.Request e = e
ask_orders kind.Held e = e
ask_orders kind.HoldBusy e = e
ask_orders kind.Synced e = e
ask_orders kind.Executed e = e
ask_orders kind.Released e = e
ask_orders kind.Stable e = e
ask_orders kind.Cancel e = e

-- a number that was given stays given
still_given : (t v : Target) (m : Mail) → GoesOnFrom t v → WasGiven t m → WasGiven v m
still_given t v m (inl l) (inl k) = inl (omega (arith, l, k))
still_given t v m (inl l) (inr h) = let e = h.0 in inl (omega (arith, l, e))
still_given t v m (inr n) (inl k) = let e = n.0 in inl (omega (arith, k, e))
still_given t v m (inr n) (inr h) = inr (h.0 ∙ n.0, (let a = h.1 in let b = n.1 in omega (arith, a, b)), λ g is. let o = n.2 g is in h.2 o.0 o.1 ∙ sym o.2)

given_so : (t : Target) (m x : Mail) → IsOrder m x → WasGiven t m → WasGiven t x
given_so t m x o (inl l) = let e = o.attempt in inl (omega (arith, l, e))
given_so t m x o (inr h) = inr (sym o.attempt ∙ h.0, (let e = o.ask in let l = h.1 in omega (arith, e, l)), λ g is. sym o.number ∙ h.2 g is)

module _ (c : Cluster) (numbered : AreNumbered c) (to : ℕ) (inside : to < length c.targets) (u : Turned) (up : serves u.target ≡ true → serves (target_at c.targets to) ≡ true)
    (gives : GivesNumbers c to u) where
  abbrev was : Target
  was = target_at c.targets to

  -- what it was before the turn, of a message that was kept or comes now
  abbrev Ordered : ℕ → Target → Type 0
  Ordered t x = serves x ≡ true → (m : Sent) → IsIn m (c.sent ++ map fresh u.sent) → m.message.epoch ≡ x.node.epoch → m.message.from ≡ t → is_ask m.message.kind ≡ true → WasGiven x m.message

  abbrev Answered : ℕ → Target → Type 0
  Answered t x = serves x ≡ true → (m : Sent) → IsIn m (c.sent ++ map fresh u.sent) → m.message.epoch ≡ x.node.epoch → m.message.to ≡ t → is_told m.message.kind ≡ true → WasGiven x m.message

  ordered_here : Ordered to u.target
  ordered_here s m h e at ask = ⊎_elim (λ (o : IsIn m c.sent). still_given was u.target m.message (gives.next s) (numbered.orders to (up s) m o (e ∙ gives.same s) at ask)) (λ n. ((gives.sent m.message (in_fresh u.sent m n)).own ask).1) (mem_append c.sent (map fresh u.sent) m h)

  ordered_there : (j : ℕ) → j ≢ to → Ordered j (target_at c.targets j)
  ordered_there j ne s m h e at ask = ⊎_elim (λ (o : IsIn m c.sent). numbered.orders j s m o e at ask) (λ n. absurd (ne (sym at ∙ ((gives.sent m.message (in_fresh u.sent m n)).own ask).0))) (mem_append c.sent (map fresh u.sent) m h)

  answered_here : Answered to u.target
  answered_here s m h e at told = ⊎_elim (λ (o : IsIn m c.sent). still_given was u.target m.message (gives.next s) (numbered.answers to (up s) m o (e ∙ gives.same s) at told))
      (λ n. let r = (gives.sent m.message (in_fresh u.sent m n)).told told in
      still_given was u.target m.message (gives.next s) (given_so was r.0.message m.message r.2 (numbered.orders to (up s) r.0 r.1 (r.2.epoch ∙ e ∙ gives.same s) (r.2.home ∙ at) r.2.asks)))
      (mem_append c.sent (map fresh u.sent) m h)

  answered_there : (j : ℕ) → j ≢ to → Answered j (target_at c.targets j)
  answered_there j ne s m h e at told = ⊎_elim (λ (o : IsIn m c.sent). numbered.answers j s m o e at told)
      (λ n. let r = (gives.sent m.message (in_fresh u.sent m n)).told told in
      given_so (target_at c.targets j) r.0.message m.message r.2 (numbered.orders j s r.0 r.1 (r.2.epoch ∙ e) (r.2.home ∙ at) r.2.asks))
      (mem_append c.sent (map fresh u.sent) m h)

  abbrev Begins : ℕ → Target → Type 0
  Begins t x = serves x ≡ true → (m : Sent) → IsIn m (c.sent ++ map fresh u.sent) → m.message.epoch ≡ x.node.epoch → m.message.from ≡ t → is_order m.message.kind ≡ true → m.message.attempt ≤ x.home.attempts

  risen : GoesOnFrom was u.target → was.home.attempts ≤ u.target.home.attempts
  risen (inl l) = omega (arith, l)
  risen (inr h) = let e = h.0 in omega (arith, e)

  begun_here : Begins to u.target
  begun_here s m h e at order = ⊎_elim
      (λ (o : IsIn m c.sent). let l = numbered.begun to (up s) m o (e ∙ gives.same s) at order in let k = risen (gives.next s) in omega (arith, l, k))
      (λ n. ((gives.sent m.message (in_fresh u.sent m n)).begun order).1) (mem_append c.sent (map fresh u.sent) m h)

  begun_there : (j : ℕ) → j ≢ to → Begins j (target_at c.targets j)
  begun_there j ne s m h e at order = ⊎_elim (λ (o : IsIn m c.sent). numbered.begun j s m o e at order) (λ n. absurd (ne (sym at ∙ ((gives.sent m.message (in_fresh u.sent m n)).begun order).0))) (mem_append c.sent (map fresh u.sent) m h)

  pub gives_numbers : AreNumbered (after_turn c to u)
  gives_numbers = record {
    orders = at_set Ordered c.targets to u.target inside ordered_here ordered_there;
    answers = at_set Answered c.targets to u.target inside answered_here answered_there;
    begun = at_set Begins c.targets to u.target inside begun_here begun_there;
    notes = at_set (λ t x. serves x ≡ true → NotesBegun t x.home.attempts x.node) c.targets to u.target inside gives.notes (λ j ne s. numbered.notes j s);
  }

-- by a target that serves before it
pub gives_more : (c : Cluster) → AreNumbered c → (to : ℕ) → to < length c.targets → serves (target_at c.targets to) ≡ true → (u : Turned) → GivesNumbers c to u → AreNumbered (after_turn c to u)
gives_more c numbered to inside up u gives = gives_numbers c numbered to inside u (λ s. up) gives

-- what is neither an order nor an answer gives no number
pub same_messages : (c d : Cluster) → AreNumbered c → d.targets ≡ c.targets → ((m : Sent) → IsIn m d.sent → (is_order m.message.kind ≡ true) ⊎ (is_told m.message.kind ≡ true) → (n : Sent) × IsIn n c.sent × (n.message ≡ m.message)) → AreNumbered d
same_messages c d numbered same back = record {
  orders = λ t s m h e at ask.
      let n = back m h (inl (ask_orders m.message.kind ask)) in
      let here : target_at d.targets t ≡ target_at c.targets t = ap (λ ts. target_at ts t) same in
      subst (λ (x : Target). WasGiven x m.message) (sym here)
      (subst (WasGiven (target_at c.targets t)) n.2
      (numbered.orders t (ap serves (sym here) ∙ s) n.0 n.1 (ap (λ (x : Mail). x.epoch) n.2 ∙ e ∙ ap (λ (x : Target). x.node.epoch) here) (ap (λ (x : Mail). x.from) n.2 ∙ at) (ap (λ (x : Mail). is_ask x.kind) n.2 ∙ ask)));
  answers = λ t s m h e at told.
      let n = back m h (inr told) in
      let here : target_at d.targets t ≡ target_at c.targets t = ap (λ ts. target_at ts t) same in
      subst (λ (x : Target). WasGiven x m.message) (sym here)
      (subst (WasGiven (target_at c.targets t)) n.2
      (numbered.answers t (ap serves (sym here) ∙ s) n.0 n.1 (ap (λ (x : Mail). x.epoch) n.2 ∙ e ∙ ap (λ (x : Target). x.node.epoch) here) (ap (λ (x : Mail). x.to) n.2 ∙ at) (ap (λ (x : Mail). is_told x.kind) n.2 ∙ told)));
  begun = λ t s m h e at order.
      let n = back m h (inl order) in
      let here : target_at d.targets t ≡ target_at c.targets t = ap (λ ts. target_at ts t) same in
      subst (λ (x : Target). m.message.attempt ≤ x.home.attempts) (sym here)
      (subst (λ (y : Mail). y.attempt ≤ (target_at c.targets t).home.attempts) n.2
      (numbered.begun t (ap serves (sym here) ∙ s) n.0 n.1 (ap (λ (x : Mail). x.epoch) n.2 ∙ e ∙ ap (λ (x : Target). x.node.epoch) here) (ap (λ (x : Mail). x.from) n.2 ∙ at) (ap (λ (x : Mail). is_order x.kind) n.2 ∙ order)));
  notes = λ t s.
      let here : target_at d.targets t ≡ target_at c.targets t = ap (λ ts. target_at ts t) same in
      subst (λ (x : Target). NotesBegun t x.home.attempts x.node) (sym here) (numbered.notes t (ap serves (sym here) ∙ s));
}

none_name : (by : Name) → ◌≡◌ {A = Option Name} None (Some by) → ⊥
none_name by e = cc

pub none_given : (c : Cluster) → ((t : ℕ) → serves (target_at c.targets t) ≡ true → ((target_at c.targets t).node.holder ≡ None) × (get_or (target_at c.targets t).node.ended t 0 ≡ 0)
    × ((m : Sent) → IsIn m c.sent → m.message.epoch ≢ (target_at c.targets t).node.epoch)) → AreNumbered c
none_given c old = record {
  orders = λ t s m h e at ask. absurd ((old t s).2 m h e);
  answers = λ t s m h e at told. absurd ((old t s).2 m h e);
  begun = λ t s m h e at order. absurd ((old t s).2 m h e);
  notes = λ t s. record { held = λ by e m. absurd (none_name by (sym (old t s).0 ∙ e)); ended = (let z = (old t s).1 in omega (arith, z)) };
}
