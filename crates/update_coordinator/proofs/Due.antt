-- What an accepted operation rests on.
use Rattle.std.proofs.Common.{◌≡◌, ◌⊎◌, ◌<◌, ◌≤◌, ◌+◌, ◌==◌, ℕ, Bool, true, false, if◌then◌else◌, List, [], ◌∷◌, max, Option, Some, None, refl, sym, ap, subst, ◌∙◌, arith}
use Rattle.std.specs.List.{AllByRecursion}
use mathlib.Core.Logic.{inl, inr}
use Rattle.std.proofs.lemmas.Option.{none-some}
use Rattle.std.proofs.Math.Nat.{le-max_left, le-max_right}
use Rattle.fid_space.specs.Targets.{is_member, covers}
use Rattle.out_update.specs.declared.update.Update.{Update}
use Rattle.commit_sharing.specs.declared.sharing.Seen.{Seen}
use Rattle.commit_sharing.specs.Sharing.{uncovered, asked, or_else, must_sync}
use Rattle.striped_dir.specs.declared.plan.Decision.{Decision}
use Rattle.update_record.specs.declared.operation.Record.{Record}
use Rattle.update_coordinator.specs.declared.words.Held.{Held}
use Rattle.update_coordinator.specs.declared.words.Course.{Course}
use Rattle.update_coordinator.specs.declared.words.Action.{Action}
use Rattle.update_coordinator.specs.declared.words.Action.TheVariants as actions
use Rattle.update_coordinator.specs.Coordinating.{Coordinating}
use Rattle.update_coordinator.specs.Rules.{all_targets, is_held, clock_from, stamp_of, unheld, sync_first, unsynced, next_sync, settles, holds, rooms, syncs, accepts, record_of, full, room_for}
use Rattle.update_coordinator.specs.Laws.{Covered, AllCovered, IsDue}

pub apart : {A : Type 0} → false ≡ true → A
apart h = absurd (grind (arith, h))

-- ---- clocks

rises : (hs : List Held) (c : ℕ) → c ≤ clock_from c hs
rises [] c = omega arith
rises (h ∷ hs) c = omega (arith, rises hs (max c h.clock), le-max_left c h.clock)

below : (hs : List Held) (c most : ℕ) → clock_from c hs ≡ most → AllByRecursion (λ (h : Held). h.clock < most + 1) hs
below [] c most e = tt
below (h ∷ hs) c most e = (omega (arith, rises hs (max c h.clock), le-max_right c h.clock, e), below hs (max c h.clock) most e)

pub stamped : (hs : List Held) → AllByRecursion (λ (h : Held). h.clock < stamp_of hs) hs
stamped hs = below hs 0 (clock_from 0 hs) refl

-- ---- participants

held_next : (held : List Held) (p : ℕ × List Update) (ps : List (ℕ × List Update)) (rest : unheld held ps ≡ None → AllByRecursion (λ (p : ℕ × List Update). is_held held p.0 ≡ true) ps) (b : Bool) → is_held held p.0 ≡ b
    → (if b then unheld held ps else Some p.0) ≡ None → (is_held held p.0 ≡ true) × AllByRecursion (λ (p : ℕ × List Update). is_held held p.0 ≡ true) ps
held_next held p ps rest true e h = (e, rest h)
held_next held p ps rest false e h = absurd (none-some p.0 (sym h))

pub all_held : (held : List Held) (ps : List (ℕ × List Update)) → unheld held ps ≡ None → AllByRecursion (λ (p : ℕ × List Update). is_held held p.0 ≡ true) ps
all_held held [] h = tt
all_held held (p ∷ ps) h = held_next held p ps (all_held held ps) (is_held held p.0) refl h

-- ---- commits

covered_by : (on : ℕ) (w : ℕ × ℕ) (b : Bool) → covers w.1 on ≡ b → (if b then None else Some w.0) ≡ None → covers w.1 on ≡ true
covered_by on w true e h = e
covered_by on w false e h = absurd (none-some w.0 (sym h))

covered_of : (on : ℕ) (w : Option (ℕ × ℕ)) → uncovered w on ≡ None → Covered on w
covered_of on None h = tt
covered_of on (Some w) h = covered_by on w (covers w.1 on) refl h

both_none : (a b : Option ℕ) → or_else a b ≡ None → (a ≡ None) × (b ≡ None)
both_none None b h = (refl, h)
both_none (Some x) b h = absurd (none-some x (sym h))

covered_at : (s : Seen) (on t : ℕ) (b : Bool) → (s.target == t) ≡ b → (if b then uncovered s.writer on else None) ≡ None → (s.target == t) ≡ true → Covered on s.writer
covered_at s on t true e h k = covered_of on s.writer h
covered_at s on t false e h k = apart (sym e ∙ k)

pub all_covered : (ss : List Seen) (on t : ℕ) → must_sync ss on t ≡ None → AllCovered ss on t
all_covered [] on t h = tt
all_covered (s ∷ ss) on t h =
    let x = both_none (asked s on t) (must_sync ss on t) h in
    (covered_at s on t (s.target == t) refl x.0, all_covered ss on t x.1)

first_none : (t : ℕ) (a : Option ℕ) (b : Option (ℕ × ℕ)) → sync_first t a b ≡ None → (a ≡ None) × (b ≡ None)
first_none t None b h = (refl, h)
first_none t (Some x) b h = absurd (none-some (t, x) (sym h))

synced_next : (t : ℕ) (ts : List ℕ) (seen : List Seen) (on synced : ℕ) (rest : unsynced ts seen on synced ≡ None → AllByRecursion (λ (t : ℕ). (is_member synced t ≡ true) ⊎ AllCovered seen on t) ts) (b : Bool) → is_member synced t ≡ b
    → (if b then unsynced ts seen on synced else sync_first t (must_sync seen on t) (unsynced ts seen on synced)) ≡ None
    → ((is_member synced t ≡ true) ⊎ AllCovered seen on t) × AllByRecursion (λ (t : ℕ). (is_member synced t ≡ true) ⊎ AllCovered seen on t) ts
synced_next t ts seen on synced rest true e h = (inl e, rest h)
synced_next t ts seen on synced rest false e h =
    let x = first_none t (must_sync seen on t) (unsynced ts seen on synced) h in
    (inr (all_covered seen on t x.0), rest x.1)

pub all_synced : (ts : List ℕ) (seen : List Seen) (on synced : ℕ) → unsynced ts seen on synced ≡ None → AllByRecursion (λ (t : ℕ). (is_member synced t ≡ true) ⊎ AllCovered seen on t) ts
all_synced [] seen on synced h = tt
all_synced (t ∷ ts) seen on synced h = synced_next t ts seen on synced (all_synced ts seen on synced) (is_member synced t) refl h

-- ---- an accept

unfoldable pub is_accept : Action → Bool
is_accept (actions.Accept r) = true
is_accept _ = false

record_in : Record → Action → Record
record_in q (actions.Accept r) = r
record_in q _ = q

by_sync : (c : Coordinating) (k : Course) (d : Decision) (synced : ℕ) (r : Record) (x : Option (ℕ × ℕ)) → next_sync k.seen d.on synced ≡ x → full (room_for k.request.op) k.held d.parts ≡ None → unheld k.held d.parts ≡ None
    → (syncs c k d synced x).action ≡ actions.Accept r → IsDue c k d synced r
unfolding is_accept record_in holds rooms syncs accepts next_sync
by_sync c k d synced r (Some s) e f g h = apart (ap is_accept h)
by_sync c k d synced r None e f g h =
    let made : r ≡ record_of c k d = sym (ap (record_in (record_of c k d)) h) in
    record {
      made = made;
      held = all_held k.held d.parts g;
      room = f;
      commits = all_synced all_targets k.seen d.on synced e;
      stamp = subst (λ (q : Record). AllByRecursion (λ (h : Held). h.clock < q.stamp) k.held) (sym made) (stamped k.held);
      left = ap (λ (x : Option ℕ). holds c k d synced x) g ∙ ap (λ (x : Option (ℕ × ℕ)). rooms c k d synced x) f ∙ ap (λ (x : Option (ℕ × ℕ)). syncs c k d synced x) e;
    }

by_room : (c : Coordinating) (k : Course) (d : Decision) (synced : ℕ) (r : Record) (x : Option (ℕ × ℕ)) → full (room_for k.request.op) k.held d.parts ≡ x → unheld k.held d.parts ≡ None
    → (rooms c k d synced x).action ≡ actions.Accept r → IsDue c k d synced r
unfolding is_accept rooms
by_room c k d synced r (Some s) f g h = apart (ap is_accept h)
by_room c k d synced r None f g h = by_sync c k d synced r (next_sync k.seen d.on synced) refl f g h

by_hold : (c : Coordinating) (k : Course) (d : Decision) (synced : ℕ) (r : Record) (x : Option ℕ) → unheld k.held d.parts ≡ x → (holds c k d synced x).action ≡ actions.Accept r → IsDue c k d synced r
unfolding is_accept holds
by_hold c k d synced r (Some s) g h = apart (ap is_accept h)
by_hold c k d synced r None g h = by_room c k d synced r (full (room_for k.request.op) k.held d.parts) refl g h

pub due : (c : Coordinating) (k : Course) (d : Decision) (synced : ℕ) (r : Record) → (settles c k d synced).action ≡ actions.Accept r → IsDue c k d synced r
due c k d synced r h = by_hold c k d synced r (unheld k.held d.parts) refl h
