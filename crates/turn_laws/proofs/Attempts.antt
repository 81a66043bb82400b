-- A home begins an attempt.
use Rattle.std.proofs.Common.{◌≡◌, ◌≢◌, ◌<◌, ◌+◌, inl, inr, ⊎_elim, suc, length, get_or, ltb, ℕ, Bool, true, false, if◌then◌else◌, List, [], ◌∷◌, Option, Some, None, refl, sym, ap, ◌∙◌, subst, arith}
use Rattle.std.proofs.lemmas.Bool.{ltb-false, ltb-true}
use Rattle.std.proofs.lemmas.Bool.Decides.{eqb_tells}
use Rattle.std.specs.FinMap.{get}
use Rattle.tree_model.specs.Participants.{home_of}
use Rattle.tree_model.specs.declared.op.Request.{Request}
use Rattle.tree_model.specs.declared.reply.Reply.{Reply}
use Rattle.reply_cache.specs.Seats.{answer_of, judged, refusal_of}
use Rattle.reply_cache.specs.declared.seats.Judgement.{Judgement}
use Rattle.reply_cache.specs.declared.seats.Judgement.TheVariants as judgement
use Rattle.update_record.specs.declared.message.Attempt.{Attempt as Name}
use Rattle.update_coordinator.specs.declared.words.Going.{Going}
use Rattle.target_turns.specs.Target.{Target, Turned, quiet, serves}
use Rattle.update_protocol.specs.Events.{Ask, has_now, happens}
use Rattle.update_protocol.specs.Lists.{IsIn}
use Rattle.update_protocol.specs.Seats.{IsBelow, is_read}
use Rattle.update_protocol.specs.World.{Attempt, Who, World, at}
use Rattle.update_protocol.proofs.Basics.{by_bool}
use Rattle.turn_laws.specs.Values.{Cluster, Genuine, Slice, Unique, after_turn, name_of, seat_of, slice, target_at}
use Rattle.turn_laws.specs.Agrees.{Agrees, Keeps, KeepsHome, KeepsNode}
use Rattle.turn_laws.specs.Attempting.{begun, next_name}
use Rattle.turn_laws.specs.Runs.{IsRun}
use Rattle.turn_laws.proofs.Points.{eqb_self, settles}
use Rattle.turn_laws.proofs.HoldComes.{free_is}
use Rattle.turn_laws.proofs.Requests.{still_carried, still_item, still_keeps}

-- a number that is new is above the seat
abbrev judged_by : Bool → Bool → ℕ → Reply → Judgement
judged_by same later last v = if same then judgement.Repeat v else (if later then judgement.Stale last else judgement.New)

not_repeat : (v : Reply) → judgement.Repeat v ≡ judgement.New → ⊥
not_repeat v z = cc

not_stale : (n : ℕ) → judgement.Stale n ≡ judgement.New → ⊥
not_stale n z = cc

above_last : (number last : ℕ) (v : Reply) (b : Bool) → ltb number last ≡ b → judged_by false b last v ≡ judgement.New → (last ≡ number → ⊥) → last < number
above_last number last v true l z ne = absurd (not_stale last z)
above_last number last v false l z ne = ⊎_elim (λ (h : ltb last number ≡ true). ltb-true last number h) (λ (h : ltb last number ≡ false). absurd (ne (let x = ltb-false number last l in let y = ltb-false last number h in omega (arith, x, y)))) (by_bool (ltb last number))

new_below : (o : Option (ℕ × Reply)) (number : ℕ) → judged (seat_of o) number ≡ judgement.New → IsBelow o number
new_below None number e = tt
new_below (Some s) number e = elim (eqb_tells s.0 number) [
  | inl q ↦ absurd (not_repeat (answer_of (refusal_of s.1)) (sym (ap (λ b. judged_by b (ltb number s.0) s.0 (answer_of (refusal_of s.1))) q.0) ∙ e))
  | inr q ↦ above_last number s.0 (answer_of (refusal_of s.1)) (ltb number s.0) refl (sym (ap (λ b. judged_by b (ltb number s.0) s.0 (answer_of (refusal_of s.1))) q.0) ∙ e) q.1
]

some_attempt : (a b : Attempt) → ◌≡◌ {A = Option Attempt} (Some a) (Some b) → a ≡ b
some_attempt a b e = cc

some_going : (g h : Going) → ◌≡◌ {A = Option Going} (Some g) (Some h) → g ≡ h
some_going g h e = cc

some_none : (g : Going) → ◌≡◌ {A = Option Going} (Some g) None → ⊥
some_none g e = cc

others_ask : (w : World) (who : Who) (s : ℕ) → s ≢ who.master → slice (happens w (Ask who)) s ≡ slice w s
others_ask w who s ne = elim (eqb_tells s who.master) [
  | inl q ↦ absurd (ne q.1)
  | inr q ↦ ap (λ b. record (slice w s) {
    turns = if b then suc (w.turns who.master) else w.turns s;
    trying = if b then Some (record { who = who; turn = suc (w.turns who.master) }) else w.trying s;
    holder = if b then Some (record { who = who; turn = suc (w.turns who.master) }) else w.holder s;
  }) q.0
]

here_ask : (w : World) (who : Who) → slice (happens w (Ask who)) who.master ≡ record (slice w who.master) { turns = suc (w.turns who.master); trying = Some (record { who = who; turn = suc (w.turns who.master) }); holder = Some (record { who = who; turn = suc (w.turns who.master) }) }
here_ask w who = ap (λ b. record (slice w who.master) {
  turns = if b then suc (w.turns who.master) else w.turns who.master;
  trying = if b then Some (record { who = who; turn = suc (w.turns who.master) }) else w.trying who.master;
  holder = if b then Some (record { who = who; turn = suc (w.turns who.master) }) else w.holder who.master;
}) (eqb_self who.master)

module _ (targets : ℕ) (c : Cluster) (w : World) (g : Agrees targets c w) (to : ℕ) (inside : to < length c.targets) (up : serves (target_at c.targets to) ≡ true)
    (r : Request) (sent : List Request) (unique : Unique sent) (more : (q : Request) → IsIn q g.sent → IsIn q sent) (known : IsIn r sent) (home : home_of targets r.op ≡ Some to)
    (free : (target_at c.targets to).node.holder ≡ None) (client : r.client < length (target_at c.targets to).node.seats)
    (new : is_read r.op ≡ false → judged (get_or (target_at c.targets to).node.seats r.client None) r.number ≡ judgement.New)
    (asks released : ℕ) (going : Going) (request : going.course.request ≡ r) where
  abbrev was : Target
  was = target_at c.targets to

  abbrev who : Who
  who = record { master = to; request = r }

  abbrev a : Attempt
  a = record { who = who; turn = suc (w.turns to) }

  keeps : Keeps targets g.epoch g.sent (g.start to) w.base w.since to (slice w to) was
  keeps = g.keeps to up

  abbrev turn : Turned
  turn = quiet (begun was r asks released going)

  abbrev after : Slice
  after = record (slice w to) { turns = suc (w.turns to); trying = Some a; holder = Some a }

  named_so : next_name was r ≡ name_of g.epoch a
  named_so =
      let t : was.home.attempts + 1 ≡ suc (w.turns to) = (let k = keeps.home.attempts in omega (arith, k)) in
      λ j. record { epoch = keeps.node.epoch j; master = keeps.index j; attempt = t j; number = r.number }

  node_begins : KeepsNode targets g.epoch sent (g.start to) w.base w.since to after (record was.node { holder = Some (next_name was r) })
  node_begins = let k = keeps.node in record {
    cluster = k.cluster;
    index = k.index;
    epoch = k.epoch;
    transno = k.transno;
    clock = k.clock;
    mark = k.mark;
    seats = k.seats;
    objects = k.objects;
    log = k.log;
    waiting = k.waiting;
    writers = k.writers;
    holder = ap (λ (y : Name). Some y) named_so;
    genuine = λ b e. subst (Genuine targets sent) (some_attempt a b e) (known, home);
    wide = k.wide;
    ended = k.ended;
  }

  home_begins : KeepsHome targets g.epoch sent w.since to after (record was.home { attempts = was.home.attempts + 1; asks = asks; released = released; current = Some going })
  home_begins = let k = keeps.home in record {
    cluster = k.cluster;
    at_home = k.at_home;
    epoch = k.epoch;
    attempts = (let h = k.attempts in omega (arith, h));
    batches = k.batches;
    sets = k.sets;
    wide = k.wide;
    stable = k.stable;
    mark = k.mark;
    under = k.under;
    idle = λ e. absurd (some_none going e);
    going = λ h e. record { attempt = a; current = refl; request = ap (λ (y : Going). y.course.request) (sym (some_going going h e)) ∙ request; genuine = (known, home) };
  }

  below : is_read r.op ≡ false → IsBelow (get (has_now targets w to).seats r.client) r.number
  below e = new_below (get (has_now targets w to).seats r.client) r.number (ap (λ o. judged o r.number) (sym (keeps.node.seats r.client client)) ∙ new e)

  pub begins_so : IsRun targets w [] (after_turn c to turn)
  begins_so = record {
    events = Ask who ∷ [];
    world = happens w (Ask who);
    run = ((g.ups to inside ∙ up, free_is g.epoch (w.holder to) (sym keeps.node.holder ∙ free), home, subst (λ n. to < n) g.few inside, below), refl);
    lines = refl;
    agrees = settles targets c w (happens w (Ask who)) g sent unique g.asked to inside turn refl (λ n l. still_item targets g.epoch g.sent sent more (at w.since n) (g.items n l)) (g.ups to inside) (λ j ne. refl)
        (λ j ne u. subst (λ s. Keeps targets g.epoch sent (g.start j) w.base w.since j s (target_at c.targets j)) (sym (others_ask w who j ne)) (still_keeps targets g.epoch g.sent sent more (g.start j) w.base w.since j (slice w j) (target_at c.targets j) (g.keeps j u)))
        (λ u. subst (λ s. Keeps targets g.epoch sent (g.start to) w.base w.since to s turn.target) (sym (here_ask w who)) (record { cluster = keeps.cluster; index = keeps.index; node = node_begins; home = home_begins }))
        (still_carried targets g.epoch g.sent sent more g.asked w.since w.pool)
        (λ x h epoch. absurd h);
  }
