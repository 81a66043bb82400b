-- A target commits, and tells what is stable.
use Rattle.std.proofs.Common.{◌≡◌, ◌≢◌, ◌≤◌, ◌<◌, ◌+◌, ◌==◌, ◌⊎◌, inl, inr, ⊎_elim, zero, suc, length, drop, ℕ, Bool, true, false, if◌then◌else◌, List, [], ◌∷◌, ◌++◌, map, leb, Option, Some, None, refl, sym, ap, ◌∙◌, subst, arith, append-nil, append_assoc}
use Rattle.std.proofs.lemmas.Bool.{leb-false, leb-true}
use Rattle.std.proofs.lemmas.Bool.Decides.{eqb_tells}
use Rattle.std.specs.FinMap.{empty}
use Rattle.std.specs.List.{flat_map}
use Rattle.tree_model.specs.declared.op.Request.{Request}
use Rattle.llog_store.specs.Log.{Log, empty_log}
use Rattle.llog_store.specs.Changes.{all_appended, appended, live_payloads, packed, repacked}
use Rattle.update_record.specs.declared.message.Message.{Message as Mail}
use Rattle.scenario_text.specs.declared.line.Line.TheVariants as lines
use Rattle.cluster_mail.specs.Answering.{cancel_message, stable_message}
use Rattle.cluster_mail.specs.declared.content.Content.TheVariants as content
use Rattle.outside.specs.Disk.{Shown}
use Rattle.target_state.specs.State.{TargetState}
use Rattle.target_state.specs.Commit.{committed, greatest_from, is_half_cancelled, later, listed, mark_of, marks_from, numbers_of, other_mark, thinned}
use Rattle.target_state.specs.Rules.{waiting_of}
use Rattle.target_state.specs.declared.waiting.Waiting.{Waiting}
use Rattle.target_turns.specs.Target.{Target, Turned, serves}
use Rattle.target_turns.specs.Marks.{cancel_to, cancels, risen_cancels, stable_to, stables}
use Rattle.update_coordinator.specs.Marks.{between_from}
use Rattle.update_coordinator.specs.Rules.{all_targets}
use Rattle.update_protocol.specs.Events.{Commit, MaySend, Run, happens}
use Rattle.update_protocol.specs.Lists.{IsIn}
use Rattle.update_protocol.specs.Rows.{pending}
use Rattle.update_protocol.specs.States.{number_at, numbers_at}
use Rattle.update_protocol.specs.World.{Accepted, Cancel, History, Message, Stable, World, at, master}
use Rattle.update_protocol.proofs.Basics.{by_bool}
use Rattle.turn_laws.specs.Values.{Cluster, Slice, after_turn, noted_all, records, slice, target_at}
use Rattle.turn_laws.specs.Agrees.{Agrees, Carried, Keeps, KeepsNode}
use Rattle.turn_laws.specs.Runs.{loud, said}
use Rattle.turn_laws.proofs.Points.{eqb_is, eqb_self, home_moves, mem_append, settles}
use Rattle.turn_laws.proofs.Executes.{live_appended}
use Rattle.turn_laws.proofs.Growing.{Goes, carried_grows}
use Rattle.turn_laws.proofs.Sends.{all_sends, in_pushed, more_pushed, pushed, run_sends, said_sends, sends}
use Rattle.turn_laws.proofs.Writers.{mem_behind}

-- ---- the node

live_all : (log : Log) (ps : List (List ℕ)) → live_payloads (all_appended log ps).entries ≡ live_payloads log.entries ++ ps
unfolding all_appended
live_all log [] = sym (append-nil (live_payloads log.entries))
live_all log (p ∷ ps) = live_all (appended log p) ps ∙ ap (λ l. l ++ ps) (live_appended log p) ∙ append_assoc (live_payloads log.entries) (p ∷ []) ps

live_none : live_payloads empty_log.entries ≡ []
unfolding live_payloads
live_none = refl

live_packed : (log : Log) → live_payloads (packed log).entries ≡ live_payloads log.entries
live_packed log = live_all empty_log (live_payloads log.entries) ∙ ap (λ l. l ++ live_payloads log.entries) live_none

-- packing a log keeps its live records
pub live_thinned : (log : Log) → live_payloads (thinned log).entries ≡ live_payloads log.entries
live_thinned log = by_half (is_half_cancelled log)
  where
    by_room : (b : Bool) → live_payloads (if b then packed log else log).entries ≡ live_payloads log.entries
    by_room true = live_packed log
    by_room false = refl

    by_half : (b : Bool) → live_payloads (if b then repacked log else log).entries ≡ live_payloads log.entries
    by_half true = by_room (leb (packed log).next 256000)
    by_half false = refl

drop_all : (xs : List ℕ) → drop (length xs) xs ≡ []
drop_all [] = refl
drop_all (x ∷ xs) = drop_all xs

pub node_commits : (targets e : ℕ) (sent : List Request) (start : ℕ) (base : History) (since : List Accepted) (t : ℕ) (s : Slice) (n : TargetState) → KeepsNode targets e sent start base since t s n
    → KeepsNode targets e sent start base since t (record s { disk = s.done }) (committed n)
node_commits targets e sent start base since t s n k = record {
  cluster = k.cluster;
  index = k.index;
  epoch = k.epoch;
  transno = k.transno;
  clock = k.clock;
  mark = k.mark;
  seats = k.seats;
  objects = k.objects;
  log = live_thinned n.log ∙ k.log;
  waiting = sym (ap (λ l. map waiting_of (records e since l)) (drop_all s.done));
  writers = sym (ap (λ l. noted_all t empty (records e since l)) (drop_all s.done));
  holder = k.holder;
  genuine = k.genuine;
  wide = k.wide;
  ended = k.ended;
}

-- ---- what is told

pub numbers_are : (e : ℕ) (since : List Accepted) (ns : List ℕ) → numbers_of (map waiting_of (records e since ns)) ≡ numbers_at since ns
numbers_are e since [] = refl
numbers_are e since (n ∷ ns) = ap (λ l. number_at since n ∷ l) (numbers_are e since ns)

-- of a record that waits
pub record WaitsAs (ws : List Waiting) (master batch : ℕ) : Type 0 where
  pub waiting : Waiting
  pub inside : IsIn waiting ws
  pub of : waiting.master ≡ master
  pub is : waiting.batch ≡ batch

some_batch : (a b : ℕ) → Some a ≡ Some b → a ≡ b
some_batch a b e = cc

later_is : (most : Option ℕ) (b x : ℕ) → later most b ≡ x → (most ≡ Some x) ⊎ (b ≡ x)
later_is None b x e = inr e
later_is (Some m) b x e = ⊎_elim
    (λ (h : leb m b ≡ true). inr (let l = leb-true m b h in omega (arith, l, e)))
    (λ (h : leb m b ≡ false). inl (ap (λ (n : ℕ). Some n) (let l = leb-false m b h in omega (arith, l, e))))
    (by_bool (leb m b))

greatest_is : (of : ℕ) (ws : List Waiting) (most : Option ℕ) (b : ℕ) → greatest_from most of ws ≡ Some b → (most ≡ Some b) ⊎ WaitsAs ws of b
greatest_is of [] most b e = inl e
greatest_is of (w ∷ ws) most b e = ⊎_elim
    (λ (h : (if w.master == of then Some (later most w.batch) else most) ≡ Some b). by_test (w.master == of) refl h)
    (λ (h : WaitsAs ws of b). inr (record { waiting = h.waiting; inside = inr h.inside; of = h.of; is = h.is }))
    (greatest_is of ws (if w.master == of then Some (later most w.batch) else most) b e)
  where
    by_test : (t : Bool) → (w.master == of) ≡ t → (if t then Some (later most w.batch) else most) ≡ Some b → (most ≡ Some b) ⊎ WaitsAs (w ∷ ws) of b
    by_test false q h = inl h
    by_test true q h = ⊎_elim (λ (z : most ≡ Some b). inl z) (λ (z : w.batch ≡ b). inr (record { waiting = w; inside = inl refl; of = eqb_is w.master of q; is = z })) (later_is most w.batch b (some_batch _ _ h))

mark_is : (of : ℕ) (ws : List Waiting) (o : Option ℕ) → greatest_from None of ws ≡ o → (p : ℕ × ℕ) → IsIn p (mark_of of o) → WaitsAs ws p.0 p.1
mark_is of ws None e p h = absurd h
mark_is of ws (Some b) e p (inr h) = absurd h
mark_is of ws (Some b) e p (inl q) = subst (λ (p : ℕ × ℕ). WaitsAs ws p.0 p.1) (sym q) (⊎_elim (λ (z : None ≡ Some b). absurd (none_some z)) (λ (z : WaitsAs ws of b). z) (greatest_is of ws None b e))
  where
    none_some : ◌≡◌ {A = Option ℕ} None (Some b) → ⊥
    none_some z = cc

marks_are : (n index of : ℕ) (ws : List Waiting) (p : ℕ × ℕ) → IsIn p (marks_from n index of ws) → WaitsAs ws p.0 p.1
marks_are zero index of ws p h = absurd h
marks_are (suc n) index of ws p h = ⊎_elim (λ (z : IsIn p (other_mark index of ws)). by_test (of == index) z) (λ (z : IsIn p (marks_from n index (of + 1) ws)). marks_are n index (of + 1) ws p z) (mem_append (other_mark index of ws) (marks_from n index (of + 1) ws) p h)
  where
    by_test : (b : Bool) → IsIn p (if b then [] else mark_of of (greatest_from None of ws)) → WaitsAs ws p.0 p.1
    by_test true z = absurd z
    by_test false z = mark_is of ws (greatest_from None of ws) refl p z

-- of an item at one of these places
pub record StandsAs (since : List Accepted) (ns : List ℕ) (of batch : ℕ) : Type 0 where
  pub place : ℕ
  pub inside : IsIn place ns
  pub home : master (at since place) ≡ of
  pub numbered : (at since place).batch ≡ batch

waits_of : (e : ℕ) (since : List Accepted) (ns : List ℕ) (x : Waiting) → IsIn x (map waiting_of (records e since ns)) → StandsAs since ns x.master x.batch
waits_of e since [] x h = absurd h
waits_of e since (n ∷ ns) x (inl q) = record { place = n; inside = inl refl; home = sym (ap (λ (y : Waiting). y.master) q); numbered = sym (ap (λ (y : Waiting). y.batch) q) }
waits_of e since (n ∷ ns) x (inr h) = let r = waits_of e since ns x h in record { place = r.place; inside = inr r.inside; home = r.home; numbered = r.numbered }

stands_as : (e : ℕ) (since : List Accepted) (ns : List ℕ) (ws : List Waiting) → ws ≡ map waiting_of (records e since ns) → (of b : ℕ) → WaitsAs ws of b → StandsAs since ns of b
stands_as e since ns ws is of b h = let r = waits_of e since ns h.waiting (subst (λ l. IsIn h.waiting l) is h.inside) in record { place = r.place; inside = r.inside; home = r.home ∙ h.of; numbered = r.numbered ∙ h.is }

-- ---- the messages

pub in_flat : {A B : Type 0} (f : A → List B) (xs : List A) (y : B) → IsIn y (flat_map f xs) → (x : A) × IsIn x xs × IsIn y (f x)
in_flat f [] y h = absurd h
in_flat f (x ∷ xs) y h = ⊎_elim (λ (z : IsIn y (f x)). (x, inl refl, z)) (λ (z : IsIn y (flat_map f xs)). let r = in_flat f xs y z in (r.0, inr r.1, r.2)) (mem_append (f x) (flat_map f xs) y h)

stables_are : (epoch index : ℕ) (ms : List (ℕ × ℕ)) (x : Mail) → IsIn x (stables epoch index ms) → (p : ℕ × ℕ) × IsIn p ms × (x ≡ stable_message epoch index p.0 p.1)
unfolding stables
stables_are epoch index ms x h = let r = in_flat (stable_to epoch index) ms x h in (r.0, r.1, by_test (r.0.0 == index) r.0 r.2)
  where
    by_test : (b : Bool) (p : ℕ × ℕ) → IsIn x (if b then [] else stable_message epoch index p.0 p.1 ∷ []) → x ≡ stable_message epoch index p.0 p.1
    by_test true p z = absurd z
    by_test false p (inl q) = q
    by_test false p (inr z) = absurd z

pub cancels_are : (t : Target) (mark on : ℕ) (x : Mail) → IsIn x (cancels t mark on) → (to : ℕ) × (x ≡ cancel_message t.node.epoch t.index to mark)
unfolding cancels
cancels_are t mark on x h = let r = in_flat (cancel_to t mark on) all_targets x h in (r.0, by_test r.0 _ r.2)
  where
    by_test : (to : ℕ) (b : Bool) → IsIn x (if b then cancel_message t.node.epoch t.index to mark ∷ [] else []) → x ≡ cancel_message t.node.epoch t.index to mark
    by_test to true (inl q) = q
    by_test to true (inr z) = absurd z
    by_test to false z = absurd z

risen_are : (t : Target) (x : Mail) → IsIn x (risen_cancels t) → (to : ℕ) × (x ≡ cancel_message t.node.epoch t.index to t.node.mark)
risen_are t x h = by_test _ h
  where
    by_test : (b : Bool) → IsIn x (if b then cancels t t.node.mark (between_from t.home.batches 0 t.sent_mark t.node.mark 0) else []) → (to : ℕ) × (x ≡ cancel_message t.node.epoch t.index to t.node.mark)
    by_test true z = cancels_are t t.node.mark (between_from t.home.batches 0 t.sent_mark t.node.mark 0) x z
    by_test false z = absurd z

-- ---- the world

others_commit : (w : World) (t s : ℕ) → s ≢ t → slice (happens w (Commit t)) s ≡ slice w s
others_commit w t s ne = elim (eqb_tells s t) [
  | inl q ↦ absurd (ne q.1)
  | inr q ↦ ap (λ b. record (slice w s) { disk = if b then w.done t else w.disk s }) q.0
]

here_commit : (w : World) (t : ℕ) → slice (happens w (Commit t)) t ≡ record (slice w t) { disk = w.done t }
here_commit w t = ap (λ b. record (slice w t) { disk = if b then w.done t else w.disk t }) (eqb_self t)

module _ (targets : ℕ) (c : Cluster) (w : World) (g : Agrees targets c w) (to : ℕ) (inside : to < length c.targets) (up : serves (target_at c.targets to) ≡ true)
    (behind : w.done to ≡ w.disk to ++ pending w to) (disk : Shown) (sent_mark : ℕ) (own : List Message) (own_may : (p : Message) → IsIn p own → MaySend targets (happens w (Commit to)) p) where
  abbrev pub was : Target
  was = target_at c.targets to

  keeps : Keeps targets g.epoch g.sent (g.start to) w.base w.since to (slice w to) was
  keeps = g.keeps to up

  abbrev pub ms : List (ℕ × ℕ)
  ms = (listed was.node.index was.node.waiting).batches

  -- the committed target, before it tells of its own batches
  abbrev pub now : Target
  now = record was { node = committed was.node; disk = disk }

  abbrev pub mails : List Mail
  mails = stables now.node.epoch now.index ms ++ risen_cancels now

  abbrev pub turn : Turned
  turn = record { target = record now { sent_mark = sent_mark }; lines = lines.Stable was.index (listed was.node.index was.node.waiting).stable ∷ []; sent = mails }

  abbrev pub all_stables : List (ℕ × ℕ) → List Message
  all_stables ps = map (λ (p : ℕ × ℕ). Stable to p.0 p.1) ps

  abbrev pub ps : List Message
  ps = Cancel to (w.mark to) ∷ (all_stables ms ++ own)

  abbrev pub next : World
  next = happens w (Commit to)

  in_stables : (qs : List (ℕ × ℕ)) (p : ℕ × ℕ) → IsIn p qs → IsIn (Stable to p.0 p.1) (all_stables qs)
  in_stables [] p h = absurd h
  in_stables (q ∷ qs) p (inl e) = inl (ap (λ (p : ℕ × ℕ). Stable to p.0 p.1) e)
  in_stables (q ∷ qs) p (inr h) = inr (in_stables qs p h)

  of_stables : (qs : List (ℕ × ℕ)) (p : Message) → IsIn p (all_stables qs) → (q : ℕ × ℕ) × IsIn q qs × (p ≡ Stable to q.0 q.1)
  of_stables [] p h = absurd h
  of_stables (q ∷ qs) p (inl e) = (q, inl refl, e)
  of_stables (q ∷ qs) p (inr h) = let r = of_stables qs p h in (r.0, inr r.1, r.2)

  told : (q : ℕ × ℕ) → IsIn q ms → MaySend targets next (Stable to q.0 q.1)
  told q h =
      let s = stands_as g.epoch w.since (pending w to) was.node.waiting keeps.node.waiting q.0 q.1 (marks_are 16 was.node.index 0 was.node.waiting q h) in
      (s.place, subst (λ b. IsIn s.place (if b then w.done to else w.disk to)) (sym (eqb_self to)) (subst (λ l. IsIn s.place l) (sym behind) (mem_behind (w.disk to) (pending w to) s.place s.inside)), s.home, s.numbered)

  may : (p : Message) → IsIn p ps → MaySend targets next p
  may p (inl e) = subst (MaySend targets next) (sym e) (subst (λ b. w.mark to ≤ (if b then w.mark to else w.kept_mark to)) (sym (eqb_self to)) (omega arith))
  may p (inr h) = ⊎_elim (λ (z : IsIn p (all_stables ms)). let q = of_stables ms p z in subst (MaySend targets next) (sym q.2) (told q.0 q.1)) (own_may p) (mem_append (all_stables ms) own p h)

  front : (xs ys : List Message) (p : Message) → IsIn p xs → IsIn p (xs ++ ys)
  front [] ys p h = absurd h
  front (x ∷ xs) ys p (inl e) = inl e
  front (x ∷ xs) ys p (inr h) = inr (front xs ys p h)

  back : (xs ys : List Message) (p : Message) → IsIn p ys → IsIn p (xs ++ ys)
  back [] ys p h = h
  back (x ∷ xs) ys p h = inr (back xs ys p h)

  pub owned : (p : Message) → IsIn p own → IsIn p (pushed ps w.pool)
  owned p h = in_pushed ps w.pool p (inr (back (all_stables ms) own p h))

  abbrev pub after : World
  after = sends next ps

  goes : Goes w.since w.since w.pool (pushed ps w.pool)
  goes = record { grows = λ n l. (l, refl); more = λ p h. more_pushed ps w.pool p h }

  news : (x : Mail) → IsIn x mails → Carried targets g.epoch g.sent g.asked w.since (pushed ps w.pool) x
  news x h = ⊎_elim
      (λ (z : IsIn x (stables now.node.epoch now.index ms)). let r = stables_are now.node.epoch now.index ms x z in
      subst (λ (x : Mail). Carried targets g.epoch g.sent g.asked w.since (pushed ps w.pool) x) (sym r.2) (
        content.Nothing,
        refl,
        subst (λ t. IsIn (Stable t r.0.0 r.0.1) (pushed ps w.pool)) (sym keeps.index) (in_pushed ps w.pool _ (inr (front (all_stables ms) own _ (in_stables ms r.0 r.1)))),
      ))
      (λ (z : IsIn x (risen_cancels now)). let r = risen_are now x z in
      subst (λ (x : Mail). Carried targets g.epoch g.sent g.asked w.since (pushed ps w.pool) x) (sym r.1) (
        content.Nothing,
        refl,
        subst (λ (y : ℕ × ℕ). IsIn (Cancel y.0 y.1) (pushed ps w.pool)) (λ j. (sym keeps.index j, sym keeps.node.mark j)) (in_pushed ps w.pool _ (inl refl)),
      ))
      (mem_append (stables now.node.epoch now.index ms) (risen_cancels now) x h)

  pub commits_run : Run targets w (Commit to ∷ all_sends ps) (sends next ps)
  commits_run = (g.ups to inside ∙ up, run_sends targets ps next may)

  pub commits_say : loud turn.lines ≡ said w (Commit to ∷ all_sends ps)
  commits_say = ap (λ (y : ℕ × List ℕ). lines.Stable y.0 y.1 ∷ []) (λ j. (keeps.index j, (ap numbers_of keeps.node.waiting ∙ numbers_are g.epoch w.since (pending w to)) j))
      ∙ ap (λ l. lines.Stable to (numbers_at w.since (pending w to)) ∷ l) (sym (said_sends ps next))

  pub commits_agree : Agrees targets (after_turn c to turn) (sends next ps)
  commits_agree = settles targets c w (sends next ps) g g.sent g.unique g.asked to inside turn refl g.items (g.ups to inside) (λ j ne. refl)
      (λ j ne h. subst (λ s. Keeps targets g.epoch g.sent (g.start j) w.base w.since j s (target_at c.targets j)) (sym (others_commit w to j ne)) (g.keeps j h))
      (λ h. subst (λ s. Keeps targets g.epoch g.sent (g.start to) w.base w.since to s turn.target) (sym (here_commit w to)) (record {
        cluster = keeps.cluster;
        index = keeps.index;
        node = node_commits targets g.epoch g.sent (g.start to) w.base w.since to (slice w to) was.node keeps.node;
        home = home_moves targets g.epoch g.sent w.since to (slice w to) was.home (w.done to) (w.done to) (w.gone to) (w.holder to) (w.ended to) (w.clock to) keeps.home;
      }))
      (carried_grows targets w.since w.since w.pool (pushed ps w.pool) goes g.epoch g.sent g.asked)
      (λ x h epoch. news x h)
