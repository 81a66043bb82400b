-- A commit as a whole: what is committed is told, and the own batches are stable here now.
use Rattle.std.proofs.Common.{◌≡◌, ◌<◌, ◌==◌, inl, inr, zero, suc, length, ℕ, Bool, true, false, if◌then◌else◌, List, [], ◌∷◌, ◌++◌, refl, sym, ap, ◌∙◌, subst, arith, append-nil}
use Rattle.std.proofs.lemmas.List.{get_or-set_same, length-set}
use Rattle.std.specs.Prelude.{take}
use Rattle.scenario_text.specs.declared.line.Line.{Line}
use Rattle.target_state.specs.Commit.{committed}
use Rattle.target_turns.specs.Target.{Fate, Target, Turned, quiet, serves}
use Rattle.target_turns.specs.Marks.{commits, note, with_sent}
use Rattle.update_protocol.specs.Events.{Commit, Event, MaySend, Run, happens}
use Rattle.update_protocol.specs.Lists.{IsIn}
use Rattle.update_protocol.specs.World.{Accepted, Message, Stable, World, at, count_home, master}
use Rattle.update_protocol.proofs.Invariant.{Invariant}
use Rattle.update_protocol.proofs.Setting.{Setting}
use Rattle.update_protocol.proofs.Showing.{pends_behind}
use Rattle.turn_laws.specs.Values.{Cluster, after_turn, no_target, slice, target_at}
use Rattle.turn_laws.specs.Agrees.{Agrees, Keeps}
use Rattle.turn_laws.specs.Runs.{IsRun, loud, said}
use Rattle.turn_laws.proofs.Points.{eqb_is, eqb_self}
use Rattle.turn_laws.proofs.Commits.{commits_agree, commits_run, commits_say, owned}
use Rattle.turn_laws.proofs.Commits as piece
use Rattle.turn_laws.proofs.Notes.{IsTold, notes_agree, notes_run, notes_say, told_by, told_none}
use Rattle.turn_laws.proofs.Notes as noting
use Rattle.turn_laws.proofs.Sends.{all_sends, more_pushed, run_append}
use Rattle.turn_laws.proofs.Then.{after_both, said_append}

-- the last item of a home
pub record LastOwn (m : ℕ) (xs : List Accepted) : Type 0 where
  pub place : ℕ
  pub inside : place < length xs
  pub of : master (at xs place) ≡ m
  pub count : suc (count_home m (take place xs)) ≡ count_home m xs

abbrev more : Bool → ℕ → ℕ
more b n = if b then suc n else n

last_own : (m : ℕ) (xs : List Accepted) (k : ℕ) → count_home m xs ≡ suc k → LastOwn m xs
unfolding at
last_own m [] k e = absurd (omega (arith, e))
last_own m (x ∷ xs) k e = by_rest (count_home m xs) refl (last_own m xs)
  where
    is_it : (master x == m) ≡ true → master x ≡ m
    is_it q = eqb_is (master x) m q

    front : count_home m xs ≡ 0 → (b : Bool) → (master x == m) ≡ b → more b (count_home m xs) ≡ suc k → LastOwn m (x ∷ xs)
    front z false q r = absurd (omega (arith, z, r))
    front z true q r = record { place = 0; inside = omega arith; of = is_it q; count = sym (ap (λ b. more b (count_home m xs)) q ∙ ap suc z) }

    by_test : (b : Bool) (p : ℕ) → suc p ≡ count_home m xs → suc (more b p) ≡ more b (count_home m xs)
    by_test true p q = ap suc q
    by_test false p q = q

    by_rest : (n : ℕ) → count_home m xs ≡ n → ((k : ℕ) → count_home m xs ≡ suc k → LastOwn m xs) → LastOwn m (x ∷ xs)
    by_rest zero z rest = front z (master x == m) refl e
    by_rest (suc n) z rest = let r = rest n z in record { place = suc r.place; inside = (let l = r.inside in omega (arith, l)); of = r.of; count = by_test (master x == m) (count_home m (take r.place xs)) r.count }

pub record Committed (targets : ℕ) (w : World) (to : ℕ) (ls : List Line) (c : Cluster) : Type 0 where
  pub run : IsRun targets w ls c
  pub holder : run.world.holder to ≡ w.holder to
  pub more : (p : Message) → IsIn p w.pool → IsIn p run.world.pool
  pub all : (n : ℕ) → IsIn n (run.world.done to) → IsIn n (run.world.disk to)
  pub up : run.world.up to ≡ w.up to

module _ (σ : Setting) (c : Cluster) (w : World) (i : Invariant σ.targets w) (g : Agrees σ.targets c w) (to : ℕ) (inside : to < length c.targets) (low : to < 16) (up : serves (target_at c.targets to) ≡ true)
    (always : (es : List Event) (w v : World) → Invariant σ.targets w → Run σ.targets w es v → Invariant σ.targets v) (f : Fate) where
  abbrev was : Target
  was = target_at c.targets to

  keeps : Keeps σ.targets g.epoch g.sent (g.start to) w.base w.since to (slice w to) was
  keeps = g.keeps to up

  -- what the target tells itself
  abbrev own_of : ℕ → List Message
  own_of zero = []
  own_of (suc n) = Stable to to (suc n) ∷ []

  abbrev own : List Message
  own = own_of (w.batches to)

  own_may : (p : Message) → IsIn p own → MaySend σ.targets (happens w (Commit to)) p
  own_may p h = by_count (w.batches to) refl h
    where
      by_count : (n : ℕ) → w.batches to ≡ n → IsIn p (own_of n) → MaySend σ.targets (happens w (Commit to)) p
      by_count zero e h = absurd h
      by_count (suc n) e (inr h) = absurd h
      by_count (suc n) e (inl q) =
          let last = last_own to w.since n (sym (i.numbered.counted to) ∙ e) in
          let batch : (at w.since last.place).batch ≡ suc n = i.numbered.position last.place last.inside ∙ ap (λ m. suc (count_home m (take last.place w.since))) last.of ∙ last.count ∙ sym (i.numbered.counted to) ∙ e in
          let here : IsIn last.place (w.done to) = subst (λ m. IsIn last.place (w.done m)) last.of (i.executed.home_done last.place last.inside (subst (λ m. w.up m ≡ true) (sym last.of) (g.ups to inside ∙ up))) in
          subst (MaySend σ.targets (happens w (Commit to))) (sym q) (last.place, subst (λ b. IsIn last.place (if b then w.done to else w.disk to)) (sym (eqb_self to)) here, last.of, batch)

  abbrev now : Target
  now = with_sent (record was { node = committed was.node; disk = f.disk })

  abbrev first : Turned
  first = piece.turn σ.targets c w g to inside up (pends_behind σ w i to) f.disk now.sent_mark own own_may

  abbrev c1 : Cluster
  c1 = after_turn c to first

  abbrev w1 : World
  w1 = piece.after σ.targets c w g to inside up (pends_behind σ w i to) f.disk now.sent_mark own own_may

  g1 : Agrees σ.targets c1 w1
  g1 = commits_agree σ.targets c w g to inside up (pends_behind σ w i to) f.disk now.sent_mark own own_may

  run1 : Run σ.targets w (Commit to ∷ all_sends (piece.ps σ.targets c w g to inside up (pends_behind σ w i to) f.disk now.sent_mark own own_may)) w1
  run1 = commits_run σ.targets c w g to inside up (pends_behind σ w i to) f.disk now.sent_mark own own_may

  here_now : target_at c1.targets to ≡ now
  here_now = get_or-set_same c.targets to now no_target inside

  inside1 : to < length c1.targets
  inside1 = subst (λ n. to < n) (sym (length-set c.targets to now)) inside

  index_low : was.index < 16
  index_low = subst (λ n. n < 16) (sym keeps.index) low

  batches_are : length was.home.batches ≡ w.batches to
  batches_are = keeps.home.batches

  told : IsTold σ.targets w1 to was.index (length was.home.batches)
  told = subst (λ (y : ℕ × ℕ). IsTold σ.targets w1 to y.0 y.1) (λ j. (sym keeps.index j, sym batches_are j)) (by_count (w.batches to) refl)
    where
      by_count : (n : ℕ) → w.batches to ≡ n → IsTold σ.targets w1 to to n
      by_count zero e = told_none σ.targets w1 to to
      by_count (suc n) e = told_by σ.targets w1 to to (suc n) (owned σ.targets c w g to inside up (pends_behind σ w i to) f.disk now.sent_mark own own_may _ (subst (λ n. IsIn (Stable to to n) (own_of (w.batches to))) e (subst (λ n. IsIn (Stable to to n) (own_of n)) (sym e) (inl refl))))

  up1 : serves (target_at c1.targets to) ≡ true
  up1 = ap serves here_now ∙ up

  abbrev first_events : List Event
  first_events = Commit to ∷ all_sends (piece.ps σ.targets c w g to inside up (pends_behind σ w i to) f.disk now.sent_mark own own_may)

  i1 : Invariant σ.targets w1
  i1 = always first_events w w1 i run1

  abbrev w2 : World
  w2 = noting.after σ c1 w1 i1 g1 to inside1 up1 was.index (length was.home.batches) index_low told

  abbrev second : Turned
  second = quiet (note now was.index (length was.home.batches))

  g2 : Agrees σ.targets (after_turn c1 to second) w2
  g2 = subst (λ x. Agrees σ.targets (after_turn c1 to (quiet (note x was.index (length was.home.batches)))) w2) here_now (notes_agree σ c1 w1 i1 g1 to inside1 up1 was.index (length was.home.batches) index_low told)

  run2 : Run σ.targets w1 (noting.events σ c1 w1 i1 g1 to inside1 up1 was.index (length was.home.batches) index_low told) w2
  run2 = notes_run σ c1 w1 i1 g1 to inside1 up1 was.index (length was.home.batches) index_low told

  say2 : [] ≡ said w1 (noting.events σ c1 w1 i1 g1 to inside1 up1 was.index (length was.home.batches) index_low told)
  say2 = notes_say σ c1 w1 i1 g1 to inside1 up1 was.index (length was.home.batches) index_low told

  abbrev more_events : List Event
  more_events = noting.events σ c1 w1 i1 g1 to inside1 up1 was.index (length was.home.batches) index_low told

  cluster_is : after_turn c1 to second ≡ after_turn c to (commits was f)
  cluster_is = after_both c to first second ∙ ap (λ ms. after_turn c to (record { target = second.target; lines = first.lines; sent = ms })) (append-nil first.sent)

  says_all : loud first.lines ≡ said w (first_events ++ more_events)
  says_all = commits_say σ.targets c w g to inside up (pends_behind σ w i to) f.disk now.sent_mark own own_may
      ∙ sym (append-nil (said w first_events)) ∙ ap (λ l. said w first_events ++ l) say2 ∙ sym (said_append σ.targets first_events more_events w w1 run1)

  -- Seen of the world after it: the target is held as before, has committed everything, and no message is gone.
  pub whole : Committed σ.targets w to (commits was f).lines (after_turn c to (commits was f))
  whole = record {
    run = record {
      events = first_events ++ more_events;
      world = w2;
      run = run_append σ.targets first_events more_events w w1 w2 run1 run2;
      lines = says_all;
      agrees = subst (λ c. Agrees σ.targets c w2) cluster_is g2;
    };
    holder = refl;
    more = λ p h. more_pushed (piece.ps σ.targets c w g to inside up (pends_behind σ w i to) f.disk now.sent_mark own own_may) w.pool p h;
    all = λ n h. subst (λ b. IsIn n (if b then w.done to else w.disk to)) (sym (eqb_self to)) h;
    up = refl;
  }
