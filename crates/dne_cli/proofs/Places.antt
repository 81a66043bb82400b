-- How a session moves on line by line, and what was written then.
use Rattle.std.proofs.Common.{◌≡◌, ◌<◌, ◌≤◌, ◌^◌, ℕ, Bool, true, false, IsTrue, ◌+◌, List, [], ◌∷◌, ◌++◌, length, ◌⊎◌, inl, inr, refl, sym, ap, ◌∙◌, subst, append_assoc, append-nil, length-append, arith}
use Rattle.std.specs.List.{AllByRecursion}
use Rattle.std.proofs.lemmas.Grind.{flat_map-append}
use Rattle.std.proofs.lemmas.List.{length-replicate, get_or-replicate}
use Rattle.outside.specs.Disk.{Shown}
use Rattle.outside.specs.declared.status.Status.{Status}
use Rattle.outside.specs.declared.status.Status.TheVariants.{Done, Refused, Memory, Source, Sink}
use Rattle.scenario_text.specs.Spelling.{Entry, NoFeed, line_of}
use Rattle.scenario_text.specs.LineText.{texts, line_text}
use Rattle.scenario_text.specs.Machine.{Asked, State, nothing_asked, start, Group, IsServed, asked_after, asked_all, entries_of, lines_of, transcript}
use Rattle.scenario_text.specs.declared.line.Standing.{Standing}
use Rattle.scenario_text.specs.declared.line.Standing.TheVariants.{Serving, Down}
use Rattle.scenario_text.specs.declared.line.Line.{Line}
use Rattle.scenario_text.proofs.Runs.{run_more, run_asked, served_more, lines-push}
use Rattle.line_player.specs.Played.{AreLines, IsLine, Played, Runs, RunsOver}
use Rattle.line_player.proofs.Mapped.{Maps}
use Rattle.dne_cli.specs.Disks.{Calls, DiskTurn, Moves, Touches, made_all, made_by}
use Rattle.dne_cli.specs.Kept.{Kept, Held, no_flags, nothing_kept}
use Rattle.dne_cli.specs.Transcript.{KeepsRun, Place, lines_in, play_rules}
use Rattle.dne_cli.specs.Reached.{Agrees, HoldsSame, Reached, Stored, Takes, session_rules, session_takes}
use Rattle.dne_cli.proofs.Asks.{taken_back}
use Rattle.dne_cli.proofs.Storing.{bears_all, holds_all}
use Rattle.dne_cli.proofs.Halts.{take_turn}
use Rattle.dne_cli.proofs.Touching.{touches_refl, touches_trans}

moves_more : (calls : Calls) (gs : List Group) (made : Bool) (first mid new : Shown) (g : Group) → Moves calls made first gs mid → DiskTurn calls (made_all made gs) g mid new → Moves calls made first (gs ++ g ∷ []) new
moves_more calls [] made first mid new g m t = (new, subst (λ d. DiskTurn calls made g d new) m t, refl)
moves_more calls (h ∷ gs) made first mid new g m t = (m.0, m.1, moves_more calls gs (made_by made h) m.0 mid new g m.2 t)

made_more : (gs : List Group) (made : Bool) (g : Group) → made_all made (gs ++ g ∷ []) ≡ made_by (made_all made gs) g
made_more [] made g = refl
made_more (h ∷ gs) made g = made_more gs (made_by made h) g

lines_in-push : (gs : List Group) (g : Group) → lines_in (gs ++ g ∷ []) ≡ lines_in gs ++ line_of g.entry ∷ []
lines_in-push [] g = refl
lines_in-push (h ∷ gs) g = ap (λ l. line_of h.entry ∷ l) (lines_in-push gs g)

-- a target that keeps the machine's state has a disk that keeps the run
keeps_run : (s : State) (h : Held) → HoldsSame s h → s.honest ≡ h.disk.honest → KeepsRun s h.disk
keeps_run s h a same = record {
  bears = λ honest made image here.
      let b = bears_all s.standing s.last s.history h.disk (a.stored (subst IsTrue (sym same) honest) (sym a.formatted ∙ made)) image here in
      record { count = b.0; fits = record { stable = b.1; accepted = b.2; front = refl }; exact = b.3; holds = b.4 };
  clean = λ honest clean image here.
      let c = a.clean clean in
      let formatted : h.formatted ≡ true = a.up (λ e. absurd (serving_down (sym c.1 ∙ e))) in
      let pending = ap length c.2 in
      let counted = a.counted c.1 in
      let held = holds_all s.last s.history h.disk (subst (λ x. Stored x s.last s.history h.disk) c.1 (a.stored (subst IsTrue (sym same) honest) formatted)) (omega (arith, counted, pending)) image here in
      (s.history, held, refl);
}
  where
    serving_down : ◌≡◌ {A = Standing} Serving Down → ⊥
    serving_down e = cc

-- one line more is run
reach_next : (calls : Calls) (first : Shown) (lines : List (List ℕ)) (text : List ℕ) (k new : Kept) (line more : List ℕ) → length lines < 2 ^ 32 → Reached calls first lines text k → Takes calls k new line more → NoFeed line → Reached calls first (lines ++ line ∷ []) (text ++ more) new
reach_next calls first lines text k new line more few r takes clean =
    let p = r.place in
    let e : Entry = takes.0 in
    let ls : List Line = takes.1 in
    let g : Group = record { entry = e; lines = ls } in
    let gs : List Group = p.groups in
    let turn = take_turn calls e p.state (lines_of gs) (length lines) k new ls r.agrees takes.2 (subst NoFeed takes.3 clean) few takes.4 in
    let served : IsServed e (asked_after (asked_all nothing_asked (entries_of gs)) e).sent (lines_of gs ++ ls) =
    subst (λ (a : Asked). IsServed e (asked_after a e).sent (lines_of gs ++ ls)) (run_asked gs (start first.honest) p.state p.run) turn.served in
    let same : turn.state.honest ≡ new.target.disk.honest = turn.agrees.holds.honest in
    let count : length (lines ++ line ∷ []) ≡ length lines + 1 = length-append lines (line ∷ []) in
    record {
      place = record {
        groups = gs ++ g ∷ [];
        state = turn.state;
        spelled = (λ i. p.spelled i ++ takes.3 i ∷ []) ∙ sym (lines_in-push gs g);
        run = run_more gs (start first.honest) p.state g turn.state p.run turn.turn;
        served = served_more gs nothing_asked [] g p.served served;
        written = ap (λ t. t ++ more) p.written ∙ ap (λ t. transcript gs ++ t) takes.5 ∙ sym (flat_map-append line_text (lines_of gs) ls) ∙ sym (ap texts (lines-push gs g));
        moves = moves_more calls gs false first k.target.disk new.target.disk g p.moves (subst (λ b. DiskTurn calls b g k.target.disk new.target.disk) (sym r.made) turn.disk);
        honest = turn.disk.touches.stays.honest ∙ p.honest;
        kept = keeps_run turn.state new.target turn.agrees.holds same;
      };
      made = made_more gs false g ∙ ap (λ b. made_by b g) r.made ∙ sym turn.made;
      agrees = subst (λ n. Agrees turn.state (lines_of (gs ++ g ∷ [])) n new) (sym count) (subst (λ l. Agrees turn.state l (length lines + 1) new) (sym (lines-push gs g)) turn.agrees);
    }

-- nothing was read yet
at_start : (calls : Calls) (first : Shown) → Place calls first first [] []
at_start calls first = record {
  groups = [];
  state = start first.honest;
  spelled = refl;
  run = refl;
  served = tt;
  written = refl;
  moves = refl;
  honest = refl;
  kept = record { bears = λ _ made. absurd (false_true made); clean = λ _ clean. absurd (false_true clean) };
}
  where
    false_true : false ≡ true → ⊥
    false_true e = cc

begins : (calls : Calls) (first : Shown) → Reached calls first [] [] (nothing_kept first)
unfolding at_start no_flags
begins calls first = record {
  place = at_start calls first;
  made = refl;
  agrees = record {
    asks = record {
      cluster = refl;
      ended = refl;
      used = λ x low. get_or-replicate 65537 x false false (omega (arith, low));
      flags = length-replicate 65537 false;
      one = λ x e. cc;
      requests = tt;
      accepted = tt;
      wait = tt;
      free = tt;
      apart = tt;
      answered = tt;
    };
    few = omega arith;
    holds = record {
      standing = refl;
      formatted = refl;
      up = λ x. absurd (x refl);
      ledger = tt;
      counted = λ x. cc;
      clean = λ x. cc;
      honest = refl;
      new = λ _. (refl, refl, refl, refl, refl);
      fresh = λ _. (refl, refl);
      stored = λ _ x. cc;
    };
  };
}

-- LINES ONE AFTER ANOTHER

reach_on : (calls : Calls) (ls : List (List ℕ)) (first : Shown) (done : List (List ℕ)) (text more : List ℕ) (k new : Kept) → Runs (session_takes calls) k ls new more → AllByRecursion IsLine ls → length done + length ls ≤ 1000000 → Reached calls first done text k → Reached calls first (done ++ ls) (text ++ more) new
reach_on calls [] first done text more k new r each few at =
    subst (λ x. Reached calls first (done ++ []) (text ++ more) x) (sym r.0) (subst (λ ls. Reached calls first ls (text ++ more) k) (sym (append-nil done))
    (subst (λ t. Reached calls first done t k) (sym (ap (λ m. text ++ m) r.1 ∙ append-nil text)) at))
reach_on calls (l ∷ ls) first done text more k new r each few at =
    let longer = length-append done (l ∷ []) in
    let next = reach_next calls first done text k r.0 l r.1 (omega (arith, few)) at r.3.0 each.0.0 in
    let rest = reach_on calls ls first (done ++ l ∷ []) (text ++ r.1) r.2 r.0 new r.4 each.1 (omega (arith, few, longer)) next in
    subst (λ x. Reached calls first x (text ++ more) new) (append_assoc done (l ∷ []) ls)
    (subst (λ t. Reached calls first ((done ++ l ∷ []) ++ ls) t new) (append_assoc text r.1 r.2 ∙ ap (λ m. text ++ m) (sym r.5)) rest)

reach_all : (calls : Calls) (first : Shown) (ls : List (List ℕ)) (text : List ℕ) (new : Kept) → AreLines ls → Runs (session_takes calls) (nothing_kept first) ls new text → Reached calls first ls text new
reach_all calls first ls text new are r = let few = are.few in reach_on calls ls first [] [] text (nothing_kept first) new r are.each (omega (arith, few)) (begins calls first)

touched_on : (calls : Calls) (ls : List (List ℕ)) (old new : Kept) (text : List ℕ) → Runs (session_takes calls) old ls new text → Touches old.target.disk new.target.disk
touched_on calls [] old new text r = subst (λ (k : Kept). Touches old.target.disk k.target.disk) (sym r.0) (touches_refl old.target.disk)
touched_on calls (l ∷ ls) old new text r = touches_trans old.target.disk r.0.target.disk new.target.disk r.3.1 (touched_on calls ls r.0 new r.2 r.4)

since : (mid new : Kept) → (new ≡ mid) ⊎ Touches mid.target.disk new.target.disk → Touches mid.target.disk new.target.disk
since mid new (inl e) = subst (λ (k : Kept). Touches mid.target.disk k.target.disk) (sym e) (touches_refl mid.target.disk)
since mid new (inr t) = t

-- the rules of a session are those of the transcript
pub session_maps : (calls : Calls) (first : Shown) (new : Kept) → Maps (session_rules calls (nothing_kept first) new) (play_rules calls first new.target.disk)
session_maps calls first new = record {
  ran = λ ls text are r. (reach_all calls first ls text new are r).place;
  ran_before = λ ls text are r. (r.0.target.disk, since r.0 new r.2, (reach_all calls first ls text r.0 are r.1).place);
  refuses = λ ls text line are b.
      let r = reach_all calls first ls text new are b.0 in
      (r.place, λ e taken. b.1 e (taken_back r.place.state.asked r.place.state.history (lines_of r.place.groups) new e r.agrees.asks taken));
  ends = λ over ls text are b. let r = reach_all calls first ls text new are b.0 in (r.place, sym r.agrees.asks.ended ∙ b.1);
}

-- whatever was written, it is the same disk
pub touched : (calls : Calls) (first : Kept) (new : Kept) (A : Type 0) (status : Status) (read text : List ℕ) → Played (session_rules calls first new) A status read text → Touches first.target.disk new.target.disk
touched calls first new A Done read text p = touched_on calls p.lines first new text p.ended.0
touched calls first new A Refused read text (inl p) = touched_on calls p.lines first new p.before p.ran
touched calls first new A Refused read text (inr p) = touched_on calls p.lines first new p.before p.open_end.0
touched calls first new A Memory read text p = touches_trans first.target.disk p.ran.0.target.disk new.target.disk (touched_on calls p.lines first p.ran.0 text p.ran.1) (since p.ran.0 new p.ran.2)
touched calls first new A Source read text p = touched_on calls p.lines first new text p.ran
touched calls first new A Sink read text (more, inl p) = touches_trans first.target.disk p.ran.0.target.disk new.target.disk (touched_on calls p.lines first p.ran.0 (text ++ more) p.ran.1) (since p.ran.0 new p.ran.2)
touched calls first new A Sink read text (more, inr (inl p)) = touched_on calls p.lines first new p.before p.ran
touched calls first new A Sink read text (more, inr (inr p)) = touched_on calls p.lines first new p.before p.open_end.0

-- want of memory before anything is read
pub starts_short : (calls : Calls) (A : Type 0) (first disk : Shown) → Touches first disk → RunsOver (play_rules calls first disk) A [] []
starts_short calls A first disk t = record { done = []; tail = []; split = refl; lines = []; closes = inl refl; ran = (first, t, at_start calls first); are = record { each = tt; few = omega arith }; short = omega arith }
