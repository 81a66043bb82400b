-- A target that is stopped, or started again, and the turn of any line.
use Rattle.std.proofs.Common.{◌≡◌, ◌<◌, ◌||◌, ◌^◌, ℕ, Bool, true, false, List, [], ◌∷◌, ◌++◌, set, IsSome, IsTrue, inl, inr, refl, sym, ap, ◌∙◌, subst, arith}
use Rattle.outside.specs.Causes.{Rose}
use Rattle.outside.specs.Disk.{Shown}
use Rattle.scenario_text.specs.Spelling.{Entry, Skip, Order, NoFeed, line_of}
use Rattle.scenario_text.specs.Machine.{State, SaysAll, Among, CrashLines, RestartLines, IsTaken, begun, is_formatted, serves}
use Rattle.scenario_text.specs.declared.line.Line.{Line}
use Rattle.scenario_text.specs.declared.line.Line.TheVariants as lines
use Rattle.scenario_text.specs.declared.line.Standing.{Standing}
use Rattle.scenario_text.specs.declared.line.Standing.TheVariants.{Serving, Opened, Down}
use Rattle.scenario_text.specs.declared.command.Command.TheVariants as commands
use Rattle.dne_cli.specs.Kept.{Kept, Held, Crashes, Does, Reformats, Restarts, Starts, opened_on, settled_target, standing_of, stopped}
use Rattle.dne_cli.specs.Disks.{Calls, HoldsBadImage, HoldsNothing, RestartsDisk, Touches, says_up}
use Rattle.dne_cli.specs.Reached.{Agrees, HoldsSame, Stands, Stored}
use Rattle.dne_cli.proofs.Asks.{taken_here, asks_on}
use Rattle.dne_cli.proofs.Storing.{ReadsAgain, formats_at, never_damaged, opens_at, stops_at, unread_at}
use Rattle.dne_cli.proofs.Touching.{touches_refl}
use Rattle.dne_cli.proofs.Taken.{IsTurn, skip_turn, fuse_turn, tree_turn, send_turn, cluster_turn, settle_turn, commit_turn, end_turn, state_turn, reads_again, or_first, or_none, or_true, true_false, never_clean, some_here, down_serving, opened_serving, opened_down, serving_down, not_true, no_down_in}

-- what a target keeps that stopped
holds_stopped : (s : State) (h : Held) (d : Shown) → HoldsSame s h → IsSome s.asked.cluster → s.asked.ended ≡ false → h.formatted ≡ true → d.honest ≡ h.disk.honest → (IsTrue s.honest → Stored Down s.last s.history d)
    → HoldsSame (record s { standing = Down; formatted = is_formatted s; pend = [] }) (stopped true d)
holds_stopped s h d a some going formatted honest stored = record {
  standing = refl;
  formatted = or_none (is_formatted s) ∙ a.formatted ∙ formatted;
  up = λ _. refl;
  ledger = tt;
  counted = λ e. absurd (down_serving e);
  clean = λ e. absurd (never_clean s h a going e);
  honest = a.honest ∙ sym honest;
  new = λ e. absurd (some_here s.asked.cluster some e);
  fresh = λ e. absurd (true_false e);
  stored = λ hon _. stored hon;
}

-- a target that is up is stopped
stop_turn : (calls : Calls) (t : ℕ) (s : State) (said : List Line) (n : ℕ) (k : Kept) → Agrees s said n k → IsTaken s.asked (Order (commands.Crash t)) → (s.standing ≡ Down → ⊥) → CrashLines s.standing t (lines.Down t ∷ [])
    → (IsTrue s.honest → Stored Down s.last s.history k.target.disk) → IsTurn calls s said n k (Order (commands.Crash t)) (record k { target = stopped true k.target.disk }) (lines.Down t ∷ [])
stop_turn calls t s said n k a taken up group stored =
    let e : Entry = Order (commands.Crash t) in
    let line : List Line = lines.Down t ∷ [] in
    let u : State = record (begun s e) { standing = Down; pend = [] } in
    record {
      state = u;
      turn = (taken, group, (u, refl, refl));
      served = λ x. absurd (true_false (sym x));
      agrees = record {
        asks = asks_on s.asked s.history said line k (stopped true k.target.disk) a.asks;
        few = (let f = a.few in omega (arith, f));
        holds = holds_stopped s k.target k.target.disk a.holds taken.1.0 taken.1.1 (a.holds.up up) refl stored;
      };
      disk = record { touches = touches_refl k.target.disk; cause = λ f. absurd (true_false f.0); does = refl };
      made = sym (or_none k.target.formatted ∙ a.holds.up up);
    }

crash_turn : (calls : Calls) (st : Standing) (t : ℕ) (s : State) (said : List Line) (n : ℕ) (k : Kept) (target : Held) (ls : List Line) → standing_of k.target ≡ st → Agrees s said n k → IsTaken s.asked (Order (commands.Crash t)) → Crashes st t k.target target ls
    → IsTurn calls s said n k (Order (commands.Crash t)) (record k { target = target }) ls
crash_turn calls Serving t s said n k target ls is a taken c =
    let e : Entry = Order (commands.Crash t) in
    let here : s.standing ≡ Serving = a.holds.standing ∙ is in
    let up : s.standing ≡ Down → ⊥ = λ x. serving_down (sym here ∙ x) in
    subst (λ x. IsTurn calls s said n k e (record k { target = x }) ls) (sym c.0) (subst (λ x. IsTurn calls s said n k e (record k { target = stopped true k.target.disk }) x) (sym c.1)
    (stop_turn calls t s said n k a taken up (subst (λ x. CrashLines x t (lines.Down t ∷ [])) (sym here) refl)
    (λ honest. stops_at s.last s.history k.target.disk (subst (λ x. Stored x s.last s.history k.target.disk) here (a.holds.stored honest (a.holds.up up))))))
crash_turn calls Opened t s said n k target ls is a taken c =
    let e : Entry = Order (commands.Crash t) in
    let here : s.standing ≡ Opened = a.holds.standing ∙ is in
    let up : s.standing ≡ Down → ⊥ = λ x. opened_down (sym here ∙ x) in
    subst (λ x. IsTurn calls s said n k e (record k { target = x }) ls) (sym c.0) (subst (λ x. IsTurn calls s said n k e (record k { target = stopped true k.target.disk }) x) (sym c.1)
    (stop_turn calls t s said n k a taken up (subst (λ x. CrashLines x t (lines.Down t ∷ [])) (sym here) refl)
    (λ honest. stops_at s.last s.history k.target.disk (subst (λ x. Stored x s.last s.history k.target.disk) here (a.holds.stored honest (a.holds.up up))))))
crash_turn calls Down t s said n k target ls is a taken c =
    let e : Entry = Order (commands.Crash t) in
    let told : ls ≡ lines.State t (standing_of k.target) ∷ [] = c.1 ∙ ap (λ x. lines.State t x ∷ []) (sym is) in
    subst (λ x. IsTurn calls s said n k e (record k { target = x }) ls) (sym c.0) (subst (λ x. IsTurn calls s said n k e k x) (sym told)
    (state_turn calls e t s said n k a taken refl refl refl refl refl
    (subst (λ x. CrashLines x t (lines.State t (standing_of k.target) ∷ [])) (sym (a.holds.standing ∙ is)) (ap (λ x. lines.State t x ∷ []) is))))

-- STARTS

-- a target that is down and stays down
down_turn : (calls : Calls) (l : Line) (t : ℕ) (s : State) (said : List Line) (n : ℕ) (k : Kept) (d : Shown) → Agrees s said n k → IsTaken s.asked (Order (commands.Restart t)) → s.standing ≡ Down → k.target.formatted ≡ true → Touches k.target.disk d
    → RestartLines Down t (l ∷ []) → SaysAll (begun s (Order (commands.Restart t))) (l ∷ []) (record (begun s (Order (commands.Restart t))) { standing = Down; pend = [] })
    → ((x : ℕ) → l ≡ lines.Down x → Rose k.target.disk.faults d.faults) → RestartsDisk calls true l k.target.disk d → (IsTrue s.honest → Stored Down s.last s.history d)
    → IsTurn calls s said n k (Order (commands.Restart t)) (record k { target = stopped true d }) (l ∷ [])
down_turn calls l t s said n k d a taken here formatted touches group says rose does stored =
    let e : Entry = Order (commands.Restart t) in
    record {
      state = record (begun s e) { standing = Down; pend = [] };
      turn = (taken, subst (λ x. RestartLines x t (l ∷ [])) (sym here) group, says);
      served = λ x. absurd (true_false (sym x));
      agrees = record {
        asks = asks_on s.asked s.history said (l ∷ []) k (stopped true d) a.asks;
        few = (let f = a.few in omega (arith, f));
        holds = holds_stopped s k.target d a.holds taken.1.0 taken.1.1 formatted touches.stays.honest stored;
      };
      disk = record { touches = touches; cause = λ f. one f.1.0 f.1.1; does = (subst (λ b. RestartsDisk calls b l k.target.disk d) (sym formatted) does, tt) };
      made = sym (or_first k.target.formatted (says_up (l ∷ [])) formatted);
    }
  where
    one : (x : ℕ) → Among (l ∷ []) (lines.Down x) → Rose k.target.disk.faults d.faults
    one x (inl e) = rose x e
    one x (inr m) = absurd m

-- a target whose disk is damaged stays down
damaged_turn : (calls : Calls) (l : Line) (t : ℕ) (s : State) (said : List Line) (n : ℕ) (k : Kept) (d : Shown) → Agrees s said n k → IsTaken s.asked (Order (commands.Restart t)) → s.standing ≡ Down → k.target.formatted ≡ true → Touches k.target.disk d
    → RestartLines Down t (l ∷ []) → SaysAll (begun s (Order (commands.Restart t))) (l ∷ []) (begun s (Order (commands.Restart t))) → ((x : ℕ) → l ≡ lines.Down x → ⊥) → RestartsDisk calls true l k.target.disk d → (IsTrue s.honest → ⊥)
    → IsTurn calls s said n k (Order (commands.Restart t)) (record k { target = stopped true d }) (l ∷ [])
damaged_turn calls l t s said n k d a taken here formatted touches group says other does never =
    let e : Entry = Order (commands.Restart t) in
    record {
      state = begun s e;
      turn = (taken, subst (λ x. RestartLines x t (l ∷ [])) (sym here) group, says);
      served = λ x. absurd (true_false (sym x));
      agrees = record {
        asks = asks_on s.asked s.history said (l ∷ []) k (stopped true d) a.asks;
        few = (let f = a.few in omega (arith, f));
        holds = record {
          standing = here;
          formatted = ap (λ x. is_formatted s || serves x) here ∙ or_none (is_formatted s) ∙ a.holds.formatted ∙ formatted;
          up = λ _. refl;
          ledger = tt;
          counted = λ x. absurd (down_serving (sym here ∙ x));
          clean = λ x. absurd (never_clean s k.target a.holds taken.1.1 x);
          honest = a.holds.honest ∙ sym touches.stays.honest;
          new = λ x. absurd (some_here s.asked.cluster taken.1.0 x);
          fresh = λ x. absurd (true_false x);
          stored = λ honest _. absurd (never honest);
        };
      };
      disk = record { touches = touches; cause = λ f. absurd (no_down_in l f.1.0 (other f.1.0) f.1.1); does = (subst (λ b. RestartsDisk calls b l k.target.disk d) (sym formatted) does, tt) };
      made = sym (or_first k.target.formatted (says_up (l ∷ [])) formatted);
    }

-- a target whose disk was formatted is started
start_turn : (calls : Calls) (t : ℕ) (s : State) (said : List Line) (n : ℕ) (k : Kept) (target : Held) (ls : List Line) → Agrees s said n k → IsTaken s.asked (Order (commands.Restart t)) → s.standing ≡ Down → k.target.formatted ≡ true → n < 2 ^ 32 → Starts calls k.target.disk t target ls
    → IsTurn calls s said n k (Order (commands.Restart t)) (record k { target = target }) ls
start_turn calls t s said n k target ls a taken here formatted few (inl (d, transno, numbers, r, made, one)) =
    let e : Entry = Order (commands.Restart t) in
    let f = a.few in
    let again : ReadsAgain s.history = reads_again s.asked s.history said k a.asks (omega (arith, f, few)) in
    let at = λ (honest : IsTrue s.honest). opens_at calls s.last s.history k.target.disk d transno numbers (subst (λ x. Stored x s.last s.history k.target.disk) here (a.holds.stored honest formatted)) r (subst IsTrue a.holds.honest honest) again in
    let line : List Line = lines.Up t transno numbers ∷ [] in
    let u : State = record (begun s e) { standing = Opened; formatted = true; last = transno } in
    subst (λ x. IsTurn calls s said n k e (record k { target = x }) ls) (sym made) (subst (λ x. IsTurn calls s said n k e (record k { target = opened_on d }) x) (sym one)
    (record {
      state = u;
      turn = (
        taken,
        subst (λ x. RestartLines x t line) (sym here) (inl (transno, numbers, refl)),
        (u, ((λ honest. let o = at honest in record { stable = o.stable; accepted = o.accepted; front = o.front }), refl), refl),
      );
      served = λ x. absurd (true_false (sym x));
      agrees = record {
        asks = asks_on s.asked s.history said line k (opened_on d) a.asks;
        few = (let g = a.few in omega (arith, g));
        holds = record {
          standing = refl;
          formatted = refl;
          up = λ _. refl;
          ledger = tt;
          counted = λ x. absurd (opened_serving x);
          clean = λ x. absurd (never_clean s k.target a.holds taken.1.1 x);
          honest = a.holds.honest ∙ sym r.touches.stays.honest;
          new = λ x. absurd (some_here s.asked.cluster taken.1.0 x);
          fresh = λ x. absurd (true_false x);
          stored = λ honest _. (at honest).stands;
        };
      };
      disk = record {
        touches = r.touches;
        cause = λ g. absurd (no_down_in (lines.Up t transno numbers) g.1.0 (λ x. cc) g.1.1);
        does = (subst (λ b. RestartsDisk calls b (lines.Up t transno numbers) k.target.disk d) (sym formatted) r.after_stop, tt);
      };
      made = sym (or_true k.target.formatted);
    }))
start_turn calls t s said n k target ls a taken here formatted few (inr (inl (d, u, made, one))) =
    let e : Entry = Order (commands.Restart t) in
    let v : State = record (begun s e) { standing = Down; pend = [] } in
    subst (λ x. IsTurn calls s said n k e (record k { target = x }) ls) (sym made) (subst (λ x. IsTurn calls s said n k e (record k { target = stopped true d }) x) (sym one)
    (down_turn calls (lines.Down t) t s said n k d a taken here formatted u.faulted.touches (inr (inl refl)) (v, refl, refl) (λ x y. u.faulted.rose) u.after_stop
    (λ honest. unread_at s.last s.history k.target.disk d (subst (λ x. Stored x s.last s.history k.target.disk) here (a.holds.stored honest formatted)) (u.images (subst IsTrue a.holds.honest honest)))))
start_turn calls t s said n k target ls a taken here formatted few (inr (inr (inl (d, gates, g, made, one)))) =
    let e : Entry = Order (commands.Restart t) in
    let f = a.few in
    let again : ReadsAgain s.history = reads_again s.asked s.history said k a.asks (omega (arith, f, few)) in
    let never : IsTrue s.honest → ⊥ = λ honest. never_damaged calls (HoldsNothing gates) s.last s.history k.target.disk d (subst (λ x. Stored x s.last s.history k.target.disk) here (a.holds.stored honest formatted)) g again (subst IsTrue a.holds.honest honest) in
    let dishonest = not_true s.honest never in
    subst (λ x. IsTurn calls s said n k e (record k { target = x }) ls) (sym made) (subst (λ x. IsTurn calls s said n k e (record k { target = stopped true d }) x) (sym one)
    (damaged_turn calls (lines.DamagedGates t gates) t s said n k d a taken here formatted g.touches (inr (inr (inl (gates, refl)))) (begun s e, (dishonest, refl), refl) (λ x y. cc) g.after_stop never))
start_turn calls t s said n k target ls a taken here formatted few (inr (inr (inr (d, place, g, made, one)))) =
    let e : Entry = Order (commands.Restart t) in
    let f = a.few in
    let again : ReadsAgain s.history = reads_again s.asked s.history said k a.asks (omega (arith, f, few)) in
    let never : IsTrue s.honest → ⊥ = λ honest. never_damaged calls (HoldsBadImage place) s.last s.history k.target.disk d (subst (λ x. Stored x s.last s.history k.target.disk) here (a.holds.stored honest formatted)) g again (subst IsTrue a.holds.honest honest) in
    let dishonest = not_true s.honest never in
    subst (λ x. IsTurn calls s said n k e (record k { target = x }) ls) (sym made) (subst (λ x. IsTurn calls s said n k e (record k { target = stopped true d }) x) (sym one)
    (damaged_turn calls (lines.DamagedImage t place) t s said n k d a taken here formatted g.touches (inr (inr (inr (place, refl)))) (begun s e, (dishonest, refl), refl) (λ x y. cc) g.after_stop never))

reformat_turn : (calls : Calls) (t : ℕ) (s : State) (said : List Line) (n : ℕ) (k : Kept) (target : Held) (ls : List Line) → Agrees s said n k → IsTaken s.asked (Order (commands.Restart t)) → s.standing ≡ Down → k.target.formatted ≡ false → Reformats calls k.target.disk t target ls
    → IsTurn calls s said n k (Order (commands.Restart t)) (record k { target = target }) ls
reformat_turn calls t s said n k target ls a taken here raw (inl (d, f, made, one)) =
    let e : Entry = Order (commands.Restart t) in
    let none = a.holds.fresh raw in
    let line : List Line = lines.Up t 0 [] ∷ [] in
    let u : State = record (begun s e) { standing = Opened; formatted = true; last = 0 } in
    let low = none.1 in
    subst (λ x. IsTurn calls s said n k e (record k { target = x }) ls) (sym made) (subst (λ x. IsTurn calls s said n k e (record k { target = opened_on d }) x) (sym one)
    (record {
      state = u;
      turn = (
        taken,
        subst (λ x. RestartLines x t line) (sym here) (inl (0, [], refl)),
        (u, ((λ _. record { stable = omega (arith, low); accepted = omega arith; front = refl }), refl), refl),
      );
      served = λ x. absurd (true_false (sym x));
      agrees = record {
        asks = asks_on s.asked s.history said line k (opened_on d) a.asks;
        few = (let g = a.few in omega (arith, g));
        holds = record {
          standing = refl;
          formatted = refl;
          up = λ _. refl;
          ledger = tt;
          counted = λ x. absurd (opened_serving x);
          clean = λ x. absurd (never_clean s k.target a.holds taken.1.1 x);
          honest = a.holds.honest ∙ sym f.formatted.touches.stays.honest;
          new = λ x. absurd (some_here s.asked.cluster taken.1.0 x);
          fresh = λ x. absurd (true_false x);
          stored = λ honest _. formats_at 0 s.history k.target.disk d f.formatted (subst IsTrue a.holds.honest honest) none.0 refl;
        };
      };
      disk = record {
        touches = f.formatted.touches;
        cause = λ g. absurd (no_down_in (lines.Up t 0 []) g.1.0 (λ x. cc) g.1.1);
        does = (subst (λ b. RestartsDisk calls b (lines.Up t 0 []) k.target.disk d) (sym raw) (refl, refl, f.after_stop), tt);
      };
      made = sym (or_true k.target.formatted);
    }))
reformat_turn calls t s said n k target ls a taken here raw (inr (d, f, made, one)) =
    let e : Entry = Order (commands.Restart t) in
    let line : List Line = lines.Down t ∷ [] in
    let u : State = record (begun s e) { standing = Down; pend = [] } in
    subst (λ x. IsTurn calls s said n k e (record k { target = x }) ls) (sym made) (subst (λ x. IsTurn calls s said n k e (record k { target = stopped false d }) x) (sym one)
    (record {
      state = u;
      turn = (taken, subst (λ x. RestartLines x t line) (sym here) (inr (inl refl)), (u, refl, refl));
      served = λ x. absurd (true_false (sym x));
      agrees = record {
        asks = asks_on s.asked s.history said line k (stopped false d) a.asks;
        few = (let g = a.few in omega (arith, g));
        holds = record {
          standing = refl;
          formatted = or_none (is_formatted s) ∙ a.holds.formatted ∙ raw;
          up = λ x. absurd (x refl);
          ledger = tt;
          counted = λ x. absurd (down_serving x);
          clean = λ x. absurd (never_clean s k.target a.holds taken.1.1 x);
          honest = a.holds.honest ∙ sym f.faulted.touches.stays.honest;
          new = λ x. absurd (some_here s.asked.cluster taken.1.0 x);
          fresh = λ _. a.holds.fresh raw;
          stored = λ _ x. absurd (true_false (sym x));
        };
      };
      disk = record { touches = f.faulted.touches; cause = λ _. f.faulted.rose; does = (subst (λ b. RestartsDisk calls b (lines.Down t) k.target.disk d) (sym raw) f.after_stop, tt) };
      made = sym (or_none k.target.formatted ∙ raw);
    }))

restart_turn : (calls : Calls) (st : Standing) (b : Bool) (t : ℕ) (s : State) (said : List Line) (n : ℕ) (k : Kept) (target : Held) (ls : List Line) → standing_of k.target ≡ st → k.target.formatted ≡ b → Agrees s said n k → IsTaken s.asked (Order (commands.Restart t)) → n < 2 ^ 32
    → Restarts calls st b t k.target target ls → IsTurn calls s said n k (Order (commands.Restart t)) (record k { target = target }) ls
restart_turn calls Serving b t s said n k target ls is made a taken few c =
    let e : Entry = Order (commands.Restart t) in
    let told : ls ≡ lines.State t (standing_of k.target) ∷ [] = c.1 ∙ ap (λ x. lines.State t x ∷ []) (sym is) in
    subst (λ x. IsTurn calls s said n k e (record k { target = x }) ls) (sym c.0) (subst (λ x. IsTurn calls s said n k e k x) (sym told)
    (state_turn calls e t s said n k a taken refl refl refl (refl, tt) refl
    (subst (λ x. RestartLines x t (lines.State t (standing_of k.target) ∷ [])) (sym (a.holds.standing ∙ is)) (ap (λ x. lines.State t x ∷ []) is))))
restart_turn calls Opened b t s said n k target ls is made a taken few c =
    let e : Entry = Order (commands.Restart t) in
    let told : ls ≡ lines.State t (standing_of k.target) ∷ [] = c.1 ∙ ap (λ x. lines.State t x ∷ []) (sym is) in
    subst (λ x. IsTurn calls s said n k e (record k { target = x }) ls) (sym c.0) (subst (λ x. IsTurn calls s said n k e k x) (sym told)
    (state_turn calls e t s said n k a taken refl refl refl (refl, tt) refl
    (subst (λ x. RestartLines x t (lines.State t (standing_of k.target) ∷ [])) (sym (a.holds.standing ∙ is)) (ap (λ x. lines.State t x ∷ []) is))))
restart_turn calls Down true t s said n k target ls is made a taken few c = start_turn calls t s said n k target ls a taken (a.holds.standing ∙ is) made few c
restart_turn calls Down false t s said n k target ls is made a taken few c = reformat_turn calls t s said n k target ls a taken (a.holds.standing ∙ is) made c

-- ANY LINE

order_turn : (calls : Calls) (e : Entry) (s : State) (said : List Line) (n : ℕ) (k new : Kept) (ls : List Line) → Agrees s said n k → IsTaken s.asked e → n < 2 ^ 32 → Does calls k e new ls → IsTurn calls s said n k e new ls
order_turn calls (Skip line) s said n k new ls a taken few d =
    subst (λ x. IsTurn calls s said n k (Skip line) x ls) (sym d.0) (subst (λ x. IsTurn calls s said n k (Skip line) k x) (sym d.1) (skip_turn calls line s said n k a taken))
order_turn calls (Order (commands.Cluster m)) s said n k new ls a taken few d =
    subst (λ x. IsTurn calls s said n k (Order (commands.Cluster m)) x ls) (sym d.2) (cluster_turn calls m s said n k d.0 ls a taken d.1)
order_turn calls (Order (commands.Send r)) s said n k new ls a taken few d =
    subst (λ x. IsTurn calls s said n k (Order (commands.Send r)) x ls) (sym d.0) (subst (λ x. IsTurn calls s said n k (Order (commands.Send r)) (record k { waiting = k.waiting ++ r ∷ []; used = set k.used r.number true }) x) (sym d.1) (send_turn calls r s said n k a taken))
order_turn calls (Order commands.Settle) s said n k new ls a taken few d =
    subst (λ x. IsTurn calls s said n k (Order commands.Settle) x ls) (sym d.0) (subst (λ x. IsTurn calls s said n k (Order commands.Settle) (record k { waiting = []; target = settled_target k.target k.waiting }) x) (sym d.1) (settle_turn calls k.target.ledger s said n k refl a taken))
order_turn calls (Order commands.Tree) s said n k new ls a taken few d =
    subst (λ x. IsTurn calls s said n k (Order commands.Tree) x ls) (sym d.0) (subst (λ x. IsTurn calls s said n k (Order commands.Tree) k x) (sym d.1) (tree_turn calls k.target.ledger s said n k refl a taken))
order_turn calls (Order commands.End) s said n k new ls a taken few d =
    subst (λ x. IsTurn calls s said n k (Order commands.End) x ls) (sym d.2) (end_turn calls k.target.ledger s said n k d.0 ls refl a taken d.1)
order_turn calls (Order (commands.Commit t)) s said n k new ls a taken few d =
    subst (λ x. IsTurn calls s said n k (Order (commands.Commit t)) x ls) (sym d.2) (commit_turn calls k.target.ledger t s said n k d.0 ls refl a taken d.1)
order_turn calls (Order (commands.Crash t)) s said n k new ls a taken few d =
    subst (λ x. IsTurn calls s said n k (Order (commands.Crash t)) x ls) (sym d.2) (crash_turn calls (standing_of k.target) t s said n k d.0 ls refl a taken d.1)
order_turn calls (Order (commands.Restart t)) s said n k new ls a taken few d =
    subst (λ x. IsTurn calls s said n k (Order (commands.Restart t)) x ls) (sym d.2) (restart_turn calls (standing_of k.target) k.target.formatted t s said n k d.0 ls refl refl a taken few d.1)
order_turn calls (Order (commands.Fuse t after choice)) s said n k new ls a taken few d =
    subst (λ x. IsTurn calls s said n k (Order (commands.Fuse t after choice)) x ls) (sym d.1) (subst (λ x. IsTurn calls s said n k (Order (commands.Fuse t after choice)) k x) (sym d.2) (fuse_turn calls t after choice s said n k a taken d.0))
order_turn calls (Order _) s said n k new ls a taken few d = absurd d

-- what a session does for a line is a turn of the machine
pub take_turn : (calls : Calls) (e : Entry) (s : State) (said : List Line) (n : ℕ) (k new : Kept) (ls : List Line) → Agrees s said n k → Stands k e → NoFeed (line_of e) → n < 2 ^ 32 → Does calls k e new ls → IsTurn calls s said n k e new ls
take_turn calls e s said n k new ls a stands clean few d = order_turn calls e s said n k new ls a (taken_here s.asked s.history said k e a.asks stands clean) few d
