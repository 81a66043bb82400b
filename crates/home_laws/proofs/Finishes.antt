-- What an attempt does in a turn that decides nothing.
use Rattle.std.proofs.Common.{◌≡◌, ◌≢◌, ◌<◌, ◌+◌, ◌⊎◌, inl, inr, length, ℕ, true, false, if◌then◌else◌, [], ◌∷◌, Some, None, refl, sym, ap, ◌∙◌, subst}
use Rattle.std.proofs.lemmas.Bool.Decides.{eqb_tells}
use Rattle.tree_model.specs.declared.op.Request.{Request}
use Rattle.update_record.specs.declared.message.Attempt.{Attempt as Name}
use Rattle.scenario_text.specs.declared.line.Line.{Line}
use Rattle.scenario_text.specs.declared.line.Line.TheVariants as lines
use Rattle.update_coordinator.proofs.Spelled.{none_asked, one_asked}
use Rattle.update_coordinator.specs.declared.words.Action.{Action}
use Rattle.update_coordinator.specs.declared.words.Action.TheVariants as actions
use Rattle.update_coordinator.specs.declared.words.Event.{Event}
use Rattle.update_coordinator.specs.declared.words.Going.{Going}
use Rattle.update_coordinator.specs.Coordinating.{Coordinating}
use Rattle.update_coordinator.specs.Rules.{heard}
use Rattle.target_turns.specs.Home.{Walked, commits_or_finishes, ends_with, goes_on, hears, hears_awaited, most_steps, own_attempt, walks, writer_at}
use Rattle.target_turns.specs.Target.{Fate, Target, Turned, serves}
use Rattle.update_protocol.specs.Lists.{IsIn}
use Rattle.update_protocol.specs.World.{Attempt, Sync, Synced, World}
use Rattle.update_protocol.proofs.Invariant.{Invariant}
use Rattle.update_protocol.proofs.Setting.{Setting}
use Rattle.turn_laws.specs.Values.{Cluster, after_turn, target_at}
use Rattle.turn_laws.specs.Agrees.{Agrees}
use Rattle.turn_laws.specs.Runs.{IsRun, is_loud}
use Rattle.turn_laws.proofs.Ends.{ends_so}
use Rattle.home_laws.specs.Asking.{AreNumbered, AsksOrEnds, is_of_attempt}
use Rattle.home_laws.proofs.Asks.{asks, rests}
use Rattle.home_laws.proofs.Moves.{GoesOn, IsOver, Moves, Walks, asks_after, heard_moves, walk_moves}

module _ (σ : Setting) (c : Cluster) (w : World) (i : Invariant σ.targets w) (g : Agrees σ.targets c w) (numbered : AreNumbered c) (to : ℕ) (inside : to < length c.targets) (up : serves (target_at c.targets to) ≡ true)
    (going : Going) (current : (target_at c.targets to).home.current ≡ Some going)
    (synced : (a : Attempt) → w.trying to ≡ Some a → (t k : ℕ) → IsIn (Sync a t k) w.pool → (w.up t ≡ false) ⊎ IsIn (Synced a t) w.pool) (f : Fate) where
  abbrev was : Target
  was = target_at c.targets to

  abbrev r : Request
  r = going.course.request

  abbrev by : Name
  by = own_attempt was r.number

  abbrev turn : Walked → Turned
  turn x = commits_or_finishes by x f (writer_at was.index x.action)

  abbrev Done : Walked → Type 0
  Done x = IsRun σ.targets w (turn x).lines (after_turn c to (turn x))

  abbrev with_home : Coordinating → Action → Walked
  with_home h a = record { target = record was { home = h }; action = a }

  -- another target is asked
  asks_more : (at : ℕ) → at ≢ to → asks_after was.home at ≡ was.home.asks + 1
  asks_more at ne = elim (eqb_tells at was.home.master) [
    | inl q ↦ absurd (ne (q.1 ∙ (g.keeps to up).home.at_home))
    | inr q ↦ ap (λ b. if b then was.home.asks else was.home.asks + 1) q.0
  ]

  asked : (at : ℕ) → at ≢ to → (h : Coordinating) → (m : GoesOn was.home r (asks_after was.home at) h) → h ≡ record was.home { asks = was.home.asks + 1; released = 0; current = Some m.0 }
  asked at ne h m = m.2 ∙ ap (λ n. record was.home { asks = n; released = 0; current = Some m.0 }) (asks_more at ne)

  over : (h : Coordinating) (line : Line) → is_loud line ≡ false → IsOver was.home h → (a : Action) → ((h : Coordinating) → turn (with_home h a) ≡ ends_with by (record was { home = h }) line) → Done (with_home h a)
  over h line silent m a is =
      subst (λ (h : Coordinating). Done (with_home h a)) (sym m.2)
      (subst (λ (u : Turned). IsRun σ.targets w u.lines (after_turn c to u)) (sym (is (record was.home { current = None; flights = m.0; released = m.1 }))) (ends_so σ c w i g to inside up going current synced m.0 m.1 line silent))

  finishes : (h : Coordinating) (a : Action) → Moves was.home r h a → AsksOrEnds σ.targets to a → Done (with_home h a)
  finishes h (actions.Ask n) m s =
      subst (λ (h : Coordinating). Done (with_home h (actions.Ask n))) (sym (asked n.target s.2 h m))
      (asks σ c w i g numbered to inside up going current m.0 m.1 n.target (n.ask ∷ []) s.1 (one_asked n s.0))
  finishes h (actions.HoldOnly at) m s =
      subst (λ (h : Coordinating). Done (with_home h (actions.HoldOnly at))) (sym (asked at s h m)) (asks σ c w i g numbered to inside up going current m.0 m.1 at [] tt none_asked)
  finishes h (actions.Sync at writer) m s = absurd s
  finishes h (actions.Accept x) m s = absurd s
  finishes h (actions.Answer v) m s = over h (lines.Reply by.number v) refl m (actions.Answer v) (λ h. refl)
  finishes h (actions.Busy k) m s = over h (lines.Busy by.number k) refl m (actions.Busy k) (λ h. refl)
  finishes h (actions.Full at load need) m s = over h (lines.Full by.number at load need) refl m (actions.Full at load need) (λ h. refl)
  finishes h (actions.Recovering at) m s = over h (lines.Recovering by.number at) refl m (actions.Recovering at) (λ h. refl)
  finishes h actions.Nothing m s = subst (λ (h : Coordinating). Done (with_home h actions.Nothing)) (sym m.2) (rests σ c w i g numbered to inside up going current m.0 m.1)

  -- from a step of its coordinator
  pub goes_so : (h : Coordinating) (a : Action) → Moves was.home r h a → AsksOrEnds σ.targets to (walks (record was { home = h }) a).action
      → IsRun σ.targets w (goes_on by (with_home h a) f).lines (after_turn c to (goes_on by (with_home h a) f))
  goes_so h a m s =
      let x : Walks was r (walks (record was { home = h }) a) = walk_moves was r ((g.keeps to up).home.at_home ∙ sym (g.keeps to up).index) most_steps h a m in
      subst (λ (t : Target). Done (record { target = t; action = (walks (record was { home = h }) a).action })) (sym x.there) (finishes x.home (walks (record was { home = h }) a).action x.moves s)

  pub hears_so : (e : Event) → is_of_attempt e ≡ true → AsksOrEnds σ.targets to (walks (hears was e).target (hears was e).action).action
      → IsRun σ.targets w (hears_awaited was r.number e f).lines (after_turn c to (hears_awaited was r.number e f))
  hears_so e of s = goes_so (heard was.home e).after (heard was.home e).action (heard_moves was.home e going current of) s
