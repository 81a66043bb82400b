-- What an ended attempt was owed comes.
use Rattle.std.proofs.Common.{◌≡◌, ◌<◌, length, ℕ, Bool, true, false, if◌then◌else◌, [], refl, sym, ap, subst}
use Rattle.update_record.specs.declared.message.Message.{Message as Mail}
use Rattle.update_coordinator.specs.Marks.{is_owed}
use Rattle.update_coordinator.specs.Rules.{heard}
use Rattle.update_coordinator.specs.declared.words.Event.{Event}
use Rattle.update_coordinator.specs.declared.words.Event.TheVariants as events
use Rattle.target_turns.specs.Helping.{ignores}
use Rattle.target_turns.specs.Home.{hears}
use Rattle.target_turns.specs.Target.{Target, Turned, quiet, serves}
use Rattle.target_turns.specs.Turn.{on_done}
use Rattle.target_state.specs.State.{TargetState}
use Rattle.update_protocol.specs.Lists.{IsIn}
use Rattle.update_protocol.specs.World.{World}
use Rattle.turn_laws.specs.Values.{Cluster, after_turn, target_at}
use Rattle.turn_laws.specs.Agrees.{Agrees}
use Rattle.turn_laws.specs.Runs.{IsRun}
use Rattle.turn_laws.proofs.Rests.{notes_done, rests_so}
use Rattle.home_laws.specs.Asking.{AreNumbered, GivesNumbers, GoesOnFrom, NotesBegun}
use Rattle.home_laws.proofs.Given.{gives_more}
use Rattle.home_laws.proofs.Orders.{same_home}

module _ (targets : ℕ) (c : Cluster) (w : World) (g : Agrees targets c w) (to : ℕ) (inside : to < length c.targets) (k : ℕ) (m : Mail) where
  abbrev was : Target
  was = target_at c.targets to

  abbrev Result : Turned → Type 0
  Result u = IsRun targets w u.lines (after_turn c to u)

  noted_or_ignored : (e : Event) → Result (quiet (hears was e).target) → Result (on_done k was m e)
  noted_or_ignored e noted = by_test (is_owed was.home.flights m.from m.attempt)
    where
      by_test : (b : Bool) → Result (if b then quiet (hears was e).target else ignores k was)
      by_test true = noted
      by_test false = rests_so targets c w g to inside (ignores k was) refl refl refl

  executed : (t attempt : ℕ) → Result (quiet (hears was (events.Executed t attempt)).target)
  unfolding heard
  executed t attempt = notes_done targets c w g to inside _

  released : (t attempt : ℕ) → Result (quiet (hears was (events.Released t attempt)).target)
  unfolding heard
  released t attempt = notes_done targets c w g to inside _

  pub executed_so : (t attempt : ℕ) → Result (on_done k was m (events.Executed t attempt))
  executed_so t attempt = noted_or_ignored (events.Executed t attempt) (executed t attempt)

  pub released_so : (t attempt : ℕ) → Result (on_done k was m (events.Released t attempt))
  released_so t attempt = noted_or_ignored (events.Released t attempt) (released t attempt)

module _ (c : Cluster) (to : ℕ) (inside : to < length c.targets) (k : ℕ) (m : Mail) (numbered : AreNumbered c) (up : serves (target_at c.targets to) ≡ true) where
  abbrev there : Target
  there = target_at c.targets to

  -- nothing is sent, and the home is as it was
  as_it_was : (u : Turned) → u.target.node ≡ there.node → GoesOnFrom there u.target → u.target.home.attempts ≡ there.home.attempts → u.sent ≡ [] → GivesNumbers c to u
  as_it_was u node next attempts none = record {
    same = λ s. ap (λ (n : TargetState). n.epoch) node;
    next = λ s. next;
    notes = λ s. subst (λ (y : ℕ × TargetState). NotesBegun to y.0 y.1) (λ j. (sym attempts j, sym node j)) (numbered.notes to up);
    sent = λ x h. absurd (subst (IsIn x) none h);
  }

  either : (e : Event) → GivesNumbers c to (quiet (hears there e).target) → GivesNumbers c to (on_done k there m e)
  either e noted = by_test (is_owed there.home.flights m.from m.attempt)
    where
      by_test : (b : Bool) → GivesNumbers c to (if b then quiet (hears there e).target else ignores k there)
      by_test true = noted
      by_test false = as_it_was (ignores k there) refl (same_home there there refl refl refl) refl refl

  executed_stays : (t attempt : ℕ) → GivesNumbers c to (quiet (hears there (events.Executed t attempt)).target)
  unfolding heard
  executed_stays t attempt = as_it_was (quiet (hears there (events.Executed t attempt)).target) refl (same_home there (hears there (events.Executed t attempt)).target refl refl refl) refl refl

  released_stays : (t attempt : ℕ) → GivesNumbers c to (quiet (hears there (events.Released t attempt)).target)
  unfolding heard
  released_stays t attempt = as_it_was (quiet (hears there (events.Released t attempt)).target) refl (same_home there (hears there (events.Released t attempt)).target refl refl refl) refl refl

  pub executed_numbers : (t attempt : ℕ) → AreNumbered (after_turn c to (on_done k there m (events.Executed t attempt)))
  executed_numbers t attempt = gives_more c numbered to inside up (on_done k there m (events.Executed t attempt)) (either (events.Executed t attempt) (executed_stays t attempt))

  pub released_numbers : (t attempt : ℕ) → AreNumbered (after_turn c to (on_done k there m (events.Released t attempt)))
  released_numbers t attempt = gives_more c numbered to inside up (on_done k there m (events.Released t attempt)) (either (events.Released t attempt) (released_stays t attempt))
