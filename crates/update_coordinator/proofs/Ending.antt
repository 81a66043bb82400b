-- An attempt that ends without an accept.
use Rattle.std.proofs.Common.{◌≡◌, ℕ, Bool, true, false, if◌then◌else◌, Option, Some, None, refl, sym, ap, subst, ◌∙◌}
use Rattle.std.proofs.lemmas.Option.{none-some}
use Rattle.fid_space.specs.Targets.{minus}
use Rattle.striped_dir.specs.declared.plan.Decision.{Decision}
use Rattle.striped_dir.specs.declared.plan.Step.{Step}
use Rattle.striped_dir.specs.declared.plan.Step.TheVariants as steps
use Rattle.plan_base.specs.Planners.{step_after}
use Rattle.plan_record.specs.Recorded.{reads}
use Rattle.update_record.specs.declared.message.Facts.{Facts}
use Rattle.update_coordinator.specs.declared.words.Course.{Course}
use Rattle.update_coordinator.specs.declared.words.Going.{Going}
use Rattle.update_coordinator.specs.declared.words.Waits.{Waits}
use Rattle.update_coordinator.specs.declared.words.Waits.TheVariants as waits
use Rattle.update_coordinator.specs.declared.words.Event.{Event}
use Rattle.update_coordinator.specs.declared.words.Event.TheVariants as events
use Rattle.update_coordinator.specs.declared.words.Action.{Action}
use Rattle.update_coordinator.specs.declared.words.Action.TheVariants as actions
use Rattle.update_coordinator.specs.Coordinating.{Coordinating}
use Rattle.update_coordinator.specs.Rules.{Gone, settles, holds, rooms, syncs, accepts, follows, ends, unheld, full, room_for, next_sync, stepped, looked, told, first_result, fact_for, on_fact, synced_for, on_synced, gives_up, on_down, resting, heard, with_flight, alone}
use Rattle.update_coordinator.specs.Laws.{IsGivenUp, releases_of, accepts_some}
use Rattle.update_coordinator.proofs.Due.{apart}

-- what is left, if it ends the attempt without an accept, sends these Releases
abbrev pub Over : Coordinating → Going → ℕ → Gone → Type 0
Over c g releases x = x.after.current ≡ None → accepts_some x.action ≡ false → IsGivenUp c g x.after releases

some_none : {A B : Type 0} (a : A) → Some a ≡ None → B
some_none a h = absurd (none-some a (sym h))

ended : (c : Coordinating) (g : Going) (k : Course) (releases : ℕ) (a : Action) → k.request.number ≡ g.course.request.number → IsGivenUp c g (ends (resting c) k releases a).after releases
ended c g k releases a q = record {
  flights = ap (λ (n : ℕ). with_flight c.flights (record { attempt = c.attempts; number = n; accepted = None; executes = 0; releases = releases })) q;
  released = refl;
  attempts = refl;
  batches = refl;
}

over_sync : (c : Coordinating) (g : Going) (k : Course) (d : Decision) (synced : ℕ) (x : Option (ℕ × ℕ)) → Over c g k.asked (syncs (resting c) k d synced x)
unfolding syncs accepts
over_sync c g k d synced (Some s) n a = some_none _ n
over_sync c g k d synced None n a = apart (sym a)

over_room : (c : Coordinating) (g : Going) (k : Course) (d : Decision) (synced : ℕ) (x : Option (ℕ × ℕ)) → k.request.number ≡ g.course.request.number → Over c g k.asked (rooms (resting c) k d synced x)
unfolding rooms
over_room c g k d synced (Some f) q n a = ended c g k k.asked (actions.Full f.0 f.1 (room_for k.request.op)) q
over_room c g k d synced None q n a = over_sync c g k d synced (next_sync k.seen d.on synced) n a

over_hold : (c : Coordinating) (g : Going) (k : Course) (d : Decision) (synced : ℕ) (x : Option ℕ) → k.request.number ≡ g.course.request.number → Over c g k.asked (holds (resting c) k d synced x)
unfolding holds
over_hold c g k d synced (Some t) q n a = some_none _ n
over_hold c g k d synced None q n a = over_room c g k d synced (full (room_for k.request.op) k.held d.parts) q n a

over_read : (c : Coordinating) (g : Going) (k : Course) (d : Decision) (b : Bool) → k.request.number ≡ g.course.request.number
    → Over c g k.asked (if b then ends (resting c) k k.asked (actions.Answer d.reply) else settles (resting c) k d 0)
over_read c g k d true q n a = ended c g k k.asked (actions.Answer d.reply) q
over_read c g k d false q n a = over_hold c g k d 0 (unheld k.held d.parts) q n a

over_step : (c : Coordinating) (g : Going) (k : Course) (s : Step) → k.request.number ≡ g.course.request.number → Over c g k.asked (follows (resting c) k s)
unfolding follows
over_step c g k (steps.Need m) q n a = some_none _ n
over_step c g k (steps.Decided d) q n a = over_read c g k d (reads k.request.op) q n a

over_fact : (c : Coordinating) (g : Going) (f : Facts) (v : Waits) → Over c g g.course.asked (fact_for (resting c) g.course f v)
over_fact c g f (waits.Look m) n a = over_step c g (stepped (looked c.master g.course m f) (first_result f)) (step_after g.course.planner (first_result f)) refl n a
over_fact c g f (waits.Hold d t) n a = over_hold c g (told c.master g.course t f) d 0 (unheld (told c.master g.course t f).held d.parts) refl n a
over_fact c g f (waits.Sync d s t writer) n a = some_none _ n

over_commit : (c : Coordinating) (g : Going) (v : Waits) → Over c g g.course.asked (synced_for (resting c) g.course v)
over_commit c g (waits.Look m) n a = some_none _ n
over_commit c g (waits.Hold d t) n a = some_none _ n
over_commit c g (waits.Sync d s t writer) n a = over_hold c g g.course d _ (unheld g.course.held d.parts) refl n a

moved : (c : Coordinating) (g : Going) (releases : ℕ) (x y : Gone) → x ≡ y → Over c g releases y → Over c g releases x
moved c g releases x y e o = subst (λ (z : Gone). Over c g releases z) (sym e) o

pub given_up : (c : Coordinating) (e : Event) (g : Going) → c.current ≡ Some g → (heard c e).after.current ≡ None → accepts_some (heard c e).action ≡ false → IsGivenUp c g (heard c e).after (releases_of g.course.asked e)
unfolding heard
given_up c (events.Fact f) g is n a = moved c g g.course.asked _ _ (ap (λ (x : Option Going). on_fact (resting c) f x) is) (over_fact c g f g.waits) n a
given_up c events.Synced g is n a = moved c g g.course.asked _ _ (ap (λ (x : Option Going). on_synced (resting c) x) is) (over_commit c g g.waits) n a
given_up c (events.Busy holder) g is n a =
    moved c g g.course.asked _ _ (ap (λ (x : Option Going). gives_up (resting c) x (actions.Busy holder)) is) (λ _ _. ended c g g.course g.course.asked (actions.Busy holder) refl) n a
given_up c (events.Down t) g is n a =
    moved c g (minus g.course.asked (alone t)) _ _ (ap (λ (x : Option Going). on_down (resting c) t x) is) (λ _ _. ended c g g.course (minus g.course.asked (alone t)) (actions.Recovering t) refl) n a
given_up c (events.Executed t m) g is n a = some_none g (sym is ∙ n)
given_up c (events.Released t m) g is n a = some_none g (sym is ∙ n)
