-- An awaited answer is acted on.
use Rattle.std.proofs.Common.{◌≡◌, ℕ, Bool, true, false, if◌then◌else◌, Option, Some, None, refl, sym, ap, subst}
use Rattle.fid_space.specs.Targets.{joined}
use Rattle.striped_dir.specs.declared.plan.Decision.{Decision}
use Rattle.striped_dir.specs.declared.plan.Step.{Step}
use Rattle.striped_dir.specs.declared.plan.Step.TheVariants as steps
use Rattle.plan_base.specs.Planners.{step_after}
use Rattle.plan_record.specs.Recorded.{reads}
use Rattle.update_record.specs.declared.message.Facts.{Facts}
use Rattle.update_coordinator.specs.declared.words.Course.{Course}
use Rattle.update_coordinator.specs.declared.words.Going.{Going}
use Rattle.update_coordinator.specs.declared.words.Waits.{Waits}
use Rattle.update_coordinator.specs.declared.words.Waits.TheVariants as waits
use Rattle.update_coordinator.specs.declared.words.Event.{Event}
use Rattle.update_coordinator.specs.declared.words.Event.TheVariants as events
use Rattle.update_coordinator.specs.declared.words.Action.TheVariants as actions
use Rattle.update_coordinator.specs.Coordinating.{Coordinating}
use Rattle.update_coordinator.specs.Rules.{Gone, settles, holds, rooms, syncs, accepts, follows, ends, unheld, full, room_for, next_sync, stepped, looked, told, first_result, fact_for, on_fact, synced_for, on_synced, gives_up, on_down, resting, heard}
use Rattle.update_coordinator.specs.Laws.{is_answer, does_nothing}
use Rattle.update_coordinator.proofs.Due.{apart}

-- something is done
abbrev pub Acts : Gone → Type 0
Acts x = does_nothing x.action ≡ false

by_sync : (c : Coordinating) (k : Course) (d : Decision) (synced : ℕ) (x : Option (ℕ × ℕ)) → Acts (syncs c k d synced x)
unfolding does_nothing syncs accepts
by_sync c k d synced (Some s) = refl
by_sync c k d synced None = refl

by_room : (c : Coordinating) (k : Course) (d : Decision) (synced : ℕ) (x : Option (ℕ × ℕ)) → Acts (rooms c k d synced x)
unfolding does_nothing rooms
by_room c k d synced (Some f) = refl
by_room c k d synced None = by_sync c k d synced (next_sync k.seen d.on synced)

by_hold : (c : Coordinating) (k : Course) (d : Decision) (synced : ℕ) (x : Option ℕ) → Acts (holds c k d synced x)
unfolding does_nothing holds
by_hold c k d synced (Some t) = refl
by_hold c k d synced None = by_room c k d synced (full (room_for k.request.op) k.held d.parts)

by_read : (c : Coordinating) (k : Course) (d : Decision) (b : Bool) → Acts (if b then ends c k k.asked (actions.Answer d.reply) else settles c k d 0)
unfolding does_nothing
by_read c k d true = refl
by_read c k d false = by_hold c k d 0 (unheld k.held d.parts)

by_step : (c : Coordinating) (k : Course) (s : Step) → Acts (follows c k s)
unfolding does_nothing follows
by_step c k (steps.Need n) = refl
by_step c k (steps.Decided d) = by_read c k d (reads k.request.op)

by_fact : (c : Coordinating) (k : Course) (f : Facts) (v : Waits) → is_answer (events.Fact f) v ≡ true → Acts (fact_for c k f v)
by_fact c k f (waits.Look n) h = by_step c (stepped (looked c.master k n f) (first_result f)) (step_after k.planner (first_result f))
by_fact c k f (waits.Hold d t) h = by_hold c (told c.master k t f) d 0 (unheld (told c.master k t f).held d.parts)
by_fact c k f (waits.Sync d s t writer) h = apart h

by_commit : (c : Coordinating) (k : Course) (v : Waits) → is_answer events.Synced v ≡ true → Acts (synced_for c k v)
by_commit c k (waits.Look n) h = apart h
by_commit c k (waits.Hold d t) h = apart h
by_commit c k (waits.Sync d s t writer) h = by_hold c k d (joined s t) (unheld k.held d.parts)

moved : (x y : Gone) → x ≡ y → Acts y → Acts x
moved x y e a = subst (λ (z : Gone). Acts z) (sym e) a

pub heard_answer : (c : Coordinating) (e : Event) (g : Going) → c.current ≡ Some g → is_answer e g.waits ≡ true → does_nothing (heard c e).action ≡ false
unfolding heard does_nothing
heard_answer c (events.Fact f) g is h = moved _ _ (ap (λ (x : Option Going). on_fact (resting c) f x) is) (by_fact (resting c) g.course f g.waits h)
heard_answer c events.Synced g is h = moved _ _ (ap (λ (x : Option Going). on_synced (resting c) x) is) (by_commit (resting c) g.course g.waits h)
heard_answer c (events.Busy holder) g is h = moved _ _ (ap (λ (x : Option Going). gives_up (resting c) x (actions.Busy holder)) is) refl
heard_answer c (events.Down t) g is h = moved _ _ (ap (λ (x : Option Going). on_down (resting c) t x) is) refl
heard_answer c (events.Executed t m) g is h = apart h
heard_answer c (events.Released t m) g is h = apart h
