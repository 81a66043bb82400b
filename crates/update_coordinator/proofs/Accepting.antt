-- An accept comes of what is awaited alone, and ends the attempt.
use Rattle.std.proofs.Common.{◌≡◌, ℕ, Bool, true, false, if◌then◌else◌, Option, Some, None, refl, sym, ap, subst, ◌∙◌}
use Rattle.fid_space.specs.Targets.{joined}
use Rattle.striped_dir.specs.declared.plan.Decision.{Decision}
use Rattle.striped_dir.specs.declared.plan.Need.{Need}
use Rattle.striped_dir.specs.declared.plan.Step.{Step}
use Rattle.striped_dir.specs.declared.plan.Step.TheVariants as steps
use Rattle.plan_base.specs.Planners.{step_after}
use Rattle.plan_record.specs.Recorded.{reads}
use Rattle.update_record.specs.declared.operation.Record.{Record}
use Rattle.update_record.specs.declared.message.Facts.{Facts}
use Rattle.update_coordinator.specs.declared.words.Course.{Course}
use Rattle.update_coordinator.specs.declared.words.Going.{Going}
use Rattle.update_coordinator.specs.declared.words.Waits.{Waits}
use Rattle.update_coordinator.specs.declared.words.Waits.TheVariants as waits
use Rattle.update_coordinator.specs.declared.words.Event.{Event}
use Rattle.update_coordinator.specs.declared.words.Event.TheVariants as events
use Rattle.update_coordinator.specs.declared.words.Action.TheVariants as actions
use Rattle.update_coordinator.specs.Coordinating.{Coordinating}
use Rattle.update_coordinator.specs.Rules.{Gone, settles, follows, ends, stepped, looked, told, first_result, fact_for, on_fact, synced_for, on_synced, gives_up, on_down, resting, heard}
use Rattle.update_coordinator.specs.Laws.{IsSource, IsAccepted}
use Rattle.update_coordinator.proofs.Due.{due, is_accept, apart}

-- put together
accepted_by : (c : Coordinating) (e : Event) (r : Record) (g : Going) (k : Course) (d : Decision) (synced : ℕ) → c.current ≡ Some g → IsSource c g e g.waits k d synced → heard c e ≡ settles (resting c) k d synced
    → (settles (resting c) k d synced).action ≡ actions.Accept r → IsAccepted c e r
accepted_by c e r g k d synced is source same h =
    let x = due (resting c) k d synced r h in
    record { going = g; is_current = is; course = k; decision = d; synced = synced; source = source; due = x; left = same ∙ x.left }

by_read : (c : Coordinating) (f : Facts) (r : Record) (g : Going) (n : Need) (d : Decision) (b : Bool) → c.current ≡ Some g → g.waits ≡ waits.Look n
    → step_after g.course.planner (first_result f) ≡ steps.Decided d → reads g.course.request.op ≡ b
    → heard c (events.Fact f) ≡ (if b then ends (resting c) (stepped (looked c.master g.course n f) (first_result f)) g.course.asked (actions.Answer d.reply) else settles (resting c) (stepped (looked c.master g.course n f) (first_result f)) d 0)
    → (heard c (events.Fact f)).action ≡ actions.Accept r → IsAccepted c (events.Fact f) r
unfolding is_accept
by_read c f r g n d true is w s b same h = apart (ap is_accept (ap (λ (x : Gone). x.action) (sym same) ∙ h))
by_read c f r g n d false is w s b same h =
    accepted_by c (events.Fact f) r g (stepped (looked c.master g.course n f) (first_result f)) d 0 is
    (subst (λ (v : Waits). IsSource c g (events.Fact f) v (stepped (looked c.master g.course n f) (first_result f)) d 0) (sym w) (refl, s, refl)) same (ap (λ (x : Gone). x.action) (sym same) ∙ h)

by_step : (c : Coordinating) (f : Facts) (r : Record) (g : Going) (n : Need) (s : Step) → c.current ≡ Some g → g.waits ≡ waits.Look n → step_after g.course.planner (first_result f) ≡ s
    → heard c (events.Fact f) ≡ follows (resting c) (stepped (looked c.master g.course n f) (first_result f)) s → (heard c (events.Fact f)).action ≡ actions.Accept r → IsAccepted c (events.Fact f) r
unfolding is_accept follows
by_step c f r g n (steps.Need m) is w s same h = apart (ap is_accept (ap (λ (x : Gone). x.action) (sym same) ∙ h))
by_step c f r g n (steps.Decided d) is w s same h = by_read c f r g n d (reads g.course.request.op) is w s refl same h

by_waits : (c : Coordinating) (f : Facts) (r : Record) (g : Going) (v : Waits) → c.current ≡ Some g → g.waits ≡ v → heard c (events.Fact f) ≡ fact_for (resting c) g.course f v
    → (heard c (events.Fact f)).action ≡ actions.Accept r → IsAccepted c (events.Fact f) r
unfolding is_accept
by_waits c f r g (waits.Look n) is w same h = by_step c f r g n (step_after g.course.planner (first_result f)) is w refl same h
by_waits c f r g (waits.Hold d t) is w same h =
    accepted_by c (events.Fact f) r g (told c.master g.course t f) d 0 is
    (subst (λ (v : Waits). IsSource c g (events.Fact f) v (told c.master g.course t f) d 0) (sym w) (refl, refl, refl)) same (ap (λ (x : Gone). x.action) (sym same) ∙ h)
by_waits c f r g (waits.Sync d s t writer) is w same h = apart (ap is_accept (ap (λ (x : Gone). x.action) (sym same) ∙ h))

by_fact : (c : Coordinating) (f : Facts) (r : Record) (x : Option Going) → c.current ≡ x → heard c (events.Fact f) ≡ on_fact (resting c) f x → (heard c (events.Fact f)).action ≡ actions.Accept r → IsAccepted c (events.Fact f) r
unfolding is_accept
by_fact c f r None is same h = apart (ap is_accept (ap (λ (x : Gone). x.action) (sym same) ∙ h))
by_fact c f r (Some g) is same h = by_waits c f r g g.waits is refl same h

by_commit : (c : Coordinating) (r : Record) (g : Going) (v : Waits) → c.current ≡ Some g → g.waits ≡ v → heard c events.Synced ≡ synced_for (resting c) g.course v → (heard c events.Synced).action ≡ actions.Accept r → IsAccepted c events.Synced r
unfolding is_accept
by_commit c r g (waits.Look n) is w same h = apart (ap is_accept (ap (λ (x : Gone). x.action) (sym same) ∙ h))
by_commit c r g (waits.Hold d t) is w same h = apart (ap is_accept (ap (λ (x : Gone). x.action) (sym same) ∙ h))
by_commit c r g (waits.Sync d s t writer) is w same h =
    accepted_by c events.Synced r g g.course d (joined s t) is
    (subst (λ (v : Waits). IsSource c g events.Synced v g.course d (joined s t)) (sym w) (refl, refl, refl)) same (ap (λ (x : Gone). x.action) (sym same) ∙ h)

by_synced : (c : Coordinating) (r : Record) (x : Option Going) → c.current ≡ x → heard c events.Synced ≡ on_synced (resting c) x → (heard c events.Synced).action ≡ actions.Accept r → IsAccepted c events.Synced r
unfolding is_accept
by_synced c r None is same h = apart (ap is_accept (ap (λ (x : Gone). x.action) (sym same) ∙ h))
by_synced c r (Some g) is same h = by_commit c r g g.waits is refl same h

no_busy : (c : Coordinating) (holder : ℕ) (r : Record) (x : Option Going) → (gives_up (resting c) x (actions.Busy holder)).action ≡ actions.Accept r → ⊥
unfolding is_accept
no_busy c holder r None h = apart (ap is_accept h)
no_busy c holder r (Some g) h = apart (ap is_accept h)

no_down : (c : Coordinating) (t : ℕ) (r : Record) (x : Option Going) → (on_down (resting c) t x).action ≡ actions.Accept r → ⊥
unfolding is_accept
no_down c t r None h = apart (ap is_accept h)
no_down c t r (Some g) h = apart (ap is_accept h)

pub accepted : (c : Coordinating) (e : Event) (r : Record) → (heard c e).action ≡ actions.Accept r → IsAccepted c e r
unfolding is_accept heard
accepted c (events.Fact f) r h = by_fact c f r c.current refl refl h
accepted c events.Synced r h = by_synced c r c.current refl refl h
accepted c (events.Busy holder) r h = absurd (no_busy c holder r c.current h)
accepted c (events.Down t) r h = absurd (no_down c t r c.current h)
accepted c (events.Executed t n) r h = apart (ap is_accept h)
accepted c (events.Released t n) r h = apart (ap is_accept h)
