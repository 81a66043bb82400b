-- A target has its place, whatever it does.
use Rattle.std.proofs.Common.{◌≡◌, ◌<◌, ℕ, true, Result, IfOk, refl, sym, ◌∙◌, ap₂, subst, arith}
use Rattle.outside.specs.Disk.{Shown}
use Rattle.target_turns.specs.declared.target.State.{State}
use Rattle.target_turns.specs.declared.target.State.TheVariants as state
use Rattle.target_turns.specs.Target.{Target, serves, target_down}
use Rattle.target_turns.specs.Touching.{Touches}
use Rattle.scenario_text.specs.declared.line.Line.{Line}
use Rattle.target_turns.specs.Disks.{Calls}
use Rattle.target_turns.specs.Showing.{is_down}
use Rattle.target_turns.specs.Founding.{stopped, FoundsOn, Founds, Restarts}
use Rattle.target_turns.specs.Placing.{target_as, IsPlacedAs, halted_of}

placed_targets : {D : Type 0} (shown : D → Shown) (targets index : ℕ) (s : State D) → IsPlacedAs targets index s → (target_as shown targets index s).targets ≡ targets
placed_targets shown targets index (state.Serving s) p = p.0
placed_targets shown targets index (state.Opened n) p = refl
placed_targets shown targets index (state.Down h) p = refl

placed_index : {D : Type 0} (shown : D → Shown) (targets index : ℕ) (s : State D) → IsPlacedAs targets index s → (target_as shown targets index s).index ≡ index
placed_index shown targets index (state.Serving s) p = p.1
placed_index shown targets index (state.Opened n) p = refl
placed_index shown targets index (state.Down h) p = refl

pub placed_disk : {D : Type 0} (shown : D → Shown) (targets index : ℕ) (s : State D) → shown (halted_of s).disk ≡ (target_as shown targets index s).disk
placed_disk shown targets index (state.Serving s) = refl
placed_disk shown targets index (state.Opened n) = refl
placed_disk shown targets index (state.Down h) = refl

pub placed_same : {D : Type 0} (shown : D → Shown) (targets index : ℕ) (s t : State D) → IsPlacedAs targets index s → IsPlacedAs targets index t
    → ((target_as shown targets index t).targets ≡ (target_as shown targets index s).targets) × ((target_as shown targets index t).index ≡ (target_as shown targets index s).index)
placed_same shown targets index s t p q =
    (placed_targets shown targets index t q ∙ sym (placed_targets shown targets index s p), placed_index shown targets index t q ∙ sym (placed_index shown targets index s p))

pub placed_here : {D : Type 0} (shown : D → Shown) (targets index : ℕ) (s : State D) → IsPlacedAs targets index s → (target_as shown targets index s).index < (target_as shown targets index s).targets → index < targets
placed_here shown targets index (state.Serving s) p h = omega (arith, p.0, p.1, h)
placed_here shown targets index (state.Opened n) p h = h
placed_here shown targets index (state.Down d) p h = h

pub placed_touches : {D : Type 0} (shown : D → Shown) (targets index : ℕ) (s : State D) (new : Shown) → Touches (shown (halted_of s).disk) new → Touches (target_as shown targets index s).disk new
placed_touches shown targets index s new h = subst (λ (d : Shown). Touches d new) (placed_disk shown targets index s) h

pub placed_founds : {D : Type 0} (shown : D → Shown) (targets index : ℕ) (s : State D) (new : Target) → IsPlacedAs targets index s → FoundsOn targets index (shown (halted_of s).disk) new → Founds (target_as shown targets index s) new
placed_founds shown targets index (state.Serving s) new p h =
    subst (λ (t : ℕ). FoundsOn t s.index (shown s.node.disk) new) (sym p.0) (subst (λ (i : ℕ). FoundsOn targets i (shown s.node.disk) new) (sym p.1) h)
placed_founds shown targets index (state.Opened n) new p h = h
placed_founds shown targets index (state.Down d) new p h = h

-- what is left of one that stops
pub placed_stops : {D : Type 0} (shown : D → Shown) (targets index : ℕ) (s : State D) → IsPlacedAs targets index s → target_down targets index (halted_of s).formatted (shown (halted_of s).disk) ≡ stopped (target_as shown targets index s)
placed_stops shown targets index (state.Serving s) p = ap₂ (λ (t i : ℕ). target_down t i true (shown s.node.disk)) (sym p.0) (sym p.1)
placed_stops shown targets index (state.Opened n) p = refl
placed_stops shown targets index (state.Down h) p = refl

-- the disk of one that serves was formatted
pub placed_formatted : {D : Type 0} (shown : D → Shown) (targets index : ℕ) (s : State D) → serves (target_as shown targets index s) ≡ true → (target_as shown targets index s).formatted ≡ true
placed_formatted shown targets index (state.Serving s) h = refl
placed_formatted shown targets index (state.Opened n) h = absurd cc
placed_formatted shown targets index (state.Down d) h = absurd cc

-- one that is down is what is left of it
down_is : {D : Type 0} (shown : D → Shown) (targets index : ℕ) (s : State D) → is_down (target_as shown targets index s).standing ≡ true → target_down targets index (halted_of s).formatted (shown (halted_of s).disk) ≡ target_as shown targets index s
down_is shown targets index (state.Serving s) h = absurd cc
down_is shown targets index (state.Opened n) h = absurd cc
down_is shown targets index (state.Down d) h = refl

pub placed_restarts : {D E : Type 0} (calls : Calls) (shown : D → Shown) (targets index : ℕ) (s : State D) (r : Result Line E) (new : Target) → is_down (target_as shown targets index s).standing ≡ true
    → IfOk r (λ line. Restarts calls (target_down targets index (halted_of s).formatted (shown (halted_of s).disk)) line new) → IfOk r (λ line. Restarts calls (target_as shown targets index s) line new)
placed_restarts calls shown targets index s r new h does = subst (λ (t : Target). IfOk r (λ line. Restarts calls t line new)) (down_is shown targets index s h) does
