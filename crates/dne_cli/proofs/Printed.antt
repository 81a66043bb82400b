-- Lines that were printed, and what a step that leaves a target alone does.
use Rattle.std.specs.Prelude.{OnOk, true, false}
use Rattle.std.proofs.Common.{◌≡◌, ℕ, Bool, List, [], ◌∷◌, ◌++◌, Result, Ok, Err, inl, refl, sym, ap, ◌∙◌, subst, arith, append_assoc, append-nil}
use Rattle.outside.specs.Disk.{Shown}
use Rattle.scenario_text.specs.LineText.{texts, line_text}
use Rattle.scenario_text.specs.declared.line.Line.{Line}
use Rattle.scenario_text.specs.declared.line.Line.TheVariants as lines
use Rattle.scenario_text.specs.declared.line.Standing.TheVariants.{Down}
use Rattle.dne_cli.specs.Kept.{Held, Ledger, Committed, CommitsLedger, Commits, Ends, Crashes, Starts, Reformats, Restarts, standing_of, stopped, serving_on, all_stable, image_bytes}
use Rattle.dne_cli.specs.Disks.{Calls, Touches}
use Rattle.dne_cli.specs.Restart.{held_of}
use Rattle.dne_cli.specs.declared.target.Served.{Served}
use Rattle.dne_cli.specs.declared.target.Halted.{Halted}
use Rattle.dne_cli.specs.declared.target.Target.{Target}
use Rattle.dne_cli.specs.declared.target.Target.TheVariants as targets

pub printed : {T E : Type 0} (result : Result T E) (old new : List ℕ) (line : Line) (P : List Line → Type 0) → OnOk result (new ≡ old ++ line_text line) → P (line ∷ []) → OnOk result ((ls : List Line) × P ls × (new ≡ old ++ texts ls))
printed (Ok x) old new line P says holds = (line ∷ [], holds, says ∙ ap (λ (l : List ℕ). old ++ l) (sym (append-nil (line_text line))))
printed (Err e) old new line P says holds = tt

pub printed_two : {T E : Type 0} (result : Result T E) (old mid new : List ℕ) (a b : Line) → mid ≡ old ++ line_text a → OnOk result (new ≡ mid ++ line_text b) → OnOk result (new ≡ old ++ texts (a ∷ b ∷ []))
printed_two (Ok x) old mid new a b first says =
    says ∙ ap (λ (l : List ℕ). l ++ line_text b) first ∙ append_assoc old (line_text a) (line_text b) ∙ ap (λ (l : List ℕ). old ++ (line_text a ++ l)) (sym (append-nil (line_text b)))
printed_two (Err e) old mid new a b first says = tt

-- lines that were printed already
pub printed_all : {T E : Type 0} (result : Result T E) (old new : List ℕ) (all : List Line) (P : List Line → Type 0) → OnOk result (new ≡ old ++ texts all) → P all → OnOk result ((ls : List Line) × P ls × (new ≡ old ++ texts ls))
printed_all (Ok x) old new all P says holds = (all, holds, says)
printed_all (Err e) old new all P says holds = tt

pub touches_itself : (d : Shown) → Touches d d
touches_itself d = record { stays = record { tells = refl; honest = refl; name = refl }; later = omega arith }

pub starts_formatted : {T E : Type 0} (calls : Calls) (result : Result T E) (before after : List ℕ) (number : ℕ) (old new : Held) (formatted : Bool) → formatted ≡ true → OnOk result ((ls : List Line) × Starts calls old.disk number new ls × (after ≡ before ++ texts ls)) → OnOk result ((ls : List Line) × Restarts calls Down formatted number old new ls × (after ≡ before ++ texts ls))
starts_formatted calls result before after number old new formatted is given = subst (λ (f : Bool). OnOk result ((ls : List Line) × Restarts calls Down f number old new ls × (after ≡ before ++ texts ls))) (sym is) given

pub restores_unformatted : {T E : Type 0} (calls : Calls) (result : Result T E) (before after : List ℕ) (number : ℕ) (old new : Held) (formatted : Bool) → formatted ≡ false → OnOk result ((ls : List Line) × Reformats calls old.disk number new ls × (after ≡ before ++ texts ls)) → OnOk result ((ls : List Line) × Restarts calls Down formatted number old new ls × (after ≡ before ++ texts ls))
restores_unformatted calls result before after number old new formatted is given = subst (λ (f : Bool). OnOk result ((ls : List Line) × Restarts calls Down f number old new ls × (after ≡ before ++ texts ls))) (sym is) given

-- TARGETS

pub committed : (l after : Ledger) (disk new : Shown) (number : ℕ) (numbers : List ℕ) (failed : List Line) → Committed (image_bytes l) disk new → after ≡ all_stable l → numbers ≡ l.pend → CommitsLedger l disk (serving_on after new) (lines.Stable number numbers ∷ []) (lines.Stable number l.pend ∷ []) failed
committed l after disk new number numbers failed done is same = inl (new, done, ap (λ (m : Ledger). serving_on m new) is, ap (λ (ns : List ℕ). lines.Stable number ns ∷ []) same)

pub ended : (l after : Ledger) (disk new : Shown) (numbers : List ℕ) (failed : List Line) → Committed (image_bytes l) disk new → after ≡ all_stable l → numbers ≡ l.pend → CommitsLedger l disk (serving_on after new) (lines.Stable 0 numbers ∷ lines.EndClean ∷ []) (lines.Stable 0 l.pend ∷ lines.EndClean ∷ []) failed
ended l after disk new numbers failed done is same = inl (new, done, ap (λ (m : Ledger). serving_on m new) is, ap (λ (ns : List ℕ). lines.Stable 0 ns ∷ lines.EndClean ∷ []) same)

module _ {D : Type 0} (shown : D → Shown) where
  -- one that doesn't serve
  pub commits_none : (target : Target D) (number : ℕ) → ((x : Served D) → target ≡ targets.Serving x → ⊥) → Commits (held_of shown target).ledger number (held_of shown target) (held_of shown target) (lines.State number (standing_of (held_of shown target)) ∷ [])
  commits_none (targets.Serving x) number other = absurd (other x refl)
  commits_none (targets.Opened x) number other = (refl, refl)
  commits_none (targets.Down x) number other = (refl, refl)

  pub ends_none : (target : Target D) → ((x : Served D) → target ≡ targets.Serving x → ⊥) → Ends (held_of shown target).ledger (held_of shown target) (held_of shown target) (lines.EndUnclean 0 ∷ [])
  ends_none (targets.Serving x) other = absurd (other x refl)
  ends_none (targets.Opened x) other = (refl, refl)
  ends_none (targets.Down x) other = (refl, refl)

  -- one that isn't down
  pub crashes_up : (target : Target D) (number : ℕ) (new : Held) → ((x : Halted D) → target ≡ targets.Down x → ⊥) → new ≡ stopped true (held_of shown target).disk → Crashes (standing_of (held_of shown target)) number (held_of shown target) new (lines.Down number ∷ [])
  crashes_up (targets.Serving x) number new other is = (is, refl)
  crashes_up (targets.Opened x) number new other is = (is, refl)
  crashes_up (targets.Down x) number new other is = absurd (other x refl)

  pub restarts_up : (calls : Calls) (target : Target D) (number : ℕ) → ((x : Halted D) → target ≡ targets.Down x → ⊥) → Restarts calls (standing_of (held_of shown target)) (held_of shown target).formatted number (held_of shown target) (held_of shown target) (lines.State number (standing_of (held_of shown target)) ∷ [])
  restarts_up calls (targets.Serving x) number other = (refl, refl)
  restarts_up calls (targets.Opened x) number other = (refl, refl)
  restarts_up calls (targets.Down x) number other = absurd (other x refl)
