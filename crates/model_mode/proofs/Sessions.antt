-- Lines that are taken, and lines that are refused.
use Rattle.std.specs.Prelude.{OnOk}
use Rattle.std.proofs.Common.{◌≡◌, ◌≢◌, ℕ, true, false, List, ◌++◌, Result, Ok, Err, refl, sym, ◌∙◌, subst, append-nil}
use Rattle.scenario_text.specs.Spelling.{Entry, Skip, Order, IsCommand, IsSkipped, line_of, spelling}
use Rattle.scenario_text.specs.Machine.{MayCome}
use Rattle.scenario_text.specs.declared.command.Command.{Command}
use Rattle.scenario_text.proofs.OneSpelling.{one_command}
use Rattle.scenario_text.proofs.OneLine.{not_skipped}
use Rattle.model_mode.specs.Plain.{said_after}
use Rattle.model_mode.specs.Kept.{Kept, cluster_of, is_used, kept_after}
use Rattle.model_mode.specs.Reached.{IsBad, Stands, Takes}

-- a line that is skipped
pub skipped_ok : {T E : Type 0} (result : Result T E) (k : Kept) (line out : List ℕ) → IsSkipped line → OnOk result (k.ended ≡ false)
    → OnOk result ((e : Entry) × Stands k e × (line ≡ line_of e) × (k ≡ kept_after k e) × (out ≡ out ++ said_after k.tree e))
skipped_ok (Ok x) k line out skipped going = (Skip line, (skipped, going), refl, refl, sym (append-nil out))
skipped_ok (Err x) k line out skipped going = tt

-- a line that is skipped behind the end
pub skipped_bad : (k : Kept) (line : List ℕ) → IsSkipped line → k.ended ≡ true → IsBad k line
skipped_bad k line skipped over (Skip x) stands is = false_true (sym stands.1 ∙ over)
  where
    false_true : false ≡ true → ⊥
    false_true e = cc
skipped_bad k line skipped over (Order c) stands is = not_skipped (cluster_of k.tree) c stands.0 (subst IsSkipped is skipped)

-- a line that spells no command
pub unread_bad : (k : Kept) (line : List ℕ) → (IsSkipped line → ⊥) → ((c : Command) → IsCommand (cluster_of k.tree) c → line ≢ spelling c) → IsBad k line
unread_bad k line other none (Skip x) stands is = other (subst IsSkipped (sym is) stands.0)
unread_bad k line other none (Order c) stands is = none c stands.0 is

-- a line that spells a command that may not come
pub barred_bad : (k : Kept) (line : List ℕ) (c : Command) → (IsSkipped line → ⊥) → IsCommand (cluster_of k.tree) c → line ≡ spelling c → (MayCome (cluster_of k.tree) k.ended (is_used k.used) c → ⊥) → IsBad k line
barred_bad k line c other fits spelled barred (Skip x) stands is = other (subst IsSkipped (sym is) stands.0)
barred_bad k line c other fits spelled barred (Order d) stands is =
    let same : d ≡ c = one_command (cluster_of k.tree) (cluster_of k.tree) d c stands.0 fits (sym is ∙ spelled) in
    barred (subst (λ x. MayCome (cluster_of k.tree) k.ended (is_used k.used) x) same stands.1)

-- a line that was run is one step of the session's rules
pub took : {T E : Type 0} (result : Result T E) (old new : Kept) (line out now : List ℕ) → OnOk result ((e : Entry) × Stands old e × (line ≡ line_of e) × (new ≡ kept_after old e) × (now ≡ out ++ said_after old.tree e))
    → OnOk result ((more : List ℕ) × Takes old line new more × (now ≡ out ++ more))
took (Ok x) old new line out now says = (said_after old.tree says.0, (says.0, says.1, says.2, says.3, refl), says.4)
took (Err e) old new line out now says = tt
