-- What is made of a line.
use Rattle.std.specs.Prelude.{OnOk}
use Rattle.std.proofs.Common.{◌≡◌, false, ℕ, List, [], ◌++◌, Result, Ok, Err, refl, sym, ◌∙◌, subst, append-nil}
use Rattle.scenario_text.specs.Spelling.{Entry, Skip, Order, IsCommand, IsSkipped, line_of, spelling}
use Rattle.scenario_text.specs.LineText.{texts}
use Rattle.scenario_text.specs.declared.line.Line.{Line}
use Rattle.scenario_text.specs.declared.command.Command.{Command}
use Rattle.scenario_text.proofs.OneSpelling.{one_command}
use Rattle.target_turns.specs.Disks.{Calls}
use Rattle.cluster_player.specs.Played.{Playing}
use Rattle.cluster_player.specs.Taken.{Does, IsBad, MayFollow, Stands}

-- a line that is skipped
pub skipped_ok : {T E : Type 0} (calls : Calls) (result : Result T E) (p : Playing) (line out : List ℕ) → IsSkipped line → OnOk result (p.ended ≡ false)
    → OnOk result ((e : Entry) × (ls : List Line) × Stands p e × (line ≡ line_of e) × Does calls p e p ls × (out ≡ out ++ texts ls))
skipped_ok calls (Ok x) p line out skipped going = (Skip line, [], (skipped, going), refl, (refl, refl), sym (append-nil out))
skipped_ok calls (Err x) p line out skipped going = tt

-- one that spells a command that may not come
pub barred_bad : (p : Playing) (line : List ℕ) (c : Command) → (IsSkipped line → ⊥) → IsCommand p.count c → line ≡ spelling c → (MayFollow p c → ⊥) → IsBad p line
barred_bad p line c other fits spelled barred (Skip x) stands is = other (subst IsSkipped (sym is) stands.0)
barred_bad p line c other fits spelled barred (Order d) stands is =
    barred (subst (λ (x : Command). MayFollow p x) (one_command p.count p.count d c stands.0 fits (sym is ∙ spelled)) stands.1)
