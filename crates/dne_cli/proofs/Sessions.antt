-- A session's target is taken out, changed and put back.
use Rattle.std.specs.Prelude.{OnOk}
use Rattle.std.proofs.Common.{◌≡◌, ◌≢◌, ◌<◌, ◌≤◌, ◌+◌, ℕ, suc, Bool, true, false, List, [], ◌∷◌, ◌++◌, length, drop, get_or, Option, Some, Result, Ok, Err, refl, sym, ap, ◌∙◌, subst, append-nil, append_assoc, add-one, arith}
use Rattle.std.proofs.Math.Seq.{drop-cons}
use Rattle.outside.specs.Disk.{Shown}
use Rattle.tree_model.specs.declared.op.Request.{Request}
use Rattle.scenario_text.specs.Spelling.{Entry, Skip, Order, IsCommand, IsPlayed, IsSkipped, line_of, spelling}
use Rattle.scenario_text.specs.Machine.{MayCome}
use Rattle.scenario_text.specs.LineText.{texts, line_text}
use Rattle.scenario_text.specs.declared.line.Line.{Line}
use Rattle.scenario_text.specs.declared.line.Line.TheVariants as lines
use Rattle.scenario_text.specs.declared.command.Command.{Command}
use Rattle.scenario_text.proofs.OneSpelling.{one_command}
use Rattle.dne_cli.specs.Kept.{Kept, Held, Does, Obeys, is_used, turned_away}
use Rattle.dne_cli.specs.Session.{count_of, marks, target_of}
use Rattle.dne_cli.specs.Restart.{held_of}
use Rattle.dne_cli.specs.Disks.{Calls, Touches}
use Rattle.dne_cli.specs.Reached.{IsBad, Stands, session_takes}
use Rattle.dne_cli.specs.declared.target.Target.{Target}
use Rattle.dne_cli.proofs.Flags.{marks_most}

-- what was done to the target that was taken out was done to the session's
pub carried : {T E : Type 0} (result : Result T E) (put : Kept → Held → Kept) (P : Held → Held → List Line → Type 0) (view k : Kept) (held target : Held) (out new : List ℕ) → view ≡ k → view.target ≡ held
    → OnOk result ((ls : List Line) × P held target ls × (new ≡ out ++ texts ls)) → OnOk result ((ls : List Line) × ((t : Held) × P k.target t ls × (put view target ≡ put k t)) × (new ≡ out ++ texts ls))
carried (Ok x) put P view k held target out new same taken says =
    (says.0, (target, subst (λ h. P h target says.0) (sym taken ∙ ap (λ (v : Kept). v.target) same) says.1, ap (λ v. put v target) same), says.2)
carried (Err e) put P view k held target out new same taken says = tt

-- the target that was taken out
pub taken_out : {D : Type 0} (shown : D → Shown) (slot taken : Option (Target D)) (target : Target D) → taken ≡ slot → taken ≡ Some target → target_of shown slot ≡ held_of shown target
taken_out shown slot taken target value is = ap (target_of shown) (sym value ∙ is)

-- a target has accepted no more than there are flags
pub count_low : (h held : Held) (waiting : List Request) (used : List Bool) → h ≡ held → length used ≡ 65537 → count_of h + length waiting ≤ marks used → count_of held + length waiting ≤ 65537
count_low h held waiting used same size low =
    let most = marks_most used in
    subst (λ x. count_of x + length waiting ≤ 65537) same (omega (arith, size, low, most))

-- a line that is skipped
pub skipped_ok : {T E : Type 0} (calls : Calls) (result : Result T E) (k : Kept) (line out : List ℕ) → IsSkipped line → OnOk result (k.ended ≡ false)
    → OnOk result ((e : Entry) × (ls : List Line) × Stands k e × (line ≡ line_of e) × Does calls k e k ls × (out ≡ out ++ texts ls))
skipped_ok calls (Ok x) k line out skipped going = (Skip line, [], (skipped, going, tt), refl, (refl, refl), sym (append-nil out))
skipped_ok calls (Err x) k line out skipped going = tt

-- a line that is skipped behind the end
pub skipped_bad : (k : Kept) (line : List ℕ) → IsSkipped line → k.ended ≡ true → ((c : Command) → IsCommand k.cluster c → IsSkipped (spelling c) → ⊥) → IsBad k line
skipped_bad k line skipped over apart (Skip x) stands is = false_true (sym stands.1 ∙ over)
  where
    false_true : false ≡ true → ⊥
    false_true e = cc
skipped_bad k line skipped over apart (Order c) stands is = apart c stands.0 (subst IsSkipped is skipped)

-- a line that spells no command
pub unread_bad : (k : Kept) (line : List ℕ) → (IsSkipped line → ⊥) → ((c : Command) → IsCommand k.cluster c → line ≢ spelling c) → IsBad k line
unread_bad k line other none (Skip x) stands is = other (subst IsSkipped (sym is) stands.0)
unread_bad k line other none (Order c) stands is = none c stands.0 is

-- a line that spells a command that may not come
pub barred_bad : (k : Kept) (line : List ℕ) (c : Command) → (IsSkipped line → ⊥) → IsCommand k.cluster c → line ≡ spelling c → (MayCome k.cluster k.ended (is_used k.used) c → ⊥) → IsBad k line
barred_bad k line c other fits spelled barred (Skip x) stands is = other (subst IsSkipped (sym is) stands.0)
barred_bad k line c other fits spelled barred (Order d) stands is =
    let same : d ≡ c = one_command k.cluster k.cluster d c stands.0 fits (sym is ∙ spelled) in
    barred (subst (λ x. MayCome k.cluster k.ended (is_used k.used) x) same stands.1)

-- a line that spells a command that isn't played
pub unplayed_bad : (k : Kept) (line : List ℕ) (c : Command) → (IsSkipped line → ⊥) → IsCommand k.cluster c → line ≡ spelling c → (IsPlayed c → ⊥) → IsBad k line
unplayed_bad k line c other fits spelled barred (Skip x) stands is = other (subst IsSkipped (sym is) stands.0)
unplayed_bad k line c other fits spelled barred (Order d) stands is =
    let same : d ≡ c = one_command k.cluster k.cluster d c stands.0 fits (sym is ∙ spelled) in
    barred (subst IsPlayed same stands.2)

-- a command that came
pub came_ok : {T E : Type 0} (calls : Calls) (result : Result T E) (k new : Kept) (line out now : List ℕ) (c : Command) → IsCommand k.cluster c → line ≡ spelling c → MayCome k.cluster k.ended (is_used k.used) c → IsPlayed c
    → OnOk result ((ls : List Line) × Obeys calls k c new ls × (now ≡ out ++ texts ls))
    → OnOk result ((e : Entry) × (ls : List Line) × Stands k e × (line ≡ line_of e) × Does calls k e new ls × (now ≡ out ++ texts ls))
came_ok calls (Ok x) k new line out now c fits spelled comes plays says = (Order c, says.0, (fits, comes, plays), spelled, says.1, says.2)
came_ok calls (Err x) k new line out now c fits spelled comes plays says = tt

-- a request more is turned away
pub turned_next : (rs : List Request) (i : ℕ) (r : Request) (out new old : List ℕ) → i < length rs → r ≡ get_or rs i r → out ++ texts (turned_away (drop i rs)) ≡ old → new ≡ out ++ line_text (lines.Recovering r.number 0)
    → new ++ texts (turned_away (drop (i + 1) rs)) ≡ old
turned_next rs i r out new old low is so_far e =
    let here : drop i rs ≡ r ∷ drop (suc i) rs = drop-cons rs i r low ∙ ap (λ x. x ∷ drop (suc i) rs) (sym is) in
    let rest : List ℕ = texts (turned_away (drop (suc i) rs)) in
    ap (λ n. new ++ texts (turned_away (drop n rs))) (add-one i) ∙ ap (λ l. l ++ rest) e
    ∙ append_assoc out (line_text (lines.Recovering r.number 0)) rest ∙ ap (λ l. out ++ texts (turned_away l)) (sym here) ∙ so_far

-- a line that was run is one step of the session's rules
pub took : {T E : Type 0} (calls : Calls) (result : Result T E) (old new : Kept) (line out now : List ℕ) → OnOk result ((e : Entry) × (ls : List Line) × Stands old e × (line ≡ line_of e) × Does calls old e new ls × (now ≡ out ++ texts ls)) → Touches old.target.disk new.target.disk
    → OnOk result ((more : List ℕ) × session_takes calls old line new more × (now ≡ out ++ more))
took calls (Ok x) old new line out now says touches = (texts says.1, ((says.0, says.1, says.2, says.3, says.4, refl), touches), says.5)
took calls (Err e) old new line out now says touches = tt
