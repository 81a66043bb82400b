-- Laws of the machine: its history is legal, and it accepts each number once.
use Rattle.std.proofs.Common.{◌≡◌, ◌≢◌, ℕ, Bool, Option, Some, None, IsSome, unwrap_or, List, [], ◌∷◌, ◌++◌, map, refl, sym, ap, ◌∙◌, subst, append_assoc, append-nil}
use Rattle.std.specs.List.{AllByRecursion}
use Rattle.std.proofs.lemmas.Grind.{flat_map-append}
use Rattle.tree_model.specs.Tree.{Tree, base}
use Rattle.tree_model.specs.Step.{step}
use Rattle.tree_model.specs.History.{Item, IsLegal, IsLegalFrom}
use Rattle.tree_model.specs.declared.op.Request.{Request}
use Rattle.tree_model.proofs.Histories.{legal_from-push}
use Rattle.scenario_text.specs.declared.line.Line.{Line}
use Rattle.scenario_text.specs.declared.line.Line.TheVariants as lines
use Rattle.scenario_text.specs.declared.command.Command.TheVariants as commands
use Rattle.scenario_text.specs.Spelling.{Entry, Skip, Order}
use Rattle.scenario_text.specs.Machine.{Asked, State, Group, IsTaken, IsNew, IsGroup, Says, SaysAll, Run, AreTaken, asked_all, begun, entries_of, lines_of, nothing_asked, start, targets_of}
use Rattle.scenario_text.specs.Worked.{accepted, accepts, AreApart}
use Rattle.scenario_text.proofs.Runs.{says_all_asked, run_taken, run_asked}

new_numbers : (n : ℕ) (h : List Item) (r : Request) → IsNew n h r → AllByRecursion (λ j. j.request.number ≢ r.number) h
new_numbers n [] r new = tt
new_numbers n (j ∷ h) r new = (new.0.0, new_numbers n h r new.1)

abbrev Legal : State → Type 0
Legal s = IsLegal (targets_of s) s.history

says_legal : (s : State) (l : Line) (others : List Line) (t : State) → Says s l others t → Legal s → Legal t
says_legal s (lines.Accept number reply on) others t h legal =
    subst Legal (sym h.after) (legal_from-push (targets_of s) base s.history (record { request = h.request; reply = reply }) legal h.replied (new_numbers (targets_of s) s.history h.request h.fresh))
says_legal s (lines.Reply number reply) others t h legal = subst Legal (sym h.after) legal
says_legal s (lines.Stale number last) others t h legal = subst Legal (sym h.after) legal
says_legal s (lines.Recovering number target) others t h legal = subst Legal (sym h.after) legal
says_legal s (lines.Stable target listed) others t h legal = subst Legal (sym h.2) legal
says_legal s (lines.Down target) others t h legal = subst Legal (sym h) legal
says_legal s (lines.Up target transno listed) others t h legal = subst Legal (sym h.1) legal
says_legal s (lines.DamagedGates target gates) others t h legal = subst Legal (sym h.1) legal
says_legal s (lines.DamagedImage target place) others t h legal = subst Legal (sym h.1) legal
says_legal s (lines.State target standing) others t h legal = subst Legal (sym h.1) legal
says_legal s (lines.Tree grown) others t h legal = subst Legal (sym h.1) legal
says_legal s (lines.TreeState target) others t h legal = subst Legal (sym h.1) legal
says_legal s (lines.EndUnclean target) others t h legal = subst Legal (sym h.1) legal
says_legal s lines.EndClean others t h legal = subst Legal (sym h.1) legal
says_legal s _ others t h legal = absurd h

says_all_legal : (ls : List Line) (s t : State) → SaysAll s ls t → Legal s → Legal t
says_all_legal [] s t h legal = subst Legal (sym h) legal
says_all_legal (l ∷ ls) s t h legal = says_all_legal ls h.0 t h.2 (says_legal s l ls h.0 h.1 legal)

-- before there is a cluster nothing was accepted
abbrev Sound : State → Type 0
Sound s = (s.asked.cluster ≡ None → s.history ≡ []) × Legal s

has_cluster : (c : Option ℕ) (h : List Item) → IsSome c → c ≡ None → h ≡ []
has_cluster None h some e = cc
has_cluster (Some n) h some e = cc

-- what was accepted, and for which cluster, is what matters
sound_as : (s : State) (c : Option ℕ) → Sound s → c ≡ s.asked.cluster → (c ≡ None → s.history ≡ []) × IsLegal (unwrap_or c 0) s.history
sound_as s c sound e = subst (λ x. (x ≡ None → s.history ≡ []) × IsLegal (unwrap_or x 0) s.history) (sym e) sound

open_sound : (s u : State) (ls : List Line) (t : State) → IsSome u.asked.cluster → u.asked.cluster ≡ s.asked.cluster → u.history ≡ s.history → SaysAll u ls t → Sound s → Sound t
open_sound s u ls t some e history says sound =
    let asked : t.asked ≡ u.asked = says_all_asked ls u t says in
    let before = sound_as s u.asked.cluster sound e in
    (λ none. has_cluster u.asked.cluster t.history some (sym (ap (λ (x : Asked). x.cluster) asked) ∙ none), says_all_legal ls u t says (subst (λ h. IsLegal (targets_of u) h) (sym history) before.1))

turn_sound_of : (s : State) (e : Entry) (ls : List Line) (t : State) → IsTaken s.asked e → IsGroup s.standing e ls → SaysAll (begun s e) ls t → Sound s → Sound t
turn_sound_of s (Skip line) ls t taken group says sound =
    let same : t ≡ begun s (Skip line) = subst (λ l. SaysAll (begun s (Skip line)) l t) group says in
    subst Sound (sym same) (sound.0, sound.1)
turn_sound_of s (Order (commands.Cluster n)) ls t taken group says sound =
    let none : s.history ≡ [] = sound.0 taken.1 in
    let u : State = begun s (Order (commands.Cluster n)) in
    let asked : t.asked ≡ u.asked = says_all_asked ls u t says in
    let some : t.asked.cluster ≡ Some n = ap (λ (x : Asked). x.cluster) asked in
    ((λ e. absurd (some_none n (sym some ∙ e))), says_all_legal ls u t says (subst (λ h. IsLegal n h) (sym none) tt))
  where
    some_none : (n : ℕ) → ◌≡◌ {A = Option ℕ} (Some n) None → ⊥
    some_none n e = cc
turn_sound_of s (Order (commands.Send r)) ls t taken group says sound = open_sound s (begun s (Order (commands.Send r))) ls t taken.1.0.0 refl refl says sound
turn_sound_of s (Order commands.Settle) ls t taken group says sound = open_sound s (begun s (Order commands.Settle)) ls t taken.1.0 refl refl says sound
turn_sound_of s (Order commands.Tree) ls t taken group says sound = open_sound s (begun s (Order commands.Tree)) ls t taken.1.0 refl refl says sound
turn_sound_of s (Order commands.End) ls t taken group says sound = open_sound s (begun s (Order commands.End)) ls t taken.1.0 refl refl says sound
turn_sound_of s (Order (commands.Commit target)) ls t taken group says sound = open_sound s (begun s (Order (commands.Commit target))) ls t taken.1.0 refl refl says sound
turn_sound_of s (Order (commands.Crash target)) ls t taken group says sound = open_sound s (begun s (Order (commands.Crash target))) ls t taken.1.0 refl refl says sound
turn_sound_of s (Order (commands.Restart target)) ls t taken group says sound = open_sound s (begun s (Order (commands.Restart target))) ls t taken.1.0 refl refl says sound
turn_sound_of s (Order (commands.Fuse target after choice)) ls t taken group says sound = open_sound s (begun s (Order (commands.Fuse target after choice))) ls t taken.1.0 refl refl says sound
turn_sound_of s (Order _) ls t taken group says sound = absurd group

run_sound : (gs : List Group) (s t : State) → Run s gs t → Sound s → Sound t
run_sound [] s t h sound = subst Sound (sym h) sound
run_sound (g ∷ gs) s t h sound = run_sound gs h.0 t h.2 (turn_sound_of s g.entry g.lines h.0 h.1.0 h.1.1 h.1.2 sound)

pub legal_history : (honest : Bool) (gs : List Group) (t : State) → Run (start honest) gs t → IsLegal (targets_of t) t.history
legal_history honest gs t run = (run_sound gs (start honest) t run (λ none. refl, tt)).1

-- the numbers of a history, in order
abbrev numbers : List Item → List ℕ
numbers h = map (λ i. i.request.number) h

numbers-push : (h : List Item) (i : Item) → numbers (h ++ i ∷ []) ≡ numbers h ++ i.request.number ∷ []
numbers-push [] i = refl
numbers-push (j ∷ h) i = ap (λ l. j.request.number ∷ l) (numbers-push h i)

other_numbers : (h : List Item) (n : ℕ) → AllByRecursion (λ later. later.request.number ≢ n) h → AllByRecursion (λ m. m ≢ n) (numbers h)
other_numbers [] n all = tt
other_numbers (j ∷ h) n all = (all.0, other_numbers h n all.1)

numbers_apart : (n : ℕ) (t : Tree) (h : List Item) → IsLegalFrom n t h → AreApart (numbers h)
numbers_apart n t [] legal = tt
numbers_apart n t (j ∷ h) legal = (other_numbers h j.request.number legal.1, numbers_apart n (step n t j.request.op).0 h legal.2)

accepted-append : (a b : List Line) → accepted (a ++ b) ≡ accepted a ++ accepted b
accepted-append a b = flat_map-append accepts a b

says_numbers : (s : State) (l : Line) (others : List Line) (t : State) → Says s l others t → numbers t.history ≡ numbers s.history ++ accepts l
says_numbers s (lines.Accept number reply on) others t h =
    ap (λ (x : State). numbers x.history) h.after ∙ numbers-push s.history (record { request = h.request; reply = reply }) ∙ ap (λ n. numbers s.history ++ n ∷ []) h.numbered
says_numbers s (lines.Reply number reply) others t h = ap (λ (x : State). numbers x.history) h.after ∙ sym (append-nil (numbers s.history))
says_numbers s (lines.Stale number last) others t h = ap (λ (x : State). numbers x.history) h.after ∙ sym (append-nil (numbers s.history))
says_numbers s (lines.Recovering number target) others t h = ap (λ (x : State). numbers x.history) h.after ∙ sym (append-nil (numbers s.history))
says_numbers s (lines.Stable target listed) others t h = ap (λ (x : State). numbers x.history) h.2 ∙ sym (append-nil (numbers s.history))
says_numbers s (lines.Down target) others t h = ap (λ (x : State). numbers x.history) h ∙ sym (append-nil (numbers s.history))
says_numbers s (lines.Up target transno listed) others t h = ap (λ (x : State). numbers x.history) h.1 ∙ sym (append-nil (numbers s.history))
says_numbers s (lines.DamagedGates target gates) others t h = ap (λ (x : State). numbers x.history) h.1 ∙ sym (append-nil (numbers s.history))
says_numbers s (lines.DamagedImage target place) others t h = ap (λ (x : State). numbers x.history) h.1 ∙ sym (append-nil (numbers s.history))
says_numbers s (lines.State target standing) others t h = ap (λ (x : State). numbers x.history) h.1 ∙ sym (append-nil (numbers s.history))
says_numbers s (lines.Tree grown) others t h = ap (λ (x : State). numbers x.history) h.1 ∙ sym (append-nil (numbers s.history))
says_numbers s (lines.TreeState target) others t h = ap (λ (x : State). numbers x.history) h.1 ∙ sym (append-nil (numbers s.history))
says_numbers s (lines.EndUnclean target) others t h = ap (λ (x : State). numbers x.history) h.1 ∙ sym (append-nil (numbers s.history))
says_numbers s lines.EndClean others t h = ap (λ (x : State). numbers x.history) h.1 ∙ sym (append-nil (numbers s.history))
says_numbers s _ others t h = absurd h

says_all_numbers : (ls : List Line) (s t : State) → SaysAll s ls t → numbers t.history ≡ numbers s.history ++ accepted ls
says_all_numbers [] s t h = ap (λ (x : State). numbers x.history) h ∙ sym (append-nil (numbers s.history))
says_all_numbers (l ∷ ls) s t h =
    says_all_numbers ls h.0 t h.2 ∙ ap (λ n. n ++ accepted ls) (says_numbers s l ls h.0 h.1)
    ∙ append_assoc (numbers s.history) (accepts l) (accepted ls)

run_numbers : (gs : List Group) (s t : State) → Run s gs t → numbers t.history ≡ numbers s.history ++ accepted (lines_of gs)
run_numbers [] s t h = ap (λ (x : State). numbers x.history) h ∙ sym (append-nil (numbers s.history))
run_numbers (g ∷ gs) s t h =
    run_numbers gs h.0 t h.2 ∙ ap (λ n. n ++ accepted (lines_of gs)) (says_all_numbers g.lines (begun s g.entry) h.0 h.1.2)
    ∙ append_assoc (numbers s.history) (accepted g.lines) (accepted (lines_of gs)) ∙ ap (λ n. numbers s.history ++ n) (sym (accepted-append g.lines (lines_of gs)))

pub accepted_once : (honest : Bool) (gs : List Group) (t : State) → Run (start honest) gs t → AreApart (accepted (lines_of gs))
accepted_once honest gs t run = subst AreApart (run_numbers gs (start honest) t run) (numbers_apart (targets_of t) base t.history (legal_history honest gs t run))

pub in_order : (honest : Bool) (gs : List Group) (t : State) → Run (start honest) gs t → AreTaken nothing_asked (entries_of gs) × (t.asked ≡ asked_all nothing_asked (entries_of gs))
in_order honest gs t run = (run_taken gs (start honest) t run, run_asked gs (start honest) t run)
