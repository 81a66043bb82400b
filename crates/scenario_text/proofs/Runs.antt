-- Runs of the plain machine, one turn after another.
use Rattle.std.proofs.Common.{◌≡◌, ℕ, List, [], ◌∷◌, ◌++◌, inl, inr, refl, sym, ap, ◌∙◌, subst, append_assoc, append-nil}
use Rattle.tree_model.specs.declared.op.Request.{Request}
use Rattle.scenario_text.specs.declared.line.Line.{Line}
use Rattle.scenario_text.specs.declared.line.Line.TheVariants as lines
use Rattle.scenario_text.specs.Machine.{Asked, State, Group, Says, SaysAll, Turn, Run, AreTaken, asked_after, asked_all, begun, entries_of, lines_of, HasAnswer, HaveAnswers, IsServed, AllServed}

-- lines change nothing of what was asked
pub says_asked : (s : State) (l : Line) (others : List Line) (t : State) → Says s l others t → t.asked ≡ s.asked
says_asked s (lines.Accept number reply on) others t h = ap (λ (x : State). x.asked) h.after
says_asked s (lines.Reply number reply) others t h = ap (λ (x : State). x.asked) h.after
says_asked s (lines.Stale number last) others t h = ap (λ (x : State). x.asked) h.after
says_asked s (lines.Recovering number target) others t h = ap (λ (x : State). x.asked) h.after
says_asked s (lines.Stable target numbers) others t h = ap (λ (x : State). x.asked) h.2
says_asked s (lines.Down target) others t h = ap (λ (x : State). x.asked) h
says_asked s (lines.Up target transno numbers) others t h = ap (λ (x : State). x.asked) h.1
says_asked s (lines.DamagedGates target gates) others t h = ap (λ (x : State). x.asked) h.1
says_asked s (lines.DamagedImage target place) others t h = ap (λ (x : State). x.asked) h.1
says_asked s (lines.State target standing) others t h = ap (λ (x : State). x.asked) h.1
says_asked s (lines.Tree grown) others t h = ap (λ (x : State). x.asked) h.1
says_asked s (lines.TreeState target) others t h = ap (λ (x : State). x.asked) h.1
says_asked s lines.EndClean others t h = ap (λ (x : State). x.asked) h.1
says_asked s (lines.EndUnclean target) others t h = ap (λ (x : State). x.asked) h.1
says_asked s _ others t h = absurd h

pub says_all_asked : (ls : List Line) (s t : State) → SaysAll s ls t → t.asked ≡ s.asked
says_all_asked [] s t h = ap (λ (x : State). x.asked) h
says_all_asked (l ∷ ls) s t h = says_all_asked ls h.0 t h.2 ∙ says_asked s l ls h.0 h.1

pub turn_asked : (s : State) (g : Group) (t : State) → Turn s g t → t.asked ≡ asked_after s.asked g.entry
turn_asked s g t h = says_all_asked g.lines (begun s g.entry) t h.2

pub run_asked : (gs : List Group) (s t : State) → Run s gs t → t.asked ≡ asked_all s.asked (entries_of gs)
run_asked [] s t h = ap (λ (x : State). x.asked) h
run_asked (g ∷ gs) s t h = run_asked gs h.0 t h.2 ∙ ap (λ a. asked_all a (entries_of gs)) (turn_asked s g h.0 h.1)

-- the entries of a run may stand one after another
pub run_taken : (gs : List Group) (s t : State) → Run s gs t → AreTaken s.asked (entries_of gs)
run_taken [] s t h = tt
run_taken (g ∷ gs) s t h = (h.1.0, subst (λ a. AreTaken a (entries_of gs)) (turn_asked s g h.0 h.1) (run_taken gs h.0 t h.2))

-- a run goes on by one turn
pub run_more : (gs : List Group) (s t : State) (g : Group) (u : State) → Run s gs t → Turn t g u → Run s (gs ++ g ∷ []) u
run_more [] s t g u run turn = (u, subst (λ x. Turn x g u) run turn, refl)
run_more (h ∷ gs) s t g u run turn = (run.0, run.1, run_more gs run.0 t g u run.2 turn)

pub entries-push : (gs : List Group) (g : Group) → entries_of (gs ++ g ∷ []) ≡ entries_of gs ++ g.entry ∷ []
entries-push [] g = refl
entries-push (h ∷ gs) g = ap (λ l. h.entry ∷ l) (entries-push gs g)

pub lines-push : (gs : List Group) (g : Group) → lines_of (gs ++ g ∷ []) ≡ lines_of gs ++ g.lines
lines-push [] g = append-nil g.lines
lines-push (h ∷ gs) g = ap (λ l. h.lines ++ l) (lines-push gs g) ∙ sym (append_assoc h.lines (lines_of gs) g.lines)

-- a run that served what it owes goes on to do so
pub served_more : (gs : List Group) (a : Asked) (said : List Line) (g : Group) → AllServed a said gs
    → IsServed g.entry (asked_after (asked_all a (entries_of gs)) g.entry).sent ((said ++ lines_of gs) ++ g.lines) → AllServed a said (gs ++ g ∷ [])
served_more [] a said g all served = (subst (λ l. IsServed g.entry (asked_after a g.entry).sent (l ++ g.lines)) (append-nil said) served, tt)
served_more (h ∷ gs) a said g all served = (
  all.0,
  served_more gs (asked_after a h.entry) (said ++ h.lines) g all.1
      (subst (λ l. IsServed g.entry (asked_after (asked_all (asked_after a h.entry) (entries_of gs)) g.entry).sent (l ++ g.lines)) (sym (append_assoc said h.lines (lines_of gs))) served),
)

pub answer_stays : (n : ℕ) (ls more : List Line) → HasAnswer n ls → HasAnswer n (ls ++ more)
answer_stays n [] more h = absurd h
answer_stays n (l ∷ ls) more (inl h) = inl h
answer_stays n (l ∷ ls) more (inr h) = inr (answer_stays n ls more h)

pub answer_after : (n : ℕ) (ls more : List Line) → HasAnswer n more → HasAnswer n (ls ++ more)
answer_after n [] more h = h
answer_after n (l ∷ ls) more h = inr (answer_after n ls more h)

pub answers_stay : (rs : List Request) (ls more : List Line) → HaveAnswers rs ls → HaveAnswers rs (ls ++ more)
answers_stay [] ls more h = tt
answers_stay (r ∷ rs) ls more h = (answer_stays r.number ls more h.0, answers_stay rs ls more h.1)

pub answers_after : (rs : List Request) (ls more : List Line) → HaveAnswers rs more → HaveAnswers rs (ls ++ more)
answers_after [] ls more h = tt
answers_after (r ∷ rs) ls more h = (answer_after r.number ls more h.0, answers_after rs ls more h.1)

pub answers_both : (rs qs : List Request) (ls : List Line) → HaveAnswers rs ls → HaveAnswers qs ls → HaveAnswers (rs ++ qs) ls
answers_both [] qs ls h k = k
answers_both (r ∷ rs) qs ls h k = (h.0, answers_both rs qs ls h.1 k)
