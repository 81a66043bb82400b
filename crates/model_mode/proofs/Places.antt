-- How a session moves on line by line, and what was written then.
use Rattle.std.proofs.Common.{◌≡◌, ◌≤◌, ℕ, Bool, false, List, [], ◌∷◌, ◌++◌, map, None, inl, refl, sym, ap, ◌∙◌, subst, append_assoc, append-nil, arith}
use Rattle.std.specs.List.{AllByRecursion}
use Rattle.std.proofs.lemmas.List.{length-replicate, get_or-replicate}
use Rattle.tree_model.specs.Tree.{Grown}
use Rattle.scenario_text.specs.Spelling.{Entry, NoFeed, line_of}
use Rattle.scenario_text.specs.Machine.{Asked, asked_after, nothing_asked}
use Rattle.line_player.specs.Played.{AreLines, IsLine, Runs, RunsOver}
use Rattle.line_player.proofs.Mapped.{Maps}
use Rattle.model_mode.specs.Plain.{said_all, said_after, tree_after, tree_all}
use Rattle.model_mode.specs.Outcome.{Place, asked_at, model_rules}
use Rattle.model_mode.specs.Kept.{Kept, kept_after, no_flags, nothing_kept}
use Rattle.model_mode.specs.Reached.{AsksSame, Reached, Takes, session_rules}
use Rattle.model_mode.proofs.Asks.{asked-push, asks_more, next-push, next_stands, said-push, stands_next, tree-push}

lines-push : (es : List Entry) (e : Entry) → map line_of (es ++ e ∷ []) ≡ map line_of es ++ line_of e ∷ []
lines-push [] e = refl
lines-push (d ∷ es) e = ap (λ l. line_of d ∷ l) (lines-push es e)

-- one line more is run
reach_next : (lines : List (List ℕ)) (text : List ℕ) (k new : Kept) (line more : List ℕ) → Reached lines text k → Takes k line new more → NoFeed line → Reached (lines ++ line ∷ []) (text ++ more) new
reach_next lines text k new line more r takes clean =
    let p = r.place in
    let e : Entry = takes.0 in
    let es : List Entry = p.entries in
    let next = stands_next (asked_at es) (tree_all None es) k e r.asks takes.1 (subst NoFeed takes.2 clean) in
    let asks = asks_more (asked_at es) (tree_all None es) k e r.asks next in
    record {
      place = record {
        entries = es ++ e ∷ [];
        spelled = (λ i. p.spelled i ++ takes.2 i ∷ []) ∙ sym (lines-push es e);
        allowed = next-push nothing_asked es e p.allowed next;
        written = (λ i. p.written i ++ takes.4 i) ∙ ap (λ t. said_all None es ++ said_after t e) r.asks.tree ∙ sym (said-push None es e);
      };
      asks = subst (λ k. AsksSame (asked_at (es ++ e ∷ [])) (tree_all None (es ++ e ∷ [])) k) (sym takes.3)
          (subst (λ (a : Asked). AsksSame a (tree_all None (es ++ e ∷ [])) (kept_after k e)) (sym (asked-push nothing_asked es e))
          (subst (λ t. AsksSame (asked_after (asked_at es) e) t (kept_after k e)) (sym (tree-push None es e)) asks));
    }

at_start : Place [] []
at_start = record { entries = []; spelled = refl; allowed = tt; written = refl }

begins : Reached [] [] nothing_kept
unfolding at_start no_flags
begins = record {
  place = at_start;
  asks = record {
    tree = refl;
    cluster = refl;
    ended = refl;
    used = λ x low. get_or-replicate 65537 x false false (omega (arith, low));
    flags = length-replicate 65537 false;
  };
}

reach_on : (ls done : List (List ℕ)) (text more : List ℕ) (k new : Kept) → Runs Takes k ls new more → AllByRecursion IsLine ls → Reached done text k → Reached (done ++ ls) (text ++ more) new
reach_on [] done text more k new r each at =
    subst (λ x. Reached (done ++ []) (text ++ more) x) (sym r.0) (subst (λ ls. Reached ls (text ++ more) k) (sym (append-nil done))
    (subst (λ t. Reached done t k) (sym (ap (λ m. text ++ m) r.1 ∙ append-nil text)) at))
reach_on (l ∷ ls) done text more k new r each at =
    let next = reach_next done text k r.0 l r.1 at r.3 each.0.0 in
    let rest = reach_on ls (done ++ l ∷ []) (text ++ r.1) r.2 r.0 new r.4 each.1 next in
    subst (λ x. Reached x (text ++ more) new) (append_assoc done (l ∷ []) ls)
    (subst (λ t. Reached ((done ++ l ∷ []) ++ ls) t new) (append_assoc text r.1 r.2 ∙ ap (λ m. text ++ m) (sym r.5)) rest)

reach_all : (ls : List (List ℕ)) (text : List ℕ) (new : Kept) → AreLines ls → Runs Takes nothing_kept ls new text → Reached ls text new
reach_all ls text new are r = reach_on ls [] [] text nothing_kept new r are.each begins

-- the rules of a session are those of the transcript
pub session_maps : (new : Kept) → Maps (session_rules nothing_kept new) model_rules
session_maps new = record {
  ran = λ ls text are r. (reach_all ls text new are r).place;
  ran_before = λ ls text are r. (reach_all ls text r.0 are r.1).place;
  refuses = λ ls text line are b.
      let r = reach_all ls text new are b.0 in
      (r.place, λ e next. b.1 e (next_stands (asked_at r.place.entries) (tree_all None r.place.entries) new e r.asks next));
  ends = λ over ls text are b. let r = reach_all ls text new are b.0 in (r.place, sym r.asks.ended ∙ b.1);
}

-- want of memory before anything is read
pub starts_short : (A : Type 0) → RunsOver model_rules A [] []
starts_short A = record { done = []; tail = []; split = refl; lines = []; closes = inl refl; ran = at_start; are = record { each = tt; few = omega arith }; short = omega arith }
