-- A scenario in the grammar has lines that are right.
use Rattle.std.proofs.Common.{◌≡◌, ◌≤◌, ℕ, List, [], ◌∷◌, ◌++◌, length, map, refl, sym, ap, ◌∙◌, subst, arith}
use Rattle.std.specs.List.{AllByRecursion}
use Rattle.std.proofs.lemmas.Bool.{false≢true}
use Rattle.std.proofs.lemmas.List.{length-map}
use Rattle.outside.specs.Disk.{Shown}
use Rattle.scenario_text.specs.Refusals.{Closes}
use Rattle.scenario_text.specs.Spelling.{Entry, line_of}
use Rattle.scenario_text.specs.Machine.{Asked, Group, nothing_asked, start, AreTaken, IsTaken, asked_after, asked_all, entries_of, scenario}
use Rattle.scenario_text.proofs.OneLine.{entry_line, one_entry}
use Rattle.scenario_text.proofs.Runs.{run_asked, run_taken}
use Rattle.line_player.specs.Played.{IsLine, bytes_of}
use Rattle.line_player.proofs.Complete.{AreRight}
use Rattle.dne_cli.specs.Disks.{Calls}
use Rattle.dne_cli.specs.Transcript.{IsScenario, Place, lines_in, play_rules}

parts : {X : Type 0} (x y : X) (a b : List X) → x ∷ a ≡ y ∷ b → (x ≡ y) × (a ≡ b)
parts x y a b e = (cc, cc)

-- what is taken behind some entries, where these stand in front of a scenario
next_taken : (a : Asked) (ds cs : List Entry) (line : List ℕ) (others : List (List ℕ)) → AreTaken a ds → AreTaken a cs → map line_of cs ≡ map line_of ds ++ line ∷ others → (e : Entry) × IsTaken (asked_all a ds) e × (line_of e ≡ line)
next_taken a [] [] line others p q e = absurd (none line others e)
  where
    none : (x : List ℕ) (xs : List (List ℕ)) → [] ≡ x ∷ xs → ⊥
    none x xs e = cc
next_taken a [] (c ∷ cs) line others p q e = (c, q.0, (parts (line_of c) line (map line_of cs) others e).0)
next_taken a (d ∷ ds) [] line others p q e = absurd (none (line_of d) (map line_of ds ++ line ∷ others) e)
  where
    none : (x : List ℕ) (xs : List (List ℕ)) → [] ≡ x ∷ xs → ⊥
    none x xs e = cc
next_taken a (d ∷ ds) (c ∷ cs) line others p q e =
    let both = parts (line_of c) (line_of d) (map line_of cs) (map line_of ds ++ line ∷ others) e in
    let same : d ≡ c = one_entry a.cluster a.cluster d c p.0.0 q.0.0 (sym both.0) in
    next_taken (asked_after a d) ds cs line others p.1 (subst (λ x. AreTaken (asked_after a x) cs) (sym same) q.1) both.1

-- the same lines ask for the same
same_asked : (a : Asked) (ds cs : List Entry) → AreTaken a ds → AreTaken a cs → map line_of cs ≡ map line_of ds → asked_all a ds ≡ asked_all a cs
same_asked a [] [] p q e = refl
same_asked a [] (c ∷ cs) p q e = cc
same_asked a (d ∷ ds) [] p q e = cc
same_asked a (d ∷ ds) (c ∷ cs) p q e =
    let both = parts (line_of c) (line_of d) (map line_of cs) (map line_of ds) e in
    let same : d ≡ c = one_entry a.cluster a.cluster d c p.0.0 q.0.0 (sym both.0) in
    same_asked (asked_after a d) ds cs p.1 (subst (λ x. AreTaken (asked_after a x) cs) (sym same) q.1) both.1 ∙ ap (λ x. asked_all (asked_after a x) cs) same

entry_lines : (gs : List Group) → lines_in gs ≡ map line_of (entries_of gs)
entry_lines [] = refl
entry_lines (g ∷ gs) = ap (λ l. line_of g.entry ∷ l) (entry_lines gs)

scenario_bytes : (es : List Entry) → bytes_of (map line_of es) ≡ scenario es
scenario_bytes [] = refl
scenario_bytes (e ∷ es) = ap (λ t. (line_of e ++ 10 ∷ []) ++ t) (scenario_bytes es)

are_lines : (a : Asked) (es : List Entry) → AreTaken a es → AllByRecursion (λ e. length (line_of e) ≤ 16384) es → AllByRecursion IsLine (map line_of es)
are_lines a [] taken short = tt
are_lines a (e ∷ es) taken short = ((entry_line a.cluster e taken.0.0, short.0), are_lines (asked_after a e) es taken.1 short.1)

pub right_lines : (calls : Calls) (first disk : Shown) (bytes : List ℕ) (s : IsScenario bytes) → AreRight (play_rules calls first disk) bytes (map line_of s.entries)
right_lines calls first disk bytes s = record {
  closes = subst (λ w. Closes (Unit {0}) bytes w) (sym (scenario_bytes s.entries)) s.closes;
  short = s.short;
  are = record {
    each = are_lines nothing_asked s.entries s.taken s.lines_short;
    few = (let size = length-map s.entries line_of in let few = s.few in omega (arith, size, few));
  };
  right = λ lines others text line split bad.
      let p : Place calls first disk lines text = bad.0 in
      let ds : List Entry = entries_of p.groups in
      let is : map line_of s.entries ≡ map line_of ds ++ line ∷ others = split ∙ ap (λ l. l ++ line ∷ others) (p.spelled ∙ entry_lines p.groups) in
      let next = next_taken nothing_asked ds s.entries line others (run_taken p.groups (start first.honest) p.state p.run) s.taken is in
      bad.1 next.0 (subst (λ a. IsTaken a next.0) (sym (run_asked p.groups (start first.honest) p.state p.run)) next.1) (sym next.2);
  ends = λ text going.
      let p : Place calls first disk (map line_of s.entries) text = going.0 in
      let ds : List Entry = entries_of p.groups in
      let same = same_asked nothing_asked ds s.entries (run_taken p.groups (start first.honest) p.state p.run) s.taken (p.spelled ∙ entry_lines p.groups) in
      false≢true (sym going.1 ∙ ap (λ (a : Asked). a.ended) (run_asked p.groups (start first.honest) p.state p.run ∙ same) ∙ s.ended);
}
