-- Commits one after another.
use Rattle.std.proofs.Common.{◌≡◌, ◌<◌, ◌⊎◌, ℕ, ◌+◌, true, false, length, List, [], ◌∷◌, ◌++◌, inr, refl, sym, ap, ◌∙◌, subst, append_assoc, append-nil, arith}
use Rattle.target_turns.specs.Target.{serves}
use Rattle.scenario_text.specs.declared.line.Line.{Line}
use Rattle.scenario_text.specs.declared.line.Line.TheVariants as lines
use Rattle.cluster_core.specs.Cluster.{Cluster, target_at}
use Rattle.cluster_core.specs.Commands.{Commits}
use Rattle.cluster_core.specs.Ends.{Commit, AreCommits, IsClean, IsBroken, commits_lines}

pub commits_push : (i j : ℕ) (c : Cluster) (ss : List Commit) (mid new : Cluster) (ls : List Line) → AreCommits i c ss mid → i + length ss ≡ j → Commits mid j new ls → serves (target_at new.targets j) ≡ true
    → AreCommits i c (ss ++ record { after = new; said = ls } ∷ []) new
commits_push i j c [] mid new ls are at does up =
    let here : j ≡ i = omega (arith, at) in
    (subst (λ (x : Cluster). Commits x i new ls) are (subst (λ (n : ℕ). Commits mid n new ls) here does), subst (λ (n : ℕ). serves (target_at new.targets n) ≡ true) here up, refl)
commits_push i j c (s ∷ ss) mid new ls are at does up = (are.0, are.1, commits_push (i + 1) j s.after ss mid new ls are.2 (omega (arith, at)) does up)

pub said_push : (ss : List Commit) (s : Commit) → commits_lines (ss ++ s ∷ []) ≡ commits_lines ss ++ s.said
said_push [] s = append-nil s.said
said_push (x ∷ ss) s = ap (λ l. x.said ++ l) (said_push ss s) ∙ sym (append_assoc x.said (commits_lines ss) s.said)

-- the target with the next number stopped at its commit
pub broken : (first old new : Cluster) (ss : List Commit) (i : ℕ) (ls out mid after over : List Line) → AreCommits 0 first ss old → length ss ≡ i → i < length first.targets → Commits old i new ls
    → serves (target_at new.targets i) ≡ false → mid ≡ out ++ commits_lines ss → after ≡ mid ++ ls → over ≡ after ++ lines.EndUnclean i ∷ [] → (x : List Line) × (IsClean first new x ⊎ IsBroken first new x) × (over ≡ out ++ x)
broken first old new ss i ls out mid after over are at low does down said more last =
    let told : after ≡ out ++ (commits_lines ss ++ ls) = more ∙ ap (λ l. l ++ ls) said ∙ append_assoc out (commits_lines ss) ls in (
      (commits_lines ss ++ ls) ++ lines.EndUnclean (length ss) ∷ [],
      inr (record {
        commits = ss;
        before = old;
        said = ls;
        are = are;
        there = subst (λ (n : ℕ). n < length first.targets) (sym at) low;
        breaks = subst (λ (n : ℕ). Commits old n new ls) (sym at) does;
        stopped = subst (λ (n : ℕ). serves (target_at new.targets n) ≡ false) (sym at) down;
        lines_are = refl;
      }),
      last ∙ ap (λ l. l ++ lines.EndUnclean i ∷ []) told ∙ append_assoc out (commits_lines ss ++ ls) (lines.EndUnclean i ∷ []) ∙ ap (λ (n : ℕ). out ++ ((commits_lines ss ++ ls) ++ lines.EndUnclean n ∷ [])) (sym at),
    )
