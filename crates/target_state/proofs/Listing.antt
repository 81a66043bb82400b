-- The marks that a commit tells, one master after another.
use Rattle.std.proofs.Common.{◌≡◌, ℕ, suc, ◌+◌, ◌-◌, ◌<◌, ◌∙◌, List, ◌++◌, ap, arith, append_assoc}
use Rattle.target_state.specs.declared.waiting.Waiting.{Waiting}
use Rattle.target_state.specs.Commit.{other_mark, marks_from}

pub marks_step : (master index : ℕ) (ws : List Waiting) (ms : List (ℕ × ℕ)) → master < 16
    → (ms ++ other_mark index master ws) ++ marks_from (16 - (master + 1)) index (master + 1) ws ≡ ms ++ marks_from (16 - master) index master ws
marks_step master index ws ms low =
    let split : suc (16 - (master + 1)) ≡ 16 - master = omega (arith, low) in
    append_assoc ms (other_mark index master ws) (marks_from (16 - (master + 1)) index (master + 1) ws)
    ∙ ap (λ (k : ℕ). ms ++ marks_from k index master ws) split
