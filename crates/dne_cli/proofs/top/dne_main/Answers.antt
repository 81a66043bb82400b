use Rattle.std.proofs.Common.{◌≡◌, ◌⊎◌, ⊎_elim, inl, inr, ℕ, map, ap, subst, sym, ◌∙◌}
use Rattle.outside.specs.Status.{code_of}
use Rattle.scenario_text.specs.Spelling.{line_of}
use Rattle.line_player.proofs.Complete.{completes}
use Rattle.line_player.proofs.Mapped.{stops_near}
use Rattle.model_mode.specs.Outcome.{model_rules}
use Rattle.dne_cli.specs.Disks.{calls_of}
use Rattle.dne_cli.specs.Transcript.{play_rules}
use Rattle.dne_cli.proofs.Complete.{right_lines}
use Rattle.dne_cli.proofs.top.dne_main.Goals as goal

pub returns-in-Play-clause-complete : goal.returns-in-Play-clause-complete
returns-in-Play-clause-complete g c = λ _ bytes told scenario quiet silent.
    let d = c.play_first.ensures.disks in
    let o = d.6 in
    let shown = g.D.Disk.shown in
    subst (λ (n : ℕ). (n ≡ 0) ⊎ (n ≡ 3)) (sym c.code.ensures)
    (⊎_elim (λ e. inl (ap code_of e)) (λ e. inr (ap code_of e))
    (completes (play_rules (calls_of g.D.Disk.cycled g.D.Plant.armed) (shown d.0) (shown d.1)) _ _ bytes o.0 o.1 (map line_of scenario.entries) c.play_first.result told o.2 (right_lines (calls_of g.D.Disk.cycled g.D.Plant.armed) (shown d.0) (shown d.1) bytes scenario) o.4
    (λ e. quiet (c.play_first.ensures.source e)) (λ e. silent (c.play_first.ensures.sink e))))

pub returns-in-Model-clause-complete_model : goal.returns-in-Model-clause-complete_model
returns-in-Model-clause-complete_model g c = λ _ bytes told scenario quiet silent.
    subst (λ (n : ℕ). (n ≡ 0) ⊎ (n ≡ 3)) (sym c.code-in-Model.ensures)
    (⊎_elim (λ e. inl (ap code_of e)) (λ e. inr (ap code_of e)) (c.play_model.ensures.complete bytes told scenario quiet silent))

pub returns-in-Play-clause-near : goal.returns-in-Play-clause-near
returns-in-Play-clause-near g c = λ _ two.
    let d = c.play_first.ensures.disks in
    let o = d.6 in
    let shown = g.D.Disk.shown in
    (o.0, o.1, o.2, o.3, stops_near (play_rules (calls_of g.D.Disk.cycled g.D.Plant.armed) (shown d.0) (shown d.1)) _ c.play_first.result o.0 o.1 (sym c.code.ensures ∙ two) o.4)

pub returns-in-Model-clause-near_model : goal.returns-in-Model-clause-near_model
returns-in-Model-clause-near_model g c = λ _ two.
    let o = c.play_model.ensures.outcome in
    (o.0, o.1, o.2, o.3, stops_near model_rules _ c.play_model.result o.0 o.1 (sym c.code-in-Model.ensures ∙ two) o.4)
