use Rattle.std.proofs.Common.{◌≡◌, [], map, subst}
use Rattle.std.specs.Io.KnownBytes.{IsAtEnd}
use Rattle.std.proofs.KnownBytes.{Appends-nil, Consumes-nil}
use Rattle.scenario_text.specs.Spelling.{line_of}
use Rattle.line_player.specs.Played.{Played}
use Rattle.line_player.proofs.Complete.{completes}
use Rattle.line_player.proofs.Mapped.{played_map}
use Rattle.model_mode.specs.Kept.{Kept}
use Rattle.model_mode.specs.Outcome.{Outcome, model_rules}
use Rattle.model_mode.specs.Reached.{session_rules}
use Rattle.model_mode.proofs.Complete.{right_lines}
use Rattle.model_mode.proofs.Places.{session_maps, starts_short}
use Rattle.model_mode.proofs.top.play_model.Goals as goal

pub returns-in-Err-clause-outcome : goal.returns-in-Err-clause-outcome
returns-in-Err-clause-outcome g c =
    ([], [], Consumes-nil (g.I.Source.left c.args.input.now), Appends-nil (g.O.Sink.written c.args.output.now), starts_short (IsAtEnd (g.I.Source.left c.args.input.now)))

pub returns-clause-outcome : goal.returns-clause-outcome
returns-clause-outcome g c =
    let new : Kept = c.play_lines.new.stage in
    let End : Type 0 = IsAtEnd (g.I.Source.left c.play_lines.new.input) in
    let o = c.play_lines.ensures.outcome in
    let played = subst (λ (k : Kept). Played (session_rules k new) End c.play_lines.result o.0 o.1) c.in-Ok.ensures o.4 in
    (o.0, o.1, o.2, o.3, played_map (session_rules _ new) model_rules End End (λ e. e) (session_maps new) c.play_lines.result o.0 o.1 played)

pub returns-clause-complete : goal.returns-clause-complete
returns-clause-complete g c = λ bytes told scenario quiet silent.
    let new : Kept = c.play_lines.new.stage in
    let End : Type 0 = IsAtEnd (g.I.Source.left c.play_lines.new.input) in
    let o = c.play_lines.ensures.outcome in
    let played = subst (λ (k : Kept). Played (session_rules k new) End c.play_lines.result o.0 o.1) c.in-Ok.ensures o.4 in
    completes model_rules _ _ bytes o.0 o.1 (map line_of scenario.entries) c.play_lines.result told o.2 (right_lines bytes scenario)
    (played_map (session_rules _ new) model_rules End End (λ e. e) (session_maps new) c.play_lines.result o.0 o.1 played)
    (λ x. quiet (c.play_lines.ensures.source x)) (λ x. silent (c.play_lines.ensures.sink x))
