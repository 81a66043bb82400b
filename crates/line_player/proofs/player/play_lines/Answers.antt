use Rattle.std.proofs.Common.{[], ap}
use Rattle.std.specs.Io.KnownBytes.{IsAtEnd}
use Rattle.std.proofs.KnownBytes.{Appends-nil, Consumes-nil}
use Rattle.scenario_text.specs.Cutting.{open_line}
use Rattle.line_player.proofs.Lines.{at_start}
use Rattle.line_player.proofs.Stops.{starts_short}
use Rattle.line_player.proofs.player.play_lines.Goals as goal

pub returns-in-Err-clause-outcome : goal.returns-in-Err-clause-outcome
returns-in-Err-clause-outcome g c =
    let m = g.S.LineRunner in
    ([], [], Consumes-nil (g.I.Source.left c.args.input.now), Appends-nil (g.O.Sink.written c.args.output.now), starts_short m.takes m.refuses m.leaves m.ended (IsAtEnd (g.I.Source.left c.args.input.now)) c.args.stage.now)

pub returns-clause-outcome : goal.returns-clause-outcome
returns-clause-outcome g c =
    c.read_all.ensures.outcome c.args.stage.now [] [] (at_start g.S.LineRunner.takes c.args.stage.now _ (ap open_line c.new.ensures))
