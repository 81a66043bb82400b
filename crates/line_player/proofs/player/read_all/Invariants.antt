use Rattle.std.proofs.Common.{◌≡◌, ◌≤◌, ◌-◌, ℕ, List, ◌++◌, length}
use Rattle.std.specs.Io.KnownBytes.{Appends, Consumes}
use Rattle.scenario_text.specs.Cutting.{open_line}
use Rattle.line_player.specs.Reached.{At}
use Rattle.line_player.proofs.player.read_all.Given as goal

abbrev pub invariant-loop-player : goal.invariant-loop-player
invariant-loop-player g l =
    let left = g.I.Source.left in
    let written = g.O.Sink.written in
    let takes = g.S.LineRunner.takes in
    record {
      room : length l.buffer ≡ 65536;
      reached : (first : g.row.S.Denot) (before text : List ℕ) → At takes first l.fn.stage before text (open_line l.fn.player.cutter) l.fn.player.count l.fn.player.total
          → (read : List ℕ) × (more : List ℕ) × Consumes (left l.fn.input) (left l.input) read × Appends (written l.fn.output) (written l.output) more
          × At takes first l.stage (before ++ read) (text ++ more) (open_line l.player.cutter) l.player.count l.player.total;
      later_source : g.I.Source.source_faults l.fn.input ≤ g.I.Source.source_faults l.input;
      later_sink : g.O.Sink.sink_faults l.fn.output ≤ g.O.Sink.sink_faults l.output;
    }

abbrev pub decreases-loop-player : goal.decreases-loop-player
decreases-loop-player g l = 67108864 - l.player.total
