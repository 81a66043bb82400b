use Rattle.std.proofs.Common.{◌≡◌, ◌≤◌, ◌+◌, ◌-◌, ℕ, List, ◌++◌, length, take}
use Rattle.std.specs.Option.{is_some}
use Rattle.std.specs.Io.KnownBytes.{Appends}
use Rattle.scenario_text.specs.Cutting.{open_line}
use Rattle.line_player.specs.Reached.{At}
use Rattle.line_player.proofs.player.Player.feed.Given as goal

abbrev pub invariant-loop-at : goal.invariant-loop-at
invariant-loop-at g l =
    let written = g.O.Sink.written in
    let takes = g.S.LineRunner.takes in
    record {
      reached : (first : g.row.S.Denot) (read text : List ℕ) → At takes first l.fn.stage read text (open_line l.fn.self.cutter) l.fn.self.count l.fn.self.total
          → (more : List ℕ) × Appends (written l.fn.output) (written l.output) more
          × At takes first l.stage (read ++ take l.at l.piece) (text ++ more) (open_line l.self.cutter) l.self.count l.self.total;
      within : l.at ≤ length l.piece;
      grown : l.self.total ≡ l.fn.self.total + l.at;
      later : g.O.Sink.sink_faults l.fn.output ≤ g.O.Sink.sink_faults l.output;
      tells : is_some (written l.output) ≡ is_some (written l.fn.output);
    }

abbrev pub decreases-loop-at : goal.decreases-loop-at
decreases-loop-at g l = length l.initial.piece - l.at
