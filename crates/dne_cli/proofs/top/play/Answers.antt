use Rattle.std.proofs.Common.{[], subst, sym}
use Rattle.std.specs.Io.KnownBytes.{IsAtEnd}
use Rattle.std.proofs.KnownBytes.{Appends-nil, Consumes-nil}
use Rattle.outside.specs.Disk.{Shown}
use Rattle.line_player.specs.Played.{Played}
use Rattle.line_player.proofs.Mapped.{played_map}
use Rattle.dne_cli.specs.Disks.{calls_of, Touches}
use Rattle.dne_cli.specs.Kept.{Kept, nothing_kept}
use Rattle.dne_cli.specs.Transcript.{Outcome, play_rules}
use Rattle.dne_cli.specs.Reached.{session_rules}
use Rattle.dne_cli.proofs.Places.{session_maps, starts_short, touched}
use Rattle.dne_cli.proofs.Touching.{touches_refl}
use Rattle.dne_cli.proofs.top.play.Goals as goal

pub returns-in-Err-clause-outcome : goal.returns-in-Err-clause-outcome
returns-in-Err-clause-outcome g c =
    let first = g.D.Disk.shown c.args.disk in
    ([], [], Consumes-nil (g.I.Source.left c.args.input.now), Appends-nil (g.O.Sink.written c.args.output.now), starts_short (calls_of g.D.Disk.cycled g.D.Plant.armed) (IsAtEnd (g.I.Source.left c.args.input.now)) first (g.D.Disk.shown c.in-Err.disk) (subst (λ (d : Shown). Touches first d) (sym c.in-Err.ensures.err) (touches_refl first)))

pub returns-clause-outcome : goal.returns-clause-outcome
returns-clause-outcome g c =
    let first = g.D.Disk.shown c.args.disk in
    let new : Kept = c.play_lines-status.new.stage in
    let End : Type 0 = IsAtEnd (g.I.Source.left c.play_lines-status.new.input) in
    let o = c.play_lines-status.ensures.outcome in
    let played = subst (λ (k : Kept). Played (session_rules (calls_of g.D.Disk.cycled g.D.Plant.armed) k new) End c.play_lines-status.result o.0 o.1) c.in-Ok.ensures.ok o.4 in (
      o.0,
      o.1,
      o.2,
      o.3,
      subst (λ (d : Shown). Outcome (calls_of g.D.Disk.cycled g.D.Plant.armed) End first d c.play_lines-status.result o.0 o.1) (sym c.into_disk.ensures)
          (played_map (session_rules (calls_of g.D.Disk.cycled g.D.Plant.armed) (nothing_kept first) new) (play_rules (calls_of g.D.Disk.cycled g.D.Plant.armed) first new.target.disk) End End (λ e. e) (session_maps (calls_of g.D.Disk.cycled g.D.Plant.armed) first new) c.play_lines-status.result o.0 o.1 played),
    )

pub returns-clause-touches : goal.returns-clause-touches
returns-clause-touches g c =
    let first = g.D.Disk.shown c.args.disk in
    let new : Kept = c.play_lines-status.new.stage in
    let End : Type 0 = IsAtEnd (g.I.Source.left c.play_lines-status.new.input) in
    let o = c.play_lines-status.ensures.outcome in
    let played = subst (λ (k : Kept). Played (session_rules (calls_of g.D.Disk.cycled g.D.Plant.armed) k new) End c.play_lines-status.result o.0 o.1) c.in-Ok.ensures.ok o.4 in
    subst (λ (d : Shown). Touches first d) (sym c.into_disk.ensures) (touched (calls_of g.D.Disk.cycled g.D.Plant.armed) (nothing_kept first) new End c.play_lines-status.result o.0 o.1 played)
