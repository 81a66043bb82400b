use Rattle.std.proofs.Common.{◌++◌, [], refl, sym, ◌∙◌}
use Rattle.std.proofs.KnownBytes.{Appends-nil}
use Rattle.line_player.specs.Played.{rules_of}
use Rattle.line_player.proofs.Stops.{ends_done, ends_lacking, played_as}
use Rattle.line_player.proofs.player.end.Goals as goal

pub returns-then-has_ended-clause-ends : goal.returns-then-has_ended-clause-ends
returns-then-has_ended-clause-ends g c = λ first read text e.
    let m = g.S.LineRunner in
    ([], Appends-nil (g.O.Sink.written c.args.output.now), ends_done m.takes m.refuses m.leaves m.ended first c.args.stage.now read text c.args.count e c.requires (sym c.has_ended.ensures ∙ c.if-has_ended.true))

pub returns-clause-ends : goal.returns-clause-ends
returns-clause-ends g c = λ first read text e.
    let m = g.S.LineRunner in
    let says = c.lack_end.ensures.told in (
      says.0,
      says.1,
      played_as (rules_of m.takes m.refuses m.leaves m.ended first c.args.stage.now) (Unit {0}) _ _ read read _ _ c.status_of.ensures.value refl refl
          (ends_lacking m.takes m.refuses m.leaves m.ended first c.lack_end.result c.args.stage.now read text says.0 c.args.count e c.requires (sym c.has_ended.ensures ∙ c.if-has_ended.false) says.2),
    )
