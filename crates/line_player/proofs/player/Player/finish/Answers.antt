use Rattle.std.proofs.Common.{◌++◌, refl, append_assoc, sym}
use Rattle.std.proofs.KnownBytes.{Appends-trans}
use Rattle.line_player.specs.Played.{rules_of}
use Rattle.line_player.proofs.Stops.{played_as}
use Rattle.line_player.proofs.player.Player.finish.Goals as goal

pub returns-in-Ok-clause-ends : goal.returns-in-Ok-clause-ends
returns-in-Ok-clause-ends g c = λ first read text r.
    let m = g.S.LineRunner in
    let a = c.in-Ok.ensures.ok first read text r in
    let b = c.end.ensures.ends first read (text ++ a.0) a.2 in
    (a.0 ++ b.0, Appends-trans _ _ _ a.0 b.0 a.1 b.1, played_as (rules_of m.takes m.refuses m.leaves m.ended first c.close.new.stage) (Unit {0}) _ _ read read _ _ refl refl (sym (append_assoc text a.0 b.0)) b.2)

pub returns-in-Err-clause-ends : goal.returns-in-Err-clause-ends
returns-in-Err-clause-ends g c = λ first read text r.
    let m = g.S.LineRunner in
    let a = c.in-Err.ensures.stop first read text r in
    (a.0, a.1, played_as (rules_of m.takes m.refuses m.leaves m.ended first c.close.new.stage) (Unit {0}) _ _ read read _ _ c.status_of.ensures.value refl refl a.2)
