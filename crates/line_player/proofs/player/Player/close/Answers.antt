use Rattle.std.proofs.Common.{arith, ◌≡◌, ◌≢◌, ◌<◌, ◌+◌, [], List, ℕ, true, false, refl, sym, ◌∙◌, subst}
use Rattle.std.proofs.KnownBytes.{Appends-nil}
use Rattle.std.proofs.lemmas.Bool.{false≢true}
use Rattle.scenario_text.specs.Cutting.{open_line}
use Rattle.line_player.specs.Reached.{StopsAt}
use Rattle.line_player.proofs.Lines.{is_nil, no_length, open_is}
use Rattle.line_player.proofs.Steps.{below}
use Rattle.line_player.proofs.Stops.{ended_here, ended_last, stops_last}
use Rattle.line_player.proofs.player.Player.close.Goals as goal

pub returns-then-not-is_open-clause-ok : goal.returns-then-not-is_open-clause-ok
returns-then-not-is_open-clause-ok g c = λ first read text a.
    let m = g.S.LineRunner in
    let p = c.args.self.now in
    let none : open_line p.cutter ≡ [] = is_nil (open_line p.cutter) (λ some. false≢true (sym c.if-not-is_open.true ∙ c.is_open.ensures.1 some)) in
    ([], Appends-nil (g.O.Sink.written c.args.output.now), ended_here m.takes m.refuses m.leaves m.ended first c.args.stage.now read text (open_line p.cutter) p.count p.total a p.limited none)

pub returns-in-Ok-clause-ok : goal.returns-in-Ok-clause-ok
returns-in-Ok-clause-ok g c = λ first read text a.
    let m = g.S.LineRunner in
    let p = c.args.self.now in
    let some : open_line p.cutter ≢ [] = c.is_open.ensures.0 c.if-not-is_open.false in
    let here = open_is p.cutter some in
    let ran = c.in-Ok.ensures.ok in (
      ran.0,
      ran.2,
      ended_last m.takes m.refuses m.leaves m.ended first c.args.stage.now c.run_line.new.stage read text (open_line p.cutter) p.count p.total ran.0 a p.limited some
          (subst (λ l. m.takes c.args.stage.now l c.run_line.new.stage ran.0) (c.line.ensures ∙ sym here) ran.1),
    )

pub returns-in-Ok-clause-few : goal.returns-in-Ok-clause-few
returns-in-Ok-clause-few g c =
    let p = c.args.self.now in
    let some : open_line p.cutter ≢ [] = c.is_open.ensures.0 c.if-not-is_open.false in
    let low = below 1000000 p.count (λ h. some (no_length (open_line p.cutter) (p.last h))) in
    omega (arith, low)

pub returns-in-Err-clause-stop : goal.returns-in-Err-clause-stop
returns-in-Err-clause-stop g c = λ first read text a.
    let m = g.S.LineRunner in
    let p = c.args.self.now in
    let some : open_line p.cutter ≢ [] = c.is_open.ensures.0 c.if-not-is_open.false in
    let here = open_is p.cutter some in
    let low = below 1000000 p.count (λ h. some (no_length (open_line p.cutter) (p.last h))) in
    let says = c.in-Err.ensures.stop in (
      says.0,
      says.1,
      stops_last m.takes m.refuses m.leaves m.ended first c.in-Err.stop c.args.stage.now c.run_line.new.stage read text (open_line p.cutter) p.count p.total says.0 a low p.limited some
          (subst (λ l. StopsAt m.takes m.refuses m.leaves c.in-Err.stop c.args.stage.now c.run_line.new.stage l (p.count + 1) says.0) (c.line.ensures ∙ sym here) says.2),
    )
