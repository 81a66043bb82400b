use Rattle.std.proofs.Common.{◌≡◌, ◌≤◌, ◌⊎◌, ◌-◌, [], false, true, inl, sym, ◌∙◌, subst}
use Rattle.std.proofs.KnownBytes.{Appends-nil}
use Rattle.std.proofs.lemmas.Bool.{false≢true}
use Rattle.scenario_text.specs.Cutting.{Cuts, open_line}
use Rattle.scenario_text.specs.declared.cutter.Cut.TheVariants as cuts
use Rattle.line_player.proofs.Steps.{below, full_step, line_step, line_stop, long_step, memory_step, more_step}
use Rattle.line_player.proofs.player.Player.step.Goals as goal

pub returns-then-is_full-clause-stop : goal.returns-then-is_full-clause-stop
returns-then-is_full-clause-stop g c = λ first read text a.
    let m = g.S.LineRunner in
    let p = c.args.self.now in
    let says = c.refuse.ensures.told in
    (says.0, says.1, full_step m.takes m.refuses m.leaves m.ended first c.refuse.result c.args.stage.now read text (open_line p.cutter) p.count p.total c.args.piece.now says.0 a p.few p.limited (c.is_full.ensures.0 c.if-is_full.true) c.requires.some c.requires.small says.2)

pub returns-in-Err-run_line-clause-stop : goal.returns-in-Err-run_line-clause-stop
returns-in-Err-run_line-clause-stop g c = λ first read text a.
    let m = g.S.LineRunner in
    let p = c.args.self.now in
    let says = c.in-Err-run_line.ensures.stop in
    let before = open_line p.cutter in
    let inside = c.inside-inside.result.now in
    let cut : Cuts before inside (cuts.Line c.in-Ok-Line.used) c.feed.new.self = subst (λ x. Cuts before inside x c.feed.new.self) c.in-Ok-Line.field-0-is c.in-Ok-Line.ensures.ok in
    let open_count = below 1000000 p.count (λ h. false≢true (sym c.if-is_full.false ∙ c.is_full.ensures.1 (inl h))) in
    (says.0, says.1, line_stop m.takes m.refuses m.leaves m.ended first c.in-Err-run_line.stop c.args.stage.now c.run_line.new.stage read text before p.count p.total c.args.piece.now inside c.line-line.result.now says.0 c.in-Ok-Line.used c.feed.new.self a open_count p.limited c.requires.small c.inside-inside.ensures cut c.line-line.ensures says.2)

pub returns-in-Err-clause-stop : goal.returns-in-Err-clause-stop
returns-in-Err-clause-stop g c = λ first read text a.
    let m = g.S.LineRunner in
    let p = c.args.self.now in
    ([], Appends-nil (g.O.Sink.written c.args.output.now), memory_step m.takes m.refuses m.leaves m.ended first c.args.stage.now read text (open_line p.cutter) p.count p.total c.args.piece.now a p.few p.limited)

pub returns-in-Ok-Long-clause-stop : goal.returns-in-Ok-Long-clause-stop
returns-in-Ok-Long-clause-stop g c = λ first read text a.
    let m = g.S.LineRunner in
    let p = c.args.self.now in
    let says = c.refuse-in-Ok-Long.ensures.told in
    let before = open_line p.cutter in
    let inside = c.inside-inside.result.now in
    let used = c.in-Ok-Long.field-0-0 in
    let cut : Cuts before inside (cuts.Long used) c.feed.new.self = subst (λ x. Cuts before inside x c.feed.new.self) c.in-Ok-Long.field-0-is c.in-Ok-Long.ensures.ok in
    (says.0, says.1, long_step m.takes m.refuses m.leaves m.ended first c.refuse-in-Ok-Long.result c.args.stage.now read text before p.count p.total c.args.piece.now inside says.0 (67108864 - p.total) used c.feed.new.self a p.few p.limited c.requires.small c.inside-inside.ensures cut says.2)

pub returns-in-Ok-More-clause-ok : goal.returns-in-Ok-More-clause-ok
returns-in-Ok-More-clause-ok g c = λ first read text a.
    let m = g.S.LineRunner in
    let p = c.args.self.now in
    let before = open_line p.cutter in
    let inside = c.inside-inside.result.now in
    let cut : Cuts before inside cuts.More c.feed.new.self = subst (λ x. Cuts before inside x c.feed.new.self) c.in-Ok-More.field-0-is c.in-Ok-More.ensures.ok in
    ([], Appends-nil (g.O.Sink.written c.args.output.now), more_step m.takes m.refuses m.leaves m.ended first c.args.stage.now read text before p.count p.total c.args.piece.now inside (67108864 - p.total) c.feed.new.self a c.inside-inside.ensures cut)

pub returns-in-Ok-clause-ok : goal.returns-in-Ok-clause-ok
returns-in-Ok-clause-ok g c = λ first read text a.
    let m = g.S.LineRunner in
    let p = c.args.self.now in
    let ran = c.in-Ok.ensures.ok in
    let before = open_line p.cutter in
    let inside = c.inside-inside.result.now in
    let cut : Cuts before inside (cuts.Line c.in-Ok-Line.used) c.feed.new.self = subst (λ x. Cuts before inside x c.feed.new.self) c.in-Ok-Line.field-0-is c.in-Ok-Line.ensures.ok in
    (ran.0, ran.2, line_step m.takes m.refuses m.leaves m.ended first c.args.stage.now c.run_line.new.stage read text before p.count p.total c.args.piece.now inside c.line-line.result.now ran.0 (67108864 - p.total) c.in-Ok-Line.used c.feed.new.self a c.inside-inside.ensures cut c.line-line.ensures ran.1)
