use Rattle.std.proofs.Common.{◌≡◌, ◌++◌, ℕ, List, inl, Err, take, drop, ap, subst, sym, ◌∙◌}
use Rattle.std.specs.Io.KnownBytes.{Appends}
use Rattle.std.proofs.lemmas.List.{take-append-drop}
use Rattle.line_player.specs.Reached.{StopsAt}
use Rattle.line_player.proofs.Stops.{refused_at}
use Rattle.line_player.proofs.player.run_line.Goals as goal

pub returns-in-Err-NotYet-clause-stop : goal.returns-in-Err-NotYet-clause-stop
returns-in-Err-NotYet-clause-stop g c =
    let more = c.refuse.ensures.told in
    let here = ap Err c.in-Err-NotYet.field-0-is in
    let m = g.S.LineRunner in (
      more.0,
      more.1,
      subst (λ s. StopsAt m.takes m.refuses m.leaves c.refuse.result c.args.stage.now s c.args.line.now c.args.number more.0) (sym (c.in-Err-NotYet.ensures.same here))
          (refused_at m.takes m.refuses m.leaves c.refuse.result c.args.stage.now c.args.line.now c.args.number more.0 (c.in-Err-NotYet.ensures.refused here) more.2),
    )

pub returns-in-Err-clause-stop : goal.returns-in-Err-clause-stop
returns-in-Err-clause-stop g c =
    let ran = c.in-Ok.ensures.ok in
    let front = c.in-Err.ensures.front in
    let whole : List ℕ = ran.0 in
    let bytes : c.bytes.result.now ≡ whole = c.bytes.ensures ∙ ran.2 ∙ ap (λ (l : List ℕ). l ++ whole) c.new-out.ensures in (
      take front.0 whole,
      subst (λ (l : List ℕ). Appends (g.O.Sink.written c.args.output.now) (g.O.Sink.written c.put_all.new.sink) (take front.0 l)) bytes front.1,
      (whole, drop front.0 whole, sym (take-append-drop front.0 whole), inl ran.1),
    )
