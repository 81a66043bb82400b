use Rattle.std.proofs.Common.{◌≡◌, ◌++◌, ℕ, List, take, drop, sym, ap, ◌∙◌, subst}
use Rattle.std.specs.Io.KnownBytes.{Appends}
use Rattle.std.proofs.lemmas.List.{take-append-drop}
use Rattle.scenario_text.specs.Refusals.{refusal}
use Rattle.line_player.proofs.player.refuse.Goals as goal

pub returns-clause-told : goal.returns-clause-told
returns-clause-told g c =
    let front = c.in-Err-put_all.ensures.front in
    let whole : List ℕ = refusal c.args.line in
    let bytes : c.bytes.result.now ≡ whole = c.bytes.ensures ∙ c.in-Ok.ensures.ok ∙ ap (λ (l : List ℕ). l ++ whole) c.new-out.ensures in (
      take front.0 whole,
      subst (λ (l : List ℕ). Appends (g.O.Sink.written c.args.output.now) (g.O.Sink.written c.put_all.new.sink) (take front.0 l)) bytes front.1,
      (drop front.0 whole, sym (take-append-drop front.0 whole)),
    )
