use Rattle.std.proofs.Common.{rules, arith, ◌≡◌, ◌++◌, ◌+◌, ◌-◌, [], ℕ, List, take, drop, length, refl, sym, ap, ◌∙◌, append_assoc, append-nil}
use Rattle.std.proofs.KnownBytes.{Appends-nil, Appends-trans}
use Rattle.std.proofs.lemmas.List.{take_all, take-append-drop, take_rest}
use Rattle.outside.proofs.Pieces.{next_piece}
use Rattle.scenario_text.specs.Cutting.{open_line}
use Rattle.line_player.specs.Played.{rules_of}
use Rattle.line_player.specs.Reached.{status_of}
use Rattle.line_player.proofs.Lines.{at_as}
use Rattle.line_player.proofs.Stops.{played_as}
use Rattle.line_player.proofs.player.Player.feed.Goals as goal

pub loop-at-init : goal.loop-at-init
loop-at-init g c = record {
  reached = λ first read text a. (
    [],
    Appends-nil (g.O.Sink.written c.args.output.now),
    at_as g.S.LineRunner.takes first c.args.stage.now read (read ++ []) text (text ++ []) (open_line c.args.self.now.cutter) c.args.self.now.count c.args.self.now.total a (append-nil read) (append-nil text),
  );
  within = omega arith;
  grown = omega arith;
  later = omega arith;
  tells = refl;
}

pub loop-at-preserved : goal.loop-at-preserved
loop-at-preserved g c =
    let at = c.loop-at.at in
    let used = c.in-Ok.used in
    let piece = c.args.piece.now in
    let uses = c.in-Ok.ensures.uses in
    record {
      reached = λ first read text r.
          let a = c.loop-at.invariant.reached first read text r in
          let b = c.in-Ok.ensures.ok first (read ++ take at piece) (text ++ a.0) a.2 in (
            a.0 ++ b.0,
            Appends-trans _ _ _ a.0 b.0 a.1 b.1,
            at_as g.S.LineRunner.takes first _ _ (read ++ take (at + used) piece) _ (text ++ (a.0 ++ b.0)) _ _ _ b.2
                (ap (λ (x : List ℕ). read ++ x) (next_piece at used piece) ∙ sym (append_assoc read (take at piece) (take used (take (length piece - at) (drop at piece)))))
                (sym (append_assoc text a.0 b.0)),
          );
      within = omega (arith, c.in-Ok.ensures.uses.1);
      grown = omega (arith, c.loop-at.invariant.grown, c.in-Ok.ensures.grows);
      later = omega (arith, c.loop-at.invariant.later, c.in-Ok.ensures.later);
      tells = c.in-Ok.ensures.tells ∙ c.loop-at.invariant.tells;
    }

pub returns-in-Err-clause-stop : goal.returns-in-Err-clause-stop
returns-in-Err-clause-stop g c = λ first read text r.
    let m = g.S.LineRunner in
    let at = c.loop-at.at in
    let piece = c.args.piece.now in
    let a = c.loop-at.invariant.reached first read text r in
    let b = c.in-Err.ensures.stop first (read ++ take at piece) (text ++ a.0) a.2 in
    let left : List ℕ = take (length piece - at) (drop at piece) in (
      a.0 ++ b.0,
      Appends-trans _ _ _ a.0 b.0 a.1 b.1,
      played_as (rules_of m.takes m.refuses m.leaves m.ended first c.step.new.stage) ⊥ (status_of c.in-Err.stop) (status_of c.in-Err.stop) (read ++ piece) ((read ++ take at piece) ++ left) (text ++ (a.0 ++ b.0)) ((text ++ a.0) ++ b.0) refl
          (ap (λ (x : List ℕ). read ++ x) (sym (take-append-drop at piece) ∙ ap (λ (x : List ℕ). take at piece ++ x) (sym (take_rest piece at))) ∙ sym (append_assoc read (take at piece) left))
          (sym (append_assoc text a.0 b.0)) b.2,
    )

pub returns-clause-ok : goal.returns-clause-ok
returns-clause-ok g c = λ first read text r.
    let at = c.loop-at.at in
    let piece = c.args.piece.now in
    let a = c.loop-at.invariant.reached first read text r in
    (a.0, a.1, at_as g.S.LineRunner.takes first _ _ (read ++ piece) _ (text ++ a.0) _ _ _ a.2 (ap (λ (x : List ℕ). read ++ x) (sym (take_all at piece (omega (arith, c.loop-at-test.false))))) refl)
