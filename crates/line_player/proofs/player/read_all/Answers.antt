use Rattle.std.proofs.Common.{rules, arith, ◌≡◌, ◌++◌, [], ℕ, List, take, refl, sym, ap, ◌∙◌, append_assoc, append-nil, length-take}
use Rattle.std.specs.Io.KnownBytes.{IsAtEnd}
use Rattle.std.proofs.KnownBytes.{Appends-nil, Appends-trans, Consumes-nil, Consumes-trans, Consumes-kept}
use Rattle.scenario_text.specs.Cutting.{open_line}
use Rattle.line_player.specs.Played.{rules_of}
use Rattle.line_player.specs.Reached.{status_of}
use Rattle.line_player.proofs.Lines.{at_as}
use Rattle.line_player.proofs.Mapped.{played_map, same_rules}
use Rattle.line_player.proofs.Stops.{played_as, runs_all}
use Rattle.line_player.proofs.player.read_all.Goals as goal

pub loop-player-init : goal.loop-player-init
loop-player-init g c = record {
  room = c.requires;
  reached = λ first before text a. (
    [],
    [],
    Consumes-nil (g.I.Source.left c.args.input.now),
    Appends-nil (g.O.Sink.written c.args.output.now),
    at_as g.S.LineRunner.takes first c.args.stage.now before (before ++ []) text (text ++ []) (open_line c.args.player.now.cutter) c.args.player.now.count c.args.player.now.total a (append-nil before) (append-nil text),
  );
  later_source = omega arith;
  later_sink = omega arith;
}

pub returns-in-Err-clause-outcome : goal.returns-in-Err-clause-outcome
returns-in-Err-clause-outcome g c = λ first before text r.
    let m = g.S.LineRunner in
    let p = c.loop-player.player in
    let a = c.loop-player.invariant.reached first before text r in
    (a.0, a.1, Consumes-kept _ _ _ a.0 a.2 c.in-Err.ensures.bytes, a.3, runs_all m.takes m.refuses m.leaves m.ended first c.loop-player.stage (before ++ a.0) (text ++ a.1) (open_line p.cutter) p.count p.total a.4 p.few p.limited)

pub returns-in-Ok-eq0-clause-outcome : goal.returns-in-Ok-eq0-clause-outcome
returns-in-Ok-eq0-clause-outcome g c = λ first before text r.
    let m = g.S.LineRunner in
    let a = c.loop-player.invariant.reached first before text r in
    let e = c.finish.ensures.ends first (before ++ a.0) (text ++ a.1) a.4 in
    let piece = take c.in-Ok-eq0.field-0 c.read.new.into in
    let zero : c.in-Ok-eq0.field-0 ≡ 0 = omega arith in
    let none : piece ≡ [] = ap (λ (n : ℕ). take n c.read.new.into) zero in
    let End : Type 0 = IsAtEnd (g.I.Source.left c.read.new.self) in
    let ended : End = c.in-Ok-eq0.ensures.bytes.1 zero (omega (arith, c.loop-player.invariant.room)) in
    let rules = rules_of m.takes m.refuses m.leaves m.ended first c.finish.new.stage in (
      a.0 ++ piece,
      a.1 ++ e.0,
      Consumes-trans _ _ _ a.0 piece a.2 c.in-Ok-eq0.ensures.bytes.0,
      Appends-trans _ _ _ a.1 e.0 a.3 e.1,
      played_as rules End _ _ (before ++ (a.0 ++ piece)) (before ++ a.0) _ _ refl (ap (λ (p : List ℕ). before ++ (a.0 ++ p)) none ∙ ap (λ (p : List ℕ). before ++ p) (append-nil a.0)) (sym (append_assoc text a.1 e.0))
          (played_map rules rules (Unit {0}) End (λ _. ended) (same_rules rules) c.finish.result (before ++ a.0) ((text ++ a.1) ++ e.0) e.2),
    )

pub returns-in-Err-feed-clause-outcome : goal.returns-in-Err-feed-clause-outcome
returns-in-Err-feed-clause-outcome g c = λ first before text r.
    let m = g.S.LineRunner in
    let a = c.loop-player.invariant.reached first before text r in
    let b = c.in-Err-feed.ensures.stop first (before ++ a.0) (text ++ a.1) a.4 in
    let piece = take c.in-Ok.count c.read.new.into in
    let End : Type 0 = IsAtEnd (g.I.Source.left c.read.new.self) in
    let rules = rules_of m.takes m.refuses m.leaves m.ended first c.feed.new.stage in (
      a.0 ++ piece,
      a.1 ++ b.0,
      Consumes-trans _ _ _ a.0 piece a.2 c.in-Ok.ensures.bytes.0,
      Appends-trans _ _ _ a.1 b.0 a.3 b.1,
      played_as rules End _ (status_of c.in-Err-feed.stop) _ _ _ _ c.status_of.ensures.value (sym (append_assoc before a.0 piece)) (sym (append_assoc text a.1 b.0))
          (played_map rules rules ⊥ End (λ x. absurd x) (same_rules rules) (status_of c.in-Err-feed.stop) ((before ++ a.0) ++ piece) ((text ++ a.1) ++ b.0) b.2),
    )

pub loop-player-preserved : goal.loop-player-preserved
loop-player-preserved g c = record {
  room = search rules;
  reached = λ first before text r.
      let a = c.loop-player.invariant.reached first before text r in
      let b = c.in-Ok-feed.ensures.ok first (before ++ a.0) (text ++ a.1) a.4 in
      let piece = take c.in-Ok.count c.read.new.into in (
        a.0 ++ piece,
        a.1 ++ b.0,
        Consumes-trans _ _ _ a.0 piece a.2 c.in-Ok.ensures.bytes.0,
        Appends-trans _ _ _ a.1 b.0 a.3 b.1,
        at_as g.S.LineRunner.takes first _ _ (before ++ (a.0 ++ piece)) _ (text ++ (a.1 ++ b.0)) _ _ _ b.2 (sym (append_assoc before a.0 piece)) (sym (append_assoc text a.1 b.0)),
      );
  later_source = omega (arith, c.loop-player.invariant.later_source, c.in-Ok.ensures.cause.later);
  later_sink = omega (arith, c.loop-player.invariant.later_sink, c.in-Ok-feed.ensures.later);
}

pub loop-player-smaller : goal.loop-player-smaller
loop-player-smaller g c =
    let size = length-take c.in-Ok.count c.read.new.into in
    omega (arith, c.in-Ok-feed.ensures.grows, size, c.in-Ok.ensures.bound, c.feed.new.self.limited)
