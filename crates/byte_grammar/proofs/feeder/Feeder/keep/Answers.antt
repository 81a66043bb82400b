use Rattle.std.proofs.Common.{◌≡◌, ◌∙◌, ◌++◌, ◌<◌, ◌+◌, Bool, List, ℕ, length, if◌then◌else◌, sym, ap, subst, arith}
use Rattle.byte_grammar.specs.Steps.{IsFed}
use Rattle.byte_grammar.proofs.Streaming.{kept}
use Rattle.byte_grammar.proofs.feeder.Feeder.keep.Goals as goal

pub invariant_of-self-2 : goal.invariant_of-self-2
invariant_of-self-2 g c =
    let bytes = c.self.inside.bytes.items in
    let piece = c.args.piece.now in
    let is : c.add_all.new.bytes.items ≡ bytes ++ piece = c.add_all.ensures ∙ ap (λ (b : Bool). if b then bytes ++ piece else bytes) c.if-not-add_all.false in
    let len = c.len.ensures in
    let room = c.saturating_sub.ensures in
    let less = c.if-piece-saturating_sub.false in
    let fits : length bytes + length piece < c.self.inside.wanted = omega arith in
    subst (λ (x : List ℕ). IsFed g.P.Position.LIMIT g.P.Position.whole (g.P.Position.grammar c.self.inside.position) c.self.inside.place x c.self.inside.wanted c.self.inside.refused) (sym is)
    (kept g.P.Position.LIMIT g.P.Position.whole (g.P.Position.grammar c.self.inside.position) c.self.inside.place bytes c.self.inside.wanted c.self.inside.refused piece c.self.invariant fits)
