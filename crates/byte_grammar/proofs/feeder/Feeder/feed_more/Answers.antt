use Rattle.std.proofs.Common.{sym, ◌≡◌, ◌∙◌, ◌++◌, ◌-◌, ℕ, List, Bool, if◌then◌else◌, ap, subst, arith, take, length}
use Rattle.std.specs.Prelude.{IfSome}
use Rattle.byte_grammar.specs.declared.verdict.Verdict.TheVariants.{Refused, More}
use Rattle.byte_grammar.specs.Grammar.{judge}
use Rattle.byte_grammar.specs.Steps.{IsFed}
use Rattle.byte_grammar.proofs.Streaming.{fed_verdict, fed_more, all_taken, done_piece, done_answer, refused_more}
use Rattle.byte_grammar.proofs.feeder.Feeder.feed_more.Goals as goal

pub returns-in-Some-clause-exact : goal.returns-in-Some-clause-exact
returns-in-Some-clause-exact g c =
    let h = subst (λ o. IfSome o (λ r. judge g.P.Position.LIMIT g.P.Position.whole 0 c.self.inside.bytes.items ≡ Refused r)) c.in-Some.is c.self.invariant.stopped in
    subst (λ (old : List ℕ). judge g.P.Position.LIMIT g.P.Position.whole 0 (old ++ c.args.piece.now) ≡ Refused c.in-Some.refusal) c.self.view_is (refused_more g.P.Position.LIMIT g.P.Position.whole c.self.inside.bytes.items c.args.piece.now c.in-Some.refusal h)

pub returns-in-More-clause-exact : goal.returns-in-More-clause-exact
returns-in-More-clause-exact g c =
    let old = c.self.inside.bytes.items in
    let grown : c.grow.new.bytes.items ≡ old ++ take (g.P.Position.LIMIT - length old) c.args.piece.now = c.grow.ensures ∙ ap (λ (b : Bool). if b then old ++ take (g.P.Position.LIMIT - length old) c.args.piece.now else old) c.if-not-grow.false in
    let v = fed_verdict g.P.Position.LIMIT g.P.Position.whole (g.P.Position.grammar c.self.inside.position) c.self.inside.place old c.args.piece.now _ _ c.self.invariant.in_bytes c.self.invariant.in_limit (c.deref.ensures.value ∙ grown) (c.self.invariant.going c.in_default.is) c.scan-reached.ensures.verdict in
    subst (λ (x : List ℕ). judge g.P.Position.LIMIT g.P.Position.whole 0 (x ++ c.args.piece.now) ≡ More) c.self.view_is (v ∙ c.in-More.is)

pub returns-in-More-clause-leaves : goal.returns-in-More-clause-leaves
returns-in-More-clause-leaves g c =
    let old = c.self.inside.bytes.items in
    let grown : c.grow.new.bytes.items ≡ old ++ take (g.P.Position.LIMIT - length old) c.args.piece.now = c.grow.ensures ∙ ap (λ (b : Bool). if b then old ++ take (g.P.Position.LIMIT - length old) c.args.piece.now else old) c.if-not-grow.false in
    let v = fed_verdict g.P.Position.LIMIT g.P.Position.whole (g.P.Position.grammar c.self.inside.position) c.self.inside.place old c.args.piece.now _ _ c.self.invariant.in_bytes c.self.invariant.in_limit (c.deref.ensures.value ∙ grown) (c.self.invariant.going c.in_default.is) c.scan-reached.ensures.verdict in
    all_taken g.P.Position.LIMIT g.P.Position.whole old c.args.piece.now _ grown (v ∙ c.in-More.is) ∙ ap (λ (x : List ℕ). x ++ c.args.piece.now) c.self.view_is

pub returns-in-Refused-clause-exact : goal.returns-in-Refused-clause-exact
returns-in-Refused-clause-exact g c =
    let old = c.self.inside.bytes.items in
    let grown : c.grow.new.bytes.items ≡ old ++ take (g.P.Position.LIMIT - length old) c.args.piece.now = c.grow.ensures ∙ ap (λ (b : Bool). if b then old ++ take (g.P.Position.LIMIT - length old) c.args.piece.now else old) c.if-not-grow.false in
    let v = fed_verdict g.P.Position.LIMIT g.P.Position.whole (g.P.Position.grammar c.self.inside.position) c.self.inside.place old c.args.piece.now _ _ c.self.invariant.in_bytes c.self.invariant.in_limit (c.deref.ensures.value ∙ grown) (c.self.invariant.going c.in_default.is) c.scan-reached.ensures.verdict in
    subst (λ (x : List ℕ). judge g.P.Position.LIMIT g.P.Position.whole 0 (x ++ c.args.piece.now) ≡ Refused c.in-Refused.refusal) c.self.view_is (v ∙ c.in-Refused.is)

pub overflow_sub-result : goal.overflow_sub-result
overflow_sub-result g c =
    let old = c.self.inside.bytes.items in
    let grown : c.grow.new.bytes.items ≡ old ++ take (g.P.Position.LIMIT - length old) c.args.piece.now = c.grow.ensures ∙ ap (λ (b : Bool). if b then old ++ take (g.P.Position.LIMIT - length old) c.args.piece.now else old) c.if-not-grow.false in
    let v = fed_verdict g.P.Position.LIMIT g.P.Position.whole (g.P.Position.grammar c.self.inside.position) c.self.inside.place old c.args.piece.now _ _ c.self.invariant.in_bytes c.self.invariant.in_limit (c.deref.ensures.value ∙ grown) (c.self.invariant.going c.in_default.is) c.scan-reached.ensures.verdict in
    let d = done_piece g.P.Position.LIMIT g.P.Position.whole old c.args.piece.now _ c.in-Done.end grown (c.self.invariant.unsettled c.in_default.is) (v ∙ c.in-Done.is) in
    let n = c.len-before.ensures in
    omega (arith, d.0)

pub returns-in-Ok-clause-exact : goal.returns-in-Ok-clause-exact
returns-in-Ok-clause-exact g c =
    let old = c.self.inside.bytes.items in
    let grown : c.grow.new.bytes.items ≡ old ++ take (g.P.Position.LIMIT - length old) c.args.piece.now = c.grow.ensures ∙ ap (λ (b : Bool). if b then old ++ take (g.P.Position.LIMIT - length old) c.args.piece.now else old) c.if-not-grow.false in
    let v = fed_verdict g.P.Position.LIMIT g.P.Position.whole (g.P.Position.grammar c.self.inside.position) c.self.inside.place old c.args.piece.now _ _ c.self.invariant.in_bytes c.self.invariant.in_limit (c.deref.ensures.value ∙ grown) (c.self.invariant.going c.in_default.is) c.scan-reached.ensures.verdict in
    let n = c.len-before.ensures in
    let before : c.len-before.result ≡ length old = omega arith in
    let s = subst (λ (x : List ℕ). g.P.Position.spells c.in-Ok.value (take c.in-Done.end x)) c.deref-in-Done.ensures.value c.in-Ok.ensures in
    done_answer g.P.Position.LIMIT g.P.Position.spells c.in-Ok.value g.P.Position.whole old _ c.args.piece.now _ _ c.in-Done.end c.self.view_is before grown (c.self.invariant.unsettled c.in_default.is) (v ∙ c.in-Done.is) s

pub invariant_of-self-in-More : goal.invariant_of-self-in-More
invariant_of-self-in-More g c =
    let old = c.self.inside.bytes.items in
    let grown : c.grow.new.bytes.items ≡ old ++ take (g.P.Position.LIMIT - length old) c.args.piece.now = c.grow.ensures ∙ ap (λ (b : Bool). if b then old ++ take (g.P.Position.LIMIT - length old) c.args.piece.now else old) c.if-not-grow.false in
    let seen = c.deref.result.now in
    subst (λ (x : List ℕ). IsFed g.P.Position.LIMIT g.P.Position.whole (g.P.Position.grammar c.scan-reached.result.0.position) c.scan-reached.result.0.place x c.wanted_at-self-inside.result c.self.inside.refused) c.deref.ensures.value
    (fed_more g.P.Position.LIMIT g.P.Position.whole (g.P.Position.grammar c.self.inside.position) (g.P.Position.grammar c.scan-reached.result.0.position) c.self.inside.place c.scan-reached.result.0.place old c.args.piece.now seen c.self.inside.wanted c.wanted_at-self-inside.result c.self.inside.refused
    c.self.invariant c.in_default.is (c.deref.ensures.value ∙ grown) c.scan-reached.ensures.place c.scan-reached.ensures.resumes (sym c.scan-reached.ensures.verdict ∙ c.in-More.is) c.wanted_at-self-inside.ensures.end c.wanted_at-self-inside.ensures.field)
