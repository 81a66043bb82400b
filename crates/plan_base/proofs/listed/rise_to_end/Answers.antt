use Rattle.std.proofs.Common.{◌≡◌, ◌-◌, ◌+◌, suc, sym, ◌∙◌, arith}
use Rattle.plan_base.proofs.Listings.{rise_ended, rise_stopped, rise_on, rise_last}
use Rattle.plan_base.proofs.listed.rise_to_end.Goals as goal

pub returns-then-rest-eq0 : goal.returns-then-rest-eq0
returns-then-rest-eq0 c = sym (rise_ended (33 - c.loop-read._read) c.loop-read.last.now c.loop-read.rest.now c.if-rest-eq0.true) ∙ c.loop-read.invariant

pub returns-in_default : goal.returns-in_default
returns-in_default c =
    let i = c.loop-read._read in
    let e : 33 - i ≡ suc (33 - (i + 1)) = omega (arith, c.loop-read-test.true) in
    sym (rise_stopped (33 - i) (33 - (i + 1)) c.loop-read.last.now c.loop-read.rest.now e c.if-rest-eq0.false (sym c.in_default.ensures)) ∙ c.loop-read.invariant

pub loop-read-preserved : goal.loop-read-preserved
loop-read-preserved c =
    let i = c.loop-read._read in
    let e : 33 - i ≡ suc (33 - (i + 1)) = omega (arith, c.loop-read-test.true) in
    sym (rise_on (33 - i) (33 - (i + 1)) c.loop-read.last.now c.loop-read.rest.now c.in-Some.name.now c.in-Some.behind.now e c.if-rest-eq0.false (sym c.in-Some.ensures)) ∙ c.loop-read.invariant

pub returns : goal.returns
returns c =
    let e : 33 - c.loop-read._read ≡ 0 = omega (arith, c.loop-read-test.false) in
    sym (rise_last (33 - c.loop-read._read) c.loop-read.last.now c.loop-read.rest.now e) ∙ c.loop-read.invariant
