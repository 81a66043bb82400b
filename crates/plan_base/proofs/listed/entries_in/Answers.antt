use Rattle.std.proofs.Common.{◌≡◌, ◌-◌, ◌+◌, ℕ, suc, List, [], ◌∷◌, ◌++◌, sym, ap, ◌∙◌, arith, append_assoc, append-nil}
use Rattle.plan_base.specs.Listed.{Entry, entries_from}
use Rattle.plan_base.proofs.Listings.{one_read, none_read, all_read}
use Rattle.plan_base.proofs.listed.entries_in.Goals as goal

pub returns-in_default : goal.returns-in_default
returns-in_default c =
    sym (append-nil c.loop-read.entries)
    ∙ ap (λ (es : List Entry). c.loop-read.entries ++ es) (sym (none_read (33 - c.loop-read._read) c.loop-read.rest.now (sym c.in_default.ensures))) ∙ c.loop-read.invariant

pub loop-read-preserved : goal.loop-read-preserved
loop-read-preserved c =
    let i = c.loop-read._read in
    let entries = c.loop-read.entries in
    let one : Entry = (c.in-Some.name.now, c.in-Some.child) in
    let rest = entries_from (33 - (i + 1)) c.in-Some.behind.now in
    let e : 33 - i ≡ suc (33 - (i + 1)) = omega (arith, c.loop-read-test.true) in
    ap (λ (es : List Entry). es ++ rest) (c.in_ok-push.ensures ∙ ap (λ (n : List ℕ). entries ++ (n, c.in-Some.child) ∷ []) c.in_ok-named.ensures)
    ∙ append_assoc entries (one ∷ []) rest
    ∙ ap (λ (es : List Entry). entries ++ es) (sym (one_read (33 - i) (33 - (i + 1)) c.loop-read.rest.now one c.in-Some.behind.now e (sym c.in-Some.ensures)))
    ∙ c.loop-read.invariant

pub returns : goal.returns
returns c =
    let e : 33 - c.loop-read._read ≡ 0 = omega (arith, c.loop-read-test.false) in
    sym (append-nil c.loop-read.entries)
    ∙ ap (λ (es : List Entry). c.loop-read.entries ++ es) (sym (all_read (33 - c.loop-read._read) c.loop-read.rest.now e)) ∙ c.loop-read.invariant
