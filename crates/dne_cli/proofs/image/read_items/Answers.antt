use Rattle.std.proofs.Common.{◌≡◌, ◌+◌, ◌-◌, suc, ◌++◌, ◌∷◌, [], List, ℕ, length, sym, ap, ◌∙◌, arith, drop}
use Rattle.std.proofs.lemmas.Bool.{eqb-true, eqb-false}
use Rattle.std.proofs.lemmas.List.{take_rest}
use Rattle.dne_cli.specs.Image.{number_at, numbers_from}
use Rattle.dne_cli.proofs.Reading.{after, at_no_error, number_front, reads_one, reads_none, reads_all, reads_left}
use Rattle.dne_cli.proofs.image.read_items.Goals as goal

pub returns-in-None-clause-bad : goal.returns-in-None-clause-bad
returns-in-None-clause-bad c =
    let numbers = c.loop-index.numbers in
    let rest = c.loop-index.rest.now in
    let left = c.args.count - (c.loop-index.index + 1) in
    let count : c.args.count - c.loop-index.index ≡ suc left = omega (arith, c.loop-index-test.true) in
    c.loop-index.invariant
    ∙ ap (λ (k : ℕ). after numbers (numbers_from c.args.end k rest)) count
    ∙ reads_none c.args.end left numbers rest (sym c.item_len.ensures.is ∙ c.in-None.is)

pub loop-index-preserved : goal.loop-index-preserved
loop-index-preserved c =
    let numbers = c.loop-index.numbers in
    let rest = c.loop-index.rest.now in
    let left = c.args.count - (c.loop-index.index + 1) in
    let count : c.args.count - c.loop-index.index ≡ suc left = omega (arith, c.loop-index-test.true) in
    let pushed : c.push.new.self ≡ numbers ++ c.read_u32.result ∷ [] = at_no_error c.push.result (sym c.is_err.ensures.value ∙ c.if-is_err.false) c.push.ensures.ok in
    let read : c.read_u32.result ≡ number_at 0 rest = c.read_u32.ensures ∙ number_front rest in
    c.loop-index.invariant
    ∙ ap (λ (k : ℕ). after numbers (numbers_from c.args.end k rest)) count
    ∙ reads_one c.args.end left c.in-Some.len numbers rest (sym c.item_len.ensures.is ∙ c.in-Some.is)
    ∙ ap (λ (l : List ℕ). after l (numbers_from c.args.end left (drop c.in-Some.len rest))) (sym (pushed ∙ ap (λ (n : ℕ). numbers ++ n ∷ []) read))
    ∙ ap (λ (l : List ℕ). after c.push.new.self (numbers_from c.args.end left l)) (sym (take_rest rest c.in-Some.len))

pub returns-then-is_empty-clause-ok : goal.returns-then-is_empty-clause-ok
returns-then-is_empty-clause-ok c =
    let rest = c.loop-index.rest.now in
    let numbers = c.loop-index.numbers in
    let none : c.args.count - c.loop-index.index ≡ 0 = omega (arith, c.loop-index-test.false) in
    c.loop-index.invariant
    ∙ ap (λ (k : ℕ). after numbers (numbers_from c.args.end k rest)) none
    ∙ reads_all c.args.end numbers rest (eqb-true (length rest) 0 (sym c.is_empty.ensures ∙ c.if-is_empty.true))

pub returns-else-is_empty-clause-bad : goal.returns-else-is_empty-clause-bad
returns-else-is_empty-clause-bad c =
    let rest = c.loop-index.rest.now in
    let numbers = c.loop-index.numbers in
    let none : c.args.count - c.loop-index.index ≡ 0 = omega (arith, c.loop-index-test.false) in
    let some : length rest ≡ 0 → ⊥ = eqb-false (length rest) 0 (sym c.is_empty.ensures ∙ c.if-is_empty.false) in
    c.loop-index.invariant
    ∙ ap (λ (k : ℕ). after numbers (numbers_from c.args.end k rest)) none
    ∙ reads_left c.args.end numbers rest (omega (arith, some))
