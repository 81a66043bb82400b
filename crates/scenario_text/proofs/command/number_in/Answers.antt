use Rattle.std.proofs.Common.{rules, ◌≡◌, ◌<◌, ◌^◌, arith}
use Rattle.std.specs.Fmt.{decimal}
use Rattle.scenario_text.proofs.Parsed.{same_number}
use Rattle.scenario_text.proofs.command.number_in.Goals as goal

pub returns-then-n-least-clause-refused : goal.returns-then-n-least-clause-refused
returns-then-n-least-clause-refused c = λ _ m low high e.
    let low_n : c.in-Ok-Some.n < 2 ^ 32 = search rules in
    let is : c.args.word.now ≡ decimal c.in-Ok-Some.n = search rules in
    let same = same_number c.args.word.now c.in-Ok-Some.n m low_n (omega (arith, high)) is e in
    omega (arith, same, low, c.if-n-least.true)

pub returns-then-n-most-clause-refused : goal.returns-then-n-most-clause-refused
returns-then-n-most-clause-refused c = λ _ m low high e.
    let low_n : c.in-Ok-Some.n < 2 ^ 32 = search rules in
    let is : c.args.word.now ≡ decimal c.in-Ok-Some.n = search rules in
    let same = same_number c.args.word.now c.in-Ok-Some.n m low_n (omega (arith, high)) is e in
    omega (arith, same, high, c.if-n-most.true)
