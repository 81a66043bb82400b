use Rattle.std.proofs.Common.{rules, ◌≡◌, ◌<◌, ◌^◌, arith}
use Rattle.std.specs.Fmt.{decimal}
use Rattle.scenario_text.proofs.Parsed.{same_number}
use Rattle.dne_cli.proofs.modes.cluster_of.Goals as goal
use Rattle.dne_cli.proofs.modes.cluster_of.Goals.{then-targets-eq0-via-then-targets-eq0, then-targets-eq0-via-else-targets-eq0+then-targets-gt16}

pub returns-then-targets-eq0-clause-none : goal.returns-then-targets-eq0-clause-none
returns-then-targets-eq0-clause-none c = λ m low high e.
    let low_n : c.in-Some.targets < 2 ^ 32 = search rules in
    let is : c.args.word.now ≡ decimal c.in-Some.targets = search rules in
    let same = same_number c.args.word.now c.in-Some.targets m low_n (omega (arith, high)) is e in
    elim c.then-targets-eq0.branch [
      | then-targets-eq0-via-then-targets-eq0 w ↦ omega (arith, same, low, w.if-targets-eq0.true)
      | then-targets-eq0-via-else-targets-eq0+then-targets-gt16 w ↦ omega (arith, same, high, w.if-targets-gt16.true)
    ]
