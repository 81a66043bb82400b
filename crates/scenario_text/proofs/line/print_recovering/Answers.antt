use Rattle.std.proofs.Common.{◌≡◌, ◌++◌, codes, OnOk, ℕ, subst}
use Rattle.scenario_text.specs.LineText.{two_text}
use Rattle.scenario_text.proofs.line.print_recovering.Goals as goal

pub returns-clause-ok : goal.returns-clause-ok
returns-clause-ok c =
    subst (λ (n : ℕ). OnOk c.print_two.result (c.print_two.new.out ≡ c.args.out.now ++ two_text (codes "recovering ") n (codes " target ") c.args.target)) c.from.ensures
    (subst (λ (t : ℕ). OnOk c.print_two.result (c.print_two.new.out ≡ c.args.out.now ++ two_text (codes "recovering ") c.from.result (codes " target ") t)) c.from-2.ensures c.print_two.ensures.ok)
