use Rattle.std.proofs.Common.{rules, ◌≡◌, ◌++◌, ◌∷◌, [], OnOk, ℕ, List, subst}
use Rattle.scenario_text.specs.LineText.{logged_head, targets_text}
use Rattle.scenario_text.proofs.Written.{three_pieces}
use Rattle.scenario_text.proofs.logged.print_logged.Goals as goal

pub returns-clause-ok : goal.returns-clause-ok
returns-clause-ok c =
    let head : c.append.new.self ≡ logged_head c.args.entry.now = search rules in
    let targets : c.print_targets.new.out ≡ c.append.new.self ++ targets_text c.args.entry.now.on = search rules in
    let line : c.bytes.result.now ≡ c.print_targets.new.out ++ 10 ∷ [] = search rules in
    subst (λ (l : List ℕ). OnOk c.append-2.result (c.append-2.new.self ≡ c.args.out.now ++ l))
    (three_pieces (logged_head c.args.entry.now) (targets_text c.args.entry.now.on) (10 ∷ []) c.append.new.self c.print_targets.new.out c.bytes.result.now head targets line)
    c.append-2.ensures.ok
