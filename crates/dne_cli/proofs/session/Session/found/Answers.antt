use Rattle.std.specs.Prelude.{OnOk}
use Rattle.std.proofs.Common.{◌≡◌, ◌++◌, ℕ, List, Some, ap, subst}
use Rattle.scenario_text.specs.LineText.{texts}
use Rattle.scenario_text.specs.declared.line.Line.{Line}
use Rattle.dne_cli.specs.Kept.{Kept, Held, Ledger, Founds}
use Rattle.dne_cli.specs.Restart.{held_of}
use Rattle.dne_cli.specs.Session.{target_of}
use Rattle.dne_cli.proofs.Sessions.{carried, taken_out}
use Rattle.dne_cli.proofs.session.Session.found.Goals as goal

pub returns-clause-does : goal.returns-clause-does
returns-clause-does g c =
    let shown = g.D.Disk.shown in
    let inside = c.self.inside in
    let view : Kept = record { cluster = inside.cluster; ended = inside.ended; used = inside.used.items; waiting = inside.waiting.items; target = target_of shown inside.target } in
    let now = c.found_target-target.result in
    let held : Held = held_of shown c.in-Some.target in
    let targets : c.in_ok-ledger.ledger.tree.targets ≡ c.args.cluster = ap (λ (l : Ledger). l.tree.targets) c.in_ok-ledger.ensures in
    carried now.1 (λ k t. record k { cluster = Some c.args.cluster; target = t }) (λ old new ls. Founds old.disk c.args.cluster new ls) view c.args.self.now held (held_of shown now.0) c.args.out.now c.found_target-target.new.out c.self.view_is
    (taken_out shown inside.target c.take.result c.in-Some.target c.take.ensures.value c.in-Some.is)
    (subst (λ (n : ℕ). OnOk now.1 ((ls : List Line) × Founds held.disk n (held_of shown now.0) ls × (c.found_target-target.new.out ≡ c.args.out.now ++ texts ls))) targets c.found_target-target.ensures.lines)
