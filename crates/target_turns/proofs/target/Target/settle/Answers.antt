use Rattle.std.proofs.Common.{◌≡◌, Bool, ap, sym, ◌∙◌}
use Rattle.target_turns.specs.Target.{target_down}
use Rattle.target_turns.specs.Seen.{after_ran}
use Rattle.target_turns.specs.declared.served.Ran.{Ran}
use Rattle.target_turns.proofs.target.Target.settle.Goals as goal

-- src/target.rt:198:5
pub returns-in-Stopped-clause-after : goal.returns-in-Stopped-clause-after
returns-in-Stopped-clause-after g c =
    c.stop.ensures.after
    ∙ (ap (λ (b : Bool). target_down c.args.self.now.targets c.args.self.now.index b c.args.self.now.disk) (c.stop.ensures.formatted c.requires)
    ∙ ap (λ (r : Ran). after_ran r c.args.self.now) (sym c.in-Stopped.is))
