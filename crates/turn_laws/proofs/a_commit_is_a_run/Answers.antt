use Rattle.std.proofs.Common.{refl, ap, ◌∙◌, ◌∷◌, []}
use Rattle.scenario_text.specs.declared.line.Line.TheVariants as lines
use Rattle.target_turns.specs.Marks.{stops}
use Rattle.turn_laws.specs.Values.{target_at}
use Rattle.update_protocol.proofs.Runs.{always}
use Rattle.update_protocol.proofs.Setting.{setting}
use Rattle.turn_laws.proofs.Given.{holds_of}
use Rattle.turn_laws.proofs.Committing.{whole}
use Rattle.turn_laws.proofs.Stops.{tears_so}
use Rattle.turn_laws.proofs.a_commit_is_a_run.Goals as goal

pub returns : goal.returns
returns call = record {
  made = λ targets count h c w r g to inside low up f. let σ = setting targets (call.operations_have_laws.ensures.laws targets count) in (whole σ c w (holds_of σ h w r) g to inside low up (always σ) f).run;
  failed = λ targets count h c w r g to inside up f. tears_so targets c w g to inside (stops (target_at c.targets to) f) refl (ap (λ t. lines.Down t ∷ []) (g.keeps to up).index) refl (g.ups to inside ∙ up);
}
