use Rattle.std.proofs.Common.{ap, ◌∙◌}
use Rattle.object_store.specs.Bodies.{is_allowed}
use Rattle.object_store.proofs.Allowed.{root_allowed}
use Rattle.object_store.proofs.objects.Objects.new.Goals as goal

pub new-requires : goal.new-requires
new-requires c = ap (λ b. is_allowed b) c.root.ensures ∙ root_allowed
