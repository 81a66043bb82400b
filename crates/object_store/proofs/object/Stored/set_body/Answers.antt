use Rattle.std.proofs.Common.{sym, ◌∙◌}
use Rattle.object_store.proofs.Keeping.{stored_body}
use Rattle.object_store.proofs.object.Stored.set_body.Goals as goal

pub invariant_of-self : goal.invariant_of-self
invariant_of-self c =
    stored_body (record { body = c.self.inside.body; entries = c.self.inside.entries; attributes = c.self.inside.attributes }) c.args.body c.self.inside.size c.self.invariant
    (sym c.is_allowed.ensures ∙ c.if-is_allowed.true)
