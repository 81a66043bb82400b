use Rattle.std.proofs.Common.{List, ℕ, drop, ap, subst, ◌∙◌}
use Rattle.object_store.specs.ImageText.{entry_text}
use Rattle.object_store.specs.Pieces.{IsLaid}
use Rattle.object_store.proofs.Spelled.{entry_joined}
use Rattle.object_store.proofs.parts.copy_entry.Goals as goal

pub returns : goal.returns
returns c =
    let text = entry_joined c.entry_head.result c.bytes-bytes.result.now c.args.fid c.entry_head.ensures ∙ ap (λ (n : List ℕ). entry_text (n, c.args.fid)) c.bytes-bytes.ensures.bytes in
    subst (λ (t : List ℕ). IsLaid (drop c.args.skip t) c.args.into.now c.copy_two.new.into c.copy_two.result) text c.copy_two.ensures
