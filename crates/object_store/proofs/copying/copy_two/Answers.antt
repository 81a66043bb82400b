use Rattle.std.proofs.Common.{refl}
use Rattle.object_store.proofs.Laid.{joined}
use Rattle.object_store.proofs.copying.copy_two.Goals as goal

pub returns : goal.returns
returns c = joined _ _ _ _ _ _ _ _ _ _ c.copy_bytes-first.ensures c.copy_padded-second.ensures c.saturating_sub.ensures refl
