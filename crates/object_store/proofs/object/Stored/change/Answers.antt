use Rattle.std.proofs.Common.{◌≤◌, length, sym, subst}
use Rattle.object_store.proofs.Fitting.{value_short}
use Rattle.object_store.proofs.object.Stored.change.Goals as goal

pub put_attribute-requires : goal.put_attribute-requires
put_attribute-requires c = subst (λ l. length l ≤ 4096) (sym c.parameter-second.ensures) (value_short c.args.update.now c.requires.fits c.in-XattrSet.is)
