use Rattle.std.proofs.Common.{sym, subst}
use Rattle.target_state.specs.Image.{IsInRange}
use Rattle.target_state.proofs.Ranging.{pack_stays}
use Rattle.target_state.proofs.state.State.ready.Goals as goal

pub returns-clause-image : goal.returns-clause-image
returns-clause-image c = λ range. c.has_an_image.ensures (subst IsInRange (sym c.in_ok-thin.ensures.ok) (pack_stays c.a_log_stays_own_when_packed.ensures c.args.self.now range))
