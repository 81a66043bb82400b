use Rattle.std.proofs.Common.{inl}
use Rattle.update_recovery.proofs.gathering.commit_target.Goals as goal

pub returns-clause-memory : goal.returns-clause-memory
returns-clause-memory g c =
    let e = c.in_ok-committed.ensures in
    inl (e.state, record { stays = e.stays; later = e.later; done = e.done })
