use Rattle.std.proofs.Common.{◌≡◌, drop}
use Rattle.commit_sharing.specs.Sharing.{must_sync}
use Rattle.commit_sharing.proofs.sharing.must_sync.Given as goal

abbrev pub invariant-loop-seen : goal.invariant-loop-seen
invariant-loop-seen l = must_sync (drop l.seen-index l.reads) l.on l.target ≡ must_sync l.reads l.on l.target
