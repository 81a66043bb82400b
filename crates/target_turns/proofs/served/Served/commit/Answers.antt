use Rattle.std.proofs.Common.{All, sym, subst, arith}
use Rattle.target_state.specs.declared.waiting.Committed.{Committed}
use Rattle.target_turns.proofs.Listing.{IsBelow, marks_below}
use Rattle.target_turns.proofs.served.Served.commit.Goals as goal

pub tell-requires-clause-masters : goal.tell-requires-clause-masters
tell-requires-clause-masters g c = subst (λ (x : Committed). All IsBelow x.batches) (sym c.in-Ok.ensures.listed) (marks_below 16 c.args.self.now.node.state.index 0 c.args.self.now.node.state.waiting (omega arith))
