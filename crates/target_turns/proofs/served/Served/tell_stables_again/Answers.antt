use Rattle.std.proofs.Common.{ℕ, List, All, sym, subst, arith}
use Rattle.target_state.specs.Marking.{stable_ids}
use Rattle.llog_store.specs.Changes.{live_payloads}
use Rattle.target_turns.proofs.Listing.{IsBelow}
use Rattle.target_turns.proofs.Again.{greatest_below}
use Rattle.target_turns.proofs.served.Served.tell_stables_again.Goals as goal

pub tell_stables-requires-clause-masters : goal.tell_stables-requires-clause-masters
tell_stables-requires-clause-masters g c =
    let s = c.args.self.now.node.state in
    subst (λ (ms : List (ℕ × ℕ)). All IsBelow ms) (sym c.in_ok-marks.ensures) (greatest_below 16 0 (stable_ids s.waiting (live_payloads s.log.entries)) (omega arith))
