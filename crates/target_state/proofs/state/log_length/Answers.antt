use Rattle.std.proofs.Common.{◌≡◌, ◌-◌, sym, arith}
use Rattle.llog_store.specs.Log.{log_text}
use Rattle.llog_store.specs.Chunked.{chunk_count}
use Rattle.target_state.proofs.Lengths.{last_long, last_short}
use Rattle.target_state.proofs.state.log_length.Goals as goal

pub returns-in-Some-clause-value : goal.returns-in-Some-clause-value
returns-in-Some-clause-value c =
    let text = log_text c.args.log.now in
    let k = c.saturating_sub-before.result in
    let is : k ≡ chunk_count text - 1 = omega (arith, c.saturating_sub-before.ensures, c.chunks.ensures.value) in
    let all = last_long text c.in-Some.last.now k is (sym c.in-Some.ensures) in
    omega (arith, all, c.from.ensures)

pub returns-in-Some-clause-small : goal.returns-in-Some-clause-small
returns-in-Some-clause-small c =
    let text = log_text c.args.log.now in
    let k = c.saturating_sub-before.result in
    let most = last_short text c.in-Some.last.now k (sym c.in-Some.ensures) in
    omega (arith, most, c.from.ensures, c.saturating_sub-before.type_inv)
