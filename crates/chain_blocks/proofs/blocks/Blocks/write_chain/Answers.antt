use Rattle.std.specs.Prelude.{Ok, Err}
use Rattle.std.proofs.Common.{◌≡◌, ◌∙◌, ◌≤◌, ℕ, length, take, drop, ap, sym, subst, arith}
use Rattle.chain_blocks.specs.Stored.{IsCount, Wrote}
use Rattle.chain_blocks.specs.declared.chain.ChainWriteFault.{ChainWriteFault}
use Rattle.chain_blocks.specs.declared.chain.ChainWriteFault.TheVariants as fault
use Rattle.chain_blocks.proofs.Filling.{count_unique}
use Rattle.chain_blocks.proofs.Writing.{took_chain, given_back, wrote_torn, wrote_ok}
use Rattle.chain_blocks.proofs.blocks.Blocks.write_chain.Goals as goal

pub take_chain-head-requires-clause-enough : goal.take_chain-head-requires-clause-enough
take_chain-head-requires-clause-enough g c =
    let w = c.spare.ensures.lists in
    let count = c.spare.ensures.count w.0 w.1 w.2 in
    (w.0, w.1, w.2, omega (arith, count))

pub fill_chain-requires-clause-within : goal.fill_chain-requires-clause-within
fill_chain-requires-clause-within g c =
    let n = c.count_for-needed.result in
    let w = c.spare.ensures.lists in
    let count = c.spare.ensures.count w.0 w.1 w.2 in
    let some : 1 ≤ n = omega (arith, c.requires.some, c.count_for-needed.ensures.most) in
    let t = took_chain n w.0 w.1 c.take_chain-head.result c.args.self.now c.take_chain-head.new.self some (omega (arith, count)) w.2 (c.take_chain-head.ensures w.0 w.1 w.2) in
    omega (arith, t.size, c.requires.within)

pub fill_chain-requires-clause-chain : goal.fill_chain-requires-clause-chain
fill_chain-requires-clause-chain g c =
    let n = c.count_for-needed.result in
    let w = c.spare.ensures.lists in
    let count = c.spare.ensures.count w.0 w.1 w.2 in
    let some : 1 ≤ n = omega (arith, c.requires.some, c.count_for-needed.ensures.most) in
    let t = took_chain n w.0 w.1 c.take_chain-head.result c.args.self.now c.take_chain-head.new.self some (omega (arith, count)) w.2 (c.take_chain-head.ensures w.0 w.1 w.2) in
    (drop n w.0, take n w.0, w.1, (c.take_chain-head.ensures w.0 w.1 w.2).holds, t.trail, subst (λ k. IsCount k (length c.args.bytes.now)) (sym t.len) c.count_for-needed.ensures)

pub give-requires : goal.give-requires
give-requires g c =
    let n = c.count_for-needed.result in
    let w = c.spare.ensures.lists in
    let count = c.spare.ensures.count w.0 w.1 w.2 in
    let some : 1 ≤ n = omega (arith, c.requires.some, c.count_for-needed.ensures.most) in
    let t = took_chain n w.0 w.1 c.take_chain-head.result c.args.self.now c.take_chain-head.new.self some (omega (arith, count)) w.2 (c.take_chain-head.ensures w.0 w.1 w.2) in
    (drop n w.0, t.behind, w.1, t.holds)

pub returns-then-is_err-clause-blocks : goal.returns-then-is_err-clause-blocks
returns-then-is_err-clause-blocks g c =
    let n = c.count_for-needed.result in
    let some : 1 ≤ n = omega (arith, c.requires.some, c.count_for-needed.ensures.most) in
    λ free chains holds.
    let enough : n ≤ length free = omega (arith, c.spare.ensures.count free chains holds) in
    let t = took_chain n free chains c.take_chain-head.result c.args.self.now c.take_chain-head.new.self some enough holds (c.take_chain-head.ensures free chains holds) in
    (n, c.count_for-needed.ensures, enough, given_back n free t.behind chains c.take_chain-head.result c.give.new.self t.is (c.give.ensures (drop n free) t.behind chains t.holds))

pub returns-then-is_err-clause-wrote : goal.returns-then-is_err-clause-wrote
returns-then-is_err-clause-wrote g c =
    let n = c.count_for-needed.result in
    let some : 1 ≤ n = omega (arith, c.requires.some, c.count_for-needed.ensures.most) in
    λ honest m is free chains holds le.
    let enough : n ≤ length free = omega (arith, c.spare.ensures.count free chains holds) in
    let t = took_chain n free chains c.take_chain-head.result c.args.self.now c.take_chain-head.new.self some enough holds (c.take_chain-head.ensures free chains holds) in
    let old = g.D.Disk.shown c.args.disk.now in
    let new = g.D.Disk.shown c.fill_chain.new.disk in
    let same : n ≡ m = count_unique n m (length c.args.bytes.now) c.count_for-needed.ensures is in
    let chain = take n free in
    let wrote = c.fill_chain.ensures.wrote honest (drop n free) chain chains (c.take_chain-head.ensures free chains holds).holds t.trail (subst (λ k. IsCount k (length c.args.bytes.now)) (sym t.len) c.count_for-needed.ensures) in
    subst (λ l. Wrote {T = ℕ} {E = ChainWriteFault} c.args.at m c.args.bytes.now l (Err fault.Disk) old new) (ap (λ k. take k free) same)
    (wrote_torn c.args.at (length chain) m c.args.bytes.now chain c.fill_chain.result fault.Disk old new wrote)

pub returns-clause-blocks : goal.returns-clause-blocks
returns-clause-blocks g c =
    let n = c.count_for-needed.result in
    let some : 1 ≤ n = omega (arith, c.requires.some, c.count_for-needed.ensures.most) in
    λ free chains holds.
    let enough : n ≤ length free = omega (arith, c.spare.ensures.count free chains holds) in
    (n, c.count_for-needed.ensures, enough, c.take_chain-head.ensures free chains holds)

pub returns-clause-wrote : goal.returns-clause-wrote
returns-clause-wrote g c =
    let n = c.count_for-needed.result in
    let some : 1 ≤ n = omega (arith, c.requires.some, c.count_for-needed.ensures.most) in
    λ honest m is free chains holds le.
    let enough : n ≤ length free = omega (arith, c.spare.ensures.count free chains holds) in
    let t = took_chain n free chains c.take_chain-head.result c.args.self.now c.take_chain-head.new.self some enough holds (c.take_chain-head.ensures free chains holds) in
    let old = g.D.Disk.shown c.args.disk.now in
    let new = g.D.Disk.shown c.fill_chain.new.disk in
    let same : n ≡ m = count_unique n m (length c.args.bytes.now) c.count_for-needed.ensures is in
    let chain = take n free in
    let wrote = c.fill_chain.ensures.wrote honest (drop n free) chain chains (c.take_chain-head.ensures free chains holds).holds t.trail (subst (λ k. IsCount k (length c.args.bytes.now)) (sym t.len) c.count_for-needed.ensures) in
    subst (λ l. Wrote {T = ℕ} {E = ChainWriteFault} c.args.at m c.args.bytes.now l (Ok c.take_chain-head.result) old new) (ap (λ k. take k free) same)
    (wrote_ok c.args.at (length chain) m c.args.bytes.now chain c.fill_chain.result c.take_chain-head.result old new (sym c.is_err.ensures.value ∙ c.if-is_err.false) (t.len ∙ same) wrote)
