use Rattle.std.specs.Prelude.{IsTrue, ◌<◌, ◌∷◌}
use Rattle.std.proofs.Common.{◌≡◌, ◌∙◌, ◌+◌, ◌*◌, ◌-◌, length, take, drop, min, refl, ap, sym, subst, arith}
use Rattle.outside.specs.Disk.{Writes, put}
use Rattle.chain_blocks.specs.Chains.{IsTrail, block_len, joined}
use Rattle.chain_blocks.specs.Stored.{filled}
use Rattle.chain_blocks.proofs.Found.{at_most_once}
use Rattle.chain_blocks.proofs.Filling.{count_unique, filling_none, filling_next, filling_torn, filling_all, trail_at, piece_is, piece_fits}
use Rattle.chain_blocks.proofs.Counting.{times-append}
use Rattle.chain_blocks.proofs.Trails.{trail_unique}
use Rattle.std.proofs.lemmas.Bool.{false≢true}
use Rattle.chain_blocks.proofs.blocks.Blocks.fill_chain.Goals as goal

pub loop-i-init : goal.loop-i-init
loop-i-init g c = record {
  stays = record { tells = refl; honest = refl; name = refl };
  later = omega arith;
  works = λ honest one. absurd (omega arith);
  stopped = λ honest failed. failed;
  trail = λ chain trail. trail;
  filled = λ honest free chain chains holds trail count. filling_none c.args.at c.args.bytes.now chain (g.D.Disk.shown c.args.disk.now);
}

pub place_of-requires : goal.place_of-requires
place_of-requires g c =
    let w = c.requires.chain in
    let count : c.count_for-i-end.result ≡ length w.1 = count_unique c.count_for-i-end.result (length w.1) (length c.args.bytes.now) c.count_for-i-end.ensures w.5 in
    let lt : c.loop-i.i < length w.1 = omega arith in
    let at = trail_at c.args.self.now.links w.1 c.loop-i.i c.loop-i.block lt (c.loop-i.invariant.trail w.1 w.4) in
    omega (arith, at.1, c.requires.within)

pub write_block-requires-clause-within : goal.write_block-requires-clause-within
write_block-requires-clause-within g c =
    let w = c.requires.chain in
    let count : c.count_for-i-end.result ≡ length w.1 = count_unique c.count_for-i-end.result (length w.1) (length c.args.bytes.now) c.count_for-i-end.ensures w.5 in
    let lt : c.loop-i.i < length w.1 = omega arith in
    let at = trail_at c.args.self.now.links w.1 c.loop-i.i c.loop-i.block lt (c.loop-i.invariant.trail w.1 w.4) in
    omega (arith, at.1, c.requires.within, c.place_of.ensures)

pub returns-in_err-write_block-clause-wrote : goal.returns-in_err-write_block-clause-wrote
returns-in_err-write_block-clause-wrote g c =
    let old = g.D.Disk.shown c.args.disk.now in
    let mid = g.D.Disk.shown c.loop-i.disk in
    let new = g.D.Disk.shown c.write_block.new.disk in
    let bytes = c.args.bytes.now in
    let i = c.loop-i.i in
    let k = 4096 * i + c.min-n.result - 4096 * i in
    let k_is : k ≡ min block_len (length bytes - block_len * i) = omega arith in
    λ honest free chain chains holds trail count.
    let same : c.count_for-i-end.result ≡ length chain = count_unique c.count_for-i-end.result (length chain) (length bytes) c.count_for-i-end.ensures count in
    let lt : i < length chain = omega arith in
    let at = trail_at c.args.self.now.links chain i c.loop-i.block lt (c.loop-i.invariant.trail chain trail) in
    let piece = take k (drop (4096 * i) bytes) in
    let writes = subst (λ p. Writes p (filled 1 piece) c.write_block.result mid new) c.place_of.ensures (c.write_block.ensures.writes (subst IsTrue (sym c.loop-i.invariant.stays.honest) honest)) in
    filling_torn c.args.at i c.loop-i.block bytes chain piece c.write_block.result c.from_residual.result old mid new c.from_residual.ensures.0 lt at.0 (piece_fits i k bytes k_is) writes (c.loop-i.invariant.filled honest free chain chains holds trail count)

pub next-block-requires : goal.next-block-requires
next-block-requires g c =
    let w = c.requires.chain in
    let count : c.count_for-i-end.result ≡ length w.1 = count_unique c.count_for-i-end.result (length w.1) (length c.args.bytes.now) c.count_for-i-end.ensures w.5 in
    let lt : c.loop-i.i < length w.1 = omega arith in
    (trail_at c.args.self.now.links w.1 c.loop-i.i c.loop-i.block lt (c.loop-i.invariant.trail w.1 w.4)).1

pub loop-i-preserved : goal.loop-i-preserved
loop-i-preserved g c =
    let old = g.D.Disk.shown c.args.disk.now in
    let mid = g.D.Disk.shown c.loop-i.disk in
    let new = g.D.Disk.shown c.write_block.new.disk in
    let bytes = c.args.bytes.now in
    let i = c.loop-i.i in
    let k = 4096 * i + c.min-n.result - 4096 * i in
    let k_is : k ≡ min block_len (length bytes - block_len * i) = omega arith in
    let stays = c.loop-i.invariant.stays in
    let ok = c.in_ok-write_block.ensures in
    let w = c.requires.chain in record {
      stays = record { tells = ok.stays.tells ∙ stays.tells; honest = ok.stays.honest ∙ stays.honest; name = ok.stays.name ∙ stays.name };
      later = omega (arith, c.loop-i.invariant.later, ok.cause.later);
      works = λ honest one. ok.flag (subst IsTrue (sym stays.honest) honest);
      stopped = λ honest failed. absurd (false≢true (ok.stopped (subst IsTrue (sym stays.honest) honest) (c.loop-i.invariant.stopped honest failed)));
      trail = λ chain trail.
          let one = trail_unique c.args.self.now.links c.args.head w.1 chain w.3.few w.4 trail in
          let same : c.count_for-i-end.result ≡ length chain = count_unique c.count_for-i-end.result (length w.1) (length bytes) c.count_for-i-end.ensures w.5 ∙ ap length one in
          let lt : i < length chain = omega arith in
          let at = trail_at c.args.self.now.links chain i c.loop-i.block lt (c.loop-i.invariant.trail chain trail) in
          subst (λ b. IsTrail c.args.self.now.links b (drop (i + 1) chain)) (sym c.next-block.ensures) at.2;
      filled = λ honest free chain chains holds trail count.
          let same : c.count_for-i-end.result ≡ length chain = count_unique c.count_for-i-end.result (length chain) (length bytes) c.count_for-i-end.ensures count in
          let lt : i < length chain = omega arith in
          let at = trail_at c.args.self.now.links chain i c.loop-i.block lt (c.loop-i.invariant.trail chain trail) in
          let piece = take k (drop (4096 * i) bytes) in
          let still = subst IsTrue (sym stays.honest) honest in
          let writes = subst (λ p. Writes p (filled 1 piece) c.write_block.result mid new) c.place_of.ensures (c.write_block.ensures.writes still) in
          let size = (g.D.Disk.whole c.loop-i.disk).size still in
          filling_next c.args.at i c.loop-i.block bytes chain piece c.write_block.result old mid new lt at.0
          (λ b. omega (arith, at_most_once c.args.self.now free (chain ∷ chains) holds b, times-append b chain (joined chains)))
          (omega (arith, count.least)) (piece_is i k bytes k_is) (piece_fits i k bytes k_is) (omega (arith, at.1, c.requires.within, size)) writes ((ok.writes still).written ∙ ap (λ p. put mid.content p (filled 1 piece)) c.place_of.ensures) (c.loop-i.invariant.filled honest free chain chains holds trail count);
    }

pub returns-clause-wrote : goal.returns-clause-wrote
returns-clause-wrote g c = λ honest free chain chains holds trail count.
    let same : c.count_for-i-end.result ≡ length chain = count_unique c.count_for-i-end.result (length chain) (length c.args.bytes.now) c.count_for-i-end.ensures count in
    filling_all c.args.at c.loop-i.i c.args.bytes.now chain tt (g.D.Disk.shown c.args.disk.now) (g.D.Disk.shown c.loop-i.disk) (omega arith) count (c.loop-i.invariant.filled honest free chain chains holds trail count)
