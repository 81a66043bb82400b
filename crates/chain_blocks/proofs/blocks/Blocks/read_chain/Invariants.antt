use Rattle.std.specs.Prelude.{IsTrue}
use Rattle.std.proofs.Common.{◌≡◌, ◌<◌, ◌+◌, ◌-◌, ◌*◌, ℕ, List, ◌∷◌, length, false}
use Rattle.chain_blocks.specs.Chains.{IsTrail, block_len}
use Rattle.chain_blocks.specs.Stored.{ReadsOnly}
use Rattle.chain_blocks.proofs.Reading.{Reading}
use Rattle.chain_blocks.proofs.blocks.Blocks.read_chain.Given as goal

abbrev pub invariant-loop-block : goal.invariant-loop-block
invariant-loop-block g l =
    let old = g.D.Disk.shown l.fn.disk in
    let new = g.D.Disk.shown l.disk in record {
      reads : ReadsOnly old new;
      flag : IsTrue old.honest → new.failed ≡ old.failed;
      works : IsTrue old.honest → length l.fn.out < length l.out → old.failed ≡ false;
      reading : (behind : List ℕ) → IsTrail l.self.links l.head (l.head ∷ behind) → Reading l.self.links (l.head ∷ behind) l.at l.block (IsTrue old.tells) old.content l.fn.out l.out;
    }

abbrev pub decreases-loop-block : goal.decreases-loop-block
decreases-loop-block g l = block_len * length l.self.links + length l.fn.out - length l.out
