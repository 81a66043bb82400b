use Rattle.std.specs.Prelude.{IsTrue}
use Rattle.std.proofs.Common.{◌≡◌, ◌≤◌, ℕ, List, ◌∷◌, length, drop, false}
use Rattle.outside.specs.Disk.{Stays}
use Rattle.chain_blocks.specs.Chains.{Holds, IsTrail}
use Rattle.chain_blocks.specs.Stored.{IsCount}
use Rattle.chain_blocks.proofs.Filling.{Filling}
use Rattle.chain_blocks.proofs.blocks.Blocks.fill_chain.Given as goal

abbrev pub invariant-loop-i : goal.invariant-loop-i
invariant-loop-i g l =
    let old = g.D.Disk.shown l.fn.disk in
    let new = g.D.Disk.shown l.disk in record {
      stays : Stays old new;
      later : old.faults ≤ new.faults;
      works : IsTrue old.honest → 1 ≤ l.i → new.failed ≡ false;
      stopped : IsTrue old.honest → IsTrue old.failed → IsTrue new.failed;
      trail : (chain : List ℕ) → IsTrail l.self.links l.head chain → IsTrail l.self.links l.block (drop l.i chain);
      filled : IsTrue old.honest → (free chain : List ℕ) → (chains : List (List ℕ)) → Holds l.self free (chain ∷ chains) → IsTrail l.self.links l.head chain → IsCount (length chain) (length l.bytes) → Filling l.at l.i l.bytes chain old new;
    }
