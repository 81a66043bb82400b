use Rattle.std.proofs.Common.{◌≡◌, drop}
use Rattle.tree_model.specs.Striped.{hash_from}
use Rattle.striped_dir.proofs.hash.fnv1a_64.Given as goal

abbrev pub invariant-loop-b : goal.invariant-loop-b
invariant-loop-b l = hash_from l.hash (drop l.b-index l.bytes) ≡ hash_from 0xcbf29ce484222325 l.bytes
