use Rattle.std.proofs.Common.{refl}
use Rattle.tree_model.specs.Keys.{laid_base}
use Rattle.tree_model.proofs.Agreement.{agree, all_clean}
use Rattle.tree_model.proofs.laws.a_closed_part_agrees.Goals as goal

pub returns : goal.returns
returns c = record {
  agrees = λ targets history part legal closed. agree targets part history laid_base laid_base (λ k. Unit {0}) (λ k _. refl) (all_clean targets laid_base part history) closed legal;
}
