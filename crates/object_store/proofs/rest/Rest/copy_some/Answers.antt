use Rattle.std.proofs.Common.{◌≡◌, ◌≤◌, ◌++◌, ℕ, List, length, take, drop, sym, ap, subst, ◌∙◌, arith, length-drop, drop-drop}
use Rattle.object_store.specs.Pieces.{part_text, behind_text, left_text}
use Rattle.object_store.proofs.Laid.{laid_some}
use Rattle.object_store.proofs.rest.Rest.copy_some.Goals as goal

pub overflow_add-self : goal.overflow_add-self
overflow_add-self c =
    let count = c.copy-count.ensures.count in
    let left = length-drop c.settle.new.self.skip (part_text c.settle.new.self.part) in
    let size = c.size-size.ensures.value in
    let small = c.size-size.ensures.small in
    omega (arith, count, left, size, small)

pub returns-clause-there : goal.returns-clause-there
unfolding left_text
returns-clause-there c =
    let some = laid_some (part_text c.settle.new.self.part) (behind_text c.settle.new.self) c.args.into.now c.copy-count.new.into c.settle.new.self.skip c.copy-count.result c.copy-count.ensures in
    subst (λ (t : List ℕ). c.copy-count.result ≤ length t) c.settle.ensures.text some.1

pub returns-clause-bytes : goal.returns-clause-bytes
unfolding left_text
returns-clause-bytes c =
    let some = laid_some (part_text c.settle.new.self.part) (behind_text c.settle.new.self) c.args.into.now c.copy-count.new.into c.settle.new.self.skip c.copy-count.result c.copy-count.ensures in
    subst (λ (t : List ℕ). c.copy-count.new.into ≡ take c.copy-count.result t ++ drop c.copy-count.result c.args.into.now) c.settle.ensures.text some.2

pub returns-clause-left : goal.returns-clause-left
unfolding left_text
returns-clause-left c =
    sym (drop-drop c.copy-count.result c.settle.new.self.skip (part_text c.settle.new.self.part ++ behind_text c.settle.new.self)) ∙ ap (drop c.copy-count.result) c.settle.ensures.text
