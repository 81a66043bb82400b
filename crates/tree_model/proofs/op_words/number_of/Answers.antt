use Rattle.std.proofs.Common.{◌≡◌, ◌<◌, ◌^◌, ◌∙◌, sym, arith}
use Rattle.std.specs.Fmt.{decimal}
use Rattle.std.proofs.lemmas.Fmt.{decimal_injective}
use Rattle.tree_model.proofs.Spellings.{at_some}
use Rattle.tree_model.proofs.op_words.number_of.Goals as goal

pub returns-then-n-most-clause-fault : goal.returns-then-n-most-clause-fault
returns-then-n-most-clause-fault c = λ targets m low e.
    let read = at_some (λ n. (n < 2 ^ 32) × (c.args.word.now ≡ decimal n)) c.in-Ok-Some.field-0 c.in-Ok-Some.n c.in-Ok-Some.field-0-is c.in-Ok-Some.ensures.some in
    let above = c.if-n-most.true in
    let same : c.in-Ok-Some.n ≡ m = decimal_injective c.in-Ok-Some.n m (omega (arith, read.0)) (omega (arith, read.0, above, low)) (sym read.1 ∙ e) in
    absurd (omega (arith, same, above, low))
