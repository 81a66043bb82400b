use Rattle.std.specs.Prelude.{◌<◌, ◌+◌, ◌∷◌, length}
use Rattle.std.proofs.Common.{◌≡◌, ◌∙◌, sym, subst, arith}
use Rattle.std.proofs.lemmas.List.{get_or_read}
use Rattle.chain_blocks.specs.Chains.{last_link}
use Rattle.chain_blocks.proofs.Trails.{Reaches, last_next, last_end}
use Rattle.chain_blocks.proofs.blocks.last_of.Goals as goal

pub overflow_add-count : goal.overflow_add-count
overflow_add-count c =
    let xs = c.args.links.now.items in
    let read = get_or_read xs c.loop-last.last c.index.result.now c.loop-last.invariant.inside c.index.ensures last_link in
    let next = last_next xs c.args.head c.loop-last.last c.index.result.now c.loop-last.count c.requires.chain c.loop-last.invariant.reaches c.loop-last-test.true read in
    let bound = next.1 in let few = c.requires.few in omega arith

pub loop-last-smaller : goal.loop-last-smaller
loop-last-smaller c =
    let xs = c.args.links.now.items in
    let read = get_or_read xs c.loop-last.last c.index.result.now c.loop-last.invariant.inside c.index.ensures last_link in
    let next = last_next xs c.args.head c.loop-last.last c.index.result.now c.loop-last.count c.requires.chain c.loop-last.invariant.reaches c.loop-last-test.true read in
    let bound = next.1 in omega arith

pub loop-last-preserved : goal.loop-last-preserved
loop-last-preserved c =
    let xs = c.args.links.now.items in
    let read = get_or_read xs c.loop-last.last c.index.result.now c.loop-last.invariant.inside c.index.ensures last_link in
    let again = get_or_read xs c.loop-last.last c.index-last.result.now c.loop-last.invariant.inside c.index-last.ensures last_link in
    let same : c.index-last.result.now ≡ c.index.result.now = again ∙ sym read in
    let next = last_next xs c.args.head c.loop-last.last c.index.result.now c.loop-last.count c.requires.chain c.loop-last.invariant.reaches c.loop-last-test.true read in
    record {
      inside = subst (λ j. j < length xs) (sym same) next.0;
      bound = next.1;
      reaches = λ behind is. subst (λ j. Reaches xs (c.args.head ∷ behind) j (c.loop-last.count + 1)) (sym same) (next.2 behind is);
    }

pub returns : goal.returns
returns c =
    let xs = c.args.links.now.items in
    let read = get_or_read xs c.loop-last.last c.index.result.now c.loop-last.invariant.inside c.index.ensures last_link in
    last_end xs c.args.head c.loop-last.last c.index.result.now c.loop-last.count c.requires.few c.loop-last.invariant.reaches c.loop-last-test.false read
