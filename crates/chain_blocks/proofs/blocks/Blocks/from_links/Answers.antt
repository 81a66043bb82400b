use Rattle.std.specs.Prelude.{length, ◌++◌, Some, None, Err}
use Rattle.std.proofs.Common.{◌≡◌, ◌∙◌, inr, ap, refl, sym, subst}
use Rattle.chain_blocks.specs.Chains.{joined, Holds}
use Rattle.chain_blocks.specs.Walk.{first_lost}
use Rattle.chain_blocks.specs.declared.blocks.ChainFault.{ChainFault}
use Rattle.chain_blocks.proofs.Marking.{judged_heads, judged_free, judged_lost, marks_zero, marks_one, holds_from}
use Rattle.chain_blocks.proofs.blocks.Blocks.from_links.Goals as goal

pub returns-in-Err : goal.returns-in-Err
returns-in-Err c = inr (judged_heads c.args.links.now c.args.heads.now c.args.free c.in-Err.fault c.in-Err.ensures.heads)

pub returns-in-Err-mark_chain : goal.returns-in-Err-mark_chain
returns-in-Err-mark_chain c =
    let headed = c.in-Ok-mark_heads.ensures.heads in
    inr (judged_free c.args.links.now c.args.heads.now c.args.free headed.chains headed.walked c.in-Err-mark_chain.fault (c.in-Err-mark_chain.ensures.chains (joined headed.chains) headed.marked))

pub returns-in-Err-find_lost : goal.returns-in-Err-find_lost
returns-in-Err-find_lost c =
    let headed = c.in-Ok-mark_heads.ensures.heads in
    let chained = c.in-Ok-mark_chain.ensures.chains (joined headed.chains) headed.marked in
    let marks = c.mark_chain.new.marks.items in
    let all = joined headed.chains ++ chained.here in
    let m = chained.marked in
    let lost = c.in-Err-find_lost.ensures all (marks_zero marks _ (joined headed.chains) chained.here m) (marks_one marks _ (joined headed.chains) chained.here m) in
    let count : length marks ≡ length c.args.links.now = c.mark_chain.ensures.len ∙ c.mark_heads.ensures.len ∙ c.in-Ok.ensures.len in
    inr (judged_lost c.args.links.now c.args.heads.now c.args.free headed.chains headed.walked chained.here (Some lost.0) chained.walked (ap (λ n. first_lost n 0 all) (sym count) ∙ lost.1)
    ∙ ap (λ (f : ChainFault). Err f) (sym lost.2))

pub invariant_of-result : goal.invariant_of-result
invariant_of-result c =
    let headed = c.in-Ok-mark_heads.ensures.heads in
    let chained = c.in-Ok-mark_chain.ensures.chains (joined headed.chains) headed.marked in
    let marks = c.mark_chain.new.marks.items in
    let m = chained.marked in
    let lost = c.in-Ok-find_lost.ensures (joined headed.chains ++ chained.here) (marks_zero marks _ (joined headed.chains) chained.here m) (marks_one marks _ (joined headed.chains) chained.here m) in
    let count : length marks ≡ length c.args.links.now = c.mark_chain.ensures.len ∙ c.mark_heads.ensures.len ∙ c.in-Ok.ensures.len in
    (chained.here, headed.chains, subst (λ l. Holds (record { links = l; free = c.args.free }) chained.here headed.chains) (sym c.in-Ok-from_slice.ensures.items) (holds_from c.args.links.now marks _ c.args.free headed.chains chained.here c.requires count m lost.1 headed.stand chained.trail), chained.counted)

pub returns-in-Ok-from_slice : goal.returns-in-Ok-from_slice
returns-in-Ok-from_slice c =
    let headed = c.in-Ok-mark_heads.ensures.heads in
    let chained = c.in-Ok-mark_chain.ensures.chains (joined headed.chains) headed.marked in
    let marks = c.mark_chain.new.marks.items in
    let all = joined headed.chains ++ chained.here in
    let m = chained.marked in
    let lost = c.in-Ok-find_lost.ensures all (marks_zero marks _ (joined headed.chains) chained.here m) (marks_one marks _ (joined headed.chains) chained.here m) in
    let count : length marks ≡ length c.args.links.now = c.mark_chain.ensures.len ∙ c.mark_heads.ensures.len ∙ c.in-Ok.ensures.len in
    record {
      links_are = c.in-Ok-from_slice.ensures.items;
      free_is = refl;
      found = record { free = chained.here; chains = headed.chains };
      judged_so = judged_lost c.args.links.now c.args.heads.now c.args.free headed.chains headed.walked chained.here None chained.walked (ap (λ n. first_lost n 0 all) (sym count) ∙ lost.0);
      holds = subst (λ l. Holds (record { links = l; free = c.args.free }) chained.here headed.chains) (sym c.in-Ok-from_slice.ensures.items) (holds_from c.args.links.now marks _ c.args.free headed.chains chained.here c.requires count m lost.1 headed.stand chained.trail);
    }
