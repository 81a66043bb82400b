use Rattle.std.proofs.Common.{◌≡◌, ◌∙◌, ℕ, drop, ap, arith}
use Rattle.target_disk.specs.Tables.{block_count, words}
use Rattle.target_disk.proofs.RoundTrip.{words_more}
use Rattle.target_disk.proofs.table.links_in.Goals as goal

-- src/table.rt:106:5
pub loop-block-init : goal.loop-block-init
loop-block-init c = c.in_ok-links.ensures.items

-- src/table.rt:106:5
pub loop-block-preserved : goal.loop-block-preserved
loop-block-preserved c = words_more c.loop-block.links.items c.push.new.self.items c.args.table.now.items c.loop-block.block c.word_at.result c.loop-block.invariant c.word_at.ensures c.in_ok-push.ensures.items

-- src/table.rt:101:1
pub returns : goal.returns
returns c =
    let all : c.loop-block.block ≡ block_count = omega (arith, c.loop-block-test.false, c.loop-block.auto.block-end) in
    c.loop-block.invariant ∙ ap (λ (n : ℕ). words n (drop 32 c.args.table.now.items)) all
