use Rattle.std.specs.Prelude.{◌++◌, length, replicate}
use Rattle.std.proofs.Common.{ap, drop, ◌∙◌}
use Rattle.chain_blocks.proofs.Blank.{drop-replicate}
use Rattle.chain_blocks.proofs.chain.padded.Goals as goal

pub returns : goal.returns
returns c =
    ap (λ l. l ++ drop (length c.args.bytes.now) (replicate 4096 0)) c.copy_from_slice.ensures.after
    ∙ ap (λ l. c.args.bytes.now ++ l) (drop-replicate 4096 0 (length c.args.bytes.now))
