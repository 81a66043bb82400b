use Rattle.std.proofs.Common.{◌≡◌, take, List, ℕ}
use Rattle.std.specs.List.{flat_map}
use Rattle.byte_grammar.specs.declared.verdict.Verdict.TheVariants.{More}
use Rattle.out_update.specs.Decoding.{judge_request}
use Rattle.out_update.proofs.pieces.read_pieces.Given as goal

abbrev pub invariant-loop-piece : goal.invariant-loop-piece
invariant-loop-piece l = record {
  fed : l.decoder ≡ flat_map (λ (p : List ℕ). p) (take l.piece-index l.pieces);
  unsettled : judge_request l.decoder ≡ More;
}
