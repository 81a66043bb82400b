-- What was there before a front of a text was added, once it is cut off again.
use Rattle.std.proofs.Common.{◌≡◌, ℕ, List, length, take, ap, ◌∙◌}
use Rattle.std.proofs.Math.Seq.{take-append_seam}
use Rattle.fid_space.specs.Fronts.{IsFront}

pub restored : (old new text now : List ℕ) (n : ℕ) → n ≡ length old → IsFront old new text → now ≡ take n new → now ≡ old
restored old new text now n size front cut =
    cut ∙ ap (λ k. take k new) size ∙ ap (λ (l : List ℕ). take (length old) l) front.2 ∙ take-append_seam old front.0
