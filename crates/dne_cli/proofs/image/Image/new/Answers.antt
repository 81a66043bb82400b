use Rattle.std.proofs.Common.{◌≡◌, ◌++◌, List, ℕ, ap, ◌∙◌}
use Rattle.dne_cli.specs.Image.{image_magic, word32}
use Rattle.dne_cli.proofs.Images.{head_alone}
use Rattle.dne_cli.proofs.image.Image.new.Goals as goal

pub invariant_of-result : goal.invariant_of-result
invariant_of-result c =
    let first : c.put32.new.out ≡ word32 image_magic = c.in_ok-put32.ensures.bytes ∙ ap (λ (l : List ℕ). l ++ word32 image_magic) c.new-head.ensures in
    let both : c.put32-2.new.out ≡ word32 image_magic ++ word32 0 = c.in_ok-put32-2.ensures.bytes ∙ ap (λ (l : List ℕ). l ++ word32 0) first in
    head_alone c.in_ok-bytes.bytes.items (c.in_ok-bytes.ensures.items ∙ c.bytes.ensures ∙ both)
