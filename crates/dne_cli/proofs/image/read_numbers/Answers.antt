use Rattle.std.proofs.Common.{◌≡◌, List, ℕ, Result, Ok, IfOk, IfErr, length, drop, sym, ap, ◌∙◌, subst}
use Rattle.std.proofs.lemmas.List.{take_rest}
use Rattle.dne_cli.specs.Image.{image_magic, number_at, numbers_from}
use Rattle.dne_cli.specs.Restart.{BadAt}
use Rattle.dne_cli.proofs.Reading.{number_front, number_part, in_short, in_other, in_head, in_items}
use Rattle.dne_cli.proofs.image.read_numbers.Goals as goal

pub returns-then-image-lt4-clause-bad : goal.returns-then-image-lt4-clause-bad
returns-then-image-lt4-clause-bad c = in_short c.args.image.now c.if-image-lt4.true

pub returns-then-read_u32-ne-MAGIC-clause-bad : goal.returns-then-read_u32-ne-MAGIC-clause-bad
returns-then-read_u32-ne-MAGIC-clause-bad c =
    let image = c.args.image.now in
    in_other image c.if-image-lt4.false (λ (is : number_at 0 image ≡ image_magic). c.if-read_u32-ne-MAGIC.true (c.read_u32.ensures ∙ number_front image ∙ is))

pub returns-then-image-lt-HEAD_LEN-clause-bad : goal.returns-then-image-lt-HEAD_LEN-clause-bad
returns-then-image-lt-HEAD_LEN-clause-bad c =
    let image = c.args.image.now in
    in_head image c.if-image-lt4.false (sym (number_front image) ∙ sym c.read_u32.ensures ∙ c.if-read_u32-ne-MAGIC.false) c.if-image-lt-HEAD_LEN.true

pub returns-clause-ok : goal.returns-clause-ok
returns-clause-ok c =
    let image = c.args.image.now in
    let whole =
    in_items image c.if-image-lt-HEAD_LEN.false (sym (number_front image) ∙ sym c.read_u32.ensures ∙ c.if-read_u32-ne-MAGIC.false)
    ∙ ap (λ (n : ℕ). numbers_from (length image) n (drop 8 image)) (sym (c.read_u32-count.ensures ∙ number_part 4 image))
    ∙ ap (numbers_from (length image) c.read_u32-count.result) (sym (take_rest image 8)) in
    subst (λ (r : Result (List ℕ) ℕ). IfOk c.read_items.result (λ ns. r ≡ Ok ns)) (sym whole) c.read_items.ensures.ok

pub returns-clause-bad : goal.returns-clause-bad
returns-clause-bad c =
    let image = c.args.image.now in
    let whole =
    in_items image c.if-image-lt-HEAD_LEN.false (sym (number_front image) ∙ sym c.read_u32.ensures ∙ c.if-read_u32-ne-MAGIC.false)
    ∙ ap (λ (n : ℕ). numbers_from (length image) n (drop 8 image)) (sym (c.read_u32-count.ensures ∙ number_part 4 image))
    ∙ ap (numbers_from (length image) c.read_u32-count.result) (sym (take_rest image 8)) in
    subst (λ (r : Result (List ℕ) ℕ). IfErr c.read_items.result (λ e. BadAt e r)) (sym whole) c.read_items.ensures.bad
