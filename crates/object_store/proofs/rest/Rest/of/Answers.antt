use Rattle.std.proofs.Common.{◌++◌, drop, refl, sym, ap, ◌∙◌}
use Rattle.std.specs.Int.{w32}
use Rattle.std.specs.FinMap.{entries}
use Rattle.byte_grammar.specs.Numbers.{word}
use Rattle.tree_model.specs.Fids.{fid_cmp}
use Rattle.tree_model.proofs.Maps.{fids_total, exact_fids}
use Rattle.tree_model.proofs.Texts.{entries_again}
use Rattle.object_store.specs.Objects.{ObjectMap}
use Rattle.object_store.specs.Pieces.{left_text}
use Rattle.object_store.proofs.Spelled.{image_joined}
use Rattle.object_store.proofs.rest.Rest.of.Goals as goal

pub returns-clause-text : goal.returns-clause-text
unfolding left_text
returns-clause-text c =
    let all = ap (λ (m : ObjectMap). entries m) c.inner.ensures ∙ entries_again fid_cmp fids_total exact_fids c.inner.result.now.entries c.iter.ensures.ordered ∙ sym c.iter.ensures.rest in
    ap (drop c.args.at) (image_joined (word w32 c.count.result ++ word w32 0) c.args.objects.now c.count.result c.iter.result refl c.count.ensures all)
