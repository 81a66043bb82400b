use Rattle.std.proofs.Common.{◌≡◌, ◌++◌, take, sym, ap, ◌∙◌}
use Rattle.std.specs.List.{flat_map}
use Rattle.std.specs.Option.{option_map}
use Rattle.std.specs.FinMap.{entries}
use Rattle.std.proofs.lemmas.Result.{IfOk-weaker}
use Rattle.tree_model.specs.Fids.{name_cmp}
use Rattle.tree_model.proofs.Maps.{names_total, exact_names}
use Rattle.tree_model.proofs.Texts.{entries_again}
use Rattle.object_store.specs.Reads.{entry_bytes, found, names}
use Rattle.object_store.proofs.reading.names.Goals as goal

pub returns-clause-value : goal.returns-clause-value
returns-clause-value c =
    let same = sym (entries_again name_cmp names_total exact_names c.inner.result.now.entries c.put_names.ensures.ordered) ∙ ap entries (sym c.inner.ensures ∙ c.entries.ensures.value) in
    let text =
    c.deref.ensures.value ∙ c.in_ok-put_names.ensures.text ∙ ap (λ l. l ++ flat_map entry_bytes (take 33 c.inner.result.now.entries)) c.new-bytes.ensures.items
    ∙ ap (λ es. flat_map entry_bytes (take 33 es)) same in
    IfOk-weaker c.found.result (λ r. r ≡ found c.deref.result.now) _ (λ r h. h ∙ ap found text ∙ ap (λ o. names (option_map (λ x. x.now) o)) (sym c.in-Some.is)) c.found.ensures.value
