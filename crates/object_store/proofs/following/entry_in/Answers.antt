use Rattle.std.proofs.Common.{[], ◌∷◌, List, ℕ, Option, sym, ap, ◌∙◌}
use Rattle.std.specs.Option.{option_map}
use Rattle.std.specs.FinMap.{entries}
use Rattle.std.specs.Map.Iter.{deref_pair}
use Rattle.std.proofs.lemmas.Map.Iter.{rest_more, rest_all}
use Rattle.tree_model.specs.Fids.{name_cmp}
use Rattle.tree_model.proofs.Maps.{names_total, exact_names}
use Rattle.tree_model.proofs.Texts.{entries_again}
use Rattle.object_store.specs.Following.{Entry, behind, first_of, directory_of}
use Rattle.object_store.proofs.following.entry_in.Goals as goal

pub returns-in-Some : goal.returns-in-Some
returns-in-Some c =
    let same = sym (entries_again name_cmp names_total exact_names c.inner.result.now.entries c.names_behind-names.ensures.ordered) ∙ ap entries (sym c.inner.ensures ∙ c.entries.ensures.value) in
    let after : Option (List ℕ) = option_map (λ n. n.now) c.args.after in
    let list = c.names_behind-names.ensures.list ∙ ap (λ es. behind name_cmp after es) same in
    let more = rest_more deref_pair c.names_behind-names.result c.next.new.self c.next.result (c.in-Some.name, c.in-Some.child) c.in-Some.is c.next.ensures.steps in
    ap (λ d. option_map {U = Entry} (λ e. (c.args.fid, d, e.0, e.1)) (first_of ((c.in-Some.name.now, c.in-Some.child.now) ∷ []))) (c.directory_of.ensures ∙ ap (directory_of c.args.fid) c.body.ensures.value)
    ∙ ap (λ l. option_map {U = Entry} (λ e. (c.args.fid, directory_of c.args.fid c.args.object.now.body, e.0, e.1)) (first_of l)) (sym more ∙ list)

pub returns-in-None : goal.returns-in-None
returns-in-None c =
    let same = sym (entries_again name_cmp names_total exact_names c.inner.result.now.entries c.names_behind-names.ensures.ordered) ∙ ap entries (sym c.inner.ensures ∙ c.entries.ensures.value) in
    let after : Option (List ℕ) = option_map (λ n. n.now) c.args.after in
    let list = c.names_behind-names.ensures.list ∙ ap (λ es. behind name_cmp after es) same in
    let all = rest_all deref_pair c.names_behind-names.result c.next.new.self c.next.result c.in-None.is c.next.ensures.steps in
    ap (λ l. option_map {U = Entry} (λ e. (c.args.fid, directory_of c.args.fid c.args.object.now.body, e.0, e.1)) (first_of l)) (sym all ∙ list)
