use Rattle.std.proofs.Common.{refl, sym, ap, ◌∙◌}
use Rattle.std.specs.FinMap.{get, len, remove}
use Rattle.tree_model.specs.Tree.{Grown, names_of}
use Rattle.tree_model.proofs.Changes.{none_left, some_left}
use Rattle.tree_model.proofs.plain_tree.PlainTree.drop_name.Goals as goal

pub returns-then-entry_count-eq0 : goal.returns-then-entry_count-eq0
returns-then-entry_count-eq0 c =
    let t = c.args.self.now.tree in
    let d = c.args.directory in
    let none = ap (λ (g : Grown). len (names_of g.tree d)) (sym c.take_name.ensures) ∙ sym c.entry_count.ensures ∙ c.if-entry_count-eq0.true in
    c.forget.ensures ∙ ap (λ (g : Grown). record { targets = g.targets; tree = record { nodes = g.tree.nodes; entries = remove g.tree.entries d } }) c.take_name.ensures
    ∙ ap (λ es. record { targets = c.args.self.now.targets; tree = record { nodes = t.nodes; entries = es } }) (none_left t d c.args.name.now (get t.entries d) refl none)

pub returns-else-entry_count-eq0 : goal.returns-else-entry_count-eq0
returns-else-entry_count-eq0 c =
    let t = c.args.self.now.tree in
    let d = c.args.directory in
    c.take_name.ensures
    ∙ ap (λ es. record { targets = c.args.self.now.targets; tree = record { nodes = t.nodes; entries = es } })
    (some_left t d c.args.name.now (get t.entries d) refl (λ none. c.if-entry_count-eq0.false (c.entry_count.ensures ∙ ap (λ (g : Grown). len (names_of g.tree d)) c.take_name.ensures ∙ none)))
