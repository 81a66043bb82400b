use Rattle.std.proofs.Common.{sym, ap, ◌∙◌}
use Rattle.std.specs.Option.{option_copied}
use Rattle.std.specs.FinMap.{get, get-empty}
use Rattle.fid_space.specs.declared.fid.Fid.{Fid}
use Rattle.tree_model.specs.Tree.{Grown, Names, named, name_cmp}
use Rattle.tree_model.proofs.Changes.{names_there, names_absent}
use Rattle.tree_model.proofs.plain_tree.PlainTree.named.Goals as goal

pub returns-in-Some : goal.returns-in-Some
returns-in-Some c =
    let is = sym c.get.ensures.value ∙ ap (λ o. option_copied o) c.in-Some.is in
    c.get-in-Some.ensures ∙ ap (λ (m : Names). get m c.args.name.now) (sym (names_there c.self.inside.directories.entries c.self.inside.nodes.entries c.args.directory c.in-Some.entries.now is))
    ∙ ap (λ (g : Grown). named g.tree c.args.directory c.args.name.now) c.self.view_is

pub returns-in-None : goal.returns-in-None
returns-in-None c =
    let is = sym c.get.ensures.value ∙ ap (λ o. option_copied o) c.in-None.is in
    sym (ap (λ (m : Names). get m c.args.name.now) (names_absent c.self.inside.directories.entries c.self.inside.nodes.entries c.args.directory is) ∙ get-empty {X = Fid} name_cmp c.args.name.now)
    ∙ ap (λ (g : Grown). named g.tree c.args.directory c.args.name.now) c.self.view_is
