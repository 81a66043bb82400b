use Rattle.std.proofs.Common.{refl, sym, ap, subst, IsSome, ◌∙◌}
use Rattle.std.specs.Option.{option_copied_mut}
use Rattle.std.specs.FinMap.{from_entries, insert, empty}
use Rattle.tree_model.specs.Tree.{Grown, Names, fid_cmp, made}
use Rattle.tree_model.specs.Changes.{PutName}
use Rattle.tree_model.proofs.Maps.{put, fids_total, exact_fids}
use Rattle.tree_model.proofs.Changes.{grown, change_of, name_put, names_there, names_absent}
use Rattle.tree_model.proofs.plain_tree.PlainTree.put_name.Goals as goal

pub returns-in-Some-clause-ok : goal.returns-in-Some-clause-ok
returns-in-Some-clause-ok c =
    let nodes = c.self.inside.nodes.entries in
    let places = c.self.inside.directories.entries in
    let is = sym c.get_mut.ensures.value ∙ ap (λ o. option_copied_mut o) c.in-Some.is in
    let some = subst (λ o. IsSome o) (sym is) refl in
    let more = (c.get_mut.follows.lender c.insert.new.self).entries in
    let e = put fid_cmp fids_total exact_fids places more c.args.directory c.insert.new.self ((c.get_mut.follows.holds c.insert.new.self).3 some).0
    ∙ ap (λ (k : Names). insert (from_entries places) c.args.directory k) c.in_ok-insert.ensures.ok in
    name_put c.self.inside.cluster (made nodes places) (from_entries more) c.args.directory c.args.name c.args.fid c.in-Some.entries.now (names_there places nodes c.args.directory c.in-Some.entries.now is) e
    ∙ ap (λ (g : Grown). change_of g (PutName c.args.directory c.args.name c.args.fid)) c.self.view_is

pub returns-clause-ok : goal.returns-clause-ok
returns-clause-ok c =
    let nodes = c.self.inside.nodes.entries in
    let places = c.self.inside.directories.entries in
    let is = sym c.get_mut.ensures.value ∙ ap (λ o. option_copied_mut o) c.in_default.is in
    let first : Grown → Grown = λ g. record { targets = g.targets; tree = record { nodes = g.tree.nodes; entries = insert g.tree.entries c.args.directory (insert empty c.args.name c.args.fid) } } in
    c.in_ok-first_name.ensures.ok
    ∙ ap (λ m. first (grown c.self.inside.cluster nodes m.entries)) c.get_mut.follows.holds-at-none
    ∙ name_put c.self.inside.cluster (made nodes places) (insert (from_entries places) c.args.directory (insert empty c.args.name c.args.fid)) c.args.directory c.args.name c.args.fid empty (names_absent places nodes c.args.directory is) refl
    ∙ ap (λ (g : Grown). change_of g (PutName c.args.directory c.args.name c.args.fid)) c.self.view_is
