use Rattle.std.proofs.Common.{refl, sym, ap, subst, IsSome, ◌∙◌}
use Rattle.std.specs.Option.{option_copied_mut}
use Rattle.std.specs.FinMap.{from_entries, get, insert}
use Rattle.tree_model.specs.Tree.{Grown, Names, fid_cmp, made}
use Rattle.tree_model.specs.Changes.{taken_name}
use Rattle.tree_model.specs.contracts.plain_tree.PlainTree.{the_view}
use Rattle.tree_model.proofs.Maps.{got, put, fids_total, exact_fids}
use Rattle.tree_model.proofs.Changes.{grown}
use Rattle.tree_model.proofs.plain_tree.PlainTree.take_name.Goals as goal
use Rattle.tree_model.proofs.plain_tree.PlainTree.take_name.Goals.{in-Some, in_default}

pub returns : goal.returns
returns c =
    let nodes = c.self.inside.nodes.entries in
    let places = c.self.inside.directories.entries in
    let d = c.args.directory in
    let x = c.args.name.now in
    let less : Grown → Grown = λ g. record { targets = g.targets; tree = record { nodes = g.tree.nodes; entries = taken_name g.tree d x (get g.tree.entries d) } } in
    let last = ap less c.self.view_is in
    elim c.match-get_mut.branch [
      | in-Some w ↦
          let is = sym c.get_mut.ensures.value ∙ ap (λ o. option_copied_mut o) w.in-Some.is in
          let some = subst (λ o. IsSome o) (sym is) refl in
          let more = (c.get_mut.follows.lender w.remove.new.self).entries in
          let e = put fid_cmp fids_total exact_fids places more d w.remove.new.self ((c.get_mut.follows.holds w.remove.new.self).3 some).0
          ∙ ap (λ (k : Names). insert (from_entries places) d k) w.remove.ensures
          ∙ sym (ap (λ o. taken_name (made nodes places) d x o) (got fid_cmp fids_total places d ∙ is)) in
          ap the_view w.self-inside-is ∙ ap (λ es. record { targets = c.self.inside.cluster; tree = record { nodes = from_entries nodes; entries = es } }) e ∙ last
      | in_default w ↦
          let is = sym c.get_mut.ensures.value ∙ ap (λ o. option_copied_mut o) w.in_default.is in
          ap the_view w.self-inside-is ∙ ap (λ m. grown c.self.inside.cluster nodes m.entries) c.get_mut.follows.holds-at-none
          ∙ sym (ap (λ o. record { targets = c.self.inside.cluster; tree = record { nodes = from_entries nodes; entries = taken_name (made nodes places) d x o } }) (got fid_cmp fids_total places d ∙ is)) ∙ last
    ]
