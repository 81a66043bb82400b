use Rattle.std.proofs.Common.{◌≡◌, ◌++◌, OnOk, OnErr, sym, ap, ◌∙◌, subst}
use Rattle.std.specs.List.{flat_map}
use Rattle.std.specs.FinMap.{entries}
use Rattle.tree_model.specs.Fids.{name_cmp}
use Rattle.tree_model.specs.TreeText.{xattr_text}
use Rattle.fid_space.specs.Fronts.{IsFront}
use Rattle.tree_model.proofs.Maps.{names_total, exact_names}
use Rattle.tree_model.proofs.Texts.{entries_again}
use Rattle.tree_model.proofs.text.print_node_xattrs.Goals as goal

pub returns-clause-ok : goal.returns-clause-ok
returns-clause-ok c =
    let again = sym (entries_again name_cmp names_total exact_names c.inner.result.now.entries c.print_xattr_list.ensures.ordered) ∙ ap entries (sym c.inner.ensures) in
    subst (λ l. OnOk c.print_xattr_list.result (c.print_xattr_list.new.out ≡ c.args.out.now ++ flat_map (xattr_text c.args.fid) l)) again c.print_xattr_list.ensures.ok

pub returns-clause-front : goal.returns-clause-front
returns-clause-front c =
    let again = sym (entries_again name_cmp names_total exact_names c.inner.result.now.entries c.print_xattr_list.ensures.ordered) ∙ ap entries (sym c.inner.ensures) in
    subst (λ l. OnErr c.print_xattr_list.result (IsFront c.args.out.now c.print_xattr_list.new.out (flat_map (xattr_text c.args.fid) l))) again c.print_xattr_list.ensures.front
