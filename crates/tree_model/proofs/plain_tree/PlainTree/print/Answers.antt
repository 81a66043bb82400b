use Rattle.std.proofs.Common.{subst, ◌++◌, ◌∙◌, ap, List, ℕ}
use Rattle.fid_space.specs.Fronts.{IsFront}
use Rattle.fid_space.proofs.Fronts.{front_more}
use Rattle.tree_model.proofs.Fronts.{begun, more, last, stopped, stopped_in, anyway}
use Rattle.tree_model.proofs.Texts.{laid_out, text_again}
use Rattle.tree_model.proofs.plain_tree.PlainTree.print.Goals as goal

pub returns-in_err-print_head-clause-front : goal.returns-in_err-print_head-clause-front
returns-in_err-print_head-clause-front c =
    let text = text_again _ _ c.self.inside.nodes.entries c.self.inside.directories.entries c.self.view_is c.print_head.ensures.nodes_ordered c.print_head.ensures.directories_ordered in
    let none = begun c.args.out.now (laid_out c.self.inside.nodes.entries c.self.inside.directories.entries) in
    anyway _ (subst (IsFront c.args.out.now c.print_head.new.out) text (stopped _ _ _ _ _ none c.in_err-print_head.ensures.err))

pub returns-in_err-print_nodes-clause-front : goal.returns-in_err-print_nodes-clause-front
returns-in_err-print_nodes-clause-front c =
    let text = text_again _ _ c.self.inside.nodes.entries c.self.inside.directories.entries c.self.view_is c.print_head.ensures.nodes_ordered c.print_head.ensures.directories_ordered in
    let none = begun c.args.out.now (laid_out c.self.inside.nodes.entries c.self.inside.directories.entries) in
    let headed = more _ _ _ _ _ _ none c.in_ok-print_head.ensures.ok in
    anyway _ (subst (IsFront c.args.out.now c.print_nodes.new.out) text (stopped_in _ _ _ _ _ _ headed c.in_err-print_nodes.ensures.front))

pub returns-in_err-print_entries-clause-front : goal.returns-in_err-print_entries-clause-front
returns-in_err-print_entries-clause-front c =
    let text = text_again _ _ c.self.inside.nodes.entries c.self.inside.directories.entries c.self.view_is c.print_head.ensures.nodes_ordered c.print_head.ensures.directories_ordered in
    let none = begun c.args.out.now (laid_out c.self.inside.nodes.entries c.self.inside.directories.entries) in
    let headed = more _ _ _ _ _ _ none c.in_ok-print_head.ensures.ok in
    let noded = more _ _ _ _ _ _ headed c.in_ok-print_nodes.ensures.ok in
    anyway _ (subst (IsFront c.args.out.now c.print_entries.new.out) text (stopped_in _ _ _ _ _ _ noded c.in_err-print_entries.ensures.front))

pub returns-in_err-print_xattrs-clause-front : goal.returns-in_err-print_xattrs-clause-front
returns-in_err-print_xattrs-clause-front c =
    let text = text_again _ _ c.self.inside.nodes.entries c.self.inside.directories.entries c.self.view_is c.print_head.ensures.nodes_ordered c.print_head.ensures.directories_ordered in
    let none = begun c.args.out.now (laid_out c.self.inside.nodes.entries c.self.inside.directories.entries) in
    let headed = more _ _ _ _ _ _ none c.in_ok-print_head.ensures.ok in
    let noded = more _ _ _ _ _ _ headed c.in_ok-print_nodes.ensures.ok in
    let named = more _ _ _ _ _ _ noded c.in_ok-print_entries.ensures.ok in
    anyway _ (subst (IsFront c.args.out.now c.print_xattrs.new.out) text (front_more _ _ _ named.0 _ _ named.1 named.2 c.in_err-print_xattrs.ensures.front))

pub returns-clause-ok : goal.returns-clause-ok
returns-clause-ok c =
    let text = text_again _ _ c.self.inside.nodes.entries c.self.inside.directories.entries c.self.view_is c.print_head.ensures.nodes_ordered c.print_head.ensures.directories_ordered in
    let none = begun c.args.out.now (laid_out c.self.inside.nodes.entries c.self.inside.directories.entries) in
    let headed = more _ _ _ _ _ _ none c.in_ok-print_head.ensures.ok in
    let noded = more _ _ _ _ _ _ headed c.in_ok-print_nodes.ensures.ok in
    let named = more _ _ _ _ _ _ noded c.in_ok-print_entries.ensures.ok in
    last _ _ _ _ _ named c.in_ok-print_xattrs.ensures.ok ∙ ap (λ (l : List ℕ). c.args.out.now ++ l) text
