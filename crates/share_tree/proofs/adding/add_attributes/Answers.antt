use Rattle.std.proofs.Common.{List, ℕ, Some, refl, sym, ap, ◌∙◌}
use Rattle.std.specs.Option.{option_map}
use Rattle.fid_space.specs.declared.fid.Fid.{Fid}
use Rattle.tree_model.specs.Tree.{Grown}
use Rattle.object_store.specs.Following.{Attribute}
use Rattle.share_tree.specs.Made.{with_attributes}
use Rattle.share_tree.proofs.Following.{left_attributes}
use Rattle.share_tree.proofs.Walking.{attribute_step, attribute_end}
use Rattle.share_tree.proofs.adding.add_attributes.Goals as goal

pub loop-attribute-init : goal.loop-attribute-init
loop-attribute-init c = record { rest = refl; targets = refl }

pub loop-attribute-preserved : goal.loop-attribute-preserved
loop-attribute-preserved c =
    let m = c.args.objects.now in
    let after = option_map {U = Fid × List ℕ} (λ x. (x.0, x.1.now)) c.loop-attribute.after in
    let name = c.in-Some.name.now in
    let added = c.in_ok-add_attribute-in-Some.ensures.ok in
    let next = ap (λ o. option_map {U = Attribute} (λ x. (x.0, x.1.now, x.2.now)) o) (sym c.in-Some.is) ∙ c.next_attribute.ensures in
    record {
      rest = ap (λ (g : Grown). with_attributes g.tree (left_attributes m (Some (c.in-Some.fid, name)))) added
          ∙ attribute_step m after (c.in-Some.fid, name, c.in-Some.value.now) c.loop-attribute.tree.tree next ∙ c.loop-attribute.invariant.rest;
      targets = ap (λ (g : Grown). g.targets) added ∙ c.loop-attribute.invariant.targets;
    }

pub returns-in-None-clause-ok : goal.returns-in-None-clause-ok
returns-in-None-clause-ok c =
    let after = option_map {U = Fid × List ℕ} (λ x. (x.0, x.1.now)) c.loop-attribute.after in
    let next = ap (λ o. option_map {U = Attribute} (λ x. (x.0, x.1.now, x.2.now)) o) (sym c.in-None.is) ∙ c.next_attribute.ensures in
    let whole = sym (attribute_end c.args.objects.now after c.loop-attribute.tree.tree next) ∙ c.loop-attribute.invariant.rest in
    λ i. record { targets = c.loop-attribute.invariant.targets i; tree = whole i }
