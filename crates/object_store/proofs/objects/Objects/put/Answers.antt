use Rattle.std.proofs.Common.{◌≡◌, ◌<◌, ◌^◌, sym, ap, subst, ◌∙◌}
use Rattle.std.specs.FinMap.{len, insert}
use Rattle.tree_model.specs.Fids.{fid_cmp}
use Rattle.tree_model.proofs.Maps.{put, fids_total, exact_fids}
use Rattle.object_store.specs.Objects.{ObjectMap}
use Rattle.object_store.specs.Sizes.{AreStored, image_size}
use Rattle.object_store.proofs.objects.Objects.put.Goals as goal

pub invariant_of-self-2 : goal.invariant_of-self-2
invariant_of-self-2 c =
    let f = subst (λ (m : ObjectMap). (c.in_ok-sum.sum ≡ image_size (insert m c.args.fid c.args.object)) × (len (insert m c.args.fid c.args.object) < 2 ^ 32)) (sym c.self.view_is) (c.in_ok-sum.ensures c.args.object c.size.ensures) in
    subst (λ (m : ObjectMap). AreStored m c.in_ok-size.size) (sym (put fid_cmp fids_total exact_fids c.self.inside.inner.entries c.insert.new.self.entries c.args.fid c.args.object c.in_ok-insert.ensures.updates.0))
    (record { few = f.1; small = c.in_ok-size.ensures.1; exact = c.in_ok-size.ensures.0 ∙ f.0 })

pub returns-clause-ok : goal.returns-clause-ok
returns-clause-ok c =
    put fid_cmp fids_total exact_fids c.self.inside.inner.entries c.insert.new.self.entries c.args.fid c.args.object c.in_ok-insert.ensures.updates.0 ∙ ap (λ (m : ObjectMap). insert m c.args.fid c.args.object) c.self.view_is
