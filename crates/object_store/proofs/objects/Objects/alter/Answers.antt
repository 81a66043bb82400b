use Rattle.std.proofs.Common.{◌≡◌, OnOk, sym, ap, subst, ◌∙◌}
use Rattle.std.specs.FinMap.{insert}
use Rattle.object_store.specs.Objects.{ObjectMap}
use Rattle.object_store.specs.Meaning.{param, changed_there, put_back}
use Rattle.object_store.proofs.Images.{put_again, none_taken}
use Rattle.object_store.proofs.objects.Objects.alter.Goals as goal

pub returns-in-None : goal.returns-in-None
returns-in-None c =
    let there = sym c.take.ensures.value ∙ c.in-None.is in
    let u = c.args.update.now in
    c.take.ensures.taken ∙ none_taken c.args.self.now u.fid there ∙ ap (λ o. changed_there c.args.self.now u.fid o u.kind (param u 0) (param u 1)) (sym there)

pub returns : goal.returns
returns c =
    let there = sym c.take.ensures.value ∙ c.in-Some.is in
    let u = c.args.update.now in
    let after = ap (λ o. changed_there c.args.self.now u.fid o u.kind (param u 0) (param u 1)) there ∙ ap (λ o. put_back c.args.self.now u.fid o) c.in_ok-change.ensures in
    subst (λ (m : ObjectMap). OnOk c.put.result (c.put.new.self ≡ m))
    (ap (λ (m : ObjectMap). insert m u.fid c.change.new.self) c.take.ensures.taken ∙ put_again c.args.self.now u.fid c.change.new.self ∙ sym after) c.put.ensures.ok
