use Rattle.std.proofs.Common.{◌≡◌, ◌<◌, ◌++◌, ℕ, List, [], length, drop, sym, ap, subst, ◌∙◌, append_assoc, arith, length-append}
use Rattle.std.specs.List.{flat_map}
use Rattle.std.proofs.lemmas.List.{drop_all}
use Rattle.fid_space.specs.declared.fid.Fid.{Fid}
use Rattle.object_store.specs.Objects.{Object}
use Rattle.object_store.specs.ImageText.{object_text}
use Rattle.object_store.specs.Pieces.{part_text, items_text, maybe_items, left_text}
use Rattle.object_store.proofs.PartTexts.{part_some, opened_text, opened_less, end_text}
use Rattle.object_store.proofs.rest.Rest.go_on.Goals as goal

pub returns-in-Some-clause-text : goal.returns-in-Some-clause-text
unfolding left_text
returns-in-Some-clause-text c =
    let others = flat_map object_text c.args.self.now.objects in
    ap (drop c.args.place) (sym (append_assoc (part_text c.in-Some.part) (maybe_items c.next_item.new.items) others) ∙ ap (λ t. t ++ others) (sym c.in-Some.ensures.text))

pub returns-in-Some-clause-less : goal.returns-in-Some-clause-less
returns-in-Some-clause-less c = λ _.
    let others = flat_map object_text c.args.self.now.objects in
    let was = ap length c.in-Some.ensures.text in
    let sum = length-append (part_text c.in-Some.part) (maybe_items c.next_item.new.items) in
    let old = length-append (maybe_items c.args.self.now.items) others in
    let new = length-append (maybe_items c.next_item.new.items) others in
    let some = part_some c.in-Some.part in
    omega (arith, was, sum, old, new, some)

pub returns-in-Some-next_object-clause-text : goal.returns-in-Some-next_object-clause-text
unfolding left_text
returns-in-Some-next_object-clause-text c =
    let all = flat_map object_text c.args.self.now.objects in
    let none : maybe_items c.args.self.now.items ≡ [] = c.in_default.ensures.text ∙ c.in_default.ensures.kinds in
    opened_text c.in-Some-next_object.fid c.in-Some-next_object.object.now c.args.place c.in-Some-next_object.place all (items_text c.of.result) (flat_map object_text c.next_object.new.objects)
    c.of.ensures.text c.in-Some-next_object.ensures.text ∙ ap (λ t. drop c.args.place (t ++ all)) (sym none)

pub returns-in-Some-next_object-clause-less : goal.returns-in-Some-next_object-clause-less
returns-in-Some-next_object-clause-less c = λ _.
    let all = flat_map object_text c.args.self.now.objects in
    let none : maybe_items c.args.self.now.items ≡ [] = c.in_default.ensures.text ∙ c.in_default.ensures.kinds in
    let less = opened_less c.in-Some-next_object.fid c.in-Some-next_object.object.now all (items_text c.of.result) (flat_map object_text c.next_object.new.objects) c.of.ensures.text c.in-Some-next_object.ensures.left in
    subst (λ (t : List ℕ). length (items_text c.of.result ++ flat_map object_text c.next_object.new.objects) < length (t ++ all)) (sym none) less

pub returns-in-None-clause-text : goal.returns-in-None-clause-text
unfolding left_text
returns-in-None-clause-text c =
    let all = flat_map object_text c.args.self.now.objects in
    let none : maybe_items c.args.self.now.items ≡ [] = c.in_default.ensures.text ∙ c.in_default.ensures.kinds in
    let rest = ap (λ t. t ++ flat_map object_text c.next_object.new.objects) c.in_default.ensures.kinds ∙ ap (λ (os : List (Fid × Object)). flat_map object_text os) c.in-None.ensures.left in
    end_text (part_text c.args.self.now.part) _ c.size-self.result c.size-self.ensures.value rest
    ∙ sym (ap (λ t. drop c.args.place (t ++ all)) none ∙ drop_all c.args.place all c.in-None.ensures.text)

pub returns-in-None-clause-end : goal.returns-in-None-clause-end
unfolding left_text
returns-in-None-clause-end c = λ _.
    let rest = ap (λ t. t ++ flat_map object_text c.next_object.new.objects) c.in_default.ensures.kinds ∙ ap (λ (os : List (Fid × Object)). flat_map object_text os) c.in-None.ensures.left in
    end_text (part_text c.args.self.now.part) _ c.size-self.result c.size-self.ensures.value rest
