use Rattle.std.proofs.Common.{List, length, drop, sym, ap, ◌∙◌, arith, length-append}
use Rattle.std.specs.List.{flat_map}
use Rattle.std.specs.Map.Iter.{deref_pair}
use Rattle.std.proofs.lemmas.Map.Iter.{rest_more, rest_all}
use Rattle.fid_space.specs.declared.fid.Fid.{Fid}
use Rattle.object_store.specs.Objects.{Object}
use Rattle.object_store.specs.ImageText.{object_text}
use Rattle.object_store.proofs.Spelled.{object_text_length}
use Rattle.object_store.proofs.PartTexts.{passed_text}
use Rattle.object_store.proofs.parts.next_object.Goals as goal

pub loop-fid-preserved : goal.loop-fid-preserved
loop-fid-preserved c =
    let more = rest_more deref_pair c.loop-fid.objects c.next.new.self c.next.result (c.in-Some.fid, c.in-Some.object) c.in-Some.is c.next.ensures.steps in
    let text = object_text (c.in-Some.fid.now, c.in-Some.object.now) in
    let all = ap (λ (os : List (Fid × Object)). flat_map object_text os) more in
    let long = ap length all in
    let sum = length-append text (flat_map object_text c.next.new.self) in
    let own = object_text_length (c.in-Some.fid.now, c.in-Some.object.now) in
    let size = c.size-place.ensures in
    let was = c.size.ensures in
    let over = c.if-place-size.false in
    let passed = c.loop-fid.invariant.passed in
    let within = c.loop-fid.invariant.within in
    record {
      passed = omega (arith, long, sum, own, size, was, over, passed, within);
      within = omega (arith, within);
      text = passed_text c.args.at c.loop-fid.place c.size-place.result (flat_map object_text c.args.objects.now) text (flat_map object_text c.next.new.self)
          (c.loop-fid.invariant.text ∙ ap (λ l. drop c.loop-fid.place l) all) (size ∙ sym own) (omega (arith, over, size, was));
    }

pub returns-then-place-size-clause-text : goal.returns-then-place-size-clause-text
returns-then-place-size-clause-text c =
    let more = rest_more deref_pair c.loop-fid.objects c.next.new.self c.next.result (c.in-Some.fid, c.in-Some.object) c.in-Some.is c.next.ensures.steps in
    c.loop-fid.invariant.text ∙ ap (λ (os : List (Fid × Object)). drop c.loop-fid.place (flat_map object_text os)) more

pub returns-then-place-size-clause-left : goal.returns-then-place-size-clause-left
returns-then-place-size-clause-left c =
    let more = rest_more deref_pair c.loop-fid.objects c.next.new.self c.next.result (c.in-Some.fid, c.in-Some.object) c.in-Some.is c.next.ensures.steps in
    let long = ap (λ (os : List (Fid × Object)). length (flat_map object_text os)) more in
    let sum = length-append (object_text (c.in-Some.fid.now, c.in-Some.object.now)) (flat_map object_text c.next.new.self) in
    let passed = c.loop-fid.invariant.passed in
    let within = c.loop-fid.invariant.within in
    omega (arith, long, sum, passed, within)

pub returns-clause-text : goal.returns-clause-text
returns-clause-text c =
    let none = rest_all deref_pair c.loop-fid.objects c.next.new.self c.next.result c.in_default.is c.next.ensures.steps in
    let long = ap (λ (os : List (Fid × Object)). length (flat_map object_text os)) none in
    let passed = c.loop-fid.invariant.passed in
    let within = c.loop-fid.invariant.within in
    omega (arith, long, passed, within)
