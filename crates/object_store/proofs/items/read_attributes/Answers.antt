use Rattle.std.proofs.Common.{◌+◌, ◌-◌, Some, option_map, ap, ◌∙◌, arith}
use Rattle.std.proofs.lemmas.Result.{err_from_is_err_and}
use Rattle.object_store.specs.Objects.{Object, Attributes}
use Rattle.object_store.specs.ImageReading.{attribute_at, items_at}
use Rattle.object_store.proofs.Loops.{goes_on, stops, ended, fails_so, attributes_kept}
use Rattle.object_store.proofs.items.read_attributes.Goals as goal

pub returns-in_err-name-clause-value : goal.returns-in_err-name-clause-value
returns-in_err-name-clause-value c =
    let p = err_from_is_err_and c.from_residual.result c.from_residual.ensures.1 in
    rw (p.1, p.2)
    (fails_so c.in_err-name.field-0.0 _ (stops (attribute_at c.args.len) (c.args.count - c.loop-done._done) (c.args.count - (c.loop-done._done + 1)) (option_map (λ n. n.now) c.loop-done.last) c.loop-done.object.attributes c.loop-done.rest.now c.in_err-name.field-0.0 _ (omega (arith, c.loop-done-test.true)) c.in_err-name.ensures.value c.loop-done.invariant.0))

pub loop-done-preserved : goal.loop-done-preserved
loop-done-preserved c =
    let kept = ap (λ (o : Object). o.attributes) c.in_ok-keep_attribute.ensures in (
      ap (λ (m : Attributes). items_at (attribute_at c.args.len) (c.args.count - (c.loop-done._done + 1)) (Some c.in_ok-name.name.now) m c.in_ok-name.after.now) kept
          ∙ goes_on (attribute_at c.args.len) (c.args.count - c.loop-done._done) (c.args.count - (c.loop-done._done + 1)) (option_map (λ n. n.now) c.loop-done.last) c.loop-done.object.attributes c.loop-done.rest.now c.in_ok-name.after.now c.in_ok-name.name.now c.in_ok-name.value.now _ (omega (arith, c.loop-done-test.true)) c.in_ok-name.ensures.value c.loop-done.invariant.0,
      attributes_kept c.args.object.now c.loop-done.object c.keep_attribute.new.object _ c.loop-done.invariant.1 c.in_ok-keep_attribute.ensures,
    )

pub returns-clause-value : goal.returns-clause-value
returns-clause-value c =
    ended (attribute_at c.args.len) (c.args.count - c.loop-done._done) (option_map (λ n. n.now) c.loop-done.last) c.loop-done.object.attributes c.loop-done.rest.now _ (omega (arith, c.loop-done-test.false)) c.loop-done.invariant.0
