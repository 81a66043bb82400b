use Rattle.std.proofs.Common.{◌+◌, ◌-◌, Some, option_map, ap, ◌∙◌, arith}
use Rattle.std.proofs.lemmas.Result.{err_from_is_err_and}
use Rattle.tree_model.specs.Tree.{Names}
use Rattle.object_store.specs.Objects.{Object}
use Rattle.object_store.specs.ImageReading.{entry_at, items_at}
use Rattle.object_store.proofs.Loops.{goes_on, stops, ended, fails_so, entries_kept}
use Rattle.object_store.proofs.items.read_entries.Goals as goal

pub returns-in_err-name-clause-value : goal.returns-in_err-name-clause-value
returns-in_err-name-clause-value c =
    let p = err_from_is_err_and c.from_residual.result c.from_residual.ensures.1 in
    rw (p.1, p.2)
    (fails_so c.in_err-name.field-0.0 _ (stops (entry_at c.args.len) (c.args.count - c.loop-done._done) (c.args.count - (c.loop-done._done + 1)) (option_map (λ n. n.now) c.loop-done.last) c.loop-done.object.entries c.loop-done.rest.now c.in_err-name.field-0.0 _ (omega (arith, c.loop-done-test.true)) c.in_err-name.ensures c.loop-done.invariant.0))

pub loop-done-preserved : goal.loop-done-preserved
loop-done-preserved c =
    let kept = ap (λ (o : Object). o.entries) c.in_ok-keep_entry.ensures in (
      ap (λ (m : Names). items_at (entry_at c.args.len) (c.args.count - (c.loop-done._done + 1)) (Some c.in_ok-name.name.now) m c.in_ok-name.after.now) kept
          ∙ goes_on (entry_at c.args.len) (c.args.count - c.loop-done._done) (c.args.count - (c.loop-done._done + 1)) (option_map (λ n. n.now) c.loop-done.last) c.loop-done.object.entries c.loop-done.rest.now c.in_ok-name.after.now c.in_ok-name.name.now c.in_ok-name.fid _ (omega (arith, c.loop-done-test.true)) c.in_ok-name.ensures c.loop-done.invariant.0,
      entries_kept c.args.object.now c.loop-done.object c.keep_entry.new.object _ c.loop-done.invariant.1 c.in_ok-keep_entry.ensures,
    )

pub returns-clause-value : goal.returns-clause-value
returns-clause-value c =
    ended (entry_at c.args.len) (c.args.count - c.loop-done._done) (option_map (λ n. n.now) c.loop-done.last) c.loop-done.object.entries c.loop-done.rest.now _ (omega (arith, c.loop-done-test.false)) c.loop-done.invariant.0
