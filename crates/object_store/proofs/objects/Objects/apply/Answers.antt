use Rattle.std.proofs.Common.{◌≤◌, ◌+◌, drop, sym, ap, subst, ◌∙◌}
use Rattle.object_store.specs.Objects.{ObjectMap}
use Rattle.object_store.specs.Meaning.{after_all}
use Rattle.object_store.proofs.Updates.{one_more, all_done}
use Rattle.object_store.proofs.objects.Objects.apply.Goals as goal

pub loop-i-preserved : goal.loop-i-preserved
loop-i-preserved c =
    ap (λ (m : ObjectMap). after_all m (drop (c.loop-i.i + 1) c.args.updates.now)) c.in_ok-apply_at.ensures ∙ one_more c.loop-i.self c.args.updates.now c.loop-i.i ∙ c.loop-i.invariant

pub returns : goal.returns
returns c = sym (all_done c.loop-i.self c.args.updates.now c.loop-i.i (subst (λ n. n ≤ c.loop-i.i) c.len-i-end.ensures c.loop-i-test.false)) ∙ c.loop-i.invariant
