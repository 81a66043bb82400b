use Rattle.std.proofs.Common.{◌-◌, ◌++◌, length, take, sym, ap, ◌∙◌, arith, length-append}
use Rattle.std.specs.List.{flat_map}
use Rattle.std.specs.Map.Iter.{deref_pair}
use Rattle.std.proofs.lemmas.Map.Iter.{rest_more}
use Rattle.object_store.specs.Reads.{entry_bytes}
use Rattle.object_store.proofs.Lengths.{one_of_first}
use Rattle.object_store.proofs.writing.put_names.Goals as goal

pub loop-name-preserved : goal.loop-name-preserved
loop-name-preserved c =
    let more = rest_more deref_pair c.loop-name.name-iterator c.next.new.self c.next.result (c.in-Some.name, c.in-Some.fid) c.in-Some.is c.next.ensures.steps in
    let out = c.loop-name.out.items in
    let text = c.in_ok-put_entry.ensures.text in
    let size = ap length text ∙ length-append out (entry_bytes (c.in-Some.name.now, c.in-Some.fid.now)) in
    let small = c.in_ok-put_entry.ensures.small in
    let some = c.if-left-eq0.false in
    let bound = c.loop-name.invariant.1 in (
      ap (λ l. l ++ flat_map entry_bytes (take (c.loop-name.left - 1) c.next.new.self)) text ∙ one_of_first c.loop-name.left out (c.in-Some.name.now, c.in-Some.fid.now) c.next.new.self some
          ∙ ap (λ rest. out ++ flat_map entry_bytes (take c.loop-name.left rest)) (sym more) ∙ c.loop-name.invariant.0,
      omega (arith, size, small, some, bound),
    )
