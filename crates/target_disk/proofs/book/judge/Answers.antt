use Rattle.std.specs.Prelude.{Err, Ok}
use Rattle.chain_blocks.specs.Walk.{judged}
use Rattle.std.proofs.Common.{◌∷◌, [], ◌≡◌, ◌-◌, ◌∙◌, ⊎_elim, None, length, sym, ap, subst, arith, refl}
use Rattle.chain_blocks.specs.Chains.{joined}
use Rattle.target_disk.specs.Parts.{table_of}
use Rattle.target_disk.specs.Tables.{ends_in}
use Rattle.target_disk.proofs.Judging.{entry_blank, entry_fault, entry_from_table, entry_long, entry_no_table, entry_unended, is_book, judged_count, said, said_in, table_links}
use Rattle.target_disk.proofs.book.judge.Goals.{then-parts-eq0-via-then-parts-eq0, then-parts-eq0-via-else-parts-eq0+then-parts-gt-IMAGE_MOST}
use Rattle.target_disk.proofs.book.judge.Goals as goal

pub returns-in_default : goal.returns-in_default
returns-in_default c = entry_no_table c.args.table.items (sym c.in_ok-parts.ensures ∙ ap table_of c.in_default.is)

pub returns-then-parts-eq0 : goal.returns-then-parts-eq0
returns-then-parts-eq0 c =
    let is = said_in c.args.table.items c.in_ok-parts.field-0 c.in-Some.parts c.in_ok-parts.ensures c.in-Some.is in
    elim c.then-parts-eq0.branch [
      | then-parts-eq0-via-then-parts-eq0 w ↦ entry_from_table c.args.table.items (said c.in-Some.parts) None is (entry_blank (said c.in-Some.parts) w.if-parts-eq0.true)
      | then-parts-eq0-via-else-parts-eq0+then-parts-gt-IMAGE_MOST w ↦ entry_from_table c.args.table.items (said c.in-Some.parts) None is (entry_long (said c.in-Some.parts) w.if-parts-gt-IMAGE_MOST.true)
    ]

pub from_links-requires : goal.from_links-requires
from_links-requires c =
    let is = said_in c.args.table.items c.in_ok-parts.field-0 c.in-Some.parts c.in_ok-parts.ensures c.in-Some.is in
    omega (arith, ap length c.deref.ensures.value, table_links c.args.table.items (said c.in-Some.parts) is)

pub overflow_sub-spare : goal.overflow_sub-spare
overflow_sub-spare c =
    let is = said_in c.args.table.items c.in_ok-parts.field-0 c.in-Some.parts c.in_ok-parts.ensures c.in-Some.is in
    let j = c.in-Ok.ensures in
    omega (arith, judged_count c.in-Ok.blocks c.deref.result.now _ c.in-Some.parts.free c.spare.result j (ap length c.deref.ensures.value ∙ table_links c.args.table.items (said c.in-Some.parts) is) (c.spare.ensures.count j.found.free j.found.chains j.holds))

pub returns-then-not-is_end : goal.returns-then-not-is_end
returns-then-not-is_end c =
    let is = said_in c.args.table.items c.in_ok-parts.field-0 c.in-Some.parts c.in_ok-parts.ensures c.in-Some.is in
    let t = said c.in-Some.parts in
    let j = c.in-Ok.ensures in
    let count = judged_count c.in-Ok.blocks c.deref.result.now (t.head ∷ []) t.free c.spare.result j (ap length c.deref.ensures.value ∙ table_links c.args.table.items t is) (c.spare.ensures.count j.found.free j.found.chains j.holds) in
    let blocks : length (joined j.found.chains) ≡ 16000 - c.spare.result = omega arith in
    entry_from_table c.args.table.items t None is
    (entry_unended t j.found (subst (λ l. judged l (t.head ∷ []) t.free ≡ Ok j.found) c.deref.ensures.value j.judged_so) (ap (λ n. ends_in t.len n) blocks ∙ sym c.is_end.ensures ∙ c.if-not-is_end.true))

pub returns : goal.returns
returns c =
    let is = said_in c.args.table.items c.in_ok-parts.field-0 c.in-Some.parts c.in_ok-parts.ensures c.in-Some.is in
    let t = said c.in-Some.parts in
    let j = c.in-Ok.ensures in
    let count = judged_count c.in-Ok.blocks c.deref.result.now (t.head ∷ []) t.free c.spare.result j (ap length c.deref.ensures.value ∙ table_links c.args.table.items t is) (c.spare.ensures.count j.found.free j.found.chains j.holds) in
    let blocks : length (joined j.found.chains) ≡ 16000 - c.spare.result = omega arith in
    is_book c.args.table.items t _ t.len c.deref.result.now j is c.deref.ensures.value refl refl refl (omega (arith, c.if-parts-eq0.false)) (ap (λ n. ends_in t.len n) blocks ∙ sym c.is_end.ensures ∙ c.if-not-is_end.false) c.requires refl c.in_ok-block.ensures refl

pub returns-in_default-fault : goal.returns-in_default-fault
returns-in_default-fault c =
    let is = said_in c.args.table.items c.in_ok-parts.field-0 c.in-Some.parts c.in_ok-parts.ensures c.in-Some.is in
    let t = said c.in-Some.parts in
    ⊎_elim
    (λ memory. absurd (c.in_default-fault.not-Memory memory))
    (λ fault. entry_from_table c.args.table.items t None is (entry_fault t c.in-Err.fault (subst (λ l. judged l (t.head ∷ []) t.free ≡ Err c.in-Err.fault) c.deref.ensures.value fault)))
    c.in-Err.ensures
