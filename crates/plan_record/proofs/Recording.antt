-- The record of a decision has a spelling.
use Rattle.std.proofs.Common.{◌≡◌, ◌≤◌, ◌+◌, ℕ, true, length, List, sym, ap, subst, ◌∙◌, arith}
use Rattle.byte_grammar.specs.Numbers.{word, zeros}
use Rattle.out_update.specs.declared.update.Update.{Update}
use Rattle.tree_model.specs.Participants.{first_fid}
use Rattle.update_record.specs.declared.operation.Record.{Record}
use Rattle.update_record.specs.Spelling.{is_answer, has_target, record_text, parts_text, FitsParts}
use Rattle.plan_record.specs.Recorded.{RecordsFit}
use Rattle.plan_record.proofs.Parting.{place_below}

record_length : (r : Record) → length (record_text r) ≡ 48 + length (parts_text r.parts)
unfolding word zeros
record_length r = omega arith

pub records_fit : RecordsFit
records_fit targets batch op d r may made of =
    let below = place_below targets (first_fid op) r.id.master may.some of.master in
    let few = may.few in
    let wide = may.wide in
    let set = of.batch_set in
    let is = of.batch_is in
    let size = made.size in
    let long = record_length r in
    let same : length (parts_text r.parts) ≡ length (parts_text d.parts) = ap (λ ps. length (parts_text ps)) of.parts in
    let parts = sym of.parts in
    record {
      epoch_set = of.epoch_set;
      epoch = of.epoch;
      master = omega (arith, below, few);
      number_set = of.number_set;
      number = of.number;
      batch_set = omega (arith, set, is);
      batch = omega (arith, wide, is);
      stamp_set = of.stamp_set;
      stamp = of.stamp;
      client = of.client;
      answer = ap is_answer of.reply ∙ made.answer of.change;
      some_part = subst (λ (ps : List (ℕ × List Update)). 1 ≤ length ps) parts made.some_part;
      few_parts = subst (λ (ps : List (ℕ × List Update)). length ps ≤ 16) parts made.few_parts;
      each = subst (λ (n : ℕ). FitsParts n 0 r.parts) (sym is) (subst (λ (ps : List (ℕ × List Update)). FitsParts batch 0 ps) parts made.each);
      master_in = subst (λ (ps : List (ℕ × List Update)). has_target r.id.master ps ≡ true) parts (made.home_in r.id.master of.master);
      size = omega (arith, size, long, same);
    }
