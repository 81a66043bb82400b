-- The facts of a spelling are the facts that were spelled.
use Rattle.std.proofs.Common.{◌≡◌, ℕ, ◌<◌, ◌≤◌, ◌^◌, false, ◌==◌, List, ◌++◌, Option, Some, None, refl, ap, ◌∙◌, append_assoc, lit<, arith}
use Rattle.std.specs.Int.{w32, w64}
use Rattle.std.proofs.lemmas.Bool.{lt-ltb}
use Rattle.std.proofs.lemmas.Bool.Decides.{nat_tests}
use Rattle.byte_grammar.specs.Format.{IsFormat}
use Rattle.byte_grammar.specs.Numbers.{word}
use Rattle.byte_grammar.proofs.Bytes.{wide32, wide64}
use Rattle.byte_grammar.proofs.Again.{number_back}
use Rattle.out_update.specs.Values.{front}
use Rattle.out_update.specs.Replies.{reply_text}
use Rattle.out_update.proofs.Replies.{reply_found}
use Rattle.update_record.specs.declared.message.Facts.{Facts}
use Rattle.update_record.specs.Messages.{writer_number, writer_targets, FitsWriter, facts_text, FitsFacts}
use Rattle.update_record.specs.FactsValues.{set_at, writer_with, facts_at, facts_value}
use Rattle.update_record.specs.MessageReading.{whole_facts}
use Rattle.update_record.proofs.FactsTexts.{number_small, facts_again, facts_takes}

set_again : (n : ℕ) (rest : List ℕ) → n < 65536 → set_at (word w32 n ++ rest) ≡ Some (n, rest)
unfolding set_at
set_again n rest lt = rw (number_back w32 wide32 n rest (omega (arith, lt)), lt-ltb n 65536 lt) refl

set_low : (w : Option (ℕ × ℕ)) → FitsWriter w → writer_targets w < 65536
set_low None h = lit< tt
set_low (Some w) h = h.2

not_zero : (n : ℕ) → 1 ≤ n → (n == 0) ≡ false
not_zero n h = grind (arith, nat_tests)

writer_again : (w : Option (ℕ × ℕ)) → FitsWriter w → writer_with (writer_number w) (writer_targets w) ≡ w
writer_again None h = refl
writer_again (Some w) h = rw (not_zero w.0 h.0) refl

facts_found : (f : Facts) (rest : List ℕ) → FitsFacts f → facts_at (facts_text f ++ rest) ≡ Some (f, rest)
unfolding facts_at
facts_found f rest h =
    let n = writer_number f.writer in
    let s = writer_targets f.writer in
    let r4 = reply_text f.reply ++ rest in
    let r3 = word w32 s ++ r4 in
    let r2 = word w32 n ++ r3 in
    let r1 = word w64 f.clock ++ r2 in
    let e : facts_text f ++ rest ≡ word w64 f.load ++ r1 = simp append_assoc in
    ap facts_at e
    ∙ rw (
      number_back w64 wide64 f.load r1 h.load,
      number_back w64 wide64 f.clock r2 h.clock,
      number_back w32 wide32 n r3 (number_small f.writer h.writer),
      set_again s r4 (set_low f.writer h.writer),
      reply_found f.reply rest h.reply.count h.reply.each,
      writer_again f.writer h.writer,
    ) refl

pub facts_back : (f : Facts) (rest : List ℕ) → FitsFacts f → facts_value (facts_text f ++ rest) ≡ Some f
facts_back f rest h = ap front (facts_found f rest h)

pub facts_format : IsFormat 24600 FitsFacts facts_text whole_facts facts_value
facts_format = record { again = facts_again; takes = facts_takes; back = facts_back }
