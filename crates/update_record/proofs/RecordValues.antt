-- The value of a spelling is the value that was spelled.
use Rattle.std.proofs.Common.{◌≡◌, ℕ, suc, ◌+◌, ◌^◌, ◌<◌, true, List, [], ◌∷◌, ◌++◌, length, Some, refl, ap, ◌∙◌, append_assoc, arith, length-append}
use Rattle.std.specs.Int.{w32, w64}
use Rattle.std.proofs.lemmas.Bool.{lt-ltb}
use Rattle.std.proofs.lemmas.List.Concat.{flat_map-cons}
use Rattle.tree_model.specs.declared.errno.Errno.{Errno}
use Rattle.tree_model.specs.Errnos.{errno_code}
use Rattle.tree_model.specs.declared.errno.Errno.TheVariants.{EPERM}
use Rattle.tree_model.specs.declared.reply.Reply.{Reply}
use Rattle.tree_model.specs.declared.reply.Reply.TheVariants as replies
use Rattle.byte_grammar.specs.Numbers.{word, zeros}
use Rattle.byte_grammar.specs.Values.{many}
use Rattle.byte_grammar.proofs.Bytes.{wide32, wide64, length-zeros}
use Rattle.byte_grammar.proofs.Again.{part_again, number_back}
use Rattle.out_update.specs.declared.update.Update.{Update}
use Rattle.out_update.specs.Spelling.{request_text}
use Rattle.out_update.proofs.RequestValues.{request_found}
use Rattle.update_record.specs.declared.operation.Record.{Record}
use Rattle.update_record.specs.Spelling.{reply_code, is_answer, part_text, parts_text, record_magic, record_text, FitsPart, FitsParts, FitsRecord}
use Rattle.update_record.specs.Values.{answer_at, small_at, part_value, record_at, record_value}
use Rattle.update_record.proofs.Records.{answer_small, length-record}

errno_again : (e : Errno) → answer_at (errno_code e) ≡ Some (replies.Err e)
unfolding answer_at
errno_again EPERM = refl
errno_again _ = refl

pub answer_again : (r : Reply) → is_answer r ≡ true → answer_at (reply_code r) ≡ Some r
unfolding answer_at
answer_again replies.Ok h = refl
answer_again (replies.Err e) h = errno_again e
answer_again _ h = absurd cc

small_again : (n : ℕ) (rest : List ℕ) → n < 256 → small_at (word w32 n ++ rest) ≡ Some (n, rest)
unfolding small_at
small_again n rest lt = rw (number_back w32 wide32 n rest (omega arith), lt-ltb n 256 lt) refl

part_back : (b least : ℕ) (part : ℕ × List Update) (rest : List ℕ) → FitsPart b least part → length (request_text part.1) < 2 ^ 32 → part_value (part_text part ++ rest) ≡ Some (part, rest)
unfolding part_value
part_back b least part rest h small =
    let t = part.0 in
    let us = part.1 in
    let r2 = request_text us ++ rest in
    let r1 = word w32 (length (request_text us)) ++ r2 in
    let e : part_text part ++ rest ≡ word w32 t ++ r1 = simp append_assoc in
    ap part_value e ∙ rw (small_again t r1 (omega (arith, h.target)), number_back w32 wide32 (length (request_text us)) r2 small, request_found (Some b) us rest h.count h.each) refl

pub length-part : (part : ℕ × List Update) → length (part_text part) ≡ 8 + length (request_text part.1)
length-part part = simp (length-append, wide32.len) (omega arith)

parts_back : (b least : ℕ) (parts : List (ℕ × List Update)) (rest : List ℕ) → FitsParts b least parts → length (parts_text parts) < 2 ^ 32 → many part_value (length parts) (parts_text parts ++ rest) ≡ Some (parts, rest)
unfolding many parts_text FitsParts
parts_back b least [] rest h small = refl
parts_back b least (part ∷ parts) rest h small =
    let cut = flat_map-cons part_text part parts in
    let len = ap length cut ∙ length-append (part_text part) (parts_text parts) in
    let one = length-part part in
    let e : parts_text (part ∷ parts) ++ rest ≡ part_text part ++ (parts_text parts ++ rest) = ap (λ (t : List ℕ). t ++ rest) cut ∙ append_assoc (part_text part) (parts_text parts) rest in
    ap (many part_value (suc (length parts))) e ∙ rw (part_back b least part (parts_text parts ++ rest) h.0 (omega arith), parts_back b (part.0 + 1) parts rest h.1 (omega arith)) refl

pub record_back : (r : Record) (rest : List ℕ) → FitsRecord r → record_value (record_text r ++ rest) ≡ Some r
unfolding record_at
record_back r rest h =
    let n = length r.parts in
    let c = reply_code r.reply in
    let r10 = parts_text r.parts ++ rest in
    let r9 = zeros 4 ++ r10 in
    let r8 = word w32 n ++ r9 in
    let r7 = word w32 c ++ r8 in
    let r6 = word w32 r.client ++ r7 in
    let r5 = word w64 r.stamp ++ r6 in
    let r4 = word w64 r.id.batch ++ r5 in
    let r3 = word w32 r.number ++ r4 in
    let r2 = word w32 r.id.master ++ r3 in
    let r1 = word w32 r.id.epoch ++ r2 in
    let e : record_text r ++ rest ≡ word w32 record_magic ++ r1 = simp append_assoc in
    let len = length-record r in
    let short : length (parts_text r.parts) < 2 ^ 32 = omega (arith, h.size) in
    ap record_value e
    ∙ rw (
      part_again 4 (word w32 record_magic) r1 (wide32.len record_magic),
      number_back w32 wide32 r.id.epoch r2 h.epoch,
      small_again r.id.master r3 (omega (arith, h.master)),
      number_back w32 wide32 r.number r4 (omega (arith, h.number)),
      number_back w64 wide64 r.id.batch r5 h.batch,
      number_back w64 wide64 r.stamp r6 h.stamp,
      small_again r.client r7 (omega (arith, h.client)),
      number_back w32 wide32 c r8 (answer_small r.reply),
      answer_again r.reply h.answer,
      number_back w32 wide32 n r9 (omega (arith, h.few_parts)),
      part_again 4 (zeros 4) r10 (length-zeros 4),
      parts_back r.id.batch 0 r.parts rest h.each short,
    ) refl
