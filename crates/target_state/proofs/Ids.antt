-- A record's bytes tell its master and its batch.
use Rattle.std.proofs.Common.{◌≡◌, ℕ, ◌^◌, ◌<◌, ◌≤◌, List, ◌++◌, length, take, drop, Some, refl, ap, ◌∙◌, arith, append_assoc, length-append}
use Rattle.std.specs.Int.{w32, w64}
use Rattle.std.proofs.lemmas.Bool.{le-ltb}
use Rattle.std.proofs.lemmas.List.{take_at, drop_at}
use Rattle.byte_grammar.specs.Numbers.{word, worth}
use Rattle.byte_grammar.proofs.Bytes.{wide32, wide64}
use Rattle.update_record.specs.declared.operation.Record.{Record}
use Rattle.update_record.specs.Spelling.{FitsRecord, record_text, record_magic, middle_text, parts_text}
use Rattle.target_state.specs.Marking.{id_in}

-- a number that stands behind some bytes
at32 : (front rest : List ℕ) (n k : ℕ) → length front ≡ k → n < 2 ^ 32 → worth w32 (take 4 (drop k (front ++ (word w32 n ++ rest)))) ≡ n
at32 front rest n k long small =
    ap (λ (l : List ℕ). worth w32 (take 4 l)) (drop_at front (word w32 n ++ rest) k long)
    ∙ ap (worth w32) (take_at (word w32 n) rest 4 (wide32.len n))
    ∙ wide32.again n small

at64 : (front rest : List ℕ) (n k : ℕ) → length front ≡ k → n < 2 ^ 64 → worth w64 (take 8 (drop k (front ++ (word w64 n ++ rest)))) ≡ n
at64 front rest n k long small =
    ap (λ (l : List ℕ). worth w64 (take 8 l)) (drop_at front (word w64 n ++ rest) k long)
    ∙ ap (worth w64) (take_at (word w64 n) rest 8 (wide64.len n))
    ∙ wide64.again n small

both : (bytes : List ℕ) (master batch : ℕ) → 24 ≤ length bytes → worth w32 (take 4 (drop 8 bytes)) ≡ master → worth w64 (take 8 (drop 16 bytes)) ≡ batch → id_in bytes ≡ Some (master, batch)
unfolding id_in
both bytes master batch long is_master is_batch = rw (le-ltb (length bytes) 24 long, is_master, is_batch) refl

pub id_of_record : (r : Record) → FitsRecord r → id_in (record_text r) ≡ Some (r.id.master, r.id.batch)
id_of_record r fits =
    let rest = middle_text r ++ parts_text r.parts in
    let magic = word w32 record_magic in
    let epoch = word w32 r.id.epoch in
    let master = word w32 r.id.master in
    let number = word w32 r.number in
    let batch = word w64 r.id.batch in
    let by_master : record_text r ≡ (magic ++ epoch) ++ (master ++ (number ++ (batch ++ rest))) = simp append_assoc in
    let by_batch : record_text r ≡ (magic ++ (epoch ++ (master ++ number))) ++ (batch ++ rest) = simp append_assoc in
    let eight : length (magic ++ epoch) ≡ 8 = simp (length-append, wide32.len) refl in
    let sixteen : length (magic ++ (epoch ++ (master ++ number))) ≡ 16 = simp (length-append, wide32.len) refl in
    let long : 24 ≤ length (record_text r) = rw by_batch (omega (arith, length-append (magic ++ (epoch ++ (master ++ number))) (batch ++ rest), length-append batch rest, wide64.len r.id.batch, sixteen)) in
    both (record_text r) r.id.master r.id.batch long
    (ap (λ (l : List ℕ). worth w32 (take 4 (drop 8 l))) by_master ∙ at32 (magic ++ epoch) (number ++ (batch ++ rest)) r.id.master 8 eight (let m = fits.master in omega (arith, m)))
    (ap (λ (l : List ℕ). worth w64 (take 8 (drop 16 l))) by_batch ∙ at64 (magic ++ (epoch ++ (master ++ number))) rest r.id.batch 16 sixteen fits.batch)
