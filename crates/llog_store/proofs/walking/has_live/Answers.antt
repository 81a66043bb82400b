use Rattle.std.proofs.Common.{◌≡◌, ◌+◌, ◌/◌, ◌%◌, true, eqb, ltb, ℕ, List, length, get_or, ap, sym, ◌∙◌, refl, arith}
use Rattle.std.specs.Int.{bit_at}
use Rattle.std.proofs.lemmas.Bool.{lt-ltb}
use Rattle.std.proofs.lemmas.List.{length-take}
use Rattle.llog_store.specs.Kept.{marked}
use Rattle.llog_store.proofs.Filling.{bit_in_header}
use Rattle.llog_store.proofs.walking.has_live.Goals as goal

pub is_marked-requires : goal.is_marked-requires
is_marked-requires c = omega (arith, ap length c.header.ensures, length-take 32768 c.args.bytes.now, c.requires, c.if-index-lt-END_OF_INDEXES.true)

pub returns-then-index-lt-END_OF_INDEXES : goal.returns-then-index-lt-END_OF_INDEXES
unfolding marked
returns-then-index-lt-END_OF_INDEXES c =
    let i = c.args.index in
    let yes : ltb i 256000 ≡ true = lt-ltb i 256000 c.if-index-lt-END_OF_INDEXES.true in
    let is : get_or c.header.result.now (24 + i / 8) 0 ≡ get_or c.args.bytes.now (24 + i / 8) 0 = ap (λ (x : List ℕ). get_or x (24 + i / 8) 0) c.header.ensures ∙ bit_in_header c.args.bytes.now i c.if-index-lt-END_OF_INDEXES.true in
    c.is_marked.ensures ∙ ap (λ (b : ℕ). eqb (bit_at b (i % 8)) 1) is ∙ sym (rw yes refl)
