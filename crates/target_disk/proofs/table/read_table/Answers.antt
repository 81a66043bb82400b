use Rattle.std.proofs.Common.{◌∙◌, inl, inr, sym}
use Rattle.target_disk.specs.Tables.{Table}
use Rattle.target_disk.proofs.RoundTrip.{table_from, table_none}
use Rattle.target_disk.proofs.table.read_table.Goals as goal
use Rattle.target_disk.proofs.table.read_table.Goals.{then-word_at-ne-MAGIC-via-then-word_at-ne-MAGIC, then-word_at-ne-MAGIC-via-else-word_at-ne-MAGIC+then-word_at-ne-BLOCKS}

-- src/table.rt:120:5
pub returns-then-word_at-ne-MAGIC : goal.returns-then-word_at-ne-MAGIC
returns-then-word_at-ne-MAGIC c = elim c.then-word_at-ne-MAGIC.branch [
  | then-word_at-ne-MAGIC-via-then-word_at-ne-MAGIC w ↦ table_none c.args.table.now.items (inl (λ e. w.if-word_at-ne-MAGIC.true (c.word_at.ensures ∙ e)))
  | then-word_at-ne-MAGIC-via-else-word_at-ne-MAGIC+then-word_at-ne-BLOCKS w ↦ table_none c.args.table.now.items (inr (λ e. w.if-word_at-ne-BLOCKS.true (w.word_at-else-word_at-ne-MAGIC.ensures ∙ e)))
]

-- src/table.rt:117:1
pub returns : goal.returns
returns c =
    let t : Table = record { generation = c.long_at.result; len = c.long_at-2.result; head = c.word_at-2.result; free = c.word_at-3.result; links = c.in_ok-links_in.field-0.items } in
    sym (table_from c.args.table.now.items t (sym c.word_at.ensures ∙ c.if-word_at-ne-MAGIC.false) (sym c.word_at-else-word_at-ne-MAGIC.ensures ∙ c.if-word_at-ne-BLOCKS.false) (sym c.long_at.ensures) (sym c.long_at-2.ensures) (sym c.word_at-2.ensures) (sym c.word_at-3.ensures) (sym c.in_ok-links_in.ensures))
