use Rattle.std.specs.Prelude.{IsTrue}
use Rattle.std.proofs.Common.{◌≡◌, inl, inr, ◌∙◌, ℕ, List, Bool, length, get_or, eqb, sym, ap, subst, arith}
use Rattle.std.proofs.lemmas.Bool.{eq-eqb, ne_eqb}
use Rattle.outside.specs.Disk.{part}
use Rattle.target_disk.specs.Tables.{table_len}
use Rattle.target_disk.proofs.Looking.{gate_read, table_read, all_written}
use Rattle.target_disk.proofs.read.look.Goals as goal
use Rattle.target_disk.proofs.read.look.Goals.{then-is_open, else-is_open}

pub returns-clause-gate : goal.returns-clause-gate
returns-clause-gate g c tells = gate_read (g.D.Disk.shown c.args.disk.now).content c.read_at.new.into (c.in_ok-read_at.ensures.bytes tells)

pub returns-clause-table : goal.returns-clause-table
returns-clause-table g c tells =
    let old = (g.D.Disk.shown c.args.disk.now).content in
    let mid = (g.D.Disk.shown c.read_at.new.self).content in
    let first = get_or c.read_at.new.into 0 0 in
    let size : length c.deref_mut.result.now ≡ table_len = ap length c.deref_mut.ensures.value ∙ c.requires in
    all_written c.args.table.now.items c.read_at-2.new.into c.args.table.now.len (omega (arith, c.args.table.now.ok)) (omega (arith, c.read_at-2.auto.into, size, c.requires))
    ∙ table_read old c.read_at-2.new.into (eqb first 1) c.if-is_open.at
    (elim c.if-is_open.branch [
      | then-is_open w ↦ inl (eq-eqb first 1 w.if-is_open.true, w.at-is)
      | else-is_open w ↦ inr (ne_eqb first 1 w.if-is_open.false, w.at-is)
    ])
    (c.in_ok-read_at-2.ensures.bytes (subst (λ (b : Bool). IsTrue b) (sym c.in_ok-read_at.ensures.stays.tells) tells)
    ∙ ap (λ (n : ℕ). part c.if-is_open.at n mid) size
    ∙ ap (λ (l : List ℕ). part c.if-is_open.at table_len l) (c.in_ok-read_at.ensures.content tells))
