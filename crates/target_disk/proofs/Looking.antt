-- The gate and the table that it names, as they are read.
use Rattle.std.proofs.Common.{◌≡◌, ◌⊎◌, inl, inr, ℕ, List, ◌++◌, Bool, true, false, eqb, length, get_or, take, drop, sym, ◌∙◌, ap, lit<, ◌≤◌, arith, length-take}
use Rattle.std.proofs.lemmas.List.{take_at, get_or-take}
use Rattle.outside.specs.Disk.{part}
use Rattle.target_disk.specs.Tables.{is_open, table_at, table_len, home_at, journal_at}

pub gate_read : (content gate : List ℕ) → gate ≡ part 0 1 content → eqb (get_or gate 0 0) 1 ≡ is_open content
unfolding is_open
gate_read content gate is = ap (λ (l : List ℕ). eqb (get_or l 0 0) 1) is ∙ ap (λ (v : ℕ). eqb v 1) (get_or-take 1 content 0 0 (lit< tt))

-- where the table stands that is read
pub table_read : (content table : List ℕ) (gate : Bool) (at : ℕ) → ((gate ≡ true) × (at ≡ journal_at)) ⊎ ((gate ≡ false) × (at ≡ home_at)) → table ≡ part at table_len content → table ≡ part (table_at gate) table_len content
table_read content table gate at (inl (opened, here)) is = is ∙ ap (λ (k : ℕ). part k table_len content) (here ∙ sym (ap table_at opened))
table_read content table gate at (inr (shut, here)) is = is ∙ ap (λ (k : ℕ). part k table_len content) (here ∙ sym (ap table_at shut))

-- what is left of a list that is cut
pub cut_short : (n : ℕ) (bytes cut : List ℕ) → cut ≡ take n bytes → length cut ≤ n
cut_short n bytes cut is = omega (arith, ap length is, length-take n bytes)

pub all_written : (old new : List ℕ) (len : ℕ) → len ≡ length old → length new ≡ length old → take len (new ++ drop (length new) old) ≡ new
all_written old new len is same = take_at new (drop (length new) old) len (same ∙ sym is)
