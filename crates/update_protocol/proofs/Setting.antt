-- A number of targets, with what the crates below prove of it.
use Rattle.std.specs.Prelude.{ℕ}
use Rattle.update_protocol.specs.Laws.{Laws}

pub record Setting : Type 0 where
  pub targets : ℕ
  pub laws : Laws targets

abbrev pub setting : (targets : ℕ) → Laws targets → Setting
setting targets laws = record { targets = targets; laws = laws }
