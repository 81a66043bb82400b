-- A commit in pieces.
use Rattle.std.specs.Prelude.{◌+◌, ◌*◌, ℕ, List, ◌++◌, Option, Some, None, length}
use Rattle.chain_blocks.specs.Chains.{block_len}

-- a commit that was begun: the blocks that are full, and the bytes behind them
pub record Begun : Type 0 where
  pub blocks : List ℕ
  pub rest : List ℕ

-- how many bytes were put
abbrev pub put_len : Option Begun → ℕ
put_len None = 0
put_len (Some begun) = block_len * length begun.blocks + length begun.rest

-- a piece behind what was put
abbrev pub joins : Option Begun → List ℕ → Option Begun
joins None piece = None
joins (Some begun) piece = Some (record { blocks = begun.blocks; rest = begun.rest ++ piece })
