-- The facts that bytes spell, where they spell some. Nothing is judged here.
use Rattle.std.specs.Prelude.{ℕ, nat_lt, ◌==◌, if◌then◌else◌, List, Option, Some, None}
use Rattle.std.specs.Int.{w32, w64}
use Rattle.byte_grammar.specs.Values.{◌>>=◌, number_at}
use Rattle.out_update.specs.Values.{reply_at, front}
use Rattle.update_record.specs.declared.message.Facts.{Facts}

-- a set of targets: a number of four bytes that is below 65536
unfoldable pub set_at : List ℕ → Option (ℕ × List ℕ)
set_at bytes = do
  n ← number_at w32 bytes
  if nat_lt n.0 65536 then Some (n.0, n.1) else None

-- the last writer and its targets; there is none where its number is 0
abbrev pub writer_with : ℕ → ℕ → Option (ℕ × ℕ)
writer_with n set = if n == 0 then None else Some (n, set)

-- facts, and the bytes behind them
unfoldable pub facts_at : List ℕ → Option (Facts × List ℕ)
facts_at bytes = do
  load ← number_at w64 bytes
  clock ← number_at w64 load.1
  writer ← number_at w32 clock.1
  set ← set_at writer.1
  reply ← reply_at set.1
  Some (record { load = load.0; clock = clock.0; writer = writer_with writer.0 set.0; reply = reply.0 }, reply.1)

abbrev pub facts_value : List ℕ → Option Facts
facts_value bytes = front (facts_at bytes)
