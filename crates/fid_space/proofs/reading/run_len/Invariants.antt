use Rattle.std.proofs.Common.{◌≡◌, ◌++◌, take, drop}
use Rattle.fid_space.specs.FidReading.{hex_run}
use Rattle.fid_space.proofs.reading.run_len.Given as goal

abbrev pub invariant-loop-i : goal.invariant-loop-i
invariant-loop-i l = hex_run l.rest ≡ take l.i l.rest ++ hex_run (drop l.i l.rest)
