use Rattle.std.proofs.Common.{◌≡◌, ℕ, ◌≤◌, ◌+◌, ◌++◌, ◌*◌, ◌-◌, List, length, drop}
use Rattle.byte_grammar.specs.Grammar.{judge}
use Rattle.byte_grammar.proofs.position.scan.Given as goal

abbrev pub invariant-loop-width : goal.invariant-loop-width
invariant-loop-width g l = record {
  in_bytes : l.reached.place ≤ length l.bytes;
  resumes : (more : List ℕ) → judge g.P.Position.LIMIT (g.P.Position.grammar l.fn.from.position) l.fn.from.place (drop l.fn.from.place l.bytes ++ more)
      ≡ judge g.P.Position.LIMIT (g.P.Position.grammar l.reached.position) l.reached.place (drop l.reached.place l.bytes ++ more);
}

abbrev pub decreases-loop-width : goal.decreases-loop-width
decreases-loop-width g l = 16 * (length l.bytes - l.reached.place) + g.P.Position.rank l.reached.position
