use Rattle.std.proofs.Common.{◌≡◌, ◌+◌, ◌*◌, ◌≤◌, ◌<◌, length}
use Rattle.tree_model.specs.TreeText.{entry_count}
use Rattle.tree_model.proofs.text.count_entries.Given as goal

abbrev pub invariant-loop-directory : goal.invariant-loop-directory
invariant-loop-directory l =
    (l.count + entry_count l._directory-iterator ≡ entry_count l.directories.entries)
    × (l.count + 9223372036854775808 * length l._directory-iterator ≤ 9223372036854775808 * length l.directories.entries)
    × (length l.directories.entries < 9223372036854775808)
