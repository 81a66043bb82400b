-- A table, as it is kept in memory.
use Rattle.std.specs.Prelude.{Option, Some, None}
use Rattle.target_disk.specs.Tables.{Table}
use Rattle.target_disk.specs.declared.table.TableParts.{TableParts}

abbrev pub table_of : Option TableParts → Option Table
table_of None = None
table_of (Some parts) = Some (record { generation = parts.generation; len = parts.len; head = parts.head; free = parts.free; links = parts.links.items })
