-- The text that shows a log, and the text of a fault. Each line ends with a line feed.
use Rattle.std.specs.Prelude.{ℕ, Bool, List, ◌++◌, length, codes, if◌then◌else◌}
use Rattle.std.specs.List.{flat_map}
use Rattle.std.specs.Fmt.{decimal}
use Rattle.llog_store.specs.declared.fault.LlogFault.{LlogFault}
use Rattle.llog_store.specs.declared.fault.LlogFault.TheVariants as fault
use Rattle.llog_store.specs.Log.{Entry, Log, live_count}

-- the next index, and how many records are live
unfoldable pub head_line : ℕ → ℕ → List ℕ
head_line next live = codes "log next " ++ (decimal next ++ (codes " live " ++ (decimal live ++ codes "\n")))

unfoldable pub record_line : ℕ → Bool → ℕ → List ℕ
record_line index live len = codes "index " ++ (decimal index ++ ((if live then codes " live" else codes " cancelled") ++ (codes " length " ++ (decimal len ++ codes "\n"))))

unfoldable pub entry_line : Entry → List ℕ
entry_line e = record_line e.index e.live (length e.payload)

-- a log as `decode` shows it, before the line of the rest
unfoldable pub decoded_text : Log → List ℕ
decoded_text log = head_line log.next (live_count log.entries) ++ flat_map entry_line log.entries

unfoldable pub place_line : ℕ → List ℕ → List ℕ
place_line place name = codes "place " ++ (decimal place ++ (codes ": " ++ (name ++ codes "\n")))

-- a fault with its place; want of memory has no line
unfoldable pub fault_text : LlogFault → List ℕ
fault_text (fault.BadLength place) = place_line place (codes "BadLength")
fault_text (fault.BadIndex place) = place_line place (codes "BadIndex")
fault_text (fault.BadType place) = place_line place (codes "BadType")
fault_text (fault.BadTail place) = place_line place (codes "BadTail")
fault_text (fault.BadPadding place) = place_line place (codes "BadPadding")
fault_text (fault.BadBitmap place) = place_line place (codes "BadBitmap")
fault_text (fault.Truncated place) = place_line place (codes "Truncated")
fault_text fault.Memory = codes ""
