-- What a command makes a target do, and what its disk may do meanwhile.
use Rattle.std.specs.Prelude.{◌≡◌, Bool, true, false, if◌then◌else◌, List, [], ◌∷◌}
use Rattle.outside.specs.Causes.{Rose}
use Rattle.outside.specs.Disk.{Shown}
use Rattle.update_record.specs.declared.message.Message.{Message}
use Rattle.scenario_text.specs.declared.line.Line.TheVariants as lines
use Rattle.target_turns.specs.Target.{Target, Fate, Turned, quiet, says, serves}
use Rattle.target_turns.specs.Touching.{Touches}
use Rattle.target_turns.specs.Marks.{committing, resending}
use Rattle.target_turns.specs.Turn.{bounced}

-- it commits, or says what it does where it doesn't serve
abbrev pub commits_by : Target → Fate → Turned
commits_by t f = if serves t then committing t f else says t (lines.State t.index t.standing ∷ [])

-- what it sends once more
abbrev pub resends : Target → List Message
resends t = if serves t then resending t else []

-- what its attempt asked came to a target that doesn't serve
abbrev pub hears_bounce : Target → Message → Fate → Turned
hears_bounce t m f = if serves t then bounced t m f else quiet t

-- A target that served stops only where a call of its disk failed; the disk of one that doesn't serve stays as it is.
abbrev pub StopsOnly : Bool → Bool → Shown → Shown → Type 0
StopsOnly true true old new = Unit {0}
StopsOnly true false old new = Rose old.faults new.faults
StopsOnly false up old new = new ≡ old

-- what a disk may do in a turn of its target
pub record MayBe (t : Target) (f : Fate) : Type 0 where
  pub touches : Touches t.disk f.disk
  pub stops : StopsOnly (serves t) f.up t.disk f.disk
