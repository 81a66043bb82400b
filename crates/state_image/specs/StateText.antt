-- The state image: the one spelling of what a target commits.
use Rattle.std.specs.Prelude.{◌≡◌, ℕ, ◌^◌, ◌<◌, ◌&&◌, nat_lt, Bool, true, List, [], ◌∷◌, ◌++◌, length}
use Rattle.std.specs.Int.{w32}
use Rattle.std.specs.List.{AllByRecursion}
use Rattle.byte_grammar.specs.Numbers.{word, zeros}
use Rattle.out_update.specs.declared.update.Update.{Update}
use Rattle.object_store.specs.ImageText.{image_text, FitsObjects}
use Rattle.llog_store.specs.Log.{Log, IsLog, log_text}
use Rattle.llog_store.specs.Changes.{live_payloads}
use Rattle.update_record.specs.declared.operation.Record.{Record}
use Rattle.update_record.specs.Spelling.{has_target, spells_record}
use Rattle.state_image.specs.declared.image.Image.{Image}
use Rattle.state_image.specs.FrontText.{front_text, FitsFront}

-- the log behind its length and zeros
unfoldable pub log_part : Log → List ℕ
log_part log = word w32 (length (log_text log)) ++ (zeros 4 ++ log_text log)

-- the front, the objects and the log
unfoldable pub state_text : Image → List ℕ
state_text s = front_text s.front ++ (image_text s.objects ++ log_part s.log)

-- ---- what has a state image

-- whether each target that takes part is one of so many
abbrev pub all_below : ℕ → List (ℕ × List Update) → Bool
all_below targets [] = true
all_below targets (part ∷ parts) = nat_lt part.0 targets && all_below targets parts

-- A target of so many keeps records that name it, and none that there isn't.
abbrev pub is_own : ℕ → ℕ → Record → Bool
is_own targets index r = has_target index r.parts && all_below targets r.parts

-- the payload is the spelling of such a record
abbrev pub IsOwn : ℕ → ℕ → List ℕ → Type 0
IsOwn targets index payload = (r : Record) × spells_record r payload × (is_own targets index r ≡ true)

-- and so is that of each live record
abbrev pub AreOwn : ℕ → ℕ → Log → Type 0
AreOwn targets index log = AllByRecursion (IsOwn targets index) (live_payloads log.entries)

pub record FitsState (s : Image) : Type 0 where
  pub front : FitsFront s.front
  pub objects : FitsObjects s.objects
  pub log : IsLog s.log
  pub short : length (log_text s.log) < 2 ^ 32
  pub payloads : AreOwn s.front.cluster s.front.index s.log
