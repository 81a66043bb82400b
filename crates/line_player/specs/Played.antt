-- What a player may write over the bytes that it reads, whatever runs the lines.
use Rattle.std.specs.Prelude.{◌≡◌, ◌≢◌, ◌≤◌, ◌⊎◌, ◌+◌, ℕ, Bool, true, false, length, List, [], ◌∷◌, ◌++◌}
use Rattle.std.specs.List.{AllByRecursion, flat_map}
use Rattle.outside.specs.declared.status.Status.{Status}
use Rattle.outside.specs.declared.status.Status.TheVariants.{Done, Refused, Memory, Source, Sink}
use Rattle.scenario_text.specs.Refusals.{Closes, IsWhole, PassesLimit, refusal, no_end}
use Rattle.scenario_text.specs.Spelling.{NoFeed}

-- LINES

-- lines, each with its line feed
abbrev pub bytes_of : List (List ℕ) → List ℕ
bytes_of ls = flat_map (λ l. l ++ 10 ∷ []) ls

-- a line inside the limit
abbrev pub IsLine : List ℕ → Type 0
IsLine line = NoFeed line × (length line ≤ 16384)

-- lines inside the limits
pub record AreLines (lines : List (List ℕ)) : Type 0 where
  pub each : AllByRecursion IsLine lines
  pub few : length lines ≤ 1000000

-- lines that were run one after another, from one state to another
abbrev pub Runs : {S : Type 0} → (S → List ℕ → S → List ℕ → Type 0) → S → List (List ℕ) → S → List ℕ → Type 0
Runs takes old [] new text = (new ≡ old) × (text ≡ [])
Runs {S = S} takes old (line ∷ lines) new text =
    (mid : S) × (said : List ℕ) × (rest : List ℕ) × takes old line mid said × Runs takes mid lines new rest × (text ≡ said ++ rest)

-- WHAT IS WRITTEN

-- What runs the lines: which lines may be run with which text, so that the state is now the one behind them;
-- and so that it came of the one behind them with one line more, for which memory ran out; which line is
-- refused behind them; and whether the end is among them.
pub record Rules : Type 1 where
  pub ran : List (List ℕ) → List ℕ → Type 0
  pub ran_before : List (List ℕ) → List ℕ → Type 0
  pub refuses : List (List ℕ) → List ℕ → List ℕ → Type 0
  pub ends : Bool → List (List ℕ) → List ℕ → Type 0

-- the rules of states, from one to another
abbrev pub rules_of : {S : Type 0} → (S → List ℕ → S → List ℕ → Type 0) → (S → List ℕ → Type 0) → (S → S → Type 0) → (S → Bool) → S → S → Rules
rules_of {S = S} takes refuses leaves ended old new = record {
  ran = λ lines text. Runs takes old lines new text;
  ran_before = λ lines text. (mid : S) × Runs takes old lines mid text × ((new ≡ mid) ⊎ leaves mid new);
  refuses = λ lines text line. Runs takes old lines new text × refuses new line;
  ends = λ over lines text. Runs takes old lines new text × (ended new ≡ over);
}

-- In what follows AtEnd says that the input has nothing left. Never more than 67,108,864 bytes are run.

-- The lines before it were run, and this line, which has begun, passes a limit, or is whole and none that
-- may come. The last thing written is its refusal. No more than its byte 16,385 was looked at, and 65,536
-- bytes behind it were read at most.
pub record RefusesLine (r : Rules) (AtEnd : Type 0) (read text : List ℕ) : Type 0 where
  pub lines : List (List ℕ)
  pub before : List ℕ
  pub ran : r.ran lines before
  pub are : AreLines lines
  pub short : length (bytes_of lines) ≤ 67108864
  pub line : List ℕ
  pub feed : List ℕ
  pub tail : List ℕ
  pub split : read ≡ bytes_of lines ++ (line ++ (feed ++ tail))
  pub one_line : NoFeed line
  pub one_feed : (feed ≡ []) ⊎ (feed ≡ 10 ∷ [])
  pub begun : line ++ feed ≢ []
  pub cause : PassesLimit (length lines + 1) line (length (bytes_of lines) + length line + length feed)
      ⊎ (IsWhole AtEnd line feed tail × r.refuses lines before line)
  pub near : length line ≤ 16385
  pub behind : length tail ≤ 65536
  pub written : text ≡ before ++ refusal (length lines + 1)

-- All lines were run, and none of them is the end.
pub record LacksEnd (r : Rules) (AtEnd : Type 0) (read text : List ℕ) : Type 0 where
  pub at_end : AtEnd
  pub lines : List (List ℕ)
  pub before : List ℕ
  pub closes : Closes AtEnd read (bytes_of lines)
  pub open_end : r.ends false lines before
  pub are : AreLines lines
  pub short : length read ≤ 67108864
  pub written : text ≡ before ++ no_end (length lines + 1)

-- All lines were run, and the last of them is the end.
pub record Completes (r : Rules) (AtEnd : Type 0) (read text : List ℕ) : Type 0 where
  pub at_end : AtEnd
  pub lines : List (List ℕ)
  pub closes : Closes AtEnd read (bytes_of lines)
  pub ended : r.ends true lines text
  pub are : AreLines lines
  pub short : length read ≤ 67108864

-- The lines in a front of the bytes were run, and the state may have changed since.
pub record RunsOver (r : Rules) (AtEnd : Type 0) (read text : List ℕ) : Type 0 where
  pub done : List ℕ
  pub tail : List ℕ
  pub split : read ≡ done ++ tail
  pub lines : List (List ℕ)
  pub closes : Closes (AtEnd × (tail ≡ [])) done (bytes_of lines)
  pub ran : r.ran_before lines text
  pub are : AreLines lines
  pub short : length done ≤ 67108864

-- All lines that ended were run.
pub record RunsAll (r : Rules) (read text : List ℕ) : Type 0 where
  pub lines : List (List ℕ)
  pub rest : List ℕ
  pub whole : read ≡ bytes_of lines ++ rest
  pub partial : IsLine rest
  pub ran : r.ran lines text
  pub are : AreLines lines
  pub short : length read ≤ 67108864

-- what was written, by the status, over the bytes that were read
abbrev pub Played : Rules → Type 0 → Status → List ℕ → List ℕ → Type 0
Played r AtEnd Done read text = Completes r AtEnd read text
Played r AtEnd Refused read text = RefusesLine r AtEnd read text ⊎ LacksEnd r AtEnd read text
Played r AtEnd Memory read text = RunsOver r AtEnd read text
Played r AtEnd Source read text = RunsAll r read text
Played r AtEnd Sink read text =
    (more : List ℕ)
    × (RunsOver r AtEnd read (text ++ more) ⊎ (RefusesLine r AtEnd read (text ++ more) ⊎ LacksEnd r AtEnd read (text ++ more)))

-- BYTES BEHIND A LINE

-- The line that the last thing written names: no more than its byte 16,385 was looked at, and 65,536 bytes
-- behind it were read at most.
pub record NamesLine (read text : List ℕ) : Type 0 where
  pub lines : List (List ℕ)
  pub each : AllByRecursion IsLine lines
  pub line : List ℕ
  pub feed : List ℕ
  pub tail : List ℕ
  pub split : read ≡ bytes_of lines ++ (line ++ (feed ++ tail))
  pub one_line : NoFeed line
  pub one_feed : (feed ≡ []) ⊎ (feed ≡ 10 ∷ [])
  pub near : length line ≤ 16385
  pub behind : length tail ≤ 65536
  pub before : List ℕ
  pub written : text ≡ before ++ refusal (length lines + 1)

-- where a line was refused, or all was read
abbrev pub StopsNear : Type 0 → List ℕ → List ℕ → Type 0
StopsNear AtEnd read text = AtEnd ⊎ NamesLine read text
