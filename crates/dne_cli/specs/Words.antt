-- The words of the program: what each list of them asks for.
use Rattle.std.specs.Prelude.{◌≡◌, ◌≢◌, ◌==◌, ◌≤◌, ◌++◌, ℕ, Bool, false, Option, Some, None, List, [], ◌∷◌, map, codes, string_bytes, take}
use Rattle.std.specs.Fmt.{decimal}
use Rattle.std.specs.Io.KnownBytes.{Appends}
use Rattle.std.specs.declared.string.String.{String}
use Rattle.std.specs.declared.alloc.Global.{Global}
use Rattle.fid_space.specs.declared.fid.Fid.{Fid}
use Rattle.fid_space.specs.FidText.{fid_text, IsFid}
use Rattle.fid_space.specs.Homes.{home_text}
use Rattle.tree_model.specs.Names.{IsName, name_word}
use Rattle.tree_model.specs.Striped.{fnv1a_64}
use Rattle.striped_dir.specs.HashText.{hash_text}
use Rattle.outside.specs.declared.status.Status.{Status}
use Rattle.outside.specs.declared.status.Status.TheVariants as status
use Rattle.dne_cli.specs.declared.modes.Mode.{Mode}
use Rattle.dne_cli.specs.declared.modes.Mode.TheVariants as modes
use Rattle.dne_cli.specs.declared.modes.Query.{Query}
use Rattle.dne_cli.specs.declared.modes.Query.TheVariants as queries

-- the words of a mode that runs over the input
abbrev pub play_words : List (List ℕ)
play_words = codes "play" ∷ []

abbrev pub model_words : List (List ℕ)
model_words = codes "model" ∷ []

abbrev pub decode_request_words : List (List ℕ)
decode_request_words = codes "decode" ∷ codes "request" ∷ []

abbrev pub decode_record_words : List (List ℕ)
decode_record_words = codes "decode" ∷ codes "record" ∷ []

abbrev pub decode_log_words : List (List ℕ)
decode_log_words = codes "decode" ∷ codes "log" ∷ []

-- the words of none of them
pub record IsOther (words : List (List ℕ)) : Type 0 where
  pub play : words ≢ play_words
  pub model : words ≢ model_words
  pub request : words ≢ decode_request_words
  pub record_ : words ≢ decode_record_words
  pub log : words ≢ decode_log_words

-- what the words ask for
abbrev pub Asks : List (List ℕ) → Mode → Type 0
Asks words modes.Play = words ≡ play_words
Asks words modes.Model = words ≡ model_words
Asks words modes.DecodeRequest = words ≡ decode_request_words
Asks words modes.DecodeRecord = words ≡ decode_record_words
Asks words modes.DecodeLog = words ≡ decode_log_words
Asks words modes.Query = IsOther words

abbrev pub all_bytes : List (String Global) → List (List ℕ)
all_bytes words = map string_bytes words

abbrev pub IsPlay : List (String Global) → Type 0
IsPlay words = all_bytes words ≡ play_words

abbrev pub IsModel : List (String Global) → Type 0
IsModel words = all_bytes words ≡ model_words

abbrev pub IsDecodeRequest : List (String Global) → Type 0
IsDecodeRequest words = all_bytes words ≡ decode_request_words

abbrev pub IsDecodeRecord : List (String Global) → Type 0
IsDecodeRecord words = all_bytes words ≡ decode_record_words

abbrev pub IsDecodeLog : List (String Global) → Type 0
IsDecodeLog words = all_bytes words ≡ decode_log_words

-- an option, of which the program has none behind its own `--store`
abbrev pub is_option : List ℕ → Bool
is_option [] = false
is_option (b ∷ word) = b == 0x2d

-- the words ask for the hash of a name
abbrev pub AsksHash : List (List ℕ) → List ℕ → Type 0
AsksHash words name = IsName name × (is_option (name_word name) ≡ false) × (words ≡ codes "hash" ∷ name_word name ∷ [])

-- the words ask where a FID lives in a cluster of so many targets
abbrev pub AsksHome : List (List ℕ) → ℕ → Fid → Type 0
AsksHome words targets fid = (1 ≤ targets) × (targets ≤ 16) × IsFid fid × (words ≡ codes "fid" ∷ decimal targets ∷ fid_text fid ∷ [])

-- what words that read no input ask for; words that ask for nothing are bad
abbrev pub IsQuery : List (List ℕ) → Query → Type 0
IsQuery words (queries.Hash name) = AsksHash words name
IsQuery words (queries.Home targets fid) = AsksHome words targets fid
IsQuery words queries.Bad = ((name : List ℕ) → ¬ AsksHash words name) × ((targets : ℕ) (fid : Fid) → ¬ AsksHome words targets fid)

abbrev pub bad_words : List ℕ
bad_words = codes "words: BadWords\n"

abbrev pub home_answer : Option (List ℕ) → List ℕ × Status
home_answer None = (codes "no home\n", status.Refused)
home_answer (Some text) = (text ++ codes "\n", status.Done)

-- what is answered, and the status
abbrev pub query_answer : Query → List ℕ × Status
query_answer (queries.Hash name) = (hash_text (fnv1a_64 name) ++ codes "\n", status.Done)
query_answer (queries.Home targets fid) = home_answer (home_text targets fid)
query_answer queries.Bad = (bad_words, status.Refused)

-- The answer was written whole, a front of it where the output failed, or nothing for want of memory.
abbrev pub Answers : List (List ℕ) → Option (List ℕ) → Option (List ℕ) → Status → Type 0
Answers words before now status.Memory = now ≡ before
Answers words before now status.Sink = (query : Query) × IsQuery words query × ((n : ℕ) × Appends before now (take n (query_answer query).0))
Answers words before now result = (query : Query) × IsQuery words query × (result ≡ (query_answer query).1) × Appends before now (query_answer query).0
