-- What is written of bytes that are to begin with an update request.
use Rattle.std.specs.Prelude.{ℕ, List, length}
use Rattle.outside.specs.declared.status.Status.{Status}
use Rattle.out_update.specs.Spelling.{spells}
use Rattle.out_update.specs.Decoding.{judge_request}
use Rattle.out_update.specs.Text.{decoded_text}
use Rattle.decode_mode.specs.Refusing.{RefusesBy}
use Rattle.decode_mode.specs.Answering.{ShowsFront, Answers, HasOneAnswer}

-- the request that a front of the bytes spells
abbrev pub ShowsRequest : List ℕ → List ℕ → Type 0
ShowsRequest bytes text = ShowsFront spells decoded_text bytes text

abbrev pub RefusesRequest : List ℕ → List ℕ → Type 0
RefusesRequest bytes text = RefusesBy (judge_request bytes) (length bytes) text

abbrev pub AnswersRequest : Type 0 → Status → List ℕ → List ℕ → Type 0
AnswersRequest Ended result read written = Answers Ended ShowsRequest RefusesRequest result read written

abbrev pub OneAnswerPerRequest : Type 0
OneAnswerPerRequest = HasOneAnswer ShowsRequest RefusesRequest
