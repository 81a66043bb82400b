-- What is answered to a request that comes in pieces, all of whose bytes are these.
use Rattle.std.specs.Prelude.{◌≡◌, ℕ, List, take, Option, Some, None, Result, Ok, Err}
use Rattle.byte_grammar.specs.declared.verdict.Verdict.TheVariants as verdict
use Rattle.out_update.specs.declared.update.UpdateRequest.{UpdateRequest}
use Rattle.out_update.specs.declared.fault.UpdateFault.{UpdateFault}
use Rattle.out_update.specs.Spelling.{spells}
use Rattle.out_update.specs.Decoding.{judge_request, IsFault}

abbrev pub Reads : List ℕ → Result (Option UpdateRequest) UpdateFault → Type 0
Reads bytes (Ok None) = judge_request bytes ≡ verdict.More
Reads bytes (Ok (Some value)) = (k : ℕ) × (judge_request bytes ≡ verdict.Done k) × spells value (take k bytes)
Reads bytes (Err e) = IsFault e (judge_request bytes)
