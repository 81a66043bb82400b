-- How an answer is written.
use Rattle.std.specs.Prelude.{◌≡◌, ℕ, true, false, List, [], ◌++◌, Result, Ok, Err}
use Rattle.std.specs.declared.alloc.AllocError.{AllocError}
use Rattle.outside.specs.declared.status.Status.{Status}
use Rattle.outside.specs.declared.status.Status.TheVariants as status
use Rattle.decode_mode.specs.declared.answer.Answer.{Answer}

abbrev pub Said : Result Answer AllocError → Status → List ℕ → Type 0
Said (Ok answer) status.Done written = (answer.shown ≡ true) × (written ≡ answer.text)
Said (Ok answer) status.Refused written = (answer.shown ≡ false) × (written ≡ answer.text)
Said (Ok answer) status.Sink written = (more : List ℕ) × (answer.text ≡ written ++ more)
Said (Ok answer) status.Memory written = ⊥
Said (Ok answer) status.Source written = ⊥
Said (Err e) status.Memory written = written ≡ []
Said (Err e) _ written = ⊥
