-- A line and its words.
use Rattle.std.proofs.Common.{◌≡◌, ◌≢◌, ◌==◌, ◌<◌, ◌^◌, ℕ, Option, List, Result, Ok, Err, IfOk, sym, ap, ◌∙◌, arith}
use Rattle.std.specs.List.{slice_split, join_with_byte}
use Rattle.std.specs.Fmt.{decimal}
use Rattle.std.proofs.lemmas.Fmt.{decimal_injective}
use Rattle.std.proofs.lemmas.List.Splits.{join_with_byte-slice_split}
use Rattle.scenario_text.specs.Spelling.{IsCommand, spelling, words_of}
use Rattle.scenario_text.specs.declared.command.Command.{Command}
use Rattle.scenario_text.specs.declared.command.TextFault.{TextFault}
use Rattle.scenario_text.proofs.OneSpelling.{cut_words}

pub parsed : (a : Option ℕ) (r : Result Command TextFault) (line : List ℕ) (ws : List (List ℕ)) → ws ≡ slice_split (λ b. b == 32) line → IfOk r (λ c. IsCommand a c × (ws ≡ words_of c)) → IfOk r (λ c. IsCommand a c × (line ≡ spelling c))
parsed a (Ok c) line ws e h = (h.0, sym (join_with_byte-slice_split 32 line) ∙ ap (join_with_byte 32) (sym e ∙ h.1))
parsed a (Err d) line ws e h = tt

pub refused : (a : Option ℕ) (line : List ℕ) (ws : List (List ℕ)) → ws ≡ slice_split (λ b. b == 32) line → ((c : Command) → IsCommand a c → ws ≢ words_of c) → (c : Command) → IsCommand a c → line ≢ spelling c
refused a line ws e h c fits = λ s. h c fits (e ∙ ap (slice_split (λ b. b == 32)) s ∙ cut_words a c fits)

-- two numbers that one word spells are one
pub same_number : (word : List ℕ) (m n : ℕ) → m < 2 ^ 32 → n < 2 ^ 32 → word ≡ decimal m → word ≡ decimal n → m ≡ n
same_number word m n low high e f = decimal_injective m n (omega (arith, low)) (omega (arith, high)) (sym e ∙ f)
