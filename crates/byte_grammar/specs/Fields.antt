-- The kinds of fields that formats are made of.
use Rattle.std.specs.Prelude.{ℕ, ◌+◌, Bool, if◌then◌else◌, Option, Some, None}
use Rattle.std.specs.Int.{Width, byte_len}
use Rattle.byte_grammar.specs.declared.verdict.Reason.{Reason}
use Rattle.byte_grammar.specs.declared.verdict.Reason.TheVariants.{BadPadding}
use Rattle.byte_grammar.specs.Grammar.{Grammar}
use Rattle.byte_grammar.specs.Grammar.Grammar.{Refuses, Field}
use Rattle.byte_grammar.specs.Numbers.{worth, first_set}

abbrev pub refuse : ℕ → Reason → Grammar
refuse place reason = Refuses (record { place = place; reason = reason })

-- a number that passes the test; the place is the field's
abbrev pub number : Width → Reason → (ℕ → Bool) → (ℕ → Grammar) → Grammar
number w reason test next = Field (byte_len w) (λ place bytes. if test (worth w bytes) then next (worth w bytes) else refuse place reason)

-- on, unless a byte is bad; the place is that byte's
abbrev pub unless_bad : Option ℕ → ℕ → Reason → Grammar → Grammar
unless_bad None place reason next = next
unless_bad (Some i) place reason next = refuse (place + i) reason

-- n bytes of 0
abbrev pub nothing : ℕ → Grammar → Grammar
nothing n next = Field n (λ place bytes. unless_bad (first_set bytes) place BadPadding next)

-- n bytes of any values
abbrev pub anything : ℕ → Grammar → Grammar
anything n next = Field n (λ place bytes. next)
