-- Which reasons a grammar can give.
use Rattle.std.proofs.Common.{◌≡◌, ℕ, ◌+◌, Bool, true, false, if◌then◌else◌, List, length, take, drop, Option, Some, None, sym, ap, ◌∙◌, inl, inr}
use Rattle.std.specs.Int.{Width}
use Rattle.std.proofs.lemmas.Bool.{cases_lt}
use Rattle.byte_grammar.specs.declared.verdict.Reason.{Reason}
use Rattle.byte_grammar.specs.declared.verdict.Reason.TheVariants.{TooLong, BadPadding}
use Rattle.byte_grammar.specs.declared.verdict.Refusal.{Refusal}
use Rattle.byte_grammar.specs.declared.verdict.Verdict.TheVariants.{Refused}
use Rattle.byte_grammar.specs.Grammar.{Grammar, judge, Only}
use Rattle.byte_grammar.specs.Grammar.Grammar.{Ends, Refuses, Field}
use Rattle.byte_grammar.specs.Numbers.{worth, first_set}
use Rattle.byte_grammar.specs.Fields.{number, refuse, unless_bad, nothing, anything}
use Rattle.byte_grammar.proofs.Judging.{field_long, field_short, field_reads}

reason_of : (r s : Refusal) → Refused r ≡ Refused s → r.reason ≡ s.reason
reason_of r s e = cc

-- a refusal has one of the grammar's reasons, or is that of the limit
pub named_reason : (names : Reason → Bool) (l : ℕ) (g : Grammar) (p : ℕ) (xs : List ℕ) (r : Refusal) → names TooLong ≡ true → Only names g → judge l g p xs ≡ Refused r → names r.reason ≡ true
unfolding judge Only
named_reason names l Ends p xs r long only e = absurd cc
named_reason names l (Refuses s) p xs r long only e = ap names (sym (reason_of s r e)) ∙ only
named_reason names l (Field w next) p xs r long only e =
    elim (cases_lt l (p + w)) as (λ _. names r.reason ≡ true) [
      | inl h ↦ ap names (reason_of r _ (sym e ∙ field_long l w next p xs h)) ∙ long
      | inr h ↦ elim (cases_lt (length xs) w) as (λ _. names r.reason ≡ true) [
        | inl k ↦ absurd (let x = sym e ∙ field_short l w next p xs h k in cc)
        | inr k ↦ named_reason names l (next p (take w xs)) (p + w) (drop w xs) r long (only p (take w xs)) (sym (field_reads l w next p xs h k) ∙ e)
      ]
    ]

pub if_only : (names : Reason → Bool) (b : Bool) (next : Grammar) (place : ℕ) (reason : Reason) → names reason ≡ true → Only names next → Only names (if b then next else refuse place reason)
unfolding Only
if_only names true next place reason h n = n
if_only names false next place reason h n = h

pub unless_only : (names : Reason → Bool) (o : Option ℕ) (place : ℕ) (reason : Reason) (next : Grammar) → names reason ≡ true → Only names next → Only names (unless_bad o place reason next)
unfolding Only
unless_only names None place reason next h n = n
unless_only names (Some i) place reason next h n = h

pub number_only : (names : Reason → Bool) (w : Width) (reason : Reason) (test : ℕ → Bool) (next : ℕ → Grammar) → names reason ≡ true → ((n : ℕ) → Only names (next n)) → Only names (number w reason test next)
unfolding Only
number_only names w reason test next h n = λ place bytes. if_only names (test (worth w bytes)) (next (worth w bytes)) place reason h (n (worth w bytes))

pub nothing_only : (names : Reason → Bool) (n : ℕ) (next : Grammar) → names BadPadding ≡ true → Only names next → Only names (nothing n next)
unfolding Only
nothing_only names n next h on = λ place bytes. unless_only names (first_set bytes) place BadPadding next h on

pub anything_only : (names : Reason → Bool) (n : ℕ) (next : Grammar) → Only names next → Only names (anything n next)
unfolding Only
anything_only names n next on = λ place bytes. on
