use Rattle.std.proofs.Common.{arith, ◌≡◌, ◌==◌, ◌&&◌, true, ℕ, List, [], ◌∷◌, refl, sym, ap, ◌∙◌, subst}
use Rattle.std.specs.Cmp.Lexicographic.{pointwise}
use Rattle.std.proofs.lemmas.Bool.{false≢true, eq-eqb}
use Rattle.std.specs.Fmt.{decimal}
use Rattle.std.specs.Str.{IsUtf8}
use Rattle.std.proofs.lemmas.Fmt.{IsAscii-decimal, parse-decimal}
use Rattle.std.proofs.lemmas.Str.{IsUtf8-from_ascii}
use Rattle.tree_model.proofs.reading.number.Goals as goal

all_same : (xs : List ℕ) → pointwise ◌==◌ xs xs ≡ true
all_same [] = refl
all_same (x ∷ xs) = ap (λ t. t && pointwise ◌==◌ xs xs) (eq-eqb x x refl) ∙ all_same xs

pub returns-in-Err-clause-none : goal.returns-in-Err-clause-none
returns-in-Err-clause-none c = λ n low e. c.in-Err.ensures.cases.0 (subst (λ (l : List ℕ). IsUtf8 l) (sym e) (IsUtf8-from_ascii (decimal n) (IsAscii-decimal n (omega (arith, low)))))

pub returns-in-Err-parse-clause-none : goal.returns-in-Err-parse-clause-none
returns-in-Err-parse-clause-none c = λ n low e.
    let is = parse-decimal 32 n c.in-Ok.text.now c.parse.result low (omega (arith, low)) (c.in-Ok.ensures.cases.0 ∙ e) c.parse.ensures.value.0 in
    cc

pub returns-clause-none : goal.returns-clause-none
returns-clause-none c = λ n low e.
    let is = parse-decimal 32 n c.in-Ok.text.now c.parse.result low (omega (arith, low)) (c.in-Ok.ensures.cases.0 ∙ e) c.parse.ensures.value.0 in
    let same : c.in-Ok-parse.number ≡ n = cc in
    let f = c.if-eq.false in
    let k = c.eq.ensures in
    let a = c.as_bytes.ensures.value in
    let b = c.in_ok-again.ensures.ok in
    let bytes : c.as_bytes.result.now ≡ c.args.word.now = a ∙ b ∙ ap decimal same ∙ sym e in
    false≢true (sym f ∙ k ∙ ap (λ (l : List ℕ). pointwise ◌==◌ l c.args.word.now) bytes ∙ all_same c.args.word.now)
