-- A text that is added part by part, and what stands there before the last one.
use Rattle.std.proofs.Common.{◌≡◌, ℕ, ◌+◌, ◌-◌, ◌≤◌, List, ◌++◌, length, take, drop, refl, sym, ap, ◌∙◌, append_assoc, arith, length-append}
use Rattle.std.specs.Prelude.{Result, Ok, Err, OnErr}
use Rattle.std.proofs.lemmas.List.{take-append-drop}
use Rattle.std.proofs.Math.Seq.{take-append_seam, take-append-add}
use Rattle.object_store.specs.ImageText.{IsFront}

-- what is followed by more, so that the whole is the text behind the old bytes
pub is_front : (text old new more : List ℕ) → length old ≤ length new → new ++ more ≡ old ++ text → IsFront text old new
unfolding IsFront
is_front text old new more longer whole =
    let k = length new - length old in
    let sum : length new ≡ length old + k = omega (arith, longer) in
    sym (take-append_seam new more) ∙ ap (λ (l : List ℕ). take (length new) l) whole ∙ ap (λ n. take n (old ++ text)) sum ∙ take-append-add old text k

-- what has still to be added
pub left : List ℕ → List ℕ → List ℕ → List ℕ
left text old new = drop (length new - length old) text

pub whole : (text old new : List ℕ) → IsFront text old new → new ++ left text old new ≡ old ++ text
unfolding IsFront left
whole text old new front =
    let k = length new - length old in
    ap (λ (l : List ℕ). l ++ drop k text) front ∙ append_assoc old (take k text) (drop k text) ∙ ap (λ (l : List ℕ). old ++ l) (take-append-drop k text)

pub longer : (text old new : List ℕ) → IsFront text old new → length old ≤ length new
unfolding IsFront
longer text old new front =
    let is = ap length front in
    let sum = length-append old (take (length new - length old) text) in
    omega (arith, is, sum)

-- nothing is added
pub nothing : (text old new : List ℕ) → new ≡ old → IsFront text old new
nothing text old new same =
    let is = ap length same in
    is_front text old new text (omega (arith, is)) (ap (λ (l : List ℕ). l ++ text) same)

-- a front of what comes behind a first part
pub behind : (a text old mid new : List ℕ) → mid ≡ old ++ a → IsFront text mid new → IsFront (a ++ text) old new
behind a text old mid new added front =
    let is = ap length added in
    let sum = length-append old a in
    let more = longer text mid new front in
    is_front (a ++ text) old new (left text mid new) (omega (arith, is, sum, more)) (whole text mid new front ∙ ap (λ (l : List ℕ). l ++ text) added ∙ append_assoc old a text)

-- a front of a first part
pub within : (text more old new : List ℕ) → IsFront text old new → IsFront (text ++ more) old new
within text more old new front =
    let rest = left text old new in
    is_front (text ++ more) old new (rest ++ more) (longer text old new front)
    (sym (append_assoc new rest more) ∙ ap (λ (l : List ℕ). l ++ more) (whole text old new front) ∙ append_assoc old text more)

-- a front of one of many parts, where those before it stand there already
pub among : (text more all old mid new : List ℕ) → length old ≤ length mid → mid ++ (text ++ more) ≡ old ++ all → IsFront text mid new → IsFront all old new
among text more all old mid new before sum front =
    let rest = within text more mid new front in
    let after = longer text mid new front in
    is_front all old new (left (text ++ more) mid new) (omega (arith, before, after)) (whole (text ++ more) mid new rest ∙ sum)

-- what holds anyway holds of an error
pub anyway : {T E P : Type 0} (r : Result T E) → P → OnErr r P
anyway (Ok x) p = tt
anyway (Err e) p = p

-- all parts, one after another
pub in_two : (a b text old mid new : List ℕ) → mid ≡ old ++ a → new ≡ mid ++ b → a ++ b ≡ text → new ≡ old ++ text
in_two a b text old mid new first second whole = second ∙ ap (λ (l : List ℕ). l ++ b) first ∙ append_assoc old a b ∙ ap (λ (l : List ℕ). old ++ l) whole

pub in_three : (a b c text old mid next new : List ℕ) → mid ≡ old ++ a → next ≡ mid ++ b → new ≡ next ++ c → a ++ (b ++ c) ≡ text → new ≡ old ++ text
in_three a b c text old mid next new first second third whole = in_two a (b ++ c) text old mid new first (in_two b c (b ++ c) mid next new second third refl) whole

pub grown : (text old mid new : List ℕ) → new ≡ mid ++ text → length old ≤ length mid → length old ≤ length new
grown text old mid new added before =
    let is = ap length added in
    let sum = length-append mid text in
    omega (arith, is, sum, before)
