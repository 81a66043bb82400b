-- One field of a grammar: what is written is read, and what is read was written.
use Rattle.std.proofs.Common.{◌≡◌, ℕ, ◌+◌, ◌*◌, ◌^◌, ◌≤◌, ◌<◌, Bool, true, false, if◌then◌else◌, List, ◌++◌, length, take, drop, Option, Some, None, refl, sym, ap, ◌∙◌, arith, append_assoc, length-append, inl, inr}
use Rattle.std.specs.Int.{Width, byte_len}
use Rattle.std.proofs.lemmas.List.{take_at, drop_at, take-append-drop, length-take-le}
use Rattle.std.proofs.lemmas.Bool.{cases_lt}
use Rattle.byte_grammar.specs.declared.verdict.Reason.{Reason}
use Rattle.byte_grammar.specs.declared.verdict.Reason.TheVariants.{BadPadding}
use Rattle.byte_grammar.specs.declared.verdict.Verdict.TheVariants.{Done}
use Rattle.byte_grammar.specs.Grammar.{Grammar, judge}
use Rattle.byte_grammar.specs.Grammar.Grammar.{Field}
use Rattle.byte_grammar.specs.Numbers.{word, worth, IsBytes, first_set, zeros}
use Rattle.byte_grammar.specs.Fields.{number, refuse, unless_bad, nothing}
use Rattle.byte_grammar.proofs.Judging.{field_long, field_short, field_reads}
use Rattle.byte_grammar.proofs.Bytes.{IsWide, IsBytes-drop, IsBytes-take, set_zeros, zeros_set, length-zeros}

-- ---- what is written is read

pub field_again : (l w : ℕ) (next : ℕ → List ℕ → Grammar) (p : ℕ) (text rest : List ℕ) → length text ≡ w → p + w ≤ l → judge l (Field w next) p (text ++ rest) ≡ judge l (next p text) (p + w) rest
field_again l w next p text rest len fits =
    let long : w ≤ length (text ++ rest) = omega (arith, length-append text rest) in
    field_reads l w next p (text ++ rest) fits long
    ∙ ap (λ (f : List ℕ). judge l (next p f) (p + w) (drop w (text ++ rest))) (take_at text rest w len)
    ∙ ap (λ (f : List ℕ). judge l (next p text) (p + w) f) (drop_at text rest w len)

pub number_again : (l : ℕ) (w : Width) (wide : IsWide w) (reason : Reason) (test : ℕ → Bool) (next : ℕ → Grammar) (p n : ℕ) (rest : List ℕ) → n < 2 ^ (8 * byte_len w) → test n ≡ true → p + byte_len w ≤ l
    → judge l (number w reason test next) p (word w n ++ rest) ≡ judge l (next n) (p + byte_len w) rest
number_again l w wide reason test next p n rest lt t fits =
    field_again l (byte_len w) (λ place bytes. if test (worth w bytes) then next (worth w bytes) else refuse place reason) p (word w n) rest (wide.len n) fits
    ∙ ap (λ (m : ℕ). judge l (if test m then next m else refuse p reason) (p + byte_len w) rest) (wide.again n lt)
    ∙ ap (λ (b : Bool). judge l (if b then next n else refuse p reason) (p + byte_len w) rest) t

pub nothing_again : (l n : ℕ) (next : Grammar) (p : ℕ) (rest : List ℕ) → p + n ≤ l → judge l (nothing n next) p (zeros n ++ rest) ≡ judge l next (p + n) rest
nothing_again l n next p rest fits =
    field_again l n (λ place bytes. unless_bad (first_set bytes) place BadPadding next) p (zeros n) rest (length-zeros n) fits
    ∙ ap (λ (o : Option ℕ). judge l (unless_bad o p BadPadding next) (p + n) rest) (set_zeros n)

-- the text leads from one grammar to another
abbrev pub Leads : ℕ → Grammar → Grammar → ℕ → List ℕ → Type 0
Leads l g next p text = (rest : List ℕ) → judge l g p (text ++ rest) ≡ judge l next (p + length text) rest

pub leads_then : (l : ℕ) (f g h : Grammar) (p : ℕ) (s t : List ℕ) → Leads l f g p s → Leads l g h (p + length s) t → Leads l f h p (s ++ t)
leads_then l f g h p s t a b rest =
    let e : p + length s + length t ≡ p + length (s ++ t) = omega (arith, length-append s t) in
    ap (judge l f p) (append_assoc s t rest) ∙ a (t ++ rest) ∙ b rest ∙ ap (λ (q : ℕ). judge l h q rest) e

pub field_leads : (l w : ℕ) (next : ℕ → List ℕ → Grammar) (p : ℕ) (text : List ℕ) → length text ≡ w → p + w ≤ l → Leads l (Field w next) (next p text) p text
field_leads l w next p text len fits rest = field_again l w next p text rest len fits ∙ ap (λ (q : ℕ). judge l (next p text) (p + q) rest) (sym len)

pub number_leads : (l : ℕ) (w : Width) (wide : IsWide w) (reason : Reason) (test : ℕ → Bool) (next : ℕ → Grammar) (p n : ℕ) → n < 2 ^ (8 * byte_len w) → test n ≡ true → p + byte_len w ≤ l → Leads l (number w reason test next) (next n) p (word w n)
number_leads l w wide reason test next p n lt t fits rest = number_again l w wide reason test next p n rest lt t fits ∙ ap (λ (q : ℕ). judge l (next n) (p + q) rest) (sym (wide.len n))

pub nothing_leads : (l n : ℕ) (next : Grammar) (p : ℕ) → p + n ≤ l → Leads l (nothing n next) next p (zeros n)
nothing_leads l n next p fits rest = nothing_again l n next p rest fits ∙ ap (λ (q : ℕ). judge l next (p + q) rest) (sym (length-zeros n))

-- ---- what is read was written

-- a text came from the front, and reading goes on behind it
pub record Takes (l : ℕ) (next : Grammar) (p : ℕ) (xs : List ℕ) (k : ℕ) (text : List ℕ) : Type 0 where
  pub rest : List ℕ
  pub parts : xs ≡ text ++ rest
  pub fits : IsBytes rest
  pub goes_on : judge l next (p + length text) rest ≡ Done k

pub joined : (l : ℕ) (f g : Grammar) (p : ℕ) (xs : List ℕ) (k : ℕ) (s t : List ℕ) (a : Takes l f p xs k s) → Takes l g (p + length s) a.rest k t → Takes l g p xs k (s ++ t)
joined l f g p xs k s t a b = record {
  rest = b.rest;
  parts = a.parts ∙ ap (λ (r : List ℕ). s ++ r) b.parts ∙ sym (append_assoc s t b.rest);
  fits = b.fits;
  goes_on = let e : p + length (s ++ t) ≡ p + length s + length t = omega (arith, length-append s t) in ap (λ (q : ℕ). judge l g q b.rest) e ∙ b.goes_on;
}

pub field_takes : (l w : ℕ) (next : ℕ → List ℕ → Grammar) (p : ℕ) (xs : List ℕ) (k : ℕ) → IsBytes xs → judge l (Field w next) p xs ≡ Done k → (text : List ℕ) × (length text ≡ w) × IsBytes text × Takes l (next p text) p xs k text
field_takes l w next p xs k h e =
    elim (cases_lt l (p + w)) [
      | inl long ↦ absurd (let x = sym e ∙ field_long l w next p xs long in cc)
      | inr fits ↦ elim (cases_lt (length xs) w) [
        | inl short ↦ absurd (let x = sym e ∙ field_short l w next p xs fits short in cc)
        | inr there ↦
            let len = length-take-le w xs there in (
              take w xs,
              len,
              IsBytes-take w xs h,
              record {
                rest = drop w xs;
                parts = sym (take-append-drop w xs);
                fits = IsBytes-drop w xs h;
                goes_on = ap (λ (q : ℕ). judge l (next p (take w xs)) (p + q) (drop w xs)) len ∙ sym (field_reads l w next p xs fits there) ∙ e;
              },
            )
      ]
    ]

-- a refused grammar is never done
pub passed : (l : ℕ) (b : Bool) (next : Grammar) (p q : ℕ) (reason : Reason) (xs : List ℕ) (k : ℕ) → judge l (if b then next else refuse p reason) q xs ≡ Done k → (b ≡ true) × (judge l next q xs ≡ Done k)
unfolding judge
passed l true next p q reason xs k e = (refl, e)
passed l false next p q reason xs k e = absurd cc

pub not_bad : (l : ℕ) (o : Option ℕ) (next : Grammar) (p q : ℕ) (reason : Reason) (xs : List ℕ) (k : ℕ) → judge l (unless_bad o p reason next) q xs ≡ Done k → (o ≡ None) × (judge l next q xs ≡ Done k)
unfolding judge
not_bad l None next p q reason xs k e = (refl, e)
not_bad l (Some i) next p q reason xs k e = absurd cc

-- the same text, and reading goes on as another grammar
pub goes_as : (l : ℕ) (f g : Grammar) (p : ℕ) (xs : List ℕ) (k : ℕ) (s t : List ℕ) (a : Takes l f p xs k s) → s ≡ t → judge l g (p + length s) a.rest ≡ Done k → Takes l g p xs k t
goes_as l f g p xs k s t a e on = record {
  rest = a.rest;
  parts = a.parts ∙ ap (λ (r : List ℕ). r ++ a.rest) e;
  fits = a.fits;
  goes_on = ap (λ (r : List ℕ). judge l g (p + length r) a.rest) (sym e) ∙ on;
}

pub number_takes : (l : ℕ) (w : Width) (wide : IsWide w) (reason : Reason) (test : ℕ → Bool) (next : ℕ → Grammar) (p : ℕ) (xs : List ℕ) (k : ℕ) → IsBytes xs → judge l (number w reason test next) p xs ≡ Done k
    → (n : ℕ) × (n < 2 ^ (8 * byte_len w)) × (test n ≡ true) × Takes l (next n) p xs k (word w n)
number_takes l w wide reason test next p xs k h e =
    let f = field_takes l (byte_len w) (λ place bytes. if test (worth w bytes) then next (worth w bytes) else refuse place reason) p xs k h e in
    let n = worth w f.0 in
    let g = passed l (test n) (next n) p (p + length f.0) reason f.3.rest k f.3.goes_on in
    (n, wide.below f.0 f.2, g.0, goes_as l _ (next n) p xs k f.0 (word w n) f.3 (sym (wide.back f.0 f.1 f.2)) g.1)

pub nothing_takes : (l n : ℕ) (next : Grammar) (p : ℕ) (xs : List ℕ) (k : ℕ) → IsBytes xs → judge l (nothing n next) p xs ≡ Done k → Takes l next p xs k (zeros n)
nothing_takes l n next p xs k h e =
    let f = field_takes l n (λ place bytes. unless_bad (first_set bytes) place BadPadding next) p xs k h e in
    let g = not_bad l (first_set f.0) next p (p + length f.0) BadPadding f.3.rest k f.3.goes_on in
    goes_as l _ next p xs k f.0 (zeros n) f.3 (zeros_set f.0 g.0 ∙ ap zeros f.1) g.1
