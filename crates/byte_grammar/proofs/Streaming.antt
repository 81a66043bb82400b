-- One step of a reader that stands anywhere.
use Rattle.std.proofs.Common.{◌≡◌, ℕ, ◌+◌, ◌-◌, ◌≤◌, ◌<◌, List, [], ◌++◌, length, take, drop, Some, None, refl, sym, ap, subst, ◌∙◌, arith, length-append, length-drop, Option, inl, inr, append_assoc}
use Rattle.std.proofs.lemmas.List.{take-append-le, drop-append-le, drop-drop, append-nil}
use Rattle.byte_grammar.specs.declared.verdict.Refusal.{Refusal}
use Rattle.byte_grammar.specs.declared.verdict.Reason.TheVariants.{TooLong}
use Rattle.byte_grammar.specs.declared.verdict.Verdict.{Verdict}
use Rattle.byte_grammar.specs.declared.verdict.Verdict.TheVariants.{More, Done, Refused}
use Rattle.byte_grammar.specs.Grammar.{Grammar, judge, IsSettled}
use Rattle.byte_grammar.specs.Grammar.Grammar.{Ends, Refuses, Field}
use Rattle.byte_grammar.specs.Steps.{width_at, next_at, IsFed}
use Rattle.byte_grammar.proofs.Judging.{field_long, field_short, field_reads, settled_more, more_short, judge_cut, judge_front, ends_behind, done_place}
use Rattle.std.specs.Prelude.{IfSome}
use Rattle.std.proofs.lemmas.Bool.{cases_lt}
use Rattle.std.proofs.lemmas.List.{take_all, take-take, length-take}
use Rattle.std.proofs.Math.Seq.{take-append-add}

some_is : (m n : ℕ) → Some m ≡ Some n → m ≡ n
some_is m n e = cc

pub at_end : (l : ℕ) (g : Grammar) (p : ℕ) (xs : List ℕ) → width_at g ≡ None → judge l g p xs ≡ Done p
unfolding judge
at_end l Ends p xs e = refl
at_end l (Refuses r) p xs e = absurd cc
at_end l (Field w next) p xs e = absurd cc

pub too_long : (l : ℕ) (g : Grammar) (p w : ℕ) (xs : List ℕ) → width_at g ≡ Some w → p ≤ l → l < p + w → judge l g p xs ≡ Refused (record { place = p; reason = TooLong })
too_long l Ends p w xs e le lt = absurd cc
too_long l (Refuses r) p w xs e le lt = let z = some_is 0 w e in absurd (omega arith)
too_long l (Field v next) p w xs e le lt = let z = some_is v w e in field_long l v next p xs (omega arith)

pub too_short : (l : ℕ) (g : Grammar) (p w : ℕ) (xs : List ℕ) → width_at g ≡ Some w → p + w ≤ l → length xs < w → judge l g p xs ≡ More
too_short l Ends p w xs e le lt = absurd cc
too_short l (Refuses r) p w xs e le lt = let z = some_is 0 w e in absurd (omega arith)
too_short l (Field v next) p w xs e le lt = let z = some_is v w e in field_short l v next p xs (omega arith) (omega arith)

pub reads_on : (l : ℕ) (g : Grammar) (p w : ℕ) (xs : List ℕ) → width_at g ≡ Some w → p + w ≤ l → w ≤ length xs → judge l g p xs ≡ judge l (next_at g p (take w xs)) (p + w) (drop w xs)
unfolding judge
reads_on l Ends p w xs e le lt = absurd cc
reads_on l (Refuses r) p w xs e le lt = refl
reads_on l (Field v next) p w xs e le lt =
    let z = some_is v w e in
    subst (λ m. judge l (Field v next) p xs ≡ judge l (next p (take m xs)) (p + m) (drop m xs)) z (field_reads l v next p xs (omega arith) (omega arith))

-- the same, with more behind
pub reads_past : (l : ℕ) (g h : Grammar) (p w : ℕ) (bytes more : List ℕ) → width_at g ≡ Some w → p + w ≤ l → p + w ≤ length bytes → h ≡ next_at g p (take (p + w - p) (drop p bytes)) → judge l g p (drop p bytes ++ more) ≡ judge l h (p + w) (drop (p + w) bytes ++ more)
reads_past l g h p w bytes more e le lt is =
    let xs = drop p bytes in
    let there : w ≤ length xs = omega (arith, length-drop p bytes) in
    let same : w ≡ p + w - p = omega arith in
    let long : w ≤ length (xs ++ more) = omega (arith, length-append xs more) in
    let rest : drop w (xs ++ more) ≡ drop (p + w) bytes ++ more = drop-append-le w xs more there ∙ ap (λ (r : List ℕ). r ++ more) (drop-drop w p bytes) in
    reads_on l g p w (xs ++ more) e le long
    ∙ ap (λ (f : List ℕ). judge l (next_at g p f) (p + w) (drop w (xs ++ more))) (take-append-le w xs more there)
    ∙ ap (λ (r : List ℕ). judge l (next_at g p (take w xs)) (p + w) r) rest
    ∙ ap (λ (k : Grammar). judge l k (p + w) (drop (p + w) bytes ++ more)) (ap (λ (m : ℕ). next_at g p (take m xs)) same ∙ sym is)

pub now_as : (l : ℕ) (f g : Grammar) (p q : ℕ) (xs ys : List ℕ) → ((more : List ℕ) → judge l f p (xs ++ more) ≡ judge l g q (ys ++ more)) → judge l f p xs ≡ judge l g q ys
now_as l f g p q xs ys h = ap (judge l f p) (sym (append-nil xs)) ∙ h [] ∙ ap (judge l g q) (append-nil ys)

pub refuses_next : (l : ℕ) (g : Grammar) (r : Refusal) (p w : ℕ) (bytes : List ℕ) → width_at g ≡ Some w → p + w ≤ l → p + w ≤ length bytes → next_at g p (take (p + w - p) (drop p bytes)) ≡ Refuses r → judge l g p (drop p bytes) ≡ Refused r
unfolding judge
refuses_next l g r p w bytes e le lt is =
    let same : w ≡ p + w - p = omega arith in
    let there : w ≤ length (drop p bytes) = omega (arith, length-drop p bytes) in
    reads_on l g p w (drop p bytes) e le there ∙ ap (λ (k : Grammar). judge l k (p + w) (drop w (drop p bytes))) (ap (λ (m : ℕ). next_at g p (take m (drop p bytes))) same ∙ is)

-- ---- a piece behind what has come

pub fed_verdict : (l : ℕ) (whole now : Grammar) (place : ℕ) (old piece bytes : List ℕ) (v : Verdict) → place ≤ length old → length old ≤ l → bytes ≡ old ++ take (l - length old) piece
    → ((more : List ℕ) → judge l whole 0 (old ++ more) ≡ judge l now place (drop place old ++ more)) → v ≡ judge l now place (drop place bytes) → judge l whole 0 (old ++ piece) ≡ v
fed_verdict l whole now place old piece bytes v in_bytes in_limit is going e =
    let front = take (l - length old) piece in
    sym (judge_front l whole old piece in_limit) ∙ going front ∙ ap (judge l now place) (sym (drop-append-le place old front in_bytes) ∙ ap (drop place) (sym is)) ∙ sym e

pub all_taken : (l : ℕ) (whole : Grammar) (old piece bytes : List ℕ) → bytes ≡ old ++ take (l - length old) piece → judge l whole 0 (old ++ piece) ≡ More → bytes ≡ old ++ piece
all_taken l whole old piece bytes is e =
    let short = more_short l whole 0 (old ++ piece) e in
    let fits : length piece ≤ l - length old = omega (arith, length-append old piece) in
    is ∙ ap (λ (x : List ℕ). old ++ x) (take_all (l - length old) piece fits)

pub done_piece : (l : ℕ) (whole : Grammar) (old piece bytes : List ℕ) (end : ℕ) → bytes ≡ old ++ take (l - length old) piece → judge l whole 0 old ≡ More → judge l whole 0 (old ++ piece) ≡ Done end
    → (length old ≤ end) × (end - length old ≤ length piece) × (take end bytes ≡ old ++ take (end - length old) piece)
done_piece l whole old piece bytes end is m d =
    let behind = ends_behind l whole old piece end m d in
    let bound = done_place l whole 0 (old ++ piece) end d in
    let short : end ≤ l = omega arith in
    let parts : end ≡ length old + (end - length old) = omega arith in
    let inner : end - length old ≤ l - length old = omega arith in (
      omega arith,
      omega (arith, length-append old piece),
      ap (take end) is ∙ ap (λ (n : ℕ). take n (old ++ take (l - length old) piece)) parts ∙ take-append-add old (take (l - length old) piece) (end - length old) ∙ ap (λ (x : List ℕ). old ++ x) (take-take (end - length old) (l - length old) piece inner),
    )

pub refused_more : (l : ℕ) (whole : Grammar) (old piece : List ℕ) (r : Refusal) → judge l whole 0 old ≡ Refused r → judge l whole 0 (old ++ piece) ≡ Refused r
refused_more l whole old piece r e = settled_more l whole 0 old piece (subst IsSettled (sym e) tt) ∙ e

-- the answer where a value ended in this piece
pub done_answer : {V : Type 0} (l : ℕ) (spells : V → List ℕ → Type 0) (value : V) (whole : Grammar) (old now piece bytes : List ℕ) (before end : ℕ) → old ≡ now → before ≡ length old
    → bytes ≡ old ++ take (l - length old) piece → judge l whole 0 old ≡ More → judge l whole 0 (old ++ piece) ≡ Done end → spells value (take end bytes)
    → (judge l whole 0 (now ++ piece) ≡ Done (length now + (end - before))) × (end - before ≤ length piece) × spells value (now ++ take (end - before) piece)
done_answer l spells value whole old now piece bytes before end same n is m d s =
    let p = done_piece l whole old piece bytes end is m d in
    let sum : end ≡ length old + (end - length old) = omega (arith, p.0) in
    let all : (judge l whole 0 (old ++ piece) ≡ Done (length old + (end - length old))) × (end - length old ≤ length piece) × spells value (old ++ take (end - length old) piece) =
    (d ∙ ap (λ (q : ℕ). Done q) sum, p.1, subst (spells value) p.2 s) in
    subst (λ (x : List ℕ). (judge l whole 0 (x ++ piece) ≡ Done (length x + (end - before))) × (end - before ≤ length piece) × spells value (x ++ take (end - before) piece)) same
    (subst (λ (b : ℕ). (judge l whole 0 (old ++ piece) ≡ Done (length old + (end - b))) × (end - b ≤ length piece) × spells value (old ++ take (end - b) piece)) (sym n) all)

-- a value that is whole in one piece
pub done_whole : {V : Type 0} (l : ℕ) (spells : V → List ℕ → Type 0) (value : V) (whole g : Grammar) (piece front : List ℕ) (end : ℕ) → front ≡ take l piece → g ≡ whole → judge l g 0 (drop 0 front) ≡ Done end → spells value (take end front)
    → (judge l whole 0 piece ≡ Done end) × (end ≤ length piece) × spells value (take end piece)
done_whole l spells value whole g piece front end is same d s =
    let all : judge l whole 0 piece ≡ Done end = sym (judge_cut l whole 0 l piece (omega arith)) ∙ ap (judge l whole 0) (sym is) ∙ ap (λ (x : Grammar). judge l x 0 front) (sym same) ∙ d in
    let bound = done_place l whole 0 piece end all in
    let short : end ≤ l = omega arith in
    (all, omega arith, subst (spells value) (ap (take end) is ∙ take-take end l piece short) s)

-- ---- a piece that completes no field

-- where a field is to come, it is to come until it is complete
pub still_more : (l : ℕ) (g : Grammar) (p wanted : ℕ) (bytes more : List ℕ) → p ≤ length bytes → judge l g p (drop p bytes) ≡ More → (width_at g ≡ None → wanted ≡ 0) → ((w : ℕ) → width_at g ≡ Some w → wanted ≤ p + w)
    → length bytes + length more < wanted → judge l g p (drop p bytes ++ more) ≡ More
unfolding judge
still_more l Ends p wanted bytes more le m none some lt = absurd (let z = none refl in omega arith)
still_more l (Refuses r) p wanted bytes more le m none some lt = absurd cc
still_more l (Field w next) p wanted bytes more le m none some lt =
    let bound = some w refl in
    elim (cases_lt l (p + w)) as (λ _. judge l (Field w next) p (drop p bytes ++ more) ≡ More) [
      | inl h ↦ absurd (let x = sym m ∙ field_long l w next p (drop p bytes) h in cc)
      | inr h ↦
          let short : length (drop p bytes ++ more) < w = omega (arith, length-append (drop p bytes) more, length-drop p bytes) in
          field_short l w next p (drop p bytes ++ more) h short
    ]

-- the next piece is kept as it came
pub kept : (l : ℕ) (whole now : Grammar) (place : ℕ) (bytes : List ℕ) (wanted : ℕ) (refused : Option Refusal) (piece : List ℕ) → IsFed l whole now place bytes wanted refused → length bytes + length piece < wanted → IsFed l whole now place (bytes ++ piece) wanted refused
kept l whole now place bytes wanted refused piece f lt =
    let more = f.waits piece lt in
    let short = more_short l whole 0 (bytes ++ piece) more in
    record {
      in_bytes = let a = f.in_bytes in omega (arith, length-append bytes piece);
      in_limit = omega arith;
      going = λ none rest. ap (judge l whole 0) (append_assoc bytes piece rest) ∙ f.going none (piece ++ rest) ∙ ap (judge l now place) (sym (append_assoc (drop place bytes) piece rest) ∙ ap (λ (x : List ℕ). x ++ rest) (sym (drop-append-le place bytes piece f.in_bytes)));
      unsettled = λ none. more;
      stopped = still_refused refused f.stopped;
      waits = λ rest room. ap (judge l whole 0) (append_assoc bytes piece rest) ∙ f.waits (piece ++ rest) (omega (arith, length-append piece rest, length-append bytes piece));
    }
  where
    still_refused : (o : Option Refusal) → IfSome o (λ r. judge l whole 0 bytes ≡ Refused r) → IfSome o (λ r. judge l whole 0 (bytes ++ piece) ≡ Refused r)
    still_refused None h = h
    still_refused (Some r) h = refused_more l whole bytes piece r h

-- what is known after more bytes were read, where a field is still to come
pub fed_more : (l : ℕ) (whole now next : Grammar) (place to : ℕ) (old piece bytes : List ℕ) (before wanted : ℕ) (refused : Option Refusal) → IsFed l whole now place old before refused → refused ≡ None → bytes ≡ old ++ take (l - length old) piece → to ≤ length bytes
    → ((more : List ℕ) → judge l now place (drop place bytes ++ more) ≡ judge l next to (drop to bytes ++ more)) → judge l now place (drop place bytes) ≡ More → (width_at next ≡ None → wanted ≡ 0) → ((w : ℕ) → width_at next ≡ Some w → wanted ≤ to + w)
    → IsFed l whole next to bytes wanted refused
fed_more l whole now next place to old piece bytes before wanted refused f none is le resumes m ends field =
    let front = take (l - length old) piece in
    let in_limit = f.in_limit in
    let goes : (more : List ℕ) → judge l whole 0 (bytes ++ more) ≡ judge l next to (drop to bytes ++ more) = λ more. ap (λ (x : List ℕ). judge l whole 0 (x ++ more)) is ∙ ap (judge l whole 0) (append_assoc old front more) ∙ f.going none (front ++ more)
    ∙ ap (judge l now place) (sym (append_assoc (drop place old) front more) ∙ ap (λ (x : List ℕ). x ++ more) (sym (drop-append-le place old front f.in_bytes) ∙ ap (drop place) (sym is))) ∙ resumes more in
    let to_come : judge l next to (drop to bytes) ≡ More = sym (now_as l now next place to (drop place bytes) (drop to bytes) resumes) ∙ m in
    record {
      in_bytes = le;
      in_limit = omega (arith, ap length is ∙ length-append old front, length-take (l - length old) piece);
      going = λ none more. goes more;
      unsettled = λ none. now_as l whole next 0 to bytes (drop to bytes) goes ∙ to_come;
      stopped = subst (λ (o : Option Refusal). IfSome o (λ r. judge l whole 0 bytes ≡ Refused r)) (sym none) tt;
      waits = λ more lt. goes more ∙ still_more l next to wanted bytes more le to_come ends field lt;
    }
