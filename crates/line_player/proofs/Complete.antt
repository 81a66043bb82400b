-- A scenario of lines that are right is played to its end.
use Rattle.std.proofs.Common.{◌≡◌, ◌≢◌, ◌≤◌, ◌+◌, ℕ, Bool, true, false, List, [], ◌∷◌, ◌++◌, length, ◌⊎◌, inl, inr, Option, Some, None, refl, sym, ap, ◌∙◌, subst, append_assoc, append-nil, length-append, arith}
use Rattle.std.specs.List.{AllByRecursion}
use Rattle.std.specs.Io.KnownBytes.{Consumes, IsAtEnd}
use Rattle.outside.specs.declared.status.Status.{Status}
use Rattle.outside.specs.declared.status.Status.TheVariants.{Done, Refused, Memory, Source, Sink}
use Rattle.scenario_text.specs.Spelling.{NoFeed}
use Rattle.scenario_text.specs.Refusals.{Closes, IsWhole, LacksFeed}
use Rattle.line_player.specs.Played.{AreLines, IsLine, LacksEnd, Played, RefusesLine, Rules, bytes_of}
use Rattle.line_player.proofs.Lines.{snoc_some}

parts : {X : Type 0} (x y : X) (a b : List X) → x ∷ a ≡ y ∷ b → (x ≡ y) × (a ≡ b)
parts x y a b e = (cc, cc)

-- lines that end with a line feed end at one place
feed_ends : (x y a b : List ℕ) → NoFeed x → NoFeed y → x ++ 10 ∷ a ≡ y ++ 10 ∷ b → (x ≡ y) × (a ≡ b)
feed_ends [] [] a b p q e = (refl, (parts 10 10 a b e).1)
feed_ends [] (w ∷ y) a b p q e = absurd (q.0 (sym (parts 10 w a (y ++ 10 ∷ b) e).0))
feed_ends (z ∷ x) [] a b p q e = absurd (p.0 (parts z 10 (x ++ 10 ∷ a) b e).0)
feed_ends (z ∷ x) (w ∷ y) a b p q e =
    let both = parts z w (x ++ 10 ∷ a) (y ++ 10 ∷ b) e in
    let rest = feed_ends x y a b p.1 q.1 both.1 in
    (ap (λ h. h ∷ x) both.0 ∙ ap (λ l. w ∷ l) rest.0, rest.1)

-- what has no line feed before a line's end is no longer than the line
no_longer : (x y a b : List ℕ) → NoFeed y → y ++ b ≡ x ++ 10 ∷ a → length y ≤ length x
no_longer x [] a b q e = omega arith
no_longer [] (w ∷ y) a b q e = absurd (q.0 (parts w 10 (y ++ b) a e).0)
no_longer (z ∷ x) (w ∷ y) a b q e = let rest = no_longer x y a b q.1 (parts w z (y ++ b) (x ++ 10 ∷ a) e).1 in omega (arith, rest)

has_feed : (x y a : List ℕ) → NoFeed y → y ≡ x ++ 10 ∷ a → ⊥
has_feed x [] a q e = absurd (no_cons x a e)
  where
    no_cons : (x a : List ℕ) → [] ≡ x ++ 10 ∷ a → ⊥
    no_cons [] a e = cc
    no_cons (z ∷ x) a e = cc
has_feed [] (w ∷ y) a q e = q.0 (parts w 10 y a e).0
has_feed (z ∷ x) (w ∷ y) a q e = has_feed x y a q.1 (parts w z y (x ++ 10 ∷ a) e).1

nothing : (l f t : List ℕ) → [] ≡ l ++ (f ++ t) → l ++ f ≡ []
nothing [] [] t e = refl
nothing [] (x ∷ f) t e = cc
nothing (x ∷ l) f t e = cc

not_none : (x a : List ℕ) → x ++ 10 ∷ a ≢ []
not_none [] a = λ e. cc
not_none (z ∷ x) a = λ e. cc

first_line : (c : List ℕ) (cs : List (List ℕ)) (rest : List ℕ) → bytes_of (c ∷ cs) ++ rest ≡ c ++ 10 ∷ (bytes_of cs ++ rest)
first_line c cs rest = append_assoc (c ++ 10 ∷ []) (bytes_of cs) rest ∙ append_assoc c (10 ∷ []) (bytes_of cs ++ rest)

first_alone : (c : List ℕ) (cs : List (List ℕ)) → bytes_of (c ∷ cs) ≡ c ++ 10 ∷ bytes_of cs
first_alone c cs = append_assoc c (10 ∷ []) (bytes_of cs)

-- the rest of the lines, where some of them stand in front
record Follows (ds cs : List (List ℕ)) (rest : List ℕ) : Type 0 where
  pub others : List (List ℕ)
  pub all : cs ≡ ds ++ others
  pub spelled : bytes_of others ≡ rest

follows : (ds cs : List (List ℕ)) (rest : List ℕ) → AllByRecursion IsLine ds → AllByRecursion IsLine cs → bytes_of ds ++ rest ≡ bytes_of cs → Follows ds cs rest
follows [] cs rest p q e = record { others = cs; all = refl; spelled = sym e }
follows (d ∷ ds) [] rest p q e = absurd (not_none d (bytes_of ds ++ rest) (sym (first_line d ds rest) ∙ e))
follows (d ∷ ds) (c ∷ cs) rest p q e =
    let split = feed_ends d c (bytes_of ds ++ rest) (bytes_of cs) p.0.0 q.0.0 (sym (first_line d ds rest) ∙ e ∙ first_alone c cs) in
    let next = follows ds cs rest p.1 q.1 split.1 in
    record { others = next.others; all = ap (λ x. x ∷ cs) (sym split.0) ∙ ap (λ l. d ∷ l) next.all; spelled = next.spelled }

all_after : {X : Type 0} (P : X → Type 0) (xs : List X) (x : X) (ys : List X) → AllByRecursion P (xs ++ x ∷ ys) → P x
all_after P [] x ys h = h.0
all_after P (w ∷ xs) x ys h = all_after P xs x ys h.1

none_left : (ls : List (List ℕ)) → bytes_of ls ≡ [] → ls ≡ []
none_left [] e = refl
none_left (c ∷ cs) e = absurd (not_none c (bytes_of cs) (sym (first_alone c cs) ∙ e))

-- LINE FEEDS AT THE END

last_of : ℕ → List ℕ → ℕ
last_of d [] = d
last_of d (x ∷ xs) = last_of x xs

last_of-append : (d : ℕ) (a b : List ℕ) → last_of d (a ++ b) ≡ last_of (last_of d a) b
unfolding last_of
last_of-append d [] b = refl
last_of-append d (x ∷ a) b = last_of-append x a b

last_of-bytes : (ls : List (List ℕ)) → last_of 10 (bytes_of ls) ≡ 10
unfolding last_of
last_of-bytes [] = refl
last_of-bytes (l ∷ ls) = last_of-append 10 (l ++ 10 ∷ []) (bytes_of ls) ∙ ap (λ d. last_of d (bytes_of ls)) (last_of-append 10 l (10 ∷ [])) ∙ last_of-bytes ls

-- lines with their feeds lack none
fed : (ls : List (List ℕ)) → LacksFeed (bytes_of ls) → ⊥
unfolding last_of
fed ls (front, last, other, is) = other (sym (ap (λ l. last_of 10 l) is ∙ last_of-append 10 front (last ∷ [])) ∙ last_of-bytes ls)

-- bytes close in one way
closes_once : (A B : Type 0) (read : List ℕ) (ls ms : List (List ℕ)) → Closes A read (bytes_of ls) → Closes B read (bytes_of ms) → bytes_of ls ≡ bytes_of ms
closes_once A B read ls ms (inl x) (inl y) = x ∙ sym y
closes_once A B read ls ms (inl x) (inr y) = absurd (fed ls (subst LacksFeed (sym x) y.1))
closes_once A B read ls ms (inr x) (inl y) = absurd (fed ms (subst LacksFeed (sym y) x.1))
closes_once A B read ls ms (inr x) (inr y) = x.2 ∙ sym y.2

closed_bytes : (A : Type 0) (bytes whole : List ℕ) → Closes A bytes whole → (x : List ℕ) × ((x ≡ []) ⊎ (x ≡ 10 ∷ [])) × (whole ≡ bytes ++ x)
closed_bytes A bytes whole (inl e) = ([], inl refl, e ∙ sym (append-nil bytes))
closed_bytes A bytes whole (inr e) = (10 ∷ [], inr refl, e.2)

-- a line of the scenario is the one that was taken for whole
same_line : (A : Type 0) (l : List ℕ) (ls : List (List ℕ)) (line feed tail left x : List ℕ) → NoFeed l → NoFeed line → (x ≡ []) ⊎ (x ≡ 10 ∷ []) → (A → left ≡ []) → bytes_of (l ∷ ls) ≡ line ++ (feed ++ (tail ++ (left ++ x))) → IsWhole A line feed tail → l ≡ line
same_line A l ls line feed tail left x one clean extra ended is (inl fed) =
    (feed_ends l line (bytes_of ls) (tail ++ (left ++ x)) one clean (sym (first_alone l ls) ∙ is ∙ ap (λ f. line ++ (f ++ (tail ++ (left ++ x)))) fed)).0
same_line A l ls line feed tail left x one clean extra ended is (inr (none, last, end)) =
    let short : l ++ 10 ∷ bytes_of ls ≡ line ++ x =
    sym (first_alone l ls) ∙ is ∙ ap (λ f. line ++ (f ++ (tail ++ (left ++ x)))) none ∙ ap (λ t. line ++ (t ++ (left ++ x))) last ∙ ap (λ l. line ++ (l ++ x)) (ended end) in
    elim extra [
      | inl n ↦ absurd (has_feed l line (bytes_of ls) clean (sym (short ∙ ap (λ t. line ++ t) n ∙ append-nil line)))
      | inr f ↦ (feed_ends l line (bytes_of ls) [] one clean (short ∙ ap (λ t. line ++ t) f)).0
    ]

-- WHAT ISN'T REFUSED

-- Lines that are right: they are those of the bytes, each inside the limits; none of them is refused where it
-- stands, and the end is among them.
pub record AreRight (r : Rules) (bytes : List ℕ) (all : List (List ℕ)) : Type 0 where
  pub closes : Closes (Unit {0}) bytes (bytes_of all)
  pub short : length bytes ≤ 67108864
  pub are : AreLines all
  pub right : (lines others : List (List ℕ)) (text line : List ℕ) → all ≡ lines ++ line ∷ others → r.refuses lines text line → ⊥
  pub ends : (text : List ℕ) → r.ends false all text → ⊥

module _ (r : Rules) (A : Type 0) (bytes read left text : List ℕ) (all : List (List ℕ)) (ended : A → left ≡ []) (is : bytes ≡ read ++ left) (s : AreRight r bytes all) where
  not_refused : RefusesLine r A read text → ⊥
  not_refused x =
      let closed = closed_bytes (Unit {0}) bytes (bytes_of all) s.closes in
      let more : List ℕ = x.line ++ (x.feed ++ (x.tail ++ (left ++ closed.0))) in
      let whole : bytes_of x.lines ++ more ≡ bytes_of all =
      sym (
      closed.2 ∙ ap (λ l. l ++ closed.0) (is ∙ ap (λ l. l ++ left) x.split)
      ∙ append_assoc (bytes_of x.lines ++ (x.line ++ (x.feed ++ x.tail))) left closed.0
      ∙ append_assoc (bytes_of x.lines) (x.line ++ (x.feed ++ x.tail)) (left ++ closed.0)
      ∙ ap (λ l. bytes_of x.lines ++ l) (append_assoc x.line (x.feed ++ x.tail) (left ++ closed.0) ∙ ap (λ l. x.line ++ l) (append_assoc x.feed x.tail (left ++ closed.0)))
      ) in
      let f = follows x.lines all more x.are.each s.are.each whole in
      with_next x closed.0 closed.1 f.others f.all f.spelled
    where
      sizes : (x : RefusesLine r A read text) → length (bytes_of x.lines) + length x.line + length x.feed ≤ 67108864
      sizes x =
          let all_of : bytes ≡ (bytes_of x.lines ++ (x.line ++ (x.feed ++ x.tail))) ++ left = is ∙ ap (λ l. l ++ left) x.split in
          omega (arith, s.short, ap length all_of, length-append (bytes_of x.lines ++ (x.line ++ (x.feed ++ x.tail))) left, length-append (bytes_of x.lines) (x.line ++ (x.feed ++ x.tail)), length-append x.line (x.feed ++ x.tail), length-append x.feed x.tail)

      with_next : (x : RefusesLine r A read text) (extra : List ℕ) → (extra ≡ []) ⊎ (extra ≡ 10 ∷ []) → (others : List (List ℕ)) → all ≡ x.lines ++ others → bytes_of others ≡ x.line ++ (x.feed ++ (x.tail ++ (left ++ extra))) → ⊥
      with_next x extra one [] split spelled = x.begun (nothing x.line x.feed (x.tail ++ (left ++ extra)) spelled)
      with_next x extra one (l ∷ ls) split spelled =
          let size = sizes x in
          let count : length all ≡ length x.lines + (length ls + 1) = (let a = ap length split in let b = length-append x.lines (l ∷ ls) in omega (arith, a, b)) in
          let fits : IsLine l = all_after IsLine x.lines l ls (subst (λ v. AllByRecursion IsLine v) split s.are.each) in
          elim x.cause [
            | inl (inl number) ↦ absurd (omega (arith, number, count, s.are.few))
            | inl (inr (inl long)) ↦
                let most = no_longer l x.line (bytes_of ls) (x.feed ++ (x.tail ++ (left ++ extra))) x.one_line (sym spelled ∙ first_alone l ls) in
                absurd (omega (arith, long, most, fits.1))
            | inl (inr (inr total)) ↦ absurd (omega (arith, total, size))
            | inr (whole, bad) ↦
                let same : l ≡ x.line = same_line A l ls x.line x.feed x.tail left extra fits.0 x.one_line one ended spelled whole in
                s.right x.lines ls x.before x.line (split ∙ ap (λ v. x.lines ++ v ∷ ls) same) bad
          ]

  not_lacking : LacksEnd r A read text → ⊥
  not_lacking x =
      let same : bytes ≡ read = is ∙ ap (λ t. read ++ t) (ended x.at_end) ∙ append-nil read in
      let one : bytes_of x.lines ≡ bytes_of all = closes_once A (Unit {0}) read x.lines all x.closes (subst (λ b. Closes (Unit {0}) b (bytes_of all)) same s.closes) in
      let f = follows x.lines all [] x.are.each s.are.each (append-nil (bytes_of x.lines) ∙ one) in
      let lines : x.lines ≡ all = sym (f.all ∙ ap (λ o. x.lines ++ o) (none_left f.others f.spelled) ∙ append-nil x.lines) in
      s.ends x.before (subst (λ ls. r.ends false ls x.before) lines x.open_end)

not_stopped : (r : Rules) (old new : Option (List ℕ)) (bytes read text : List ℕ) (all : List (List ℕ)) → old ≡ Some bytes → Consumes old new read → AreRight r bytes all → Played r (IsAtEnd new) Refused read text → ⊥
not_stopped r None new bytes read text all e c s o = cc
not_stopped r (Some xs) None bytes read text all e c s o = absurd c
not_stopped r (Some xs) (Some left) bytes read text all e c s (inl x) = let same : bytes ≡ xs = cc in not_refused r (left ≡ []) bytes read left text all (λ h. h) (same ∙ c) s x
not_stopped r (Some xs) (Some left) bytes read text all e c s (inr x) = let same : bytes ≡ xs = cc in not_lacking r (left ≡ []) bytes read left text all (λ h. h) (same ∙ c) s x

pub completes : (r : Rules) (old new : Option (List ℕ)) (bytes read text : List ℕ) (all : List (List ℕ)) (status : Status) → old ≡ Some bytes → Consumes old new read → AreRight r bytes all → Played r (IsAtEnd new) status read text
    → (status ≡ Source → ⊥) → (status ≡ Sink → ⊥) → (status ≡ Done) ⊎ (status ≡ Memory)
completes r old new bytes read text all Done e c s o source sink = inl refl
completes r old new bytes read text all Refused e c s o source sink = absurd (not_stopped r old new bytes read text all e c s o)
completes r old new bytes read text all Memory e c s o source sink = inr refl
completes r old new bytes read text all Source e c s o source sink = absurd (source refl)
completes r old new bytes read text all Sink e c s o source sink = absurd (sink refl)
