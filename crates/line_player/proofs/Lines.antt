-- Lines that come one after another, and the bytes that they are.
use Rattle.std.proofs.Common.{◌≡◌, ◌≢◌, ◌<◌, ◌≤◌, ◌+◌, ◌==◌, ℕ, Bool, true, false, cond, List, [], ◌∷◌, ◌++◌, take, drop, length, ◌⊎◌, inl, inr, refl, sym, ap, ◌∙◌, subst, append_assoc, append-nil, length-append, arith}
use Rattle.std.specs.List.{AllByRecursion}
use Rattle.std.proofs.lemmas.Grind.{flat_map-append}
use Rattle.std.proofs.lemmas.List.{take_all, take-append-drop}
use Rattle.scenario_text.specs.Spelling.{NoFeed}
use Rattle.scenario_text.specs.Cutting.{Cutting, open_line}
use Rattle.scenario_text.specs.Refusals.{Closes, LacksFeed}
use Rattle.line_player.specs.Played.{IsLine, Runs, bytes_of}
use Rattle.line_player.specs.Reached.{At, Ended}

pub all_push : {X : Type 0} (P : X → Type 0) (xs : List X) (x : X) → AllByRecursion P xs → P x → AllByRecursion P (xs ++ x ∷ [])
all_push P [] x h p = (p, tt)
all_push P (y ∷ xs) x h p = (h.0, all_push P xs x h.1 p)

pub all_append : {X : Type 0} (P : X → Type 0) (xs ys : List X) → AllByRecursion P xs → AllByRecursion P ys → AllByRecursion P (xs ++ ys)
all_append P [] ys h k = k
all_append P (x ∷ xs) ys h k = (h.0, all_append P xs ys h.1 k)

-- one line more
pub bytes_of-push : (ls : List (List ℕ)) (l : List ℕ) → bytes_of (ls ++ l ∷ []) ≡ bytes_of ls ++ (l ++ 10 ∷ [])
bytes_of-push ls l = flat_map-append (λ (x : List ℕ). x ++ 10 ∷ []) ls (l ∷ []) ∙ ap (λ (t : List ℕ). bytes_of ls ++ t) (append-nil (l ++ 10 ∷ []))

module _ {S : Type 0} (takes : S → List ℕ → S → List ℕ → Type 0) where
  pub runs_more : (ls : List (List ℕ)) (first mid new : S) (text more l : List ℕ) → Runs takes first ls mid text → takes mid l new more → Runs takes first (ls ++ l ∷ []) new (text ++ more)
  runs_more [] first mid new text more l r t =
      (new, more, [], subst (λ x. takes x l new more) r.0 t, (refl, refl), ap (λ x. x ++ more) r.1 ∙ sym (append-nil more))
  runs_more (k ∷ ls) first mid new text more l r t =
      (r.0, r.1, r.2 ++ more, r.3, runs_more ls r.0 mid new r.2 more l r.4 t, ap (λ x. x ++ more) r.5 ∙ append_assoc r.1 r.2 more)

  -- more bytes of a line
  pub at_more : (first now : S) (read text line piece : List ℕ) (count total : ℕ) → At takes first now read text line count total → NoFeed piece → length (line ++ piece) ≤ 16384
      → At takes first now (read ++ piece) (text ++ []) (line ++ piece) count (total + length piece)
  at_more first now read text line piece count total a clean short = record {
    lines = a.lines;
    whole = ap (λ x. x ++ piece) a.whole ∙ append_assoc (bytes_of a.lines) line piece;
    partial = (all_append (λ b. b ≢ 10) line piece a.partial.0 clean, short);
    ran = subst (λ t. Runs takes first a.lines now t) (sym (append-nil text)) a.ran;
    each = a.each;
    counted = a.counted;
    measured = length-append read piece ∙ ap (λ n. n + length piece) a.measured;
  }

  -- the end of a line, which is run
  pub at_line : (first old new : S) (read text line front more : List ℕ) (count total : ℕ) → At takes first old read text line count total → NoFeed front → length (line ++ front) ≤ 16384 → takes old (line ++ front) new more
      → At takes first new (read ++ (front ++ 10 ∷ [])) (text ++ more) [] (count + 1) (total + (length front + 1))
  at_line first old new read text line front more count total a clean short t =
      let here : List ℕ = line ++ front in
      let fits : IsLine here = (all_append (λ b. b ≢ 10) line front a.partial.0 clean, short) in
      record {
        lines = a.lines ++ here ∷ [];
        whole = ap (λ x. x ++ (front ++ 10 ∷ [])) a.whole ∙ append_assoc (bytes_of a.lines) line (front ++ 10 ∷ []) ∙ ap (λ x. bytes_of a.lines ++ x) (sym (append_assoc line front (10 ∷ [])))
            ∙ sym (bytes_of-push a.lines here) ∙ sym (append-nil (bytes_of (a.lines ++ here ∷ [])));
        partial = (tt, omega arith);
        ran = runs_more a.lines first old new text more here a.ran t;
        each = all_push IsLine a.lines here a.each fits;
        counted = length-append a.lines (here ∷ []) ∙ ap (λ n. n + 1) a.counted;
        measured = length-append read (front ++ 10 ∷ []) ∙ (λ i. a.measured i + length-append front (10 ∷ []) i);
      }

-- a line that isn't empty and has no line feed lacks one
pub lacks_feed : (before line : List ℕ) → NoFeed line → line ≢ [] → LacksFeed (before ++ line)
lacks_feed before [] clean some = absurd (some refl)
lacks_feed before (b ∷ []) clean some = (before, b, clean.0, refl)
lacks_feed before (b ∷ (d ∷ line)) clean some =
    let rest = lacks_feed (before ++ b ∷ []) (d ∷ line) clean.1 (λ e. cc) in
    (rest.0, rest.1, rest.2, sym (append_assoc before (b ∷ []) (d ∷ line)) ∙ rest.3)

pub no_length : (l : List ℕ) → length l ≡ 0 → l ≡ []
no_length [] e = refl
no_length (x ∷ l) e = absurd (omega arith)

pub is_nil : (l : List ℕ) → (l ≢ [] → ⊥) → l ≡ []
is_nil [] h = refl
is_nil (x ∷ l) h = absurd (h (λ e. cc))

pub snoc_some : (l : List ℕ) (b : ℕ) → l ++ b ∷ [] ≢ []
snoc_some [] b = λ e. cc
snoc_some (x ∷ l) b = λ e. cc

pub cons_some : (l : List ℕ) → 0 < length l → l ≢ []
cons_some [] h = absurd (omega (arith, h))
cons_some (x ∷ l) h = λ e. cc

-- the line that hasn't ended is what came of it
pub open_is : (c : Cutting) → open_line c ≢ [] → open_line c ≡ c.line
open_is c some = by_end c.ended c.line some
  where
    by_end : (b : Bool) (l : List ℕ) → cond b [] l ≢ [] → cond b [] l ≡ l
    by_end true l some = absurd (some refl)
    by_end false l some = refl

module _ {S : Type 0} (takes : S → List ℕ → S → List ℕ → Type 0) where
  pub at_as : (first now : S) (read read' text text' line : List ℕ) (count total : ℕ) → At takes first now read text line count total → read' ≡ read → text' ≡ text → At takes first now read' text' line count total
  at_as first now read read' text text' line count total a r t = subst (λ x. At takes first now x text' line count total) (sym r) (subst (λ x. At takes first now read x line count total) (sym t) a)

  -- nothing came yet
  pub at_start : (first : S) (line : List ℕ) → line ≡ [] → At takes first first [] [] line 0 0
  at_start first line none = subst (λ l. At takes first first [] [] l 0 0) (sym none)
      (record { lines = []; whole = refl; partial = (tt, omega arith); ran = (refl, refl); each = tt; counted = refl; measured = refl })
