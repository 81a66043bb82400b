-- A piece up to the end of a line.
use Rattle.std.proofs.Common.{◌≡◌, ◌≢◌, ◌<◌, ◌≤◌, ◌+◌, ◌-◌, ℕ, zero, suc, Bool, true, false, List, [], ◌∷◌, ◌++◌, take, drop, length, ◌⊎◌, inl, inr, refl, sym, ap, ◌∙◌, subst, append_assoc, append-nil, length-append, length-take, arith}
use Rattle.std.proofs.lemmas.List.{take_all, take-append-drop, take-append-le}
use Rattle.scenario_text.specs.Spelling.{NoFeed}
use Rattle.scenario_text.specs.Refusals.{refusal}
use Rattle.scenario_text.specs.Cutting.{Cuts, Cutting, open_line}
use Rattle.scenario_text.specs.declared.cutter.Cut.TheVariants as cuts
use Rattle.line_player.specs.Played.{Played, RunsOver, rules_of}
use Rattle.line_player.specs.Reached.{At, StopsAt, Told, status_of}
use Rattle.line_player.specs.declared.stop.Stop.{Stop}
use Rattle.line_player.proofs.Lines.{at_line, at_more}
use Rattle.line_player.proofs.Stops.{refuses_full, refuses_long, runs_over, stops_feed, told}

-- a piece is the part that was used of what may still come, and the rest
cut_piece : (piece inside : List ℕ) (room used : ℕ) → inside ≡ take room piece → piece ≡ take used inside ++ (drop used inside ++ drop room piece)
cut_piece piece inside room used is =
    sym (take-append-drop room piece) ∙ ap (λ x. x ++ drop room piece) (sym is) ∙ ap (λ x. x ++ drop room piece) (sym (take-append-drop used inside)) ∙ append_assoc (take used inside) (drop used inside) (drop room piece)

take_inside : (piece inside : List ℕ) (room used : ℕ) → inside ≡ take room piece → used ≤ length inside → take used piece ≡ take used inside
take_inside piece inside room used is low =
    ap (λ x. take used x) (sym (take-append-drop room piece) ∙ ap (λ x. x ++ drop room piece) (sym is)) ∙ take-append-le used inside (drop room piece) low

pub below : (m n : ℕ) → (m ≤ n → ⊥) → n < m
below m n h = elim (split (m - n)) [
  | inl z ↦ absurd (h (omega (arith, z)))
  | inr s ↦ omega (arith, s)
]
  where
    split : (k : ℕ) → (k ≡ 0) ⊎ (0 < k)
    split zero = inl refl
    split (suc k) = inr (omega arith)

module _ {S : Type 0} (takes : S → List ℕ → S → List ℕ → Type 0) (refuses : S → List ℕ → Type 0) (leaves : S → S → Type 0) (ended : S → Bool) (first : S) where
  pub full_step : (stop : Stop) (now : S) (read text line : List ℕ) (count total : ℕ) (piece more : List ℕ) → At takes first now read text line count total → count ≤ 1000000 → total ≤ 67108864 → (1000000 ≤ count) ⊎ (67108864 ≤ total) → 0 < length piece → length piece ≤ 65536 → Told stop (refusal (count + 1)) more
      → Played (rules_of takes refuses leaves ended first now) ⊥ (status_of stop) (read ++ piece) (text ++ more)
  full_step stop now read text line count total [] more a few small full some most says = absurd (omega (arith, some))
  full_step stop now read text line count total (b ∷ tail) more a few small full some most says =
      told (rules_of takes refuses leaves ended first now) ⊥ stop (read ++ b ∷ tail) text (refusal (count + 1)) more
      (inl (refuses_full takes refuses leaves ended first now read text line count total b tail a few small full most))
      (runs_over takes refuses leaves ended first ⊥ now now read text line count total (b ∷ tail) a few small (inl refl)) says

  pub memory_step : (now : S) (read text line : List ℕ) (count total : ℕ) (piece : List ℕ) → At takes first now read text line count total → count ≤ 1000000 → total ≤ 67108864 → RunsOver (rules_of takes refuses leaves ended first now) ⊥ (read ++ piece) (text ++ [])
  memory_step now read text line count total piece a few small =
      subst (λ t. RunsOver (rules_of takes refuses leaves ended first now) ⊥ (read ++ piece) t) (sym (append-nil text)) (runs_over takes refuses leaves ended first ⊥ now now read text line count total piece a few small (inl refl))

  pub long_step : (stop : Stop) (now : S) (read text line : List ℕ) (count total : ℕ) (piece inside more : List ℕ) (room used : ℕ) (new : Cutting) → At takes first now read text line count total → count ≤ 1000000 → total ≤ 67108864 → length piece ≤ 65536 → inside ≡ take room piece
      → Cuts line inside (cuts.Long used) new → Told stop (refusal (count + 1)) more → Played (rules_of takes refuses leaves ended first now) ⊥ (status_of stop) (read ++ piece) (text ++ more)
  long_step stop now read text line count total piece inside more room used new a few small most is cut says =
      let tail : List ℕ = drop used inside ++ drop room piece in
      told (rules_of takes refuses leaves ended first now) ⊥ stop (read ++ piece) text (refusal (count + 1)) more
      (inl (refuses_long takes refuses leaves ended first now read text line count total piece (take used inside) tail a few small (cut_piece piece inside room used is) cut.1 cut.3 most))
      (runs_over takes refuses leaves ended first ⊥ now now read text line count total piece a few small (inl refl)) says

  pub more_step : (now : S) (read text line : List ℕ) (count total : ℕ) (piece inside : List ℕ) (room : ℕ) (new : Cutting) → At takes first now read text line count total → inside ≡ take room piece → Cuts line inside cuts.More new
      → At takes first now (read ++ take (length inside) piece) (text ++ []) (open_line new) count (total + length inside)
  more_step now read text line count total piece inside room new a is cut =
      let all : take (length inside) piece ≡ inside = take_inside piece inside room (length inside) is (omega arith) ∙ take_all (length inside) inside (omega arith) in
      subst (λ x. At takes first now (read ++ x) (text ++ []) (open_line new) count (total + length inside)) (sym all)
      (subst (λ l. At takes first now (read ++ inside) (text ++ []) l count (total + length inside)) (sym (ap open_line cut.1)) (at_more takes first now read text line inside count total a cut.0 cut.2))

  -- so much of what may still come was used
  used_low : (inside front : List ℕ) (used : ℕ) → used ≡ length front + 1 → take used inside ≡ front ++ 10 ∷ [] → used ≤ length inside
  used_low inside front used size is =
      let taken = length-take used inside in
      let same = ap length is ∙ length-append front (10 ∷ []) in
      omega (arith, taken, same, size)

  pub line_step : (old next : S) (read text line : List ℕ) (count total : ℕ) (piece inside here more : List ℕ) (room used : ℕ) (new : Cutting) → At takes first old read text line count total → inside ≡ take room piece → Cuts line inside (cuts.Line used) new → here ≡ new.line → takes old here next more
      → At takes first next (read ++ take used piece) (text ++ more) (open_line new) (count + 1) (total + used)
  line_step old next read text line count total piece inside here more room used new a is cut same t =
      let front : List ℕ = cut.0 in
      let whole : here ≡ line ++ front = same ∙ ap (λ (c : Cutting). c.line) cut.4 in
      let all : take used piece ≡ front ++ 10 ∷ [] = take_inside piece inside room used is (used_low inside front used cut.2 cut.3) ∙ cut.3 in
      subst (λ x. At takes first next (read ++ x) (text ++ more) (open_line new) (count + 1) (total + used)) (sym all)
      (subst (λ l. At takes first next (read ++ (front ++ 10 ∷ [])) (text ++ more) l (count + 1) (total + used)) (sym (ap open_line cut.4))
      (subst (λ n. At takes first next (read ++ (front ++ 10 ∷ [])) (text ++ more) [] (count + 1) (total + n)) (sym cut.2)
      (at_line takes first old next read text line front more count total a cut.1 cut.5 (subst (λ l. takes old l next more) whole t))))

  pub line_stop : (stop : Stop) (old next : S) (read text line : List ℕ) (count total : ℕ) (piece inside here more : List ℕ) (used : ℕ) (new : Cutting) → At takes first old read text line count total → count < 1000000 → total ≤ 67108864 → length piece ≤ 65536 → inside ≡ take (67108864 - total) piece
      → Cuts line inside (cuts.Line used) new → here ≡ new.line → StopsAt takes refuses leaves stop old next here (count + 1) more → Played (rules_of takes refuses leaves ended first next) ⊥ (status_of stop) (read ++ piece) (text ++ more)
  line_stop stop old next read text line count total piece inside here more used new a few small most is cut same s =
      let front : List ℕ = cut.0 in
      let room : ℕ = 67108864 - total in
      let tail : List ℕ = drop used inside ++ drop room piece in
      let whole : here ≡ line ++ front = same ∙ ap (λ (c : Cutting). c.line) cut.4 in
      let all : piece ≡ front ++ 10 ∷ tail = cut_piece piece inside room used is ∙ ap (λ x. x ++ tail) cut.3 ∙ append_assoc front (10 ∷ []) tail in
      let low = used_low inside front used cut.2 cut.3 in
      let within = ap length is ∙ length-take room piece in
      let size = ap length all ∙ length-append front (10 ∷ tail) in
      let needed = cut.2 in
      subst (λ x. Played (rules_of takes refuses leaves ended first next) ⊥ (status_of stop) (read ++ x) (text ++ more)) (sym all)
      (stops_feed takes refuses leaves ended first stop old next read text line count total front tail more a few (omega (arith, low, within, needed, small)) cut.1 cut.5 (omega (arith, size, most))
      (subst (λ l. StopsAt takes refuses leaves stop old next l (count + 1) more) whole s))
