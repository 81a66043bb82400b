-- One target is replaced: where it stands, that each keeps its place, and that each disk is the same one.
use Rattle.std.proofs.Common.{Bool, true, false, if◌then◌else◌, ◌≡◌, ◌<◌, ℕ, zero, suc, List, [], ◌∷◌, ◌++◌, length, map, get_or, set, refl, sym, ap, ap₂, ◌∙◌, subst, arith}
use Rattle.std.proofs.lemmas.List.{length-set}
use Rattle.outside.specs.Disk.{Shown}
use Rattle.scenario_text.specs.declared.line.Line.{Line}
use Rattle.target_turns.specs.Target.{Target, Turned, Fate, fate_of, says}
use Rattle.target_turns.specs.Touching.{Touches}
use Rattle.target_turns.specs.Commanded.{MayBe}
use Rattle.target_turns.specs.Taking.{MayTake}
use Rattle.target_turns.specs.Showing.{is_down}
use Rattle.target_turns.specs.Founding.{crashes, stopped}
use Rattle.update_record.specs.declared.message.Message.{Message}
use Rattle.cluster_mail.specs.declared.content.Content.{Content}
use Rattle.scenario_text.specs.declared.line.Line.TheVariants as lines
use Rattle.cluster_core.specs.Commands.{with_target}
use Rattle.cluster_mail.specs.Mail.{Sent, fresh}
use Rattle.cluster_core.specs.Cluster.{ArePlaced, AreTouched, Turns, target_at}

pub at_same : {X : Type 0} (xs : List X) (i : ℕ) (x d : X) → i < length xs → get_or (set xs i x) i d ≡ x
at_same [] i x d low = absurd (omega (arith, low))
at_same (y ∷ ys) zero x d low = refl
at_same (y ∷ ys) (suc i) x d low = at_same ys i x d (omega (arith, low))

-- a fact of each place stays one where it holds of the place that changes
pub at_each : {X : Type 0} (P : ℕ → X → Type 0) (xs : List X) (i : ℕ) (x d : X) → P i x → ((j : ℕ) → P j (get_or xs j d)) → (j : ℕ) → P j (get_or (set xs i x) j d)
at_each P [] i x d p all j = all j
at_each P (y ∷ ys) zero x d p all zero = p
at_each P (y ∷ ys) zero x d p all (suc j) = all (suc j)
at_each P (y ∷ ys) (suc i) x d p all zero = all zero
at_each P (y ∷ ys) (suc i) x d p all (suc j) = at_each (λ k z. P (suc k) z) ys i x d p (λ k. all (suc k)) j

pub touches_same : (s : Shown) → Touches s s
touches_same s = record { stays = record { tells = refl; honest = refl; name = refl }; later = omega arith }

pub touched_same : (ts : List Target) → AreTouched ts ts
touched_same ts = record { count = refl; each = λ i. touches_same (target_at ts i).disk }

pub touched_equal : (a b : List Target) → b ≡ a → AreTouched a b
touched_equal a b e = subst (λ (ts : List Target). AreTouched a ts) (sym e) (touched_same a)

touches_then : (a b c : Shown) → Touches a b → Touches b c → Touches a c
touches_then a b c h k =
    record {
      stays = record { tells = k.stays.tells ∙ h.stays.tells; honest = k.stays.honest ∙ h.stays.honest; name = k.stays.name ∙ h.stays.name };
      later = omega (arith, h.later, k.later);
    }

pub touched_then : (a b c : List Target) → AreTouched a b → AreTouched b c → AreTouched a c
touched_then a b c h k = record { count = k.count ∙ h.count; each = λ i. touches_then (target_at a i).disk (target_at b i).disk (target_at c i).disk (h.each i) (k.each i) }

pub replaced_touched : (ts : List Target) (i : ℕ) (t : Target) → Touches (target_at ts i).disk t.disk → AreTouched ts (set ts i t)
replaced_touched ts i t h =
    record {
      count = length-set ts i t;
      each = at_each (λ j (x : Target). Touches (target_at ts j).disk x.disk) ts i t (target_at [] 0) h (λ j. touches_same (target_at ts j).disk);
    }

pub replaced_placed : (count : ℕ) (ts : List Target) (i : ℕ) (t : Target) → ArePlaced count ts → (t.targets ≡ (target_at ts i).targets) × (t.index ≡ (target_at ts i).index) → ArePlaced count (set ts i t)
replaced_placed count ts i t h same =
    record {
      count_is = length-set ts i t ∙ h.count_is;
      at = at_each (λ j (x : Target). j < count → (x.targets ≡ count) × (x.index ≡ j)) ts i t (target_at [] 0) (λ low. (same.0 ∙ (h.at i low).0, same.1 ∙ (h.at i low).1)) h.at;
    }

-- what stands at a place inside a list is the same whatever stands beyond it
pub at_any : {X : Type 0} (xs : List X) (i : ℕ) (x d : X) → i < length xs → x ≡ get_or xs i x → x ≡ get_or xs i d
at_any [] i x d low e = absurd (omega (arith, low))
at_any (y ∷ ys) zero x d low e = e
at_any (y ∷ ys) (suc i) x d low e = at_any ys i x d (omega (arith, low)) e

-- ---- the target at a place has become another

module _ (now ts : List Target) (i : ℕ) (old new : Target) (same : ts ≡ now) (low : i < length now) (here : old ≡ get_or ts i old) where
  low_here : i < length ts
  low_here = subst (λ (xs : List Target). i < length xs) (sym same) low

  is_here : old ≡ target_at ts i
  is_here = at_any ts i old (target_at [] 0) low_here here

  pub was_there : old ≡ target_at now i
  was_there = is_here ∙ ap (λ (xs : List Target). target_at xs i) same

  pub is_there : target_at (set ts i new) i ≡ new
  is_there = at_same ts i new (target_at [] 0) low_here

  pub turn_placed : (count : ℕ) → ArePlaced count ts → (new.targets ≡ old.targets) × (new.index ≡ old.index) → ArePlaced count (set ts i new)
  turn_placed count placed kept =
      replaced_placed count ts i new placed (kept.0 ∙ ap (λ (t : Target). t.targets) is_here, kept.1 ∙ ap (λ (t : Target). t.index) is_here)

  pub turn_touched : Touches old.disk new.disk → AreTouched now (set ts i new)
  turn_touched h =
      subst (λ (xs : List Target). AreTouched xs (set ts i new)) same (replaced_touched ts i new (subst (λ (t : Target). Touches t.disk new.disk) is_here h))

  pub turn_said : (turn : Target → Fate → Turned) (before after : List Line) → after ≡ before ++ (turn old (fate_of new)).lines
      → after ≡ before ++ (turn (target_at now i) (fate_of (target_at (set ts i new) i))).lines
  turn_said turn before after e = e ∙ ap₂ (λ (t x : Target). before ++ (turn t (fate_of x)).lines) was_there (sym is_there)

  pub turn_made : (sent mail : List Sent) (turn : Target → Fate → Turned) → new ≡ (turn old (fate_of new)).target → mail ≡ sent ++ map fresh (turn old (fate_of new)).sent → MayBe old (fate_of new)
      → Turns (record { targets = now; sent = sent }) i (turn (target_at now i)) (record { targets = set ts i new; sent = mail })
  turn_made sent mail turn after posted may =
      let into : turn old (fate_of new) ≡ turn (target_at now i) (fate_of (target_at (set ts i new) i)) = ap₂ (λ (t x : Target). turn t (fate_of x)) was_there (sym is_there) in
      record {
        after =
            ap₂ (λ (xs : List Target) (ss : List Sent). record { targets = xs; sent = ss })
            (ap₂ (λ (xs : List Target) (t : Target). set xs i t) same (after ∙ ap (λ (u : Turned). u.target) into))
            (posted ∙ ap (λ (u : Turned). sent ++ map fresh u.sent) into);
        fate = subst (λ (t : Target). MayBe t (fate_of (target_at (set ts i new) i))) was_there (subst (λ (x : Target). MayBe old (fate_of x)) (sym is_there) may);
      }

  pub turn_put : (sent : List Sent) → record { targets = set ts i new; sent = sent } ≡ with_target (record { targets = now; sent = sent }) i (target_at (set ts i new) i)
  turn_put sent = ap₂ (λ (xs : List Target) (t : Target). record { targets = set xs i t; sent = sent }) same (sym is_there)

  pub turn_may : (count : ℕ) → ArePlaced count ts → (m : Message) (content : Content) → MayTake (length now) i m content → MayTake old.targets old.index m content
  turn_may count placed m content may =
      let many : length now ≡ count = ap length (sym same) ∙ placed.count_is in
      let put = placed.at i (omega (arith, low, many)) in
      subst (λ (n : ℕ). MayTake n old.index m content) (many ∙ sym put.0 ∙ ap (λ (t : Target). t.targets) (sym is_here))
      (subst (λ (n : ℕ). MayTake (length now) n m content) (sym put.1 ∙ ap (λ (t : Target). t.index) (sym is_here)) may)

-- one that stops sends nothing
pub crash_silent : (t : Target) → (crashes t).sent ≡ []
crash_silent t = by_case (is_down t.standing)
  where
    by_case : (b : Bool) → (if b then says t (lines.State t.index t.standing ∷ []) else says (stopped t) (lines.Down t.index ∷ [])).sent ≡ []
    by_case true = refl
    by_case false = refl
