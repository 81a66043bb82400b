-- Who holds a target, of whom only the number of the request is asked.
use Rattle.std.proofs.Common.{◌≡◌, ℕ, Option, Some, None, [], ◌∷◌, refl, ap}
use Rattle.std.specs.Option.{option_map}
use Rattle.tree_model.specs.declared.op.Request.{Request}
use Rattle.update_record.specs.declared.message.Attempt.{Attempt}
use Rattle.scenario_text.specs.declared.line.Line.{Line}
use Rattle.scenario_text.specs.declared.line.Line.TheVariants as lines
use Rattle.target_turns.specs.Target.{Target, Fate, Turned, says}
use Rattle.target_turns.specs.Home.{begins}
use Rattle.target_turns.specs.Turn.{taken_up_as, takes_up}

abbrev number_of : Option Attempt → Option ℕ
number_of o = option_map (λ (h : Attempt). h.number) o

some_is : (a b : ℕ) → ◌≡◌ {A = Option ℕ} (Some a) (Some b) → a ≡ b
some_is a b e = cc

none_is : (a : ℕ) → ◌≡◌ {A = Option ℕ} None (Some a) → ⊥
none_is a e = cc

some_not : (a : ℕ) → ◌≡◌ {A = Option ℕ} (Some a) None → ⊥
some_not a e = cc

busy_as : (t : Target) (r : Request) (f : Fate) (n : ℕ) (o : Option Attempt) → number_of o ≡ Some n → taken_up_as t r f o ≡ says t (lines.Busy r.number n ∷ [])
busy_as t r f n None e = absurd (none_is n e)
busy_as t r f n (Some h) e = ap (λ (m : ℕ). says t (lines.Busy r.number m ∷ [])) (some_is h.number n e)

free_as : (t : Target) (r : Request) (f : Fate) (o : Option Attempt) → number_of o ≡ None → taken_up_as t r f o ≡ begins t r f
free_as t r f None e = refl
free_as t r f (Some h) e = absurd (some_not h.number e)

-- it is held, and says by which request
pub held_says : (t : Target) (r : Request) (f : Fate) (n : ℕ) → option_map (λ (h : Attempt). h.number) t.node.holder ≡ Some n → takes_up t r f ≡ says t (lines.Busy r.number n ∷ [])
held_says t r f n e = busy_as t r f n t.node.holder e

-- it is free
pub free_begins : (t : Target) (r : Request) (f : Fate) → option_map (λ (h : Attempt). h.number) t.node.holder ≡ None → takes_up t r f ≡ begins t r f
free_begins t r f e = free_as t r f t.node.holder e
