-- What holds of every format: the laws of its spellings, and what a verdict says of them.
use Rattle.std.proofs.Common.{◌≡◌, ℕ, ◌≤◌, List, [], ◌++◌, length, take, Option, Some, None, refl, sym, ap, subst, ◌∙◌, arith, length-append}
use Rattle.std.proofs.lemmas.List.{append-nil, nil_from_length, take_at}
use Rattle.byte_grammar.specs.declared.verdict.Refusal.{Refusal}
use Rattle.byte_grammar.specs.declared.verdict.Verdict.TheVariants.{More, Done, Refused}
use Rattle.byte_grammar.specs.Grammar.{Grammar, judge, IsSettled}
use Rattle.byte_grammar.specs.Numbers.{IsBytes}
use Rattle.byte_grammar.specs.Format.{IsFormat}
use Rattle.byte_grammar.proofs.Judging.{settled_more}

some_is : {V : Type 0} (m n : V) → Some m ≡ Some n → m ≡ n
some_is m n e = cc

module _ {V : Type 0} (limit : ℕ) (Fits : V → Type 0) (text : V → List ℕ) (whole : Grammar) (value : List ℕ → Option V) (f : IsFormat limit Fits text whole value) where
  built_is : (bytes : List ℕ) → IsBytes bytes → judge limit whole 0 bytes ≡ Done (length bytes) → (v : V) × (Fits v × (bytes ≡ text v)) × (value bytes ≡ Some v)
  built_is bytes h d =
      let t = f.takes bytes (length bytes) h d in
      let len : length t.2 ≡ 0 = omega (arith, ap length t.3 ∙ length-append (text t.0) t.2, t.4) in
      let all : bytes ≡ text t.0 = t.3 ∙ ap (λ (r : List ℕ). text t.0 ++ r) (nil_from_length t.2 len) ∙ append-nil (text t.0) in
      (t.0, (t.1, all), ap value t.3 ∙ f.back t.0 t.2 t.1)

  pub never_short : (bytes : List ℕ) → IsBytes bytes → judge limit whole 0 bytes ≡ Done (length bytes) → value bytes ≡ None → ⊥
  never_short bytes h d e = let b = built_is bytes h d in let x : Some b.0 ≡ None = sym b.2 ∙ e in cc

  pub built_same : (bytes : List ℕ) (v : V) → IsBytes bytes → judge limit whole 0 bytes ≡ Done (length bytes) → value bytes ≡ Some v → Fits v × (bytes ≡ text v)
  built_same bytes v h d e =
      let b = built_is bytes h d in
      let same : b.0 ≡ v = some_is b.0 v (sym b.2 ∙ e) in
      subst (λ (v : V). Fits v × (bytes ≡ text v)) same b.1

  -- ---- laws of the relation

  pub one_spelling : (v : V) (a b : List ℕ) → Fits v × (a ≡ text v) → Fits v × (b ≡ text v) → a ≡ b
  one_spelling v a b h k = h.1 ∙ sym k.1

  -- two values, where the spelling of one is in front of the other's
  same_front : (v w : V) (rest : List ℕ) (a b : List ℕ) → Fits v × (a ≡ text v) → Fits w × (b ≡ text w) → a ++ rest ≡ b → v ≡ w
  same_front v w rest a b h k e =
      let x : value b ≡ Some v = ap value (sym e ∙ ap (λ (t : List ℕ). t ++ rest) h.1) ∙ f.back v rest h.0 in
      let y : value b ≡ Some w = ap value (k.1 ∙ sym (append-nil (text w))) ∙ f.back w [] k.0 in
      some_is v w (sym x ∙ y)

  pub one_value : (v w : V) (a : List ℕ) → Fits v × (a ≡ text v) → Fits w × (a ≡ text w) → v ≡ w
  one_value v w a h k = same_front v w [] a a h k (append-nil a)

  pub no_prefix : (v w : V) (a rest : List ℕ) → Fits v × (a ≡ text v) → Fits w × (a ++ rest ≡ text w) → rest ≡ []
  no_prefix v w a rest h k =
      let same = same_front v w rest a (a ++ rest) h k refl in
      let e : a ++ rest ≡ a = k.1 ∙ ap text (sym same) ∙ sym h.1 in
      nil_from_length rest (omega (arith, sym (length-append a rest) ∙ ap length e))

  -- ---- what a verdict says of spellings

  pub done_spelled : (bytes : List ℕ) (k : ℕ) → IsBytes bytes → judge limit whole 0 bytes ≡ Done k → (v : V) × (Fits v × (take k bytes ≡ text v)) × (k ≤ length bytes)
  done_spelled bytes k h d =
      let t = f.takes bytes k h d in
      let front : take k bytes ≡ text t.0 = ap (take k) t.3 ∙ take_at (text t.0) t.2 k (sym t.4) in
      (t.0, (t.1, front), omega (arith, ap length t.3 ∙ length-append (text t.0) t.2, t.4))

  pub spelled_done : (v : V) (a rest : List ℕ) → Fits v × (a ≡ text v) → judge limit whole 0 (a ++ rest) ≡ Done (length a)
  spelled_done v a rest h = ap (λ (t : List ℕ). judge limit whole 0 (t ++ rest)) h.1 ∙ f.again v rest h.0 ∙ ap (λ (t : List ℕ). Done (length t)) (sym h.1)

  -- what is refused begins no spelling
  pub refused_none : (bytes : List ℕ) (r : Refusal) (v : V) (rest : List ℕ) → judge limit whole 0 bytes ≡ Refused r → Fits v × (bytes ++ rest ≡ text v) → ⊥
  refused_none bytes r v rest e h =
      let x = settled_more limit whole 0 bytes rest (subst IsSettled (sym e) tt) ∙ e in
      let y = ap (judge limit whole 0) (sym (append-nil (bytes ++ rest))) ∙ spelled_done v (bytes ++ rest) [] h in
      let z : Refused r ≡ Done (length (bytes ++ rest)) = sym x ∙ y in
      cc

  -- where a field is to come, no spelling has ended
  pub more_none : (bytes : List ℕ) (v : V) (a rest : List ℕ) → judge limit whole 0 bytes ≡ More → Fits v × (a ≡ text v) → bytes ≡ a ++ rest → ⊥
  more_none bytes v a rest e h is =
      let y = ap (judge limit whole 0) is ∙ spelled_done v a rest h in
      let z : More ≡ Done (length a) = sym e ∙ y in
      cc
