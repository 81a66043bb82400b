-- The members of a set, and the numbers of a list, one after another.
use Rattle.std.proofs.Common.{◌≡◌, ◌+◌, ℕ, suc, true, false, cond, Option, Some, None, List, [], ◌∷◌, ◌++◌, drop, inl, inr, sym, ap, ◌∙◌, add-one, append-nil, append_assoc}
use Rattle.std.specs.List.{flat_map, slice_get}
use Rattle.std.proofs.Math.Seq.{drop-cons}
use Rattle.std.proofs.lemmas.Option.{slice_get_within, get_or_from_slice_get, slice_get_cases}
use Rattle.std.proofs.lemmas.List.{drop_all}
use Rattle.scenario_text.specs.LineText.{after_comma}
use Rattle.fid_space.specs.Targets.{is_member}
use Rattle.scenario_text.specs.LineText.{members}

members_more : (set t : ℕ) → members set (t + 1) ≡ members set t ++ cond (is_member set t) (t ∷ []) []
unfolding members
members_more set t = ap (members set) (add-one t)

pub members_in : (set t : ℕ) (now new : List ℕ) → now ≡ members set t → is_member set t ≡ true → new ≡ now ++ t ∷ [] → new ≡ members set (t + 1)
members_in set t now new is has e =
    e ∙ ap (λ l. l ++ t ∷ []) is ∙ sym (members_more set t ∙ ap (λ b. members set t ++ cond b (t ∷ []) []) has)

pub members_out : (set t : ℕ) (now new : List ℕ) → now ≡ members set t → is_member set t ≡ false → new ≡ now → new ≡ members set (t + 1)
members_out set t now new is has e =
    e ∙ is ∙ sym (members_more set t ∙ ap (λ b. members set t ++ cond b (t ∷ []) []) has ∙ append-nil (members set t))

-- the next number of a list is written
pub after_next : (ns : List ℕ) (i n : ℕ) (out new old : List ℕ) → slice_get ns i ≡ Some n → out ++ flat_map after_comma (drop i ns) ≡ old → new ≡ out ++ after_comma n → new ++ flat_map after_comma (drop (i + 1) ns) ≡ old
after_next ns i n out new old is so_far e =
    let here : drop i ns ≡ n ∷ drop (suc i) ns = drop-cons ns i n (slice_get_within ns i n is) ∙ ap (λ x. x ∷ drop (suc i) ns) (get_or_from_slice_get ns i n n is) in
    ap (λ l. new ++ flat_map after_comma (drop l ns)) (add-one i) ∙ ap (λ l. l ++ flat_map after_comma (drop (suc i) ns)) e
    ∙ append_assoc out (after_comma n) (flat_map after_comma (drop (suc i) ns)) ∙ ap (λ l. out ++ flat_map after_comma l) (sym here) ∙ so_far

-- all numbers of a list are written
pub after_last : (ns : List ℕ) (i : ℕ) (out old : List ℕ) → slice_get ns i ≡ None → out ++ flat_map after_comma (drop i ns) ≡ old → out ≡ old
after_last ns i out old none so_far = elim (slice_get_cases ns i).1 [
  | inl some ↦ absurd (some_none some.0 (sym some.2 ∙ none))
  | inr past ↦ sym (append-nil out) ∙ ap (λ l. out ++ flat_map after_comma l) (sym (drop_all i ns past.0)) ∙ so_far
]
  where
    some_none : (n : ℕ) → ◌≡◌ {A = Option ℕ} (Some n) None → ⊥
    some_none n e = cc
