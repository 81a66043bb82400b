-- Fronts of a text: what stands behind the old list where memory ran out.
use Rattle.std.proofs.Common.{◌≡◌, ℕ, List, [], ◌∷◌, ◌++◌, take, drop, refl, sym, ap, ◌∙◌, subst, append_assoc}
use Rattle.std.specs.List.{flat_map}
use Rattle.std.proofs.lemmas.List.{append-nil, take-append-drop}
use Rattle.std.proofs.lemmas.List.Concat.{flat_map-append}
use Rattle.fid_space.specs.Fronts.{IsFront}

module _ {A : Type 0} where
  -- nothing was added
  pub front_none : (old new text : List A) → new ≡ old → IsFront old new text
  front_none old new text same = ([], text, same ∙ sym (append-nil old), refl)

  -- a head was added whole, and a front of the lines behind it
  pub front_more : (old mid new head lines text : List A) → mid ≡ old ++ head → head ++ lines ≡ text → IsFront mid new lines → IsFront old new text
  front_more old mid new head lines text so_far whole f =
      (head ++ f.0, f.1, f.2 ∙ ap (λ (x : List A). x ++ f.0) so_far ∙ append_assoc old head f.0, append_assoc head f.0 f.1 ∙ ap (λ (x : List A). head ++ x) f.3 ∙ whole)

  -- more is to come behind the text
  pub front_within : (old new text more : List A) → IsFront old new text → IsFront old new (text ++ more)
  front_within old new text more f = (f.0, f.1 ++ more, f.2, sym (append_assoc f.0 f.1 more) ∙ ap (λ (x : List A). x ++ more) f.3)

  -- the texts of the first items were added, and nothing else
  pub front_items : {X : Type 0} (f : X → List A) (xs : List X) (k : ℕ) (old now new : List A) → now ≡ old ++ flat_map f (take k xs) → new ≡ now → IsFront old new (flat_map f xs)
  front_items f xs k old now new so_far same =
      (flat_map f (take k xs), flat_map f (drop k xs), same ∙ so_far, sym (flat_map-append f (take k xs) (drop k xs)) ∙ ap (flat_map f) (take-append-drop k xs))

  -- the same, where a front of the next item's text was added too
  pub front_item : {X : Type 0} (f : X → List A) (xs : List X) (k : ℕ) (old now new : List A) (x : X) (rest : List X) → drop k xs ≡ x ∷ rest → now ≡ old ++ flat_map f (take k xs) → IsFront now new (f x) → IsFront old new (flat_map f xs)
  front_item f xs k old now new x rest next so_far front =
      front_more old now new (flat_map f (take k xs)) (flat_map f (drop k xs)) (flat_map f xs) so_far
      (sym (flat_map-append f (take k xs) (drop k xs)) ∙ ap (flat_map f) (take-append-drop k xs))
      (subst (λ ys. IsFront now new (flat_map f ys)) (sym next) (front_within now new (f x) (flat_map f rest) front))
