-- Members of lists.
use Rattle.std.proofs.Common.{◌≡◌, ◌||◌, ◌⊎◌, inl, inr, ⊎_elim, Bool, true, false, List, [], ◌∷◌, ◌++◌, refl, sym, ap, ◌∙◌, subst, true≢false}
use Rattle.std.specs.List.{AllByRecursion, flat_map}
use Rattle.fid_space.specs.declared.fid.Fid.{Fid}
use Rattle.tree_model.specs.Tree.{same_fid}
use Rattle.tree_model.specs.Keys.{Key}
use Rattle.tree_model.specs.Laws.{Among}
use Rattle.op_laws.specs.Objects.{is_among}
use Rattle.tree_sound.proofs.Basics.{In, in_either, which, same_is, same_self}

pub or_first : (a b : Bool) → a ≡ true → (a || b) ≡ true
or_first true b h = refl
or_first false b h = absurd (true≢false (sym h))

or_second : (a b : Bool) → b ≡ true → (a || b) ≡ true
or_second true b h = refl
or_second false b h = h

or_which : (a b : Bool) → (a || b) ≡ true → (a ≡ true) ⊎ (b ≡ true)
or_which true b h = inl refl
or_which false b h = inr h

pub in_of : (xs : List Fid) (x : Fid) → is_among xs x ≡ true → In xs x
in_of [] x h = absurd (true≢false (sym h))
in_of (y ∷ ys) x h = ⊎_elim (λ e. inl (same_is y x e)) (λ m. inr (in_of ys x m)) (or_which (same_fid y x) (is_among ys x) h)

pub of_in : (xs : List Fid) (x : Fid) → In xs x → is_among xs x ≡ true
of_in [] x h = absurd h
of_in (y ∷ ys) x h = ⊎_elim
    (λ e. or_first (same_fid y x) (is_among ys x) (ap (λ z. same_fid y z) (sym e) ∙ same_self y))
    (λ m. or_second (same_fid y x) (is_among ys x) (of_in ys x m)) h

pub not_in : (xs : List Fid) (x : Fid) → (In xs x → ⊥) → is_among xs x ≡ false
not_in xs x h = ⊎_elim (λ e. absurd (h (in_of xs x e))) (λ e. e) (which (is_among xs x))

module _ {A : Type 0} where
  pub in_left : (xs ys : List A) (x : A) → In xs x → In (xs ++ ys) x
  in_left [] ys x h = absurd h
  in_left (z ∷ zs) ys x h = ⊎_elim (λ e. inl e) (λ m. inr (in_left zs ys x m)) h

  pub in_right : (xs ys : List A) (x : A) → In ys x → In (xs ++ ys) x
  in_right [] ys x h = h
  in_right (z ∷ zs) ys x h = inr (in_right zs ys x h)

module _ {A B : Type 0} (f : A → List B) where
  pub in_flat : (xs : List A) (x : A) (b : B) → In xs x → In (f x) b → In (flat_map f xs) b
  in_flat [] x b h k = absurd h
  in_flat (z ∷ zs) x b h k = ⊎_elim
      (λ e. in_left (f z) (flat_map f zs) b (subst (λ y. In (f y) b) (sym e) k))
      (λ m. in_right (f z) (flat_map f zs) b (in_flat zs x b m k)) h

  pub from_flat : (xs : List A) (b : B) → In (flat_map f xs) b → (x : A) × In xs x × In (f x) b
  from_flat [] b h = absurd h
  from_flat (z ∷ zs) b h = ⊎_elim (λ m. (z, inl refl, m))
      (λ m. let more = from_flat zs b m in (more.0, inr more.1, more.2)) (in_either (f z) (flat_map f zs) b h)

pub in_keys : (ks : List Key) (k : Key) → Among ks k → In ks k
in_keys [] k h = h
in_keys (j ∷ js) k h = ⊎_elim (λ e. inl e) (λ m. inr (in_keys js k m)) h

pub each_in : {A : Type 0} (P : A → Type 0) (xs : List A) (x : A) → AllByRecursion P xs → In xs x → P x
each_in P [] x h m = absurd m
each_in P (y ∷ ys) x h m = ⊎_elim (λ e. subst P e h.0) (λ a. each_in P ys x h.1 a) m

pub all_of : {A : Type 0} (P : A → Type 0) (xs : List A) → ((x : A) → In xs x → P x) → AllByRecursion P xs
all_of P [] f = tt
all_of P (x ∷ xs) f = (f x (inl refl), all_of P xs (λ y m. f y (inr m)))
