-- How many places name a FID, when one place names another.
use Rattle.std.proofs.Common.{◌≡◌, ◌≤◌, inl, inr, ⊎_elim, ℕ, suc, Bool, true, false, true≢false, cond, length, Option, Some, List, [], ◌∷◌, refl, sym, ap, ◌∙◌, subst, arith}
use Rattle.fid_space.specs.declared.fid.Fid.{Fid}
use Rattle.tree_model.specs.Step.{same_place}
use Rattle.tree_sound.specs.Sound.{Place, Holds, AreDistinct, Counted}
use Rattle.tree_sound.proofs.Basics.{which}
use Rattle.tree_sound.proofs.Points.{place_is, place_self}

record Without (ps : List Place) (p : Place) : Type 0 where
  rest : List Place
  distinct : AreDistinct rest
  only : (q : Place) → Holds rest q → Holds ps q × (p ≡ q → ⊥)
  all : (q : Place) → Holds ps q → (p ≡ q → ⊥) → Holds rest q
  less : suc (length rest) ≡ length ps

without : (ps : List Place) (p : Place) → AreDistinct ps → Holds ps p → Without ps p
without [] p d h = absurd h
without (r ∷ rs) p d h = ⊎_elim
    (λ (e : r ≡ p). record {
      rest = rs;
      distinct = d.1;
      only = λ q m. (inr m, λ (s : p ≡ q). d.0 (subst (λ x. Holds rs x) (sym (e ∙ s)) m));
      all = λ q m other. ⊎_elim (λ s. absurd (other (sym e ∙ s))) (λ m. m) m;
      less = refl;
    })
    (λ m.
    let more = without rs p d.1 m in
    record {
      rest = r ∷ more.rest;
      distinct = (λ k. d.0 (more.only r k).0, more.distinct);
      only = λ q m2. ⊎_elim (λ (s : r ≡ q). (inl s, λ (t : p ≡ q). d.0 (subst (λ x. Holds rs x) (t ∙ sym s) m))) (λ k. let o = more.only q k in (inr o.0, o.1)) m2;
      all = λ q m2 other. ⊎_elim (λ s. inl s) (λ k. inr (more.all q k other)) m2;
      less = let e = more.less in omega (arith, e);
    }) h

abbrev pub put : (Fid → List ℕ → Option Fid) → Fid → List ℕ → Option Fid → Fid → List ℕ → Option Fid
put N d x o e y = cond (same_place d x e y) o (N e y)

same_option : (a b c d : Option Fid) → a ≡ b → c ≡ d → (a ≡ c) → b ≡ d
same_option a b c d p q r = sym p ∙ r ∙ q

module _ (N : Fid → List ℕ → Option Fid) (d : Fid) (x : List ℕ) (o : Option Fid) (f : Fid) where
  -- a place that is another stays
  other_place : (e : Fid) (y : List ℕ) (b : Bool) → same_place d x e y ≡ b → (b ≡ true → ⊥) → cond b o (N e y) ≡ N e y
  other_place e y true s h = absurd (h refl)
  other_place e y false s h = refl

  -- at the place itself
  pub own_place : put N d x o d x ≡ o
  own_place = ap (λ b. cond b o (N d x)) (place_self d x)

  pub apart_place : (e : Fid) (y : List ℕ) → ((d ≡ e) × (x ≡ y) → ⊥) → put N d x o e y ≡ N e y
  apart_place e y h = ⊎_elim (λ (s : same_place d x e y ≡ true). absurd (h (place_is d x e y s))) (λ s. ap (λ b. cond b o (N e y)) s) (which (same_place d x e y))

  tuple : {e : Fid} {y : List ℕ} → (d ≡ e) × (x ≡ y) → ◌≡◌ {A = Place} (d, x) (e, y)
  tuple h = let a = h.0 in let b = h.1 in λ i. (a i, b i)

  untuple : {e : Fid} {y : List ℕ} → ◌≡◌ {A = Place} (d, x) (e, y) → (d ≡ e) × (x ≡ y)
  untuple h = (ap (λ (p : Place). p.0) h, ap (λ (p : Place). p.1) h)

  abbrev by_place : {A : Type 0} (e : Fid) (y : List ℕ) → ((d ≡ e) × (x ≡ y) → A) → (((d ≡ e) × (x ≡ y) → ⊥) → A) → A
  by_place e y h k = ⊎_elim (λ (s : same_place d x e y ≡ true). h (place_is d x e y s))
      (λ (s : same_place d x e y ≡ false). k (λ t. true≢false (sym (subst (λ e. same_place d x e y ≡ true) t.0 (subst (λ y. same_place d x d y ≡ true) t.1 (place_self d x))) ∙ s))) (which (same_place d x e y))

  -- neither before nor after
  pub keeps : (k : ℕ) → (N d x ≡ Some f → ⊥) → (o ≡ Some f → ⊥) → Counted N f k → Counted (put N d x o) f k
  keeps k before after c = record {
    places = c.places;
    distinct = c.distinct;
    all = λ e y h. by_place e y
        (λ s. absurd (after (sym own_place ∙ subst (λ e. put N d x o e x ≡ Some f) (sym s.0) (subst (λ y. put N d x o e y ≡ Some f) (sym s.1) h))))
        (λ s. c.all e y (sym (apart_place e y s) ∙ h));
    only = λ e y h. by_place e y
        (λ s. absurd (before (subst (λ e. N e x ≡ Some f) (sym s.0) (subst (λ y. N e y ≡ Some f) (sym s.1) (c.only e y h)))))
        (λ s. apart_place e y s ∙ c.only e y h);
    many = c.many;
  }

  -- not before, but after
  pub gains : (k : ℕ) → (N d x ≡ Some f → ⊥) → o ≡ Some f → Counted N f k → Counted (put N d x o) f (suc k)
  gains k before after c = record {
    places = (d, x) ∷ c.places;
    distinct = (λ h. before (c.only d x h), c.distinct);
    all = λ e y h. by_place e y (λ s. inl (tuple s)) (λ s. inr (c.all e y (sym (apart_place e y s) ∙ h)));
    only = λ e y h. by_place e y
        (λ s. subst (λ y. put N d x o e y ≡ Some f) s.1 (subst (λ e. put N d x o e x ≡ Some f) s.0 (own_place ∙ after)))
        (λ s. apart_place e y s ∙ ⊎_elim (λ t. absurd (s (untuple t))) (λ m. c.only e y m) h);
    many = let m = c.many in omega (arith, m);
  }

  -- before, but not after
  pub loses : (k : ℕ) → N d x ≡ Some f → (o ≡ Some f → ⊥) → Counted N f (suc k) → Counted (put N d x o) f k
  loses k before after c =
      let w = without c.places (d, x) c.distinct (c.all d x before) in
      record {
        places = w.rest;
        distinct = w.distinct;
        all = λ e y h. by_place e y
            (λ s. absurd (after (sym own_place ∙ subst (λ e. put N d x o e x ≡ Some f) (sym s.0) (subst (λ y. put N d x o e y ≡ Some f) (sym s.1) h))))
            (λ s. w.all (e, y) (c.all e y (sym (apart_place e y s) ∙ h)) (λ t. s (untuple t)));
        only = λ e y h. let both = w.only (e, y) h in
            apart_place e y (λ s. both.1 (tuple s)) ∙ c.only e y both.0;
        many = let m = c.many in let l = w.less in omega (arith, m, l);
      }

-- a FID that a place names is named
pub named_some : (N : Fid → List ℕ → Option Fid) (d : Fid) (x : List ℕ) (f : Fid) (k : ℕ) → N d x ≡ Some f → Counted N f k → 1 ≤ k
named_some N d x f k e c = by_places c.places refl (c.all d x e)
  where
    by_places : (ps : List Place) → c.places ≡ ps → Holds c.places (d, x) → 1 ≤ k
    by_places [] s h = absurd (subst (λ ps. Holds ps (d, x)) s h)
    by_places (p ∷ ps) s h = let m = c.many in let q : length c.places ≡ suc (length ps) = ap (λ (ps : List Place). length ps) s in omega (arith, m, q)

-- the one place of a FID that has one
pub one_place : (N : Fid → List ℕ → Option Fid) (d : Fid) (x : List ℕ) (e : Fid) (y : List ℕ) (f : Fid) → Counted N f 1 → N d x ≡ Some f → N e y ≡ Some f → (d ≡ e) × (x ≡ y)
one_place N d x e y f c a b = let p = go c.places c.many (c.all d x a) (c.all e y b) in (ap (λ (p : Place). p.0) p, ap (λ (p : Place). p.1) p)
  where
    go : (ps : List Place) → length ps ≡ 1 → Holds ps (d, x) → Holds ps (e, y) → ◌≡◌ {A = Place} (d, x) (e, y)
    go [] l h k = absurd h
    go (p ∷ []) l h k = ⊎_elim (λ s. ⊎_elim (λ t. sym s ∙ t) (λ none. absurd none) k) (λ none. absurd none) h
    go (p ∷ q ∷ ps) l h k = absurd (omega (arith, l))

pub counts_as : (N M : Fid → List ℕ → Option Fid) (f : Fid) (k j : ℕ) → ((e : Fid) (y : List ℕ) → M e y ≡ N e y) → k ≡ j → Counted N f k → Counted M f j
counts_as N M f k j h e c = record {
  places = c.places;
  distinct = c.distinct;
  all = λ d x s. c.all d x (sym (h d x) ∙ s);
  only = λ d x s. h d x ∙ c.only d x s;
  many = c.many ∙ e;
}
