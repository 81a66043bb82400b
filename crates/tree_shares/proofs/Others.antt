-- A target that an operation isn't on has no part.
use Rattle.std.proofs.Common.{◌≡◌, ◌||◌, if◌then◌else◌, ℕ, Bool, true, false, List, [], ◌∷◌, map, Some, inl, inr, refl, sym, ap, ◌∙◌}
use Rattle.std.proofs.lemmas.Bool.Decides.{eqb_tells}
use Rattle.std.specs.List.{AllByRecursion}
use Rattle.fid_space.specs.declared.fid.Fid.{Fid}
use Rattle.fid_space.specs.Places.{place_of}
use Rattle.fid_space.specs.Targets.{is_member}
use Rattle.tree_model.specs.Tree.{same_fid}
use Rattle.tree_model.specs.Striped.{on}
use Rattle.tree_model.proofs.Fids.{fid_ties}
use Rattle.out_update.specs.declared.update.Update.{Update}
use Rattle.object_store.specs.Meaning.{after_all}
use Rattle.tree_shares.specs.Shares.{share}
use Rattle.tree_shares.specs.Updates.{updates, placed_one, placed, updates_at}
use Rattle.tree_shares.specs.Wrote.{is_among}
use Rattle.tree_shares.specs.ShareLaws.{OthersStay}
use Rattle.tree_shares.proofs.Written.{updates_name_what_is_written}
use Rattle.tree_shares.proofs.Histories.{shares_follow}
use Rattle.tree_sound.proofs.Basics.{not_both, same_itself}

or_true : (a : Bool) → (a || true) ≡ true
or_true true = refl
or_true false = refl

among_more : (f : Fid) (ys : List Fid) (us : List Update) → AllByRecursion (λ u. is_among ys u.fid ≡ true) us → AllByRecursion (λ u. is_among (f ∷ ys) u.fid ≡ true) us
among_more f ys [] h = tt
among_more f ys (u ∷ us) h = (ap (λ b. same_fid f u.fid || b) h.0 ∙ or_true (same_fid f u.fid), among_more f ys us h.1)

among_all : (us : List Update) → AllByRecursion (λ u. is_among (map (λ u. u.fid) us) u.fid ≡ true) us
among_all [] = tt
among_all (u ∷ us) =
    (ap (λ b. b || is_among (map (λ v. v.fid) us) u.fid) (fid_ties u.fid u.fid ∙ same_itself u.fid), among_more u.fid (map (λ v. v.fid) us) us (among_all us))

module _ (targets set target : ℕ) (out : is_member set target ≡ false) where
  IsOn : Fid → Type 0
  IsOn x = (t : ℕ) × (place_of targets x ≡ Some t) × (is_member set t ≡ true)

  none_of : (us : List Update) → AllByRecursion (λ u. (t : ℕ) × (place_of targets u.fid ≡ Some t) × (is_member set t ≡ true)) us → updates_at target (placed targets us) ≡ []
  none_of [] h = refl
  none_of (u ∷ us) h =
      let at = h.0 in
      ap (λ p. updates_at target (placed_one p u (placed targets us))) at.1
      ∙ elim (eqb_tells at.0 target) [
        | inl e ↦ not_both (is_member set target) (ap (λ k. is_member set k) (sym e.1) ∙ at.2) out
        | inr e ↦ ap (λ b. if b then u ∷ updates_at target (placed targets us) else updates_at target (placed targets us)) e.0 ∙ none_of us h.1
      ]

all_on : (P : Fid → Type 0) (ys : List Fid) (us : List Update) → ((x : Fid) → is_among ys x ≡ true → P x) → AllByRecursion (λ u. is_among ys u.fid ≡ true) us → AllByRecursion (λ u. P u.fid) us
all_on P ys [] f h = tt
all_on P ys (u ∷ us) f h = (f u.fid h.0, all_on P ys us f h.1)

pub others_stay : OthersStay
others_stay targets most batch l op target few bound sound is wrote_on out =
    let us = updates targets batch l op in
    let set = on targets l op in
    let each = all_on (λ x. (t : ℕ) × (place_of targets x ≡ Some t) × (is_member set t ≡ true)) (map (λ u. u.fid) us) us
    (λ x e. wrote_on x (sym (updates_name_what_is_written targets most batch l op x sound) ∙ e)) (among_all us) in
    let none = none_of targets set target out us each in
    (none, ap (λ us. after_all (share targets l target) us) (sym none) ∙ shares_follow targets most batch l op target few bound sound is)
