-- The parts of a decision whose updates are those of the tree.
use Rattle.std.proofs.Common.{◌≡◌, ◌+◌, ◌==◌, ◌||◌, ◌⊎◌, inl, inr, ⊎_elim, ℕ, zero, suc, Bool, true, false, if◌then◌else◌, Option, Some, None, List, [], ◌∷◌, map, refl, sym, ap, ◌∙◌, subst, arith, true≢false}
use Rattle.std.proofs.lemmas.Bool.{eq-eqb, eqb-true}
use Rattle.std.specs.List.{AllByRecursion}
use Rattle.fid_space.specs.declared.fid.Fid.{Fid}
use Rattle.fid_space.specs.Places.{place_of}
use Rattle.fid_space.specs.Targets.{is_member}
use Rattle.tree_model.specs.declared.op.Op.{Op}
use Rattle.tree_model.specs.Keys.{Laid}
use Rattle.tree_model.specs.Participants.{home_of}
use Rattle.tree_model.specs.Striped.{on}
use Rattle.out_update.specs.declared.update.Update.{Update}
use Rattle.tree_sound.specs.Sound.{IsSound}
use Rattle.tree_sound.proofs.Basics.{In, some_is}
use Rattle.tree_shares.specs.Updates.{updates, placed_one, placed, placed_updates, updates_at}
use Rattle.tree_shares.specs.Parts.{parts}
use Rattle.tree_shares.specs.Parts.{parts_from as tree_parts_from}
use Rattle.tree_shares.proofs.Parting.{parts_of_targets}
use Rattle.tree_shares.proofs.Sets.{home_on}
use Rattle.tree_shares.proofs.Written.{updates_name_what_is_written}
use Rattle.op_laws.specs.Laws.{IsCount}
use Rattle.op_laws.proofs.Joined.{each_has_part}
use Rattle.op_laws.proofs.Lists.{in_of}
use Rattle.plan_base.specs.Updates.{Placed}
use Rattle.plan_base.specs.Planners.{part_for, has_part, is_home, parts_from}
use Rattle.plan_parts.proofs.Targets.{on_written}

-- each update beside its target, as planners have them
abbrev pub ones : List (ℕ × Update) → List Placed
ones [] = []
ones (p ∷ ps) = (p.0, p.1 ∷ []) ∷ ones ps

part_ones : (t : ℕ) (ps : List (ℕ × Update)) → part_for t (ones ps) ≡ updates_at t ps
part_ones t [] = refl
part_ones t (p ∷ ps) = by_test (p.0 == t) (part_ones t ps)
  where
    by_test : (b : Bool) → part_for t (ones ps) ≡ updates_at t ps → (if b then p.1 ∷ part_for t (ones ps) else part_for t (ones ps)) ≡ (if b then p.1 ∷ updates_at t ps else updates_at t ps)
    by_test true e = ap (λ us. p.1 ∷ us) e
    by_test false e = e

-- ---- who has a part

or_true : (b : Bool) → (b || true) ≡ true
or_true true = refl
or_true false = refl

-- some update is placed there
has_placed : (targets t : ℕ) (us : List Update) (x : Fid) → In (map (λ u. u.fid) us) x → place_of targets x ≡ Some t → has_part t (ones (placed targets us)) ≡ true
has_placed targets t [] x h e = absurd h
has_placed targets t (u ∷ us) x h e = by_place (place_of targets u.fid) refl h (λ m. has_placed targets t us x m e)
  where
    clash : {A : Type 0} (b : ℕ) → ◌≡◌ {A = Option ℕ} None (Some b) → A
    clash b e = cc

    by_place : (o : Option ℕ) → place_of targets u.fid ≡ o → In (map (λ u. u.fid) (u ∷ us)) x → (In (map (λ u. u.fid) us) x → has_part t (ones (placed targets us)) ≡ true) → has_part t (ones (placed_one o u (placed targets us))) ≡ true
    by_place None is m rest = ⊎_elim (λ (s : u.fid ≡ x). clash t (sym is ∙ (ap (λ f. place_of targets f) s ∙ e))) rest m
    by_place (Some k) is m rest = ⊎_elim
        (λ (s : u.fid ≡ x). ap (λ b. b || has_part t (ones (placed targets us))) (eq-eqb k t (some_is (sym is ∙ (ap (λ f. place_of targets f) s ∙ e)))))
        (λ r. ap (λ b. (k == t) || b) (rest r) ∙ or_true (k == t)) m

-- what is placed at a target is of an update with its place there
placed_has : (targets t : ℕ) (us : List Update) (P : ℕ → Type 0) → AllByRecursion (λ u. (k : ℕ) × (place_of targets u.fid ≡ Some k) × P k) us → has_part t (ones (placed targets us)) ≡ true → P t
placed_has targets t [] P all h = absurd (true≢false (sym h))
placed_has targets t (u ∷ us) P all h = by_place (place_of targets u.fid) refl h (λ m. placed_has targets t us P all.1 m)
  where
    by_test : (k : ℕ) (b : Bool) → (k == t) ≡ b → P k → (b || has_part t (ones (placed targets us))) ≡ true → (has_part t (ones (placed targets us)) ≡ true → P t) → P t
    by_test k true e p m rest = subst P (eqb-true k t e) p
    by_test k false e p m rest = rest m

    by_place : (o : Option ℕ) → place_of targets u.fid ≡ o → has_part t (ones (placed_one o u (placed targets us))) ≡ true → (has_part t (ones (placed targets us)) ≡ true → P t) → P t
    by_place None is m rest = rest m
    by_place (Some k) is m rest = by_test k (k == t) refl (subst P (some_is (sym all.0.1 ∙ is)) all.0.2) m rest

same_tests : (a b : Bool) → (a ≡ true → b ≡ true) → (b ≡ true → a ≡ true) → a ≡ b
same_tests true b f g = sym (f refl)
same_tests false true f g = g refl
same_tests false false f g = refl

or_which : (a b : Bool) → (a || b) ≡ true → (a ≡ true) ⊎ (b ≡ true)
or_which true b h = inl refl
or_which false b h = inr h

-- exactly the home and those with an update are members
takes_part : (targets most batch : ℕ) (l : Laid) (op : Op) (t : ℕ) → IsCount targets → IsSound targets most l
    → (is_home (home_of targets op) t || has_part t (ones (placed_updates targets batch l op))) ≡ is_member (on targets l op) t
takes_part targets most batch l op t count sound =
    let us = updates targets batch l op in
    let has : Bool = has_part t (ones (placed_updates targets batch l op)) in
    same_tests _ _
    (λ h. ⊎_elim (λ a. home_on targets l op t (home_is (home_of targets op) a))
    (λ b. sym (parts_of_targets targets batch l op t count.0).0 ∙ placed_has targets t us _ (each_has_part targets most batch l op count sound) b)
    (or_which (is_home (home_of targets op) t) has h))
    (λ h. ⊎_elim (λ e. ap (λ o. is_home o t || has) e ∙ ap (λ b. b || has) (eq-eqb t t refl))
    (λ w. ap (λ b. is_home (home_of targets op) t || b)
    (has_placed targets t us w.0 (in_of (map (λ u. u.fid) us) w.0 (updates_name_what_is_written targets most batch l op w.0 sound ∙ w.1)) w.2) ∙ or_true (is_home (home_of targets op) t))
    (on_written targets most l op t count sound h))
  where
    home_is : (o : Option ℕ) → is_home o t ≡ true → o ≡ Some t
    home_is None h = absurd (true≢false (sym h))
    home_is (Some k) h = ap Some (eqb-true k t h)

-- and they have the updates that are placed there
parts_alike : (home : Option ℕ) (set : ℕ) (ps : List (ℕ × Update)) (n t : ℕ) → ((k : ℕ) → (is_home home k || has_part k (ones ps)) ≡ is_member set k) → parts_from home (ones ps) t n ≡ tree_parts_from n t set ps
unfolding parts_from
parts_alike home set ps zero t h = refl
parts_alike home set ps (suc n) t h =
    ap (λ b. if b then (t, part_for t (ones ps)) ∷ parts_from home (ones ps) (suc t) n else parts_from home (ones ps) (suc t) n) (h t)
    ∙ ap (λ us. if is_member set t then (t, us) ∷ parts_from home (ones ps) (suc t) n else parts_from home (ones ps) (suc t) n) (part_ones t ps)
    ∙ ap (λ rest. if is_member set t then (t, updates_at t ps) ∷ rest else rest) (later (suc t) (t + 1) (omega arith) (parts_alike home set ps n (suc t) h))
  where
    later : (a b : ℕ) → a ≡ b → parts_from home (ones ps) a n ≡ tree_parts_from n a set ps → parts_from home (ones ps) a n ≡ tree_parts_from n b set ps
    later a b e k = k ∙ ap (λ c. tree_parts_from n c set ps) e

pub parts_are : (targets most batch : ℕ) (l : Laid) (op : Op) → IsCount targets → IsSound targets most l
    → parts_from (home_of targets op) (ones (placed_updates targets batch l op)) 0 targets ≡ parts targets batch l op
unfolding parts
parts_are targets most batch l op count sound =
    parts_alike (home_of targets op) (on targets l op) (placed_updates targets batch l op) targets 0 (λ k. takes_part targets most batch l op k count sound)
