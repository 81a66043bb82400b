-- Parts, shares and written objects: each update is in the part of its place.
use Rattle.std.proofs.Common.{◌≡◌, ◌+◌, ◌==◌, inl, inr, ⊎_elim, ℕ, zero, suc, Bool, true, false, if◌then◌else◌, map, Option, Some, None, List, [], ◌∷◌, ◌++◌, refl, sym, ap, ◌∙◌, subst, true≢false}
use Rattle.std.proofs.lemmas.Bool.{eq-eqb}
use Rattle.std.specs.Option.{unwrap_or}
use Rattle.fid_space.specs.declared.fid.Fid.{Fid}
use Rattle.fid_space.specs.Places.{place_of}
use Rattle.fid_space.specs.Targets.{is_member}
use Rattle.tree_model.specs.declared.op.Op.{Op}
use Rattle.tree_model.specs.Keys.{Laid}
use Rattle.tree_model.specs.Kept.{laid_step}
use Rattle.tree_model.specs.Striped.{on}
use Rattle.out_update.specs.declared.update.Update.{Update}
use Rattle.object_store.specs.Meaning.{after_all}
use Rattle.update_record.specs.Spelling.{has_target, part_for}
use Rattle.tree_sound.proofs.Basics.{In, in_either, which}
use Rattle.tree_shares.specs.Shares.{share}
use Rattle.tree_shares.specs.Updates.{updates, placed_one, placed, placed_updates, updates_at}
use Rattle.tree_shares.specs.Parts.{parts_from, parts, named_in}
use Rattle.tree_shares.proofs.Histories.{shares_follow}
use Rattle.tree_shares.proofs.Written.{updates_name_what_is_written}
use Rattle.tree_shares.proofs.Others.{others_stay}
use Rattle.tree_shares.proofs.Parting.{parts_of_targets}
use Rattle.op_laws.specs.Objects.{is_among, wrote}
use Rattle.op_laws.specs.PartTies.{EachUpdateHasItsPart, PartsNameWhatIsWritten, WrittenHere, PartsMakeShares}
use Rattle.op_laws.proofs.Lists.{in_of, of_in, not_in, all_of}
use Rattle.op_laws.proofs.Final.{wrote_on}

abbrev named : List Update → List Fid
named us = map (λ u. u.fid) us

named_one : (us : List Update) (u : Update) → In us u → In (named us) u.fid
named_one [] u h = absurd h
named_one (v ∷ vs) u h = ⊎_elim (λ e. inl (ap (λ (w : Update). w.fid) e)) (λ m. inr (named_one vs u m)) h

-- ---- what is placed at a target

at_placed : (targets t : ℕ) (us : List Update) (x : Fid) → In (named us) x → place_of targets x ≡ Some t → In (named (updates_at t (placed targets us))) x
at_placed targets t [] x h e = absurd h
at_placed targets t (u ∷ us) x h e =
    by_place (place_of targets u.fid) refl h (λ m. at_placed targets t us x m e)
  where
    later : (p : ℕ × Update) (ps : List (ℕ × Update)) (b : Bool) → In (named (updates_at t ps)) x → In (named (if b then p.1 ∷ updates_at t ps else updates_at t ps)) x
    later p ps true m = inr m
    later p ps false m = m

    here : (k : ℕ) (ps : List (ℕ × Update)) → u.fid ≡ x → k ≡ t → In (named (if k == t then u ∷ updates_at t ps else updates_at t ps)) x
    here k ps s same = subst (λ b. In (named (if b then u ∷ updates_at t ps else updates_at t ps)) x) (sym (eq-eqb k t same)) (inl s)

    same_some : (a b : ℕ) → ◌≡◌ {A = Option ℕ} (Some a) (Some b) → a ≡ b
    same_some a b e = cc

    clash : (b : ℕ) → ◌≡◌ {A = Option ℕ} None (Some b) → ⊥
    clash b e = cc

    by_place : (o : Option ℕ) → place_of targets u.fid ≡ o → In (named (u ∷ us)) x → (In (named us) x → In (named (updates_at t (placed targets us))) x) → In (named (updates_at t (placed_one o u (placed targets us)))) x
    by_place None is m rest = ⊎_elim (λ (s : u.fid ≡ x). absurd (clash t (sym is ∙ (ap (λ f. place_of targets f) s ∙ e)))) rest m
    by_place (Some k) is m rest = ⊎_elim
        (λ (s : u.fid ≡ x). here k (placed targets us) s (same_some k t (sym is ∙ (ap (λ f. place_of targets f) s ∙ e))))
        (λ r. later (k, u) (placed targets us) (k == t) (rest r)) m

-- ---- and nothing else is

abbrev placed_names : List (ℕ × Update) → List Fid
placed_names ps = map (λ p. p.1.fid) ps

placed_in : (targets : ℕ) (us : List Update) (x : Fid) → In (placed_names (placed targets us)) x → In (named us) x
placed_in targets [] x h = absurd h
placed_in targets (u ∷ us) x h = by_place (place_of targets u.fid) h (λ m. placed_in targets us x m)
  where
    by_place : (o : Option ℕ) → In (placed_names (placed_one o u (placed targets us))) x → (In (placed_names (placed targets us)) x → In (named us) x) → In (named (u ∷ us)) x
    by_place None m rest = inr (rest m)
    by_place (Some k) m rest = ⊎_elim (λ s. inl s) (λ r. inr (rest r)) m

at_in : (t : ℕ) (ps : List (ℕ × Update)) (x : Fid) → In (named (updates_at t ps)) x → In (placed_names ps) x
at_in t [] x h = absurd h
at_in t (p ∷ ps) x h = by_test (p.0 == t) h (λ m. at_in t ps x m)
  where
    by_test : (b : Bool) → In (named (if b then p.1 ∷ updates_at t ps else updates_at t ps)) x → (In (named (updates_at t ps)) x → In (placed_names ps) x) → In (placed_names (p ∷ ps)) x
    by_test true m rest = ⊎_elim (λ s. inl s) (λ r. inr (rest r)) m
    by_test false m rest = inr (rest m)

from_in : (n t set : ℕ) (ps : List (ℕ × Update)) (x : Fid) → In (named_in (parts_from n t set ps)) x → In (placed_names ps) x
from_in zero t set ps x h = absurd h
from_in (suc n) t set ps x h = by_test (is_member set t) h (λ m. from_in n (t + 1) set ps x m)
  where
    by_test : (b : Bool) → In (named_in (if b then (t, updates_at t ps) ∷ parts_from n (t + 1) set ps else parts_from n (t + 1) set ps)) x → (In (named_in (parts_from n (t + 1) set ps)) x → In (placed_names ps) x) → In (placed_names ps) x
    by_test true m rest = ⊎_elim (λ s. at_in t ps x s) rest (in_either (named (updates_at t ps)) (named_in (parts_from n (t + 1) set ps)) x m)
    by_test false m rest = rest m

named_parts : (targets batch : ℕ) (l : Laid) (op : Op) (x : Fid) → In (named_in (parts targets batch l op)) x → In (named (updates targets batch l op)) x
unfolding parts
named_parts targets batch l op x h = placed_in targets (updates targets batch l op) x (from_in targets 0 (on targets l op) (placed_updates targets batch l op) x h)

-- a part that is there names its objects
part_named_in : (ps : List (ℕ × List Update)) (t : ℕ) (us : List Update) (x : Fid) → part_for t ps ≡ Some us → In (named us) x → In (named_in ps) x
part_named_in [] t us x e h = absurd (clash e)
  where
    clash : ◌≡◌ {A = Option (List Update)} None (Some us) → ⊥
    clash e = cc
part_named_in (p ∷ ps) t us x e h = by_test (p.0 == t) e (λ k. part_named_in ps t us x k h)
  where
    same_some : (a b : List Update) → ◌≡◌ {A = Option (List Update)} (Some a) (Some b) → a ≡ b
    same_some a b e = cc

    first : (xs ys : List Fid) → In xs x → In (xs ++ ys) x
    first [] ys m = absurd m
    first (z ∷ zs) ys m = ⊎_elim (λ s. inl s) (λ r. inr (first zs ys r)) m

    last : (xs ys : List Fid) → In ys x → In (xs ++ ys) x
    last [] ys m = m
    last (z ∷ zs) ys m = inr (last zs ys m)

    by_test : (b : Bool) → (if b then Some p.1 else part_for t ps) ≡ Some us → (part_for t ps ≡ Some us → In (named_in ps) x) → In (named_in (p ∷ ps)) x
    by_test true k rest = first (named p.1) (named_in ps) (subst (λ vs. In (named vs) x) (sym (same_some p.1 us k)) h)
    by_test false k rest = last (named p.1) (named_in ps) (rest k)

-- ---- the laws

pub written_here : WrittenHere
written_here targets most batch l op x count sound h =
    let t = wrote_on targets most l op x count sound h in
    let us = updates targets batch l op in
    let named_there : In (named us) x = in_of (named us) x (updates_name_what_is_written targets most batch l op x sound ∙ h) in
    let mine = updates_at t.0 (placed_updates targets batch l op) in
    let part : part_for t.0 (parts targets batch l op) ≡ Some mine = (parts_of_targets targets batch l op t.0 count.0).1 ∙ ap (λ b. if b then Some mine else None) t.2 in
    (t.0, mine, (t.1, part, of_in (named mine) x (at_placed targets t.0 us x named_there t.1)))

pub parts_name : PartsNameWhatIsWritten
parts_name targets most batch l op x count sound =
    let all = named_in (parts targets batch l op) in
    let us = updates targets batch l op in
    ⊎_elim
    (λ (w : is_among (wrote targets l op) x ≡ true).
    let p = written_here targets most batch l op x count sound w in
    of_in all x (part_named_in (parts targets batch l op) p.0 p.1 x p.2.1 (in_of (named p.1) x p.2.2)) ∙ sym w)
    (λ (w : is_among (wrote targets l op) x ≡ false).
    not_in all x (λ m. true≢false (sym (of_in (named us) x (named_parts targets batch l op x m)) ∙ (updates_name_what_is_written targets most batch l op x sound ∙ w))) ∙ sym w)
    (which (is_among (wrote targets l op) x))

pub each_has_part : EachUpdateHasItsPart
each_has_part targets most batch l op count sound =
    let us = updates targets batch l op in
    all_of (λ u. (t : ℕ) × (place_of targets u.fid ≡ Some t) × (has_target t (parts targets batch l op) ≡ true)) us
    (λ u m.
    let w : is_among (wrote targets l op) u.fid ≡ true = sym (updates_name_what_is_written targets most batch l op u.fid sound) ∙ of_in (named us) u.fid (named_one us u m) in
    let t = wrote_on targets most l op u.fid count sound w in
    (t.0, t.1, (parts_of_targets targets batch l op t.0 count.0).0 ∙ t.2))

pub parts_make : PartsMakeShares
parts_make targets most batch l op target count bound sound is =
    let mine = updates_at target (placed_updates targets batch l op) in
    let part = (parts_of_targets targets batch l op target count.0).1 in
    let left : Option (List Update) → Type 0 = λ o. after_all (share targets l target) (unwrap_or o []) ≡ share targets (laid_step targets l op) target in
    subst left (sym part) (⊎_elim
    (λ (m : is_member (on targets l op) target ≡ true). subst (λ b. left (if b then Some mine else None)) (sym m) (shares_follow targets most batch l op target count.1 bound sound is))
    (λ (m : is_member (on targets l op) target ≡ false).
    subst (λ b. left (if b then Some mine else None)) (sym m) (others_stay targets most batch l op target count.1 bound sound is (λ x h. wrote_on targets most l op x count sound h) m).1)
    (which (is_member (on targets l op) target)))
