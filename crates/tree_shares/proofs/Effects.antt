-- What updates do to one object, whatever target it is on.
use Rattle.std.proofs.Common.{◌≡◌, ◌==◌, ℕ, Bool, true, false, cond, if◌then◌else◌, List, [], ◌∷◌, ◌++◌, length, Option, Some, None, Result, Ok, Err, refl, sym, ap, ◌∙◌}
use Rattle.std.specs.FinMap.{get, insert, get-insert, get-remove}
use Rattle.fid_space.specs.declared.fid.Fid.{Fid}
use Rattle.fid_space.specs.Places.{place_of}
use Rattle.tree_model.proofs.Maps.{fids_total}
use Rattle.tree_model.proofs.Fids.{told_same}
use Rattle.out_update.specs.declared.update.Update.{Update}
use Rattle.out_update.specs.declared.update.Kind.{Kind}
use Rattle.out_update.specs.declared.update.Kind.TheVariants as kind
use Rattle.object_store.specs.declared.body.Body.{Body}
use Rattle.object_store.specs.declared.fault.ImageFault.{ImageFault}
use Rattle.object_store.specs.ImageReading.{body_at}
use Rattle.object_store.specs.Objects.{Object, ObjectMap, fresh}
use Rattle.object_store.specs.Meaning.{param, changed, put_back, created, changed_there, after_kind, after, after_all}
use Rattle.tree_shares.specs.Shares.{is_at}
use Rattle.tree_shares.specs.Updates.{placed_one, placed, updates_at}
use Rattle.tree_sound.proofs.Basics.{same, by_bool}

abbrev pub created_at : Option Object → Result (Body × List ℕ) ImageFault → Option Object
created_at o (Ok b) = Some (fresh b.0)
created_at o (Err e) = o

abbrev pub changed_at : Option Object → Kind → List ℕ → List ℕ → Option Object
changed_at None k p q = None
changed_at (Some o) k p q = changed o k p q

abbrev pub effect_of : Kind → List ℕ → List ℕ → Option Object → Option Object
effect_of kind.Create p q o = created_at o (body_at (length p) p)
effect_of k p q o = changed_at o k p q

abbrev pub effect : Update → Option Object → Option Object
effect u o = effect_of u.kind (param u 0) (param u 1) o

abbrev pub touched : Update → Fid → Option Object → Option Object
touched u q o = cond (same q u.fid) (effect u o) o

abbrev pub effects : List Update → Fid → Option Object → Option Object
effects [] q o = o
effects (u ∷ us) q o = effects us q (touched u q o)

pub either_same : {X : Type 0} (b : Bool) (x : X) → x ≡ cond b x x
either_same true x = refl
either_same false x = refl

got_put_back : (m : ObjectMap) (f x : Fid) (r : Option Object) → get (put_back m f r) x ≡ cond (same x f) r (get m x)
got_put_back m f x None = get-remove fids_total m f x
got_put_back m f x (Some o) = get-insert fids_total m f o x

got_created : (m : ObjectMap) (f x : Fid) (b : Result (Body × List ℕ) ImageFault) → get (created m f b) x ≡ cond (same x f) (created_at (get m x) b) (get m x)
got_created m f x (Ok b) = get-insert fids_total m f (fresh b.0) x
got_created m f x (Err e) = either_same (same x f) (get m x)

got_there : (m : ObjectMap) (f x : Fid) (o : Option Object) → get m f ≡ o → (k : Kind) (p q : List ℕ) → get (changed_there m f o k p q) x ≡ cond (same x f) (changed_at o k p q) (get m x)
got_there m f x None is k p q =
    by_bool (same x f)
    (λ s. ap (λ g. get m g) (told_same x f s) ∙ is ∙ sym (ap (λ b. cond b None (get m x)) s))
    (λ s. sym (ap (λ b. cond b None (get m x)) s))
got_there m f x (Some o) is k p q = got_put_back m f x (changed o k p q)

at_same : (m : ObjectMap) (f x : Fid) (k : Kind) (p q : List ℕ) → cond (same x f) (changed_at (get m f) k p q) (get m x) ≡ cond (same x f) (changed_at (get m x) k p q) (get m x)
at_same m f x k p q =
    by_bool (same x f)
    (λ s. ap (λ g. cond (same x f) (changed_at (get m g) k p q) (get m x)) (sym (told_same x f s)))
    (λ s. ap (λ b. cond b (changed_at (get m f) k p q) (get m x)) s ∙ sym (ap (λ b. cond b (changed_at (get m x) k p q) (get m x)) s))

got_kind : (m : ObjectMap) (f x : Fid) (k : Kind) (p q : List ℕ) → get (after_kind m f k p q) x ≡ cond (same x f) (effect_of k p q (get m x)) (get m x)
got_kind m f x kind.Create p q = got_created m f x (body_at (length p) p)
got_kind m f x k p q = got_there m f x (get m f) refl k p q ∙ at_same m f x k p q

pub got_after : (m : ObjectMap) (u : Update) (x : Fid) → get (after m u) x ≡ touched u x (get m x)
unfolding after
got_after m u x = got_kind m u.fid x u.kind (param u 0) (param u 1)

pub got_after_all : (us : List Update) (m : ObjectMap) (x : Fid) → get (after_all m us) x ≡ effects us x (get m x)
got_after_all [] m x = refl
got_after_all (u ∷ us) m x = got_after_all us (after m u) x ∙ ap (effects us x) (got_after m u x)

pub effects-append : (us vs : List Update) (q : Fid) (o : Option Object) → effects (us ++ vs) q o ≡ effects vs q (effects us q o)
effects-append [] vs q o = refl
effects-append (u ∷ us) vs q o = effects-append us vs q (touched u q o)

-- ---- the part of a target

no_choice : (c : Bool) (x y o : Option Object) → c ≡ false → cond c x o ≡ cond c y o
no_choice c x y o h = ap (λ b. cond b x o) h ∙ sym (ap (λ b. cond b y o) h)

yes_choice : (c : Bool) (x y z : Option Object) → c ≡ true → cond c x y ≡ cond c x z
yes_choice c x y z h = ap (λ b. cond b x y) h ∙ sym (ap (λ b. cond b x z) h)

hit : (t : ℕ) (c : Bool) (u : Update) (ps : List (ℕ × Update)) (us : List Update) (q : Fid) (o : Option Object) (place : Option ℕ) → is_at t place ≡ c
    → ((p : Option Object) → effects (updates_at t ps) q p ≡ cond c (effects us q p) p) → effects (updates_at t (placed_one place u ps)) q o ≡ cond c (effects us q (touched u q o)) o
hit t c u ps us q o None is ih = ih o ∙ no_choice c _ _ o (sym is)
hit t c u ps us q o (Some there) is ih = by_place (there == t) is
  where
    by_place : (b : Bool) → b ≡ c → effects (if b then u ∷ updates_at t ps else updates_at t ps) q o ≡ cond c (effects us q (touched u q o)) o
    by_place true e = ih (touched u q o) ∙ yes_choice c _ _ _ (sym e)
    by_place false e = ih o ∙ no_choice c _ _ o (sym e)

missed : (t : ℕ) (c : Bool) (u : Update) (ps : List (ℕ × Update)) (us : List Update) (q : Fid) (o : Option Object) (place : Option ℕ) → touched u q o ≡ o
    → ((p : Option Object) → effects (updates_at t ps) q p ≡ cond c (effects us q p) p) → effects (updates_at t (placed_one place u ps)) q o ≡ cond c (effects us q (touched u q o)) o
missed t c u ps us q o None is ih = ih o ∙ ap (λ p. cond c (effects us q p) o) (sym is)
missed t c u ps us q o (Some there) is ih = by_place (there == t)
  where
    by_place : (b : Bool) → effects (if b then u ∷ updates_at t ps else updates_at t ps) q o ≡ cond c (effects us q (touched u q o)) o
    by_place true = ap (effects (updates_at t ps) q) is ∙ ih o ∙ ap (λ p. cond c (effects us q p) o) (sym is)
    by_place false = ih o ∙ ap (λ p. cond c (effects us q p) o) (sym is)

pub part_effects : (targets t : ℕ) (us : List Update) (q : Fid) (o : Option Object) → effects (updates_at t (placed targets us)) q o ≡ cond (is_at t (place_of targets q)) (effects us q o) o
part_effects targets t [] q o = either_same (is_at t (place_of targets q)) o
part_effects targets t (u ∷ us) q o =
    by_bool (same q u.fid)
    (λ s. hit t (is_at t (place_of targets q)) u (placed targets us) us q o (place_of targets u.fid) (ap (λ f. is_at t (place_of targets f)) (sym (told_same q u.fid s))) (part_effects targets t us q))
    (λ s. missed t (is_at t (place_of targets q)) u (placed targets us) us q o (place_of targets u.fid) (ap (λ b. cond b (effect u o) o) s) (part_effects targets t us q))
