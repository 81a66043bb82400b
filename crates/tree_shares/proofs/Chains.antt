-- Updates that make the objects of one tree those of another, one change after another.
use Rattle.std.proofs.Common.{◌≡◌, ℕ, false, cond, List, [], ◌∷◌, ◌++◌, Option, refl, sym, ap, ◌∙◌}
use Rattle.std.specs.List.{AllByRecursion}
use Rattle.fid_space.specs.declared.fid.Fid.{Fid}
use Rattle.tree_model.specs.declared.node.Node.{Node}
use Rattle.tree_model.specs.Tree.{Names}
use Rattle.tree_model.specs.Keys.{Layout, Laid}
use Rattle.tree_model.proofs.Fids.{told_same}
use Rattle.out_update.specs.declared.update.Update.{Update}
use Rattle.object_store.specs.Objects.{Object}
use Rattle.tree_shares.proofs.Effects.{effect, effects, effects-append}
use Rattle.tree_shares.proofs.Owner.{owner}
use Rattle.tree_shares.proofs.Finding.{object_in, object_from, object_at}
use Rattle.tree_sound.proofs.Basics.{same, by_bool, not_both, same_itself}
use Rattle.tree_sound.proofs.Steps.{Has, OnlyAt}

-- the updates make the objects of one tree those of another
abbrev pub Goes : ℕ → List Update → Laid → Laid → Type 0
Goes targets us l m = (q : Fid) → effects us q (object_at targets l q) ≡ object_at targets m q

pub along : (targets : ℕ) (us vs : List Update) (l m k : Laid) → Goes targets us l m → Goes targets vs m k → Goes targets (us ++ vs) l k
along targets us vs l m k g h q = effects-append us vs q (object_at targets l q) ∙ ap (effects vs q) (g q) ∙ h q

abbrev pub AreOf : Fid → List Update → Type 0
AreOf f us = AllByRecursion (λ u. owner u.fid ≡ f) us

untouched : (f : Fid) (us : List Update) (q : Fid) → AreOf f us → same (owner q) f ≡ false → (o : Option Object) → effects us q o ≡ o
untouched f [] q are h o = refl
untouched f (u ∷ us) q are h o =
    let apart : same q u.fid ≡ false = by_bool (same q u.fid) (λ s. not_both (same (owner q) f) (ap (λ x. same (owner x) f) (told_same q u.fid s) ∙ ap (λ x. same x f) are.0 ∙ same_itself f) h) (λ s. s) in
    ap (λ b. effects us q (cond b (effect u o) o)) apart ∙ untouched f us q are.1 h o

-- a change at one FID
pub at_one : (targets : ℕ) (us : List Update) (l m : Laid) (f : Fid) (n k : Option Node) (ly lz : Layout) (names more : Names)
    → Has l f n ly names → Has m f k lz more → OnlyAt l m f → AreOf f us
    → ((q : Fid) → owner q ≡ f → effects us q (object_in targets q f n ly names) ≡ object_in targets q f k lz more) → Goes targets us l m
at_one targets us l m f n k ly lz names more was is others are here q =
    by_bool (same (owner q) f)
    (λ s.
    let e = told_same (owner q) f s in
    ap (λ d. effects us q (object_from targets l q d)) e
    ∙ (λ i. effects us q (object_in targets q f (was.node i) (was.layout i) (was.names_are i)))
    ∙ here q e
    ∙ (λ i. object_in targets q f (sym is.node i) (sym is.layout i) (sym is.names_are i))
    ∙ ap (λ d. object_from targets m q d) (sym e))
    (λ s.
    let o = others (owner q) s in
    untouched f us q are s (object_at targets l q)
    ∙ (λ i. object_in targets q (owner q) (sym o.node i) (sym o.layout i) (sym o.names_are i)))
