-- Tests that are decided, members of lists, and what single checks say.
use Rattle.std.proofs.Common.{◌≡◌, ◌||◌, ◌⊎◌, inl, inr, ⊎_elim, is_some, Bool, true, false, true≢false, if◌then◌else◌, Option, Some, None, List, [], ◌∷◌, ◌++◌, refl, sym, ap, ◌∙◌}
use Rattle.std.specs.Cmp.{eq_by_cmp_equiv}
use Rattle.std.specs.Ordering.{eq_by_cmp}
use Rattle.fid_space.specs.declared.fid.Fid.{Fid}
use Rattle.tree_model.specs.declared.node.Node.{Node}
use Rattle.tree_model.specs.declared.errno.Errno.{Errno}
use Rattle.tree_model.specs.declared.errno.Errno.TheVariants.{ENOTDIR}
use Rattle.tree_model.specs.Tree.{fid_cmp, same_fid}
use Rattle.tree_model.specs.Step.{parent_fault, is_dir}
use Rattle.tree_model.proofs.Maps.{fids_total}
use Rattle.tree_model.proofs.Fids.{fid_ties, told_same}

-- ---- tests

pub which : (b : Bool) → (b ≡ true) ⊎ (b ≡ false)
which true = inl refl
which false = inr refl

pub by_bool : {X : Type 0} (b : Bool) → (b ≡ true → X) → (b ≡ false → X) → X
by_bool true f g = f refl
by_bool false f g = g refl

pub not_both : {X : Type 0} (b : Bool) → b ≡ true → b ≡ false → X
not_both b t f = absurd (true≢false (sym t ∙ f))

pub neither : (a b : Bool) → (a || b) ≡ false → (a ≡ false) × (b ≡ false)
neither true b h = absurd (true≢false h)
neither false b h = (refl, h)

pub some_is : {A : Type 0} {a b : A} → ◌≡◌ {A = Option A} (Some a) (Some b) → a ≡ b
some_is e = cc

pub none_is : {A : Type 0} {b : A} → ◌≡◌ {A = Option A} None (Some b) → ⊥
none_is e = cc

pub some_none : {A X : Type 0} (o : Option A) (a : A) → o ≡ Some a → o ≡ None → X
some_none o a s n = absurd (none_is (sym n ∙ s))

-- ---- FIDs

abbrev pub same : Fid → Fid → Bool
same a b = eq_by_cmp fid_cmp a b

pub same_itself : (a : Fid) → same a a ≡ true
same_itself a = (eq_by_cmp_equiv fids_total).refl a

pub same_is : (a b : Fid) → same_fid a b ≡ true → a ≡ b
same_is a b h = told_same a b (sym (fid_ties a b) ∙ h)

pub same_self : (a : Fid) → same_fid a a ≡ true
same_self a = fid_ties a a ∙ same_itself a

pub no_self : (f g : Fid) → same_fid f g ≡ false → f ≡ g → ⊥
no_self f g h e = true≢false (sym (ap (λ k. same_fid f k) (sym e) ∙ same_self f) ∙ h)

pub at_fid : (f g : Fid) → (f ≡ g) ⊎ (same_fid f g ≡ false)
at_fid f g = ⊎_elim (λ (e : same_fid f g ≡ true). inl (same_is f g e)) (λ e. inr e) (which (same_fid f g))

pub differ : (f g : Fid) → (f ≡ g → ⊥) → same_fid f g ≡ false
differ f g h = ⊎_elim (λ e. absurd (h e)) (λ e. e) (at_fid f g)

-- ---- members

abbrev pub In : {A : Type 0} → List A → A → Type 0
In [] x = ⊥
In (y ∷ ys) x = (y ≡ x) ⊎ In ys x

pub in_either : {A : Type 0} (xs ys : List A) (x : A) → In (xs ++ ys) x → In xs x ⊎ In ys x
in_either [] ys x h = inr h
in_either (z ∷ zs) ys x h = ⊎_elim (λ e. inl (inl e)) (λ m. ⊎_elim (λ a. inl (inr a)) (λ b. inr b) (in_either zs ys x m)) h

-- ---- what checks say

pub ok_true : (b : Bool) (e : Errno) → ◌≡◌ {A = Option Errno} (if b then None else Some e) None → b ≡ true
ok_true true e h = refl
ok_true false e h = cc

pub ok_false : (b : Bool) (e : Errno) → ◌≡◌ {A = Option Errno} (if b then Some e else None) None → b ≡ false
ok_false true e h = cc
ok_false false e h = refl

pub ok_other : (b : Bool) (e : Errno) (o : Option Errno) → (if b then Some e else o) ≡ None → (b ≡ false) × (o ≡ None)
ok_other true e o h = cc
ok_other false e o h = (refl, h)

pub dir_of : (o : Option Node) → parent_fault o ≡ None → is_dir o ≡ true
dir_of None h = cc
dir_of (Some n) h = ok_true n.dir ENOTDIR h

pub dir_some : (o : Option Node) → is_dir o ≡ true → is_some o ≡ true
dir_some None h = absurd (true≢false (sym h))
dir_some (Some n) h = refl

pub none_of : {A : Type 0} (o : Option A) → is_some o ≡ false → o ≡ None
none_of None h = refl
none_of (Some a) h = absurd (true≢false h)

pub node_of : (o : Option Node) → is_dir o ≡ true → (n : Node) × (o ≡ Some n) × (n.dir ≡ true)
node_of None h = absurd (true≢false (sym h))
node_of (Some n) h = (n, refl, h)
