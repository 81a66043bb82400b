-- In a cluster of one target each operation is on that target alone.
use Rattle.std.proofs.Common.{◌≡◌, ◌==◌, ◌<◌, ◌+◌, ◌-◌, ◌/◌, ◌%◌, nat_lt, ℕ, zero, suc, Bool, true, false, cond, is_some, Some, None, List, [], ◌∷◌, refl, sym, ap, ◌∙◌, arith}
use Rattle.std.proofs.lemmas.Bool.Decides.{nat_tests}
use Rattle.fid_space.specs.declared.fid.Fid.{Fid}
use Rattle.fid_space.specs.Places.{base_of, in_range, place_of, has_place}
use Rattle.fid_space.specs.Targets.{joined}
use Rattle.tree_model.specs.declared.op.Op.{Op}
use Rattle.tree_model.specs.declared.op.Op.TheVariants as ops
use Rattle.tree_model.specs.Changes.{Change, PutNode, DropNode, PutName, DropName, NewLayout, NextLayout, MoveNames}
use Rattle.tree_model.specs.Keys.{Layout, Laid, layout_at, layout_with}
use Rattle.tree_model.specs.Looks.{changes}
use Rattle.tree_model.specs.OpText.{IsOp}
use Rattle.tree_model.specs.Participants.{first_fid, with_place}
use Rattle.tree_model.specs.Striped.{entry_place, with_stripes, with_change, with_changes, on}

-- where a FID lives, it lives on target 0
lives : (f : Fid) (b : Bool) → in_range 1 f ≡ b → cond b (Some ((f.seq - base_of 0) / 0x100000)) None ≡ cond b (Some 0) None
lives f true is =
    let high : nat_lt f.seq (base_of 1) ≡ true = grind (arith, nat_tests) in
    let near : f.seq < base_of 1 = grind (arith, nat_tests) in
    let zero_is : (f.seq - base_of 0) / 0x100000 ≡ 0 = omega (arith, near) in
    ap Some zero_is
lives f false is = refl

place_is : (f : Fid) → place_of 1 f ≡ cond (f.seq == 0x200000007) (Some 0) (cond (in_range 1 f) (Some 0) None)
place_is f = ap (λ o. cond (f.seq == 0x200000007) (Some 0) o) (lives f (in_range 1 f) refl)

-- the one target with itself
with_itself : (f : Fid) → with_place 1 (place_of 1 f) ≡ 1
with_itself f = ap (λ o. with_place 1 o) (place_is f) ∙ by (f.seq == 0x200000007) (in_range 1 f)
  where
    by : (a b : Bool) → with_place 1 (cond a (Some 0) (cond b (Some 0) None)) ≡ 1
    by true b = refl
    by false true = refl
    by false false = refl

at_home : (f : Fid) → has_place 1 f ≡ true → with_place 0 (place_of 1 f) ≡ 1
at_home f has = ap (λ o. with_place 0 o) (place_is f) ∙ by (f.seq == 0x200000007) (in_range 1 f) (ap (λ o. is_some o) (sym (place_is f)) ∙ has)
  where
    by : (a b : Bool) → is_some {T = ℕ} (cond a (Some 0) (cond b (Some 0) None)) ≡ true → with_place 0 (cond a (Some 0) (cond b (Some 0) None)) ≡ 1
    by true b e = refl
    by false true e = refl
    by false false e = absurd cc

same_target : (n : ℕ) → joined 1 (n % 1) ≡ 1
same_target n =
    let none : n % 1 ≡ 0 = omega arith in
    ap (λ t. joined 1 t) none

with_all : (layout : Layout) (n : ℕ) → with_stripes 1 1 layout n ≡ 1
with_all layout zero = refl
with_all layout (suc n) = ap (λ set. with_stripes 1 set layout n) (same_target (layout.start + n)) ∙ with_all layout n

with_entry : (d : Fid) (count start generation : ℕ) (x : List ℕ) → with_place 1 (entry_place 1 d (record { count = count; start = start; generation = generation }) x) ≡ 1
with_entry d zero start generation x = with_itself d
with_entry d (suc more) start generation x = same_target _

with_one : (l : Laid) (c : Change) → with_change 1 l 1 c ≡ 1
with_one l (PutNode f node) = with_itself f
with_one l (DropNode f) = ap (λ set. with_stripes 1 set (layout_at l f) (layout_at l f).count) (with_itself f) ∙ with_all (layout_at l f) (layout_at l f).count
with_one l (PutName d x f) = with_entry d (layout_at l d).count (layout_at l d).start (layout_at l d).generation x
with_one l (DropName d x) = with_entry d (layout_at l d).count (layout_at l d).start (layout_at l d).generation x
with_one l (NewLayout d c i) = with_all (layout_with c i 0) c
with_one l (NextLayout d c i) =
    ap (λ set. with_stripes 1 (with_stripes 1 set (layout_at l d) (layout_at l d).count) (layout_with c i 0) c) (with_itself d)
    ∙ ap (λ set. with_stripes 1 set (layout_with c i 0) c) (with_all (layout_at l d) (layout_at l d).count) ∙ with_all (layout_with c i 0) c
with_one l (MoveNames d) = refl

with_every : (l : Laid) (cs : List Change) → with_changes 1 l 1 cs ≡ 1
with_every l [] = refl
with_every l (c ∷ cs) = ap (λ set. with_changes 1 l set cs) (with_one l c) ∙ with_every l cs

home_has : (op : Op) → IsOp 1 op → has_place 1 (first_fid op) ≡ true
home_has (ops.Create p x f) h = h.0.1
home_has (ops.Mkdir p x f s) h = h.0.1
home_has (ops.Link p x f) h = h.0.1
home_has (ops.Unlink p x) h = h.0.1
home_has (ops.Rmdir p x) h = h.0.1
home_has (ops.Rename p x q y) h = h.0.1
home_has (ops.SetAttr f m u g) h = h.0.1
home_has (ops.SetXattr f x v) h = h.0.1
home_has (ops.DelXattr f x) h = h.0.1
home_has (ops.Migrate d c i) h = h.0.1
home_has (ops.Lookup p x) h = h.0.1
home_has (ops.GetAttr f) h = h.1
home_has (ops.GetXattr f x) h = h.0.1

pub on_one : (l : Laid) (op : Op) → IsOp 1 op → on 1 l op ≡ 1
on_one l op is = ap (λ set. with_changes 1 l set (changes 1 l.tree op)) (at_home (first_fid op) (home_has op is)) ∙ with_every l (changes 1 l.tree op)
