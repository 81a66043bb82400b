-- A walk one directory further.
use Rattle.std.proofs.Common.{◌≡◌, ℕ, zero, suc, true, false, if◌then◌else◌, Some, None, sym, ap, ◌∙◌, subst}
use Rattle.std.specs.FinMap.{get}
use Rattle.fid_space.specs.declared.fid.Fid.{Fid}
use Rattle.tree_model.specs.declared.errno.Errno.TheVariants.{EINVAL, ELOOP}
use Rattle.tree_model.specs.Tree.{Tree, same_fid, root_fid}
use Rattle.tree_model.specs.Step.{walk_fault, parent_of}

pub walk_root : (t : Tree) (m : Fid) (n : ℕ) (f : Fid) → same_fid f root_fid ≡ true → walk_fault t m n f ≡ None
unfolding walk_fault
walk_root t m zero f h = ap (λ b. if b then None else (if same_fid f m then Some EINVAL else Some ELOOP)) h
walk_root t m (suc n) f h = ap (λ b. if b then None else (if same_fid f m then Some EINVAL else walk_fault t m n (parent_of (get t.nodes f)))) h

pub walk_met : (t : Tree) (m : Fid) (n : ℕ) (f : Fid) → same_fid f root_fid ≡ false → same_fid f m ≡ true → walk_fault t m n f ≡ Some EINVAL
unfolding walk_fault
walk_met t m zero f h k =
    ap (λ b. if b then None else (if same_fid f m then Some EINVAL else Some ELOOP)) h ∙ ap (λ b. if b then Some EINVAL else Some ELOOP) k
walk_met t m (suc n) f h k =
    ap (λ b. if b then None else (if same_fid f m then Some EINVAL else walk_fault t m n (parent_of (get t.nodes f)))) h
    ∙ ap (λ b. if b then Some EINVAL else walk_fault t m n (parent_of (get t.nodes f))) k

pub walk_end : (t : Tree) (m : Fid) (n : ℕ) (f : Fid) → n ≡ 0 → same_fid f root_fid ≡ false → same_fid f m ≡ false → walk_fault t m n f ≡ Some ELOOP
unfolding walk_fault
walk_end t m n f e h k =
    subst (λ i. walk_fault t m i f ≡ Some ELOOP) (sym e)
    (ap (λ b. if b then None else (if same_fid f m then Some EINVAL else Some ELOOP)) h ∙ ap (λ b. if b then Some EINVAL else Some ELOOP) k)

pub walk_on : (t : Tree) (m : Fid) (n k : ℕ) (f : Fid) → n ≡ suc k → same_fid f root_fid ≡ false → same_fid f m ≡ false → walk_fault t m n f ≡ walk_fault t m k (parent_of (get t.nodes f))
unfolding walk_fault
walk_on t m n k f e h g =
    subst (λ i. walk_fault t m i f ≡ walk_fault t m k (parent_of (get t.nodes f))) (sym e)
    (ap (λ b. if b then None else (if same_fid f m then Some EINVAL else walk_fault t m k (parent_of (get t.nodes f)))) h
    ∙ ap (λ b. if b then Some EINVAL else walk_fault t m k (parent_of (get t.nodes f))) g)
