-- A walk one directory further.
use Rattle.std.proofs.Common.{◌≡◌, ℕ, zero, suc, true, false, if◌then◌else◌, Option, Some, None, Result, sym, ap, ◌∙◌, subst}
use Rattle.fid_space.specs.declared.fid.Fid.{Fid}
use Rattle.tree_model.specs.declared.errno.Errno.TheVariants.{EINVAL, ELOOP}
use Rattle.tree_model.specs.Tree.{same_fid, root_fid}
use Rattle.plan_base.specs.declared.question.Stop.{Stop}
use Rattle.plan_base.specs.declared.question.Stop.TheVariants as stop
use Rattle.plan_base.specs.Told.{Told, node_told}
use Rattle.plan_base.specs.Asks.{walk_told, then_stop, parent_seen}

pub walk_root : (t : Told) (m : Fid) (n : ℕ) (f : Fid) → same_fid f root_fid ≡ true → walk_told t m n f ≡ None
unfolding walk_told
walk_root t m zero f h = ap (λ b. if b then None else (if same_fid f m then Some (stop.Refused EINVAL) else Some (stop.Refused ELOOP))) h
walk_root t m (suc n) f h = ap (λ b. if b then None else (if same_fid f m then Some (stop.Refused EINVAL) else then_stop (node_told t f) (λ seen. walk_told t m n (parent_seen seen)))) h

pub walk_met : (t : Told) (m : Fid) (n : ℕ) (f : Fid) → same_fid f root_fid ≡ false → same_fid f m ≡ true → walk_told t m n f ≡ Some (stop.Refused EINVAL)
unfolding walk_told
walk_met t m zero f h k =
    ap (λ b. if b then None else (if same_fid f m then Some (stop.Refused EINVAL) else Some (stop.Refused ELOOP))) h ∙ ap (λ b. if b then Some (stop.Refused EINVAL) else Some (stop.Refused ELOOP)) k
walk_met t m (suc n) f h k =
    ap (λ b. if b then None else (if same_fid f m then Some (stop.Refused EINVAL) else then_stop (node_told t f) (λ seen. walk_told t m n (parent_seen seen)))) h
    ∙ ap (λ b. if b then Some (stop.Refused EINVAL) else then_stop (node_told t f) (λ seen. walk_told t m n (parent_seen seen))) k

pub walk_end : (t : Told) (m : Fid) (n : ℕ) (f : Fid) → n ≡ 0 → same_fid f root_fid ≡ false → same_fid f m ≡ false → walk_told t m n f ≡ Some (stop.Refused ELOOP)
unfolding walk_told
walk_end t m n f e h k =
    subst (λ i. walk_told t m i f ≡ Some (stop.Refused ELOOP)) (sym e)
    (ap (λ b. if b then None else (if same_fid f m then Some (stop.Refused EINVAL) else Some (stop.Refused ELOOP))) h ∙ ap (λ b. if b then Some (stop.Refused EINVAL) else Some (stop.Refused ELOOP)) k)

pub walk_on : (t : Told) (m : Fid) (n k : ℕ) (f : Fid) → n ≡ suc k → same_fid f root_fid ≡ false → same_fid f m ≡ false
    → walk_told t m n f ≡ then_stop (node_told t f) (λ seen. walk_told t m k (parent_seen seen))
unfolding walk_told
walk_on t m n k f e h g =
    subst (λ i. walk_told t m i f ≡ then_stop (node_told t f) (λ seen. walk_told t m k (parent_seen seen))) (sym e)
    (ap (λ b. if b then None else (if same_fid f m then Some (stop.Refused EINVAL) else then_stop (node_told t f) (λ seen. walk_told t m k (parent_seen seen)))) h
    ∙ ap (λ b. if b then Some (stop.Refused EINVAL) else then_stop (node_told t f) (λ seen. walk_told t m k (parent_seen seen))) g)
