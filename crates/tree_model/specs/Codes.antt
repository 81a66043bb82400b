-- How operations and requests are told apart, for those who keep them in a value.
use Rattle.std.specs.Prelude.{◌≡◌, ◌⊎◌, ℕ, List, Option, refl}
use mathlib.Core.Logic.{inl, inr}
use Rattle.std.specs.Coded.{Coded, code_by, coded×, coded⊎, coded_ℕ, coded_option}
use Rattle.fid_space.specs.declared.fid.Fid.{Fid}
use Rattle.tree_model.specs.Fids.{coded_fid, coded_name}
use Rattle.tree_model.specs.declared.op.Op.{Op}
use Rattle.tree_model.specs.declared.op.Op.TheVariants as ops
use Rattle.tree_model.specs.declared.op.Request.{Request}

-- operations by the types of their fields: a name and a FID; a name alone; two names; attributes; a name
-- and a value; two numbers; a FID alone
abbrev pub Fields : Type 0
Fields =
    (Fid × (List ℕ × Fid)) ⊎ ((Fid × (List ℕ × (Fid × Option (ℕ × ℕ)))) ⊎ ((Fid × (List ℕ × Fid)) ⊎ ((Fid × List ℕ) ⊎ ((Fid × List ℕ) ⊎ ((Fid × (List ℕ × (Fid × List ℕ)))
    ⊎ ((Fid × (ℕ × (ℕ × ℕ))) ⊎ ((Fid × (List ℕ × List ℕ)) ⊎ ((Fid × List ℕ) ⊎ ((Fid × (ℕ × ℕ)) ⊎ ((Fid × List ℕ) ⊎ (Fid ⊎ (Fid × List ℕ))))))))))))

abbrev pub op_fields : Op → Fields
op_fields (ops.Create p x f) = inl (p, (x, f))
op_fields (ops.Mkdir p x f s) = inr (inl (p, (x, (f, s))))
op_fields (ops.Link p x f) = inr (inr (inl (p, (x, f))))
op_fields (ops.Unlink p x) = inr (inr (inr (inl (p, x))))
op_fields (ops.Rmdir p x) = inr (inr (inr (inr (inl (p, x)))))
op_fields (ops.Rename p x q y) = inr (inr (inr (inr (inr (inl (p, (x, (q, y))))))))
op_fields (ops.SetAttr f m u g) = inr (inr (inr (inr (inr (inr (inl (f, (m, (u, g)))))))))
op_fields (ops.SetXattr f x v) = inr (inr (inr (inr (inr (inr (inr (inl (f, (x, v)))))))))
op_fields (ops.DelXattr f x) = inr (inr (inr (inr (inr (inr (inr (inr (inl (f, x)))))))))
op_fields (ops.Migrate d c i) = inr (inr (inr (inr (inr (inr (inr (inr (inr (inl (d, (c, i)))))))))))
op_fields (ops.Lookup p x) = inr (inr (inr (inr (inr (inr (inr (inr (inr (inr (inl (p, x)))))))))))
op_fields (ops.GetAttr f) = inr (inr (inr (inr (inr (inr (inr (inr (inr (inr (inr (inl f)))))))))))
op_fields (ops.GetXattr f x) = inr (inr (inr (inr (inr (inr (inr (inr (inr (inr (inr (inr (f, x))))))))))))

abbrev pub op_of : Fields → Op
op_of (inl v) = ops.Create v.0 v.1.0 v.1.1
op_of (inr (inl v)) = ops.Mkdir v.0 v.1.0 v.1.1.0 v.1.1.1
op_of (inr (inr (inl v))) = ops.Link v.0 v.1.0 v.1.1
op_of (inr (inr (inr (inl v)))) = ops.Unlink v.0 v.1
op_of (inr (inr (inr (inr (inl v))))) = ops.Rmdir v.0 v.1
op_of (inr (inr (inr (inr (inr (inl v)))))) = ops.Rename v.0 v.1.0 v.1.1.0 v.1.1.1
op_of (inr (inr (inr (inr (inr (inr (inl v))))))) = ops.SetAttr v.0 v.1.0 v.1.1.0 v.1.1.1
op_of (inr (inr (inr (inr (inr (inr (inr (inl v)))))))) = ops.SetXattr v.0 v.1.0 v.1.1
op_of (inr (inr (inr (inr (inr (inr (inr (inr (inl v))))))))) = ops.DelXattr v.0 v.1
op_of (inr (inr (inr (inr (inr (inr (inr (inr (inr (inl v)))))))))) = ops.Migrate v.0 v.1.0 v.1.1
op_of (inr (inr (inr (inr (inr (inr (inr (inr (inr (inr (inl v))))))))))) = ops.Lookup v.0 v.1
op_of (inr (inr (inr (inr (inr (inr (inr (inr (inr (inr (inr (inl v)))))))))))) = ops.GetAttr v
op_of (inr (inr (inr (inr (inr (inr (inr (inr (inr (inr (inr (inr v)))))))))))) = ops.GetXattr v.0 v.1

abbrev pub op_again : (o : Op) → op_of (op_fields o) ≡ o
op_again (ops.Create p x f) = refl
op_again (ops.Mkdir p x f s) = refl
op_again (ops.Link p x f) = refl
op_again (ops.Unlink p x) = refl
op_again (ops.Rmdir p x) = refl
op_again (ops.Rename p x q y) = refl
op_again (ops.SetAttr f m u g) = refl
op_again (ops.SetXattr f x v) = refl
op_again (ops.DelXattr f x) = refl
op_again (ops.Migrate d c i) = refl
op_again (ops.Lookup p x) = refl
op_again (ops.GetAttr f) = refl
op_again (ops.GetXattr f x) = refl

abbrev pub coded_op : Coded Op
coded_op =
    code_by Fields
    (coded⊎ (coded× coded_fid (coded× coded_name coded_fid)) (coded⊎ (coded× coded_fid (coded× coded_name (coded× coded_fid (coded_option (coded× coded_ℕ coded_ℕ)))))
    (coded⊎ (coded× coded_fid (coded× coded_name coded_fid)) (coded⊎ (coded× coded_fid coded_name) (coded⊎ (coded× coded_fid coded_name)
    (coded⊎ (coded× coded_fid (coded× coded_name (coded× coded_fid coded_name))) (coded⊎ (coded× coded_fid (coded× coded_ℕ (coded× coded_ℕ coded_ℕ)))
    (coded⊎ (coded× coded_fid (coded× coded_name coded_name)) (coded⊎ (coded× coded_fid coded_name) (coded⊎ (coded× coded_fid (coded× coded_ℕ coded_ℕ))
    (coded⊎ (coded× coded_fid coded_name) (coded⊎ coded_fid (coded× coded_fid coded_name)))))))))))))
    op_fields op_of op_again

abbrev pub coded_request : Coded Request
coded_request = code_by (ℕ × (ℕ × Op)) (coded× coded_ℕ (coded× coded_ℕ coded_op)) (λ r. (r.number, (r.client, r.op))) (λ p. record { number = p.0; client = p.1.0; op = p.1.1 }) (λ _. refl)
