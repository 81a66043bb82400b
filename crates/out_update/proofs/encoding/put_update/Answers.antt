use Rattle.std.proofs.Common.{◌≡◌, ◌<◌, ◌^◌, ◌∙◌, List, ℕ, length, All, sym, ap, subst, arith}
use Rattle.out_update.specs.declared.update.Update.{Update}
use Rattle.std.proofs.lemmas.List.Elements.{All-from_recursion}
use Rattle.out_update.specs.Types.{shapes}
use Rattle.out_update.proofs.Requests.{length-params, few_shapes}
use Rattle.out_update.proofs.RequestValues.{short_params}
use Rattle.out_update.proofs.encoding.put_update.Goals as goal

pub overflow_cast-len : goal.overflow_cast-len
overflow_cast-len c = omega (arith, length-params (shapes c.args.update.now.kind) c.args.update.now.params c.requires.params, few_shapes c.args.update.now.kind, c.len.ensures)

pub put_params-requires : goal.put_params-requires
put_params-requires c =
    let same : c.as_slice.result.now ≡ c.args.update.now.params = c.as_slice.ensures.value ∙ ap (λ (u : Update). u.params) c.update.view_is in
    subst (λ (ps : List (List ℕ)). All (λ p. length p < 2 ^ 16) ps) (sym same) (All-from_recursion (λ (p : List ℕ). length p < 2 ^ 16) c.args.update.now.params (short_params (shapes c.args.update.now.kind) c.args.update.now.params c.requires.params))
