use Rattle.std.proofs.Common.{◌≡◌, ◌+◌, ℕ, List, [], ◌∷◌, ◌++◌, take, Some, slice_get, sym, ap, ◌∙◌, append_assoc}
use Rattle.std.proofs.lemmas.List.{take_more}
use Rattle.std.proofs.lemmas.Option.{slice_get_within, get_or_from_slice_get}
use Rattle.out_update.specs.declared.update.Update.{Update}
use Rattle.plan_base.proofs.gathering.extend.Goals as goal

take_one : {X : Type 0} → (xs : List X) (i : ℕ) (x : X) → slice_get xs i ≡ Some x → take (i + 1) xs ≡ take i xs ++ x ∷ []
take_one xs i x h = take_more xs i x (slice_get_within xs i x h) ∙ ap (λ y. take i xs ++ y ∷ []) (get_or_from_slice_get xs i x x h)

pub loop-i-preserved : goal.loop-i-preserved
loop-i-preserved c =
    let more = c.args.more.now in
    let i = c.loop-i.i in
    let u = c.in-Some.update.now in
    c.in_ok-push.ensures.ok ∙ ap (λ (x : Update). c.loop-i.part ++ x ∷ []) c.in_ok-copy.ensures
    ∙ ap (λ (p : List Update). p ++ u ∷ []) c.loop-i.invariant ∙ append_assoc c.args.part.now (take i more) (u ∷ [])
    ∙ ap (λ (t : List Update). c.args.part.now ++ t) (sym (take_one more i u (sym c.in-Some.ensures)))
