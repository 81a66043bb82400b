-- The shares of the next tree, and of histories.
use Rattle.std.proofs.Common.{◌≡◌, ℕ, suc, List, [], ◌∷◌, ◌++◌, length, refl, sym, ap, ◌∙◌}
use Rattle.tree_model.specs.Keys.{Laid, laid_base}
use Rattle.tree_model.specs.History.{Item}
use Rattle.tree_model.specs.Kept.{laid_step, laid_from, laid_of}
use Rattle.tree_sound.proofs.Story.{steps_sound, histories_sound}
use Rattle.tree_shares.specs.Shares.{share}
use Rattle.tree_shares.specs.ShareLaws.{PartsMakeShares, SharesOfHistories}
use Rattle.tree_shares.proofs.Law.{parts_make_shares}

pub shares_follow : PartsMakeShares
shares_follow targets most batch l op target few bound sound is =
    parts_make_shares targets batch most few l sound bound (suc most) op is (steps_sound targets most l op sound is) target

pub one_more : (targets : ℕ) (l : Laid) (history : List Item) (i : Item) → laid_from targets l (history ++ i ∷ []) ≡ laid_step targets (laid_from targets l history) i.request.op
one_more targets l [] i = refl
one_more targets l (j ∷ js) i = one_more targets (laid_step targets l j.request.op) js i

pub shares_of_histories : SharesOfHistories
shares_of_histories targets batch history item target few long are is =
    shares_follow targets (length history) batch (laid_of targets history) item.request.op target few long (histories_sound targets history are) is
    ∙ ap (λ l. share targets l target) (sym (one_more targets laid_base history item))
