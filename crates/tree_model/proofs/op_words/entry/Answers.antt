use Rattle.std.proofs.Common.{[], ◌∷◌, inl, inr}
use Rattle.tree_model.specs.OpReading.{FidField, NameField, IsFirstBad}
use Rattle.tree_model.proofs.BadWords.{err_gives}
use Rattle.tree_model.proofs.op_words.entry.Goals as goal

pub returns-in_err-name-clause-fault : goal.returns-in_err-name-clause-fault
returns-in_err-name-clause-fault c =
    err_gives c.from_residual-in_err-name.result c.in_err-name.field-0.0 (λ d. IsFirstBad c.args.cluster (FidField ∷ NameField ∷ []) (c.args.fid.now ∷ c.args.name.now ∷ []) d)
    c.from_residual-in_err-name.ensures.1 (inr (c.in_ok-fid.ensures.good, inl (c.in_err-name.ensures.fault c.args.cluster)))
