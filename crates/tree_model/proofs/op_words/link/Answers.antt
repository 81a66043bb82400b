use Rattle.std.proofs.Common.{[], ◌∷◌, inl}
use Rattle.tree_model.specs.OpReading.{FidField, NameField, IsFirstBad}
use Rattle.tree_model.proofs.BadWords.{bad_more, bad_next, err_gives}
use Rattle.tree_model.proofs.op_words.link.Goals as goal

pub returns-in_err-parent-clause-fault : goal.returns-in_err-parent-clause-fault
returns-in_err-parent-clause-fault c =
    err_gives c.from_residual.result c.in_err-parent.field-0.0 (λ d. IsFirstBad c.args.cluster (FidField ∷ NameField ∷ FidField ∷ []) (c.args.parent.now ∷ c.args.name.now ∷ c.args.fid.now ∷ []) d) c.from_residual.ensures.1
    (bad_more c.args.cluster (FidField ∷ NameField ∷ []) (FidField ∷ []) (c.args.parent.now ∷ c.args.name.now ∷ []) (c.args.fid.now ∷ []) c.in_err-parent.field-0.0 (c.in_err-parent.ensures.fault))

pub returns-in_err-fid-clause-fault : goal.returns-in_err-fid-clause-fault
returns-in_err-fid-clause-fault c =
    err_gives c.from_residual-in_err-fid.result c.in_err-fid.field-0.0 (λ d. IsFirstBad c.args.cluster (FidField ∷ NameField ∷ FidField ∷ []) (c.args.parent.now ∷ c.args.name.now ∷ c.args.fid.now ∷ []) d) c.from_residual-in_err-fid.ensures.1
    (bad_next c.args.cluster (FidField ∷ NameField ∷ []) (FidField ∷ []) (c.args.parent.now ∷ c.args.name.now ∷ []) (c.args.fid.now ∷ []) c.in_err-fid.field-0.0 (c.in_ok-parent.ensures.good.0, (c.in_ok-parent.ensures.good.1, tt)) (bad_more c.args.cluster (FidField ∷ []) ([]) (c.args.fid.now ∷ []) ([]) c.in_err-fid.field-0.0 (inl (c.in_err-fid.ensures.fault))))
