use Rattle.std.proofs.Common.{[], ◌∷◌, inl}
use Rattle.tree_model.specs.OpReading.{FidField, NameField, IsFirstBad}
use Rattle.tree_model.proofs.BadWords.{bad_more, bad_next, err_gives}
use Rattle.tree_model.proofs.op_words.rename.Goals as goal

pub returns-in_err-parent-clause-fault : goal.returns-in_err-parent-clause-fault
returns-in_err-parent-clause-fault c =
    err_gives c.from_residual.result c.in_err-parent.field-0.0 (λ d. IsFirstBad c.args.cluster (FidField ∷ NameField ∷ FidField ∷ NameField ∷ []) (c.args.parent.now ∷ c.args.name.now ∷ c.args.to_parent.now ∷ c.args.to_name.now ∷ []) d) c.from_residual.ensures.1
    (bad_more c.args.cluster (FidField ∷ NameField ∷ []) (FidField ∷ NameField ∷ []) (c.args.parent.now ∷ c.args.name.now ∷ []) (c.args.to_parent.now ∷ c.args.to_name.now ∷ []) c.in_err-parent.field-0.0 (c.in_err-parent.ensures.fault))

pub returns-in_err-to_parent-clause-fault : goal.returns-in_err-to_parent-clause-fault
returns-in_err-to_parent-clause-fault c =
    err_gives c.from_residual-in_err-to_parent.result c.in_err-to_parent.field-0.0 (λ d. IsFirstBad c.args.cluster (FidField ∷ NameField ∷ FidField ∷ NameField ∷ []) (c.args.parent.now ∷ c.args.name.now ∷ c.args.to_parent.now ∷ c.args.to_name.now ∷ []) d) c.from_residual-in_err-to_parent.ensures.1
    (bad_next c.args.cluster (FidField ∷ NameField ∷ []) (FidField ∷ NameField ∷ []) (c.args.parent.now ∷ c.args.name.now ∷ []) (c.args.to_parent.now ∷ c.args.to_name.now ∷ []) c.in_err-to_parent.field-0.0 (c.in_ok-parent.ensures.good.0, (c.in_ok-parent.ensures.good.1, tt)) (bad_more c.args.cluster (FidField ∷ []) (NameField ∷ []) (c.args.to_parent.now ∷ []) (c.args.to_name.now ∷ []) c.in_err-to_parent.field-0.0 (inl (c.in_err-to_parent.ensures.fault))))

pub returns-in_err-to_name-clause-fault : goal.returns-in_err-to_name-clause-fault
returns-in_err-to_name-clause-fault c =
    err_gives c.from_residual-in_err-to_name.result c.in_err-to_name.field-0.0 (λ d. IsFirstBad c.args.cluster (FidField ∷ NameField ∷ FidField ∷ NameField ∷ []) (c.args.parent.now ∷ c.args.name.now ∷ c.args.to_parent.now ∷ c.args.to_name.now ∷ []) d) c.from_residual-in_err-to_name.ensures.1
    (bad_next c.args.cluster (FidField ∷ NameField ∷ FidField ∷ []) (NameField ∷ []) (c.args.parent.now ∷ c.args.name.now ∷ c.args.to_parent.now ∷ []) (c.args.to_name.now ∷ []) c.in_err-to_name.field-0.0 (c.in_ok-parent.ensures.good.0, (c.in_ok-parent.ensures.good.1, (c.in_ok-to_parent.ensures.good, tt))) (bad_more c.args.cluster (NameField ∷ []) ([]) (c.args.to_name.now ∷ []) ([]) c.in_err-to_name.field-0.0 (inl (c.in_err-to_name.ensures.fault c.args.cluster))))
