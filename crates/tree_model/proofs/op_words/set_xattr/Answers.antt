use Rattle.std.proofs.Common.{[], ◌∷◌, inl}
use Rattle.tree_model.specs.OpReading.{FidField, NameField, HexField, IsFirstBad}
use Rattle.tree_model.proofs.BadWords.{bad_more, bad_next, err_gives}
use Rattle.tree_model.proofs.op_words.set_xattr.Goals as goal

pub returns-in_err-fid-clause-fault : goal.returns-in_err-fid-clause-fault
returns-in_err-fid-clause-fault c =
    err_gives c.from_residual.result c.in_err-fid.field-0.0 (λ d. IsFirstBad c.args.cluster (FidField ∷ NameField ∷ HexField ∷ []) (c.args.fid.now ∷ c.args.name.now ∷ c.args.value.now ∷ []) d) c.from_residual.ensures.1
    (bad_more c.args.cluster (FidField ∷ NameField ∷ []) (HexField ∷ []) (c.args.fid.now ∷ c.args.name.now ∷ []) (c.args.value.now ∷ []) c.in_err-fid.field-0.0 (c.in_err-fid.ensures.fault))

pub returns-in_err-value-clause-fault : goal.returns-in_err-value-clause-fault
returns-in_err-value-clause-fault c =
    err_gives c.from_residual-in_err-value.result c.in_err-value.field-0.0 (λ d. IsFirstBad c.args.cluster (FidField ∷ NameField ∷ HexField ∷ []) (c.args.fid.now ∷ c.args.name.now ∷ c.args.value.now ∷ []) d) c.from_residual-in_err-value.ensures.1
    (bad_next c.args.cluster (FidField ∷ NameField ∷ []) (HexField ∷ []) (c.args.fid.now ∷ c.args.name.now ∷ []) (c.args.value.now ∷ []) c.in_err-value.field-0.0 (c.in_ok-fid.ensures.good.0, (c.in_ok-fid.ensures.good.1, tt)) (bad_more c.args.cluster (HexField ∷ []) ([]) (c.args.value.now ∷ []) ([]) c.in_err-value.field-0.0 (inl (c.in_err-value.ensures.fault c.args.cluster))))
