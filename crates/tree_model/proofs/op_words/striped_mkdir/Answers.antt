use Rattle.std.proofs.Common.{[], ◌∷◌, inl}
use Rattle.tree_model.specs.OpReading.{FidField, NameField, u32_field, IsFirstBad}
use Rattle.tree_model.proofs.BadWords.{bad_more, bad_next, err_gives}
use Rattle.tree_model.proofs.op_words.striped_mkdir.Goals as goal

pub returns-in_err-parent-clause-fault : goal.returns-in_err-parent-clause-fault
returns-in_err-parent-clause-fault c =
    err_gives c.from_residual.result c.in_err-parent.field-0.0 (λ d. IsFirstBad c.args.cluster (FidField ∷ NameField ∷ FidField ∷ u32_field ∷ u32_field ∷ []) (c.args.parent.now ∷ c.args.name.now ∷ c.args.fid.now ∷ c.args.count.now ∷ c.args.index.now ∷ []) d) c.from_residual.ensures.1
    (bad_more c.args.cluster (FidField ∷ NameField ∷ []) (FidField ∷ u32_field ∷ u32_field ∷ []) (c.args.parent.now ∷ c.args.name.now ∷ []) (c.args.fid.now ∷ c.args.count.now ∷ c.args.index.now ∷ []) c.in_err-parent.field-0.0 (c.in_err-parent.ensures.fault))

pub returns-in_err-fid-clause-fault : goal.returns-in_err-fid-clause-fault
returns-in_err-fid-clause-fault c =
    err_gives c.from_residual-in_err-fid.result c.in_err-fid.field-0.0 (λ d. IsFirstBad c.args.cluster (FidField ∷ NameField ∷ FidField ∷ u32_field ∷ u32_field ∷ []) (c.args.parent.now ∷ c.args.name.now ∷ c.args.fid.now ∷ c.args.count.now ∷ c.args.index.now ∷ []) d) c.from_residual-in_err-fid.ensures.1
    (bad_next c.args.cluster (FidField ∷ NameField ∷ []) (FidField ∷ u32_field ∷ u32_field ∷ []) (c.args.parent.now ∷ c.args.name.now ∷ []) (c.args.fid.now ∷ c.args.count.now ∷ c.args.index.now ∷ []) c.in_err-fid.field-0.0 (c.in_ok-parent.ensures.good.0, (c.in_ok-parent.ensures.good.1, tt)) (bad_more c.args.cluster (FidField ∷ []) (u32_field ∷ u32_field ∷ []) (c.args.fid.now ∷ []) (c.args.count.now ∷ c.args.index.now ∷ []) c.in_err-fid.field-0.0 (inl (c.in_err-fid.ensures.fault))))

pub returns-in_err-count-clause-fault : goal.returns-in_err-count-clause-fault
returns-in_err-count-clause-fault c =
    err_gives c.from_residual-in_err-count.result c.in_err-count.field-0.0 (λ d. IsFirstBad c.args.cluster (FidField ∷ NameField ∷ FidField ∷ u32_field ∷ u32_field ∷ []) (c.args.parent.now ∷ c.args.name.now ∷ c.args.fid.now ∷ c.args.count.now ∷ c.args.index.now ∷ []) d) c.from_residual-in_err-count.ensures.1
    (bad_next c.args.cluster (FidField ∷ NameField ∷ FidField ∷ []) (u32_field ∷ u32_field ∷ []) (c.args.parent.now ∷ c.args.name.now ∷ c.args.fid.now ∷ []) (c.args.count.now ∷ c.args.index.now ∷ []) c.in_err-count.field-0.0 (c.in_ok-parent.ensures.good.0, (c.in_ok-parent.ensures.good.1, (c.in_ok-fid.ensures.good, tt))) (bad_more c.args.cluster (u32_field ∷ []) (u32_field ∷ []) (c.args.count.now ∷ []) (c.args.index.now ∷ []) c.in_err-count.field-0.0 (inl (c.in_err-count.ensures.fault c.args.cluster))))

pub returns-in_err-index-clause-fault : goal.returns-in_err-index-clause-fault
returns-in_err-index-clause-fault c =
    err_gives c.from_residual-in_err-index.result c.in_err-index.field-0.0 (λ d. IsFirstBad c.args.cluster (FidField ∷ NameField ∷ FidField ∷ u32_field ∷ u32_field ∷ []) (c.args.parent.now ∷ c.args.name.now ∷ c.args.fid.now ∷ c.args.count.now ∷ c.args.index.now ∷ []) d) c.from_residual-in_err-index.ensures.1
    (bad_next c.args.cluster (FidField ∷ NameField ∷ FidField ∷ u32_field ∷ []) (u32_field ∷ []) (c.args.parent.now ∷ c.args.name.now ∷ c.args.fid.now ∷ c.args.count.now ∷ []) (c.args.index.now ∷ []) c.in_err-index.field-0.0 (c.in_ok-parent.ensures.good.0, (c.in_ok-parent.ensures.good.1, (c.in_ok-fid.ensures.good, (c.in_ok-count.ensures.good c.args.cluster, tt)))) (bad_more c.args.cluster (u32_field ∷ []) ([]) (c.args.index.now ∷ []) ([]) c.in_err-index.field-0.0 (inl (c.in_err-index.ensures.fault c.args.cluster))))
