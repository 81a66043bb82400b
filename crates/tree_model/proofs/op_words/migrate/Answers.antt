use Rattle.std.proofs.Common.{[], ◌∷◌, inl}
use Rattle.tree_model.specs.OpReading.{FidField, u32_field, IsFirstBad}
use Rattle.tree_model.proofs.BadWords.{bad_more, bad_next, err_gives}
use Rattle.tree_model.proofs.op_words.migrate.Goals as goal

pub returns-in_err-dir-clause-fault : goal.returns-in_err-dir-clause-fault
returns-in_err-dir-clause-fault c =
    err_gives c.from_residual.result c.in_err-dir.field-0.0 (λ d. IsFirstBad c.args.cluster (FidField ∷ u32_field ∷ u32_field ∷ []) (c.args.dir.now ∷ c.args.count.now ∷ c.args.index.now ∷ []) d) c.from_residual.ensures.1
    (bad_more c.args.cluster (FidField ∷ []) (u32_field ∷ u32_field ∷ []) (c.args.dir.now ∷ []) (c.args.count.now ∷ c.args.index.now ∷ []) c.in_err-dir.field-0.0 (inl (c.in_err-dir.ensures.fault)))

pub returns-in_err-count-clause-fault : goal.returns-in_err-count-clause-fault
returns-in_err-count-clause-fault c =
    err_gives c.from_residual-in_err-count.result c.in_err-count.field-0.0 (λ d. IsFirstBad c.args.cluster (FidField ∷ u32_field ∷ u32_field ∷ []) (c.args.dir.now ∷ c.args.count.now ∷ c.args.index.now ∷ []) d) c.from_residual-in_err-count.ensures.1
    (bad_next c.args.cluster (FidField ∷ []) (u32_field ∷ u32_field ∷ []) (c.args.dir.now ∷ []) (c.args.count.now ∷ c.args.index.now ∷ []) c.in_err-count.field-0.0 (c.in_ok-dir.ensures.good, tt) (bad_more c.args.cluster (u32_field ∷ []) (u32_field ∷ []) (c.args.count.now ∷ []) (c.args.index.now ∷ []) c.in_err-count.field-0.0 (inl (c.in_err-count.ensures.fault c.args.cluster))))

pub returns-in_err-index-clause-fault : goal.returns-in_err-index-clause-fault
returns-in_err-index-clause-fault c =
    err_gives c.from_residual-in_err-index.result c.in_err-index.field-0.0 (λ d. IsFirstBad c.args.cluster (FidField ∷ u32_field ∷ u32_field ∷ []) (c.args.dir.now ∷ c.args.count.now ∷ c.args.index.now ∷ []) d) c.from_residual-in_err-index.ensures.1
    (bad_next c.args.cluster (FidField ∷ u32_field ∷ []) (u32_field ∷ []) (c.args.dir.now ∷ c.args.count.now ∷ []) (c.args.index.now ∷ []) c.in_err-index.field-0.0 (c.in_ok-dir.ensures.good, (c.in_ok-count.ensures.good c.args.cluster, tt)) (bad_more c.args.cluster (u32_field ∷ []) ([]) (c.args.index.now ∷ []) ([]) c.in_err-index.field-0.0 (inl (c.in_err-index.ensures.fault c.args.cluster))))
