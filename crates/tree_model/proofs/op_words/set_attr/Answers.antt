use Rattle.std.proofs.Common.{[], ◌∷◌, inl}
use Rattle.tree_model.specs.OpReading.{FidField, NumberField, u32_field, IsFirstBad}
use Rattle.tree_model.proofs.BadWords.{bad_more, bad_next, err_gives}
use Rattle.tree_model.proofs.op_words.set_attr.Goals as goal

pub returns-in_err-fid-clause-fault : goal.returns-in_err-fid-clause-fault
returns-in_err-fid-clause-fault c =
    err_gives c.from_residual.result c.in_err-fid.field-0.0 (λ d. IsFirstBad c.args.cluster (FidField ∷ NumberField 4095 ∷ u32_field ∷ u32_field ∷ []) (c.args.fid.now ∷ c.args.mode.now ∷ c.args.uid.now ∷ c.args.gid.now ∷ []) d) c.from_residual.ensures.1
    (bad_more c.args.cluster (FidField ∷ []) (NumberField 4095 ∷ u32_field ∷ u32_field ∷ []) (c.args.fid.now ∷ []) (c.args.mode.now ∷ c.args.uid.now ∷ c.args.gid.now ∷ []) c.in_err-fid.field-0.0 (inl (c.in_err-fid.ensures.fault)))

pub returns-in_err-mode-clause-fault : goal.returns-in_err-mode-clause-fault
returns-in_err-mode-clause-fault c =
    err_gives c.from_residual-in_err-mode.result c.in_err-mode.field-0.0 (λ d. IsFirstBad c.args.cluster (FidField ∷ NumberField 4095 ∷ u32_field ∷ u32_field ∷ []) (c.args.fid.now ∷ c.args.mode.now ∷ c.args.uid.now ∷ c.args.gid.now ∷ []) d) c.from_residual-in_err-mode.ensures.1
    (bad_next c.args.cluster (FidField ∷ []) (NumberField 4095 ∷ u32_field ∷ u32_field ∷ []) (c.args.fid.now ∷ []) (c.args.mode.now ∷ c.args.uid.now ∷ c.args.gid.now ∷ []) c.in_err-mode.field-0.0 (c.in_ok-fid.ensures.good, tt) (bad_more c.args.cluster (NumberField 4095 ∷ []) (u32_field ∷ u32_field ∷ []) (c.args.mode.now ∷ []) (c.args.uid.now ∷ c.args.gid.now ∷ []) c.in_err-mode.field-0.0 (inl (c.in_err-mode.ensures.fault c.args.cluster))))

pub returns-in_err-uid-clause-fault : goal.returns-in_err-uid-clause-fault
returns-in_err-uid-clause-fault c =
    err_gives c.from_residual-in_err-uid.result c.in_err-uid.field-0.0 (λ d. IsFirstBad c.args.cluster (FidField ∷ NumberField 4095 ∷ u32_field ∷ u32_field ∷ []) (c.args.fid.now ∷ c.args.mode.now ∷ c.args.uid.now ∷ c.args.gid.now ∷ []) d) c.from_residual-in_err-uid.ensures.1
    (bad_next c.args.cluster (FidField ∷ NumberField 4095 ∷ []) (u32_field ∷ u32_field ∷ []) (c.args.fid.now ∷ c.args.mode.now ∷ []) (c.args.uid.now ∷ c.args.gid.now ∷ []) c.in_err-uid.field-0.0 (c.in_ok-fid.ensures.good, (c.in_ok-mode.ensures.good c.args.cluster, tt)) (bad_more c.args.cluster (u32_field ∷ []) (u32_field ∷ []) (c.args.uid.now ∷ []) (c.args.gid.now ∷ []) c.in_err-uid.field-0.0 (inl (c.in_err-uid.ensures.fault c.args.cluster))))

pub returns-in_err-gid-clause-fault : goal.returns-in_err-gid-clause-fault
returns-in_err-gid-clause-fault c =
    err_gives c.from_residual-in_err-gid.result c.in_err-gid.field-0.0 (λ d. IsFirstBad c.args.cluster (FidField ∷ NumberField 4095 ∷ u32_field ∷ u32_field ∷ []) (c.args.fid.now ∷ c.args.mode.now ∷ c.args.uid.now ∷ c.args.gid.now ∷ []) d) c.from_residual-in_err-gid.ensures.1
    (bad_next c.args.cluster (FidField ∷ NumberField 4095 ∷ u32_field ∷ []) (u32_field ∷ []) (c.args.fid.now ∷ c.args.mode.now ∷ c.args.uid.now ∷ []) (c.args.gid.now ∷ []) c.in_err-gid.field-0.0 (c.in_ok-fid.ensures.good, (c.in_ok-mode.ensures.good c.args.cluster, (c.in_ok-uid.ensures.good c.args.cluster, tt))) (bad_more c.args.cluster (u32_field ∷ []) ([]) (c.args.gid.now ∷ []) ([]) c.in_err-gid.field-0.0 (inl (c.in_err-gid.ensures.fault c.args.cluster))))
