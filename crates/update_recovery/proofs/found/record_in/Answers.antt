use Rattle.std.proofs.Common.{List, ℕ, ◌++◌, drop, sym, ap, ◌∙◌, take-append-drop}
use Rattle.update_record.specs.Values.{record_value}
use Rattle.update_recovery.proofs.found.record_in.Goals as goal

pub returns-in-Ok-clause-value : goal.returns-in-Ok-clause-value
returns-in-Ok-clause-value c =
    let bytes = c.args.payload.now in
    let end = c.in-Ok.field-0-1 in
    ap (λ (xs : List ℕ). record_value xs) (sym (take-append-drop end bytes) ∙ ap (λ (xs : List ℕ). xs ++ drop end bytes) c.in-Ok.ensures.2.1)
    ∙ c.a_record_is_read_back.ensures.followed c.in-Ok.entry (drop end bytes) c.in-Ok.ensures.2.0
