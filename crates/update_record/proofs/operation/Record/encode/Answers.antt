use Rattle.std.proofs.Common.{List, ℕ, All, sym, subst, arith}
use Rattle.std.proofs.lemmas.List.Elements.{All-from_recursion}
use Rattle.out_update.specs.declared.update.Update.{Update}
use Rattle.out_update.specs.Spelling.{FitsRequest}
use Rattle.update_record.proofs.Records.{length-record}
use Rattle.update_record.proofs.PartLaws.{requests_fit}
use Rattle.update_record.proofs.operation.Record.encode.Goals as goal

pub put_parts-requires : goal.put_parts-requires
put_parts-requires c =
    let r = c.args.self.now in
    let len = length-record r in
    subst (λ (ps : List (ℕ × List Update)). All (λ part. FitsRequest part.1) ps) (sym c.items.ensures)
    (All-from_recursion (λ (part : ℕ × List Update). FitsRequest part.1) r.parts (requests_fit r.id.batch 0 r.parts c.requires.batch_set c.requires.each (omega (arith, c.requires.size))))
