use Rattle.std.proofs.Common.{◌∙◌, ◌<◌, List, ℕ, All, sym, ap, subst}
use Rattle.std.proofs.lemmas.List.Elements.{All-from_recursion}
use Rattle.fid_space.specs.Targets.{is_member}
use Rattle.out_update.specs.declared.update.Update.{Update}
use Rattle.update_record.specs.Spelling.{targets_from}
use Rattle.update_record.proofs.PartLaws.{targets_low, members_are}
use Rattle.update_record.proofs.operation.Record.targets.Goals as goal

pub targets_of-requires : goal.targets_of-requires
targets_of-requires c =
    let r = c.args.self.now in
    subst (λ (ps : List (ℕ × List Update)). All (λ part. part.0 < 16) ps) (sym c.items.ensures) (All-from_recursion (λ (part : ℕ × List Update). part.0 < 16) r.parts (targets_low r.id.batch 0 r.parts c.requires.each))

pub returns-clause-members : goal.returns-clause-members
returns-clause-members c = λ t. ap (λ (set : ℕ). is_member set t) (c.targets_of.ensures ∙ ap (λ (ps : List (ℕ × List Update)). targets_from 0 ps) c.items.ensures) ∙ members_are t c.args.self.now.parts
