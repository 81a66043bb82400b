use Rattle.std.proofs.Common.{sym, ◌∙◌, subst}
use Rattle.tree_model.specs.Names.{IsName}
use Rattle.tree_model.proofs.Spellings.{at_some, one_name}
use Rattle.tree_model.proofs.name.Name.parse.Goals as goal

pub returns-clause-bad : goal.returns-clause-bad
returns-clause-bad c = λ refused name h e.
    let read = at_some _ c.in-Ok-Some.field-0 c.in-Ok-Some.bytes c.in-Ok-Some.field-0-is c.in-Ok-Some.ensures.some in
    let same = one_name c.in-Ok-Some.bytes.items name read.0 h.2 (sym read.1 ∙ e) in
    c.new.ensures.bad refused (subst IsName (sym (c.as_slice.ensures.value ∙ same)) h)
