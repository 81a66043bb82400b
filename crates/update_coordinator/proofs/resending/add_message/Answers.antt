use Rattle.std.proofs.Common.{◌≡◌, ◌++◌, ◌∷◌, [], All, List, sym, subst, rules}
use Rattle.std.proofs.lemmas.List.Elements.{All-push}
use Rattle.update_record.specs.declared.message.Message.{Message}
use Rattle.update_record.specs.Messages.{FitsMessage}
use Rattle.update_coordinator.proofs.resending.add_message.Goals as goal

pub returns-clause-fits : goal.returns-clause-fits
returns-clause-fits c =
    let e : c.push.new.self ≡ c.args.out.now ++ c.args.message ∷ [] = search rules in
    subst (λ (ms : List Message). All FitsMessage ms) (sym e) (All-push FitsMessage c.args.out.now c.args.message c.requires.fits c.requires.message)
