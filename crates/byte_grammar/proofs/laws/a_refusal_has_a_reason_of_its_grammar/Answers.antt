use Rattle.byte_grammar.proofs.Reasons.{named_reason}
use Rattle.byte_grammar.proofs.laws.a_refusal_has_a_reason_of_its_grammar.Goals as goal

pub returns : goal.returns
returns c = named_reason
