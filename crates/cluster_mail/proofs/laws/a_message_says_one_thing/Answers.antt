use Rattle.cluster_mail.proofs.OneThing.{one_thing}
use Rattle.cluster_mail.proofs.laws.a_message_says_one_thing.Goals as goal

pub returns : goal.returns
returns c = one_thing c.one_text_per_operation.ensures.one c.one_spelling_per_request.ensures.one_value c.one_spelling_per_facts.ensures.one_value c.one_spelling_per_record.ensures.one_value
