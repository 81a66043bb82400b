use Rattle.object_store.proofs.Imaged.{image_takes}
use Rattle.state_image.proofs.StateOnly.{state_only}
use Rattle.state_image.proofs.laws.a_state_was_written_so.Goals as goal

pub returns : goal.returns
returns c =
    let records = c.verdicts_are_of_spelled_records.ensures in
    let places = c.a_payload_stands_at_its_place.ensures in
    state_only
    (λ bytes m used fits e. let is = image_takes bytes m used fits e in (is.fit, is.rest, is.parts, is.length_is))
    c.one_spelling_per_log.ensures.spelled
    (λ log i. (places.both log i).0)
    places.stands
    c.a_record_is_read_back.ensures.alone
    records.done
