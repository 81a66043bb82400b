use Rattle.llog_store.proofs.Standing.{stands_there, none_both}
use Rattle.llog_store.proofs.llog.a_payload_stands_at_its_place.Goals as goal

pub returns-clause-stands : goal.returns-clause-stands
returns-clause-stands c = stands_there

pub returns-clause-both : goal.returns-clause-both
returns-clause-both c = λ log index. none_both 32768 index log.entries
