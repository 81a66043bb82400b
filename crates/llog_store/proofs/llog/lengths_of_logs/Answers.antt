use Rattle.llog_store.proofs.Room.{next_small, index_left, grows, repacked_short}
use Rattle.llog_store.proofs.llog.lengths_of_logs.Goals as goal

pub returns-clause-next_small : goal.returns-clause-next_small
returns-clause-next_small c = next_small

pub returns-clause-index_left : goal.returns-clause-index_left
returns-clause-index_left c = index_left

pub returns-clause-grows : goal.returns-clause-grows
returns-clause-grows c = grows

pub returns-clause-packs : goal.returns-clause-packs
returns-clause-packs c = repacked_short
