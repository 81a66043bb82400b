use Rattle.std.proofs.Common.{ap, sym, ◌∙◌}
use Rattle.llog_store.specs.Reading.{log_at, log_of}
use Rattle.llog_store.proofs.Whole.{log_takes, log_again}
use Rattle.llog_store.proofs.Keeping.{log_of_text}
use Rattle.llog_store.proofs.Prefix.{no_prefix}
use Rattle.llog_store.proofs.llog.one_spelling_per_log.Goals as goal

pub returns-clause-one_spelling : goal.returns-clause-one_spelling
returns-clause-one_spelling c = λ log a b s t. s.1 ∙ sym t.1

pub returns-clause-one_log : goal.returns-clause-one_log
returns-clause-one_log c = λ a b bytes s t. sym (log_of_text a s.0) ∙ ap log_of (sym s.1 ∙ t.1) ∙ log_of_text b t.0

pub returns-clause-reads : goal.returns-clause-reads
returns-clause-reads c = λ log bytes s. ap log_at s.1 ∙ log_again log s.0

pub returns-clause-spelled : goal.returns-clause-spelled
returns-clause-spelled c = λ log bytes fits e. log_takes bytes log fits e

pub returns-clause-no_prefix : goal.returns-clause-no_prefix
returns-clause-no_prefix c = λ a b text rest s t. no_prefix a b text rest s t
