use Rattle.plan_shares.proofs.Decisions.{parts_rise, homes_take_part, on_its_parts}
use Rattle.plan_shares.proofs.Every.{writers_reply}
use Rattle.plan_shares.proofs.decisions_have_parts.Goals as goal

pub returns : goal.returns
returns c = record { rise = parts_rise; home = homes_take_part; on = on_its_parts; reply = writers_reply }
