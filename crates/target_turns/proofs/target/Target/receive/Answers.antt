use Rattle.target_turns.proofs.Silent.{down_silent, none_added}
use Rattle.target_turns.proofs.target.Target.receive.Goals as goal

-- src/turning.rt:93:37
pub returns-in-Some-Down-clause-sent : goal.returns-in-Some-Down-clause-sent
returns-in-Some-Down-clause-sent g c =
    let down = c.in-Some-Down in
    none_added c.turn_away-in-Some-Down.result c.args.mail.now _
    (down_silent g.D.Disk.shown c.self.inside.cluster c.self.inside.index c.self.inside.state down.field-0 down.field-0-0 c.args.self.now down.is down.field-0-is c.self.view_is c.args.k c.args.message.now c.args.content _)
