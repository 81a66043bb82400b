use Rattle.target_disk.proofs.Homes.{homes_torn}
use Rattle.target_disk.proofs.calls.settle_home.Goals as goal

pub returns-in_err-put_settled-clause-homes : goal.returns-in_err-put_settled-clause-homes
returns-in_err-put_settled-clause-homes g c = λ honest.
    homes_torn c.args.table.now c.from_residual.result (g.D.Disk.shown c.args.disk.now) (g.D.Disk.shown c.put_settled.new.disk) c.from_residual.ensures.0 c.requires (c.in_err-put_settled.ensures.puts honest).torn
