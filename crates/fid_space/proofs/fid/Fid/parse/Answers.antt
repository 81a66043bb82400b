use Rattle.fid_space.proofs.FidLaws.{found_of, only_of}
use Rattle.fid_space.proofs.fid.Fid.parse.Goals as goal

pub returns-clause-found : goal.returns-clause-found
returns-clause-found c = found_of c.fid.result c.args.text.now c.fid.ensures

pub returns-clause-only : goal.returns-clause-only
returns-clause-only c = λ f fits e. only_of c.fid.result c.args.text.now f c.fid.ensures fits e
