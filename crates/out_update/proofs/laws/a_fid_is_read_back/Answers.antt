use Rattle.out_update.proofs.RequestValues.{fid_back}
use Rattle.out_update.proofs.laws.a_fid_is_read_back.Goals as goal

pub returns : goal.returns
returns c = fid_back
