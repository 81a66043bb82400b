use Rattle.fid_space.proofs.FidTexts.{one_fid}
use Rattle.fid_space.proofs.fid.one_text_per_fid.Goals as goal

pub returns : goal.returns
returns c = one_fid
