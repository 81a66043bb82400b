use Rattle.fid_space.proofs.Stripes.{one_stripe, stripe_place}
use Rattle.fid_space.proofs.laws.stripe_fids_are_their_own.Goals as goal

pub returns-clause-one : goal.returns-clause-one
returns-clause-one c = one_stripe

pub returns-clause-place : goal.returns-clause-place
returns-clause-place c = stripe_place
