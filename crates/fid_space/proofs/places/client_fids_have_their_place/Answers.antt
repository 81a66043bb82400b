use Rattle.fid_space.proofs.PlaceLaws.{client_place, client_named}
use Rattle.fid_space.proofs.places.client_fids_have_their_place.Goals as goal

pub returns-clause-place : goal.returns-clause-place
returns-clause-place c = client_place

pub returns-clause-client : goal.returns-clause-client
returns-clause-client c = client_named
