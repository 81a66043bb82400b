use Rattle.std.proofs.Common.{◌++◌, length}
use Rattle.object_store.specs.Bodies.{body_bytes}
use Rattle.object_store.proofs.ImageBodies.{body_takes, body_again}
use Rattle.object_store.proofs.laws.one_spelling_per_body.Goals as goal

pub returns-clause-again : goal.returns-clause-again
returns-clause-again c = λ b rest fits. body_again (length (body_bytes b ++ rest)) b rest fits.allowed fits.owner.0 fits.owner.1 fits.fid

pub returns-clause-only : goal.returns-clause-only
returns-clause-only c = λ bytes rest b are read.
    let t = body_takes (length bytes) bytes b rest are read in
    (record { allowed = t.1; owner = (t.2, t.3); fid = t.4 }, t.0.parts)
