-- What a part failed with, placed in the whole.
use Rattle.std.proofs.Common.{◌≡◌, ℕ, ◌+◌, Result, Err, ap, ◌∙◌, sym}
use Rattle.object_store.specs.declared.fault.ImageFault.{ImageFault}
use Rattle.object_store.specs.declared.fault.ImageFault.TheVariants as fault
use Rattle.object_store.specs.ImageReading.{◌>>=◌, Fails}
use Rattle.state_image.specs.StateReading.{moved_by, IsMoved}

pub moves : {A : Type 0} (place : ℕ) (e told : ImageFault) (read : Result A ImageFault) → Fails e read → IsMoved place e told → Fails told (moved_by place read)
moves place e fault.Memory read h m = tt
moves {A} place (fault.BadImage p) (fault.BadImage q) read h m =
    let same : fault.BadImage q ≡ fault.BadImage (place + p) = m in
    ap (λ (r : Result A ImageFault). moved_by place r) h ∙ ap (λ (d : ImageFault). Err d) (sym same)
moves place fault.Memory (fault.BadImage q) read h m = absurd cc

-- and whatever follows the part
pub then_moves : {A B : Type 0} (place : ℕ) (e told : ImageFault) (read : Result A ImageFault) (f : A → Result B ImageFault) → Fails e read → IsMoved place e told → Fails told (moved_by place read >>= f)
then_moves {A} {B} place e fault.Memory read f h m = tt
then_moves {A} {B} place (fault.BadImage p) (fault.BadImage q) read f h m =
    let same : moved_by place read ≡ Err (fault.BadImage q) = moves place (fault.BadImage p) (fault.BadImage q) read h m in
    ap (λ (r : Result A ImageFault). r >>= f) same
then_moves {A} {B} place fault.Memory (fault.BadImage q) read f h m = absurd cc
