-- Calls on a disk, one after another.
use Rattle.std.proofs.Common.{◌∙◌, refl, arith}
use Rattle.outside.specs.Disk.{Shown}
use Rattle.dne_cli.specs.Disks.{Touches}

pub touches_refl : (d : Shown) → Touches d d
touches_refl d = record { stays = record { tells = refl; honest = refl; name = refl }; later = omega arith }

pub touches_trans : (a b c : Shown) → Touches a b → Touches b c → Touches a c
touches_trans a b c t u =
    let low = t.later in
    let high = u.later in
    record {
      stays = record { tells = u.stays.tells ∙ t.stays.tells; honest = u.stays.honest ∙ t.stays.honest; name = u.stays.name ∙ t.stays.name };
      later = omega (arith, low, high);
    }
