-- A law that the disks' impls cite.
use Rattle.std.specs.Prelude.{IsTrue, false}
use Rattle.std.proofs.lemmas.Bool.{false≢true}

pub never_true : IsTrue false → ⊥
never_true h = false≢true h
