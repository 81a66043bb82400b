-- What a commit of a target leaves, by what the store's commit promises.
use Rattle.std.proofs.Common.{◌≡◌, ◌<◌, ◌≤◌, ◌++◌, ℕ, List, Err, length, ap, subst, arith, length-append}
use Rattle.outside.specs.Disk.{Shown, Stays}
use Rattle.outside.specs.Causes.{Rose}
use Rattle.target_disk.specs.Tables.{Saved}
use Rattle.target_disk.specs.Store.{CommitCauses, IsSettled, OpensAsEither, Stands, next}
use Rattle.target_disk.specs.declared.store.CommitFault.{CommitFault}
use Rattle.target_disk.specs.declared.store.CommitFault.TheVariants.{Disk}
use Rattle.dne_cli.specs.Image.{head_bytes}
use Rattle.dne_cli.specs.Kept.{Committed, Torn}
use Rattle.dne_cli.proofs.Images.{length-head}

pub has_bytes : (count : ℕ) (bytes image : List ℕ) → image ≡ head_bytes count ++ bytes → 0 < length image
has_bytes count bytes image is =
    let size : length image ≡ length (head_bytes count ++ bytes) = ap length is in
    omega (arith, size, length-append (head_bytes count) bytes, length-head count)

pub has_risen : (T : Type 0) (before now size : ℕ) (fault : CommitFault) → fault ≡ Disk → CommitCauses {T = T} before now size (Err fault) → Rose before now
has_risen T before now size fault is causes = (subst (λ (e : CommitFault). CommitCauses {T = T} before now size (Err e)) is causes).1

pub is_committed : (image bytes : List ℕ) (old new : Shown) → image ≡ bytes → Stays old new → old.faults ≤ new.faults → ((disk : Shown) (s : Saved) → IsSettled disk s → Stands disk s) → ((s : Saved) → Stands old s → IsSettled new (next s image)) → Committed bytes old new
is_committed image bytes old new is stays later stands done = record {
  touches = record { stays = stays; later = later };
  done = λ s settled. subst (λ (b : List ℕ). IsSettled new (next s b)) is (done s (stands old s settled));
}

pub is_torn : (image bytes : List ℕ) (old new : Shown) → image ≡ bytes → Stays old new → old.faults ≤ new.faults → Rose old.faults new.faults → ((disk : Shown) (s : Saved) → IsSettled disk s → Stands disk s) → ((s : Saved) → Stands old s → OpensAsEither new s (next s image)) → Torn bytes old new
is_torn image bytes old new is stays later rose stands either = record {
  faulted = record { touches = record { stays = stays; later = later }; rose = rose };
  either = λ s settled. subst (λ (b : List ℕ). OpensAsEither new s (next s b)) is (either s (stands old s settled));
}
